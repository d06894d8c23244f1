-- `weigh::triangle::shadow_of` meets its contract: each difference with 512 is at most 1,024, so no product is above 2^20. Assumes nothing.
use Rattle.std.proofs.Common.{◌≡◌, ℕ, ◌+◌, ◌-◌, ◌*◌, ◌≤◌, mul-le-mul, arith}
use Rattle.weigh.proofs.Terms.{shadow-biased}
use Rattle.weigh.proofs.triangle.shadow_of.Goals as goal

-- the four, and their products
module _ (bx by cx cy : ℕ) (BX : bx ≤ 1024) (BY : by ≤ 1024) (CX : cx ≤ 1024) (CY : cy ≤ 1024) where
  against : by * cx ≤ 1024 * 1024
  against = mul-le-mul BY CX

  above : by * cx + 512 * (bx + cy) ≤ bx * cy + 512 * (by + cx) + 2097152
  above = omega (arith, against)

  left : bx * cy + 512 * (by + cx) + 2097152 - by * cx - 512 * (bx + cy) + by * cx + 512 * (bx + cy) ≡ bx * cy + 512 * (by + cx) + 2097152
  left = omega (arith, above)

pub returns-clause-pos_value : goal.returns-clause-pos_value
returns-clause-pos_value c =
    let p = c.after-bx in
    let q = c.after-by in
    let r = c.after-cx in
    let s = c.after-cy in
    shadow-biased c.args.a c.args.b c.args.c p.result q.result r.result s.result
    p.ensures.m_value q.ensures.m_value r.ensures.m_value s.ensures.m_value _
    (left p.result q.result r.result s.result p.ensures.upper_bound q.ensures.upper_bound r.ensures.upper_bound s.ensures.upper_bound)
