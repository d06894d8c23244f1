-- `volume::sum::sum_over` meets its contract: what is summed and what is left are together the sum of the whole, and k determinants are at
-- most k·2^46 in magnitude. Assumes nothing.
use Prim.Native.Nat.{ℕ, ◌+◌, ◌*◌, ◌/◌, ◌<◌}
use native.Mathlib.Omega.{arith}
use mathlib.Core.List.{List}
use mathlib.Core.Path.{◌≡◌, refl, sym, ap, ◌∙◌}
use lib.IntN.{ℤ, ◌+ℤ◌, +ℤ_idr, +ℤ_assoc}
use lib.ListN.{length, get_or, drop}
use mir.Syntax.{w64}
use mir.Val.{to_z}
use Rattle.volume.specs.declared.Corner.{Corner}
use Rattle.volume.specs.Volume.{corner_at, determinant, sum_over}
use Rattle.volume.proofs.Corners.{chunk_read}
use Rattle.volume.proofs.Summing.{sum-from, sum_past, next-most, next-read}
use Rattle.volume.proofs.sum.sum_over.Goals as goal

-- one triangle passes from what is left to what is summed
one_more : (at : ℕ → Corner) (l : List ℕ) (k : ℕ) (before after r whole : ℤ) → 3 * k + 2 < length l → before +ℤ sum_over at (drop (3 * k) l) ≡ whole
    → after ≡ before +ℤ r → r ≡ determinant (at (get_or l (3 * k) 0)) (at (get_or l (3 * k + 1) 0)) (at (get_or l (3 * k + 2) 0))
    → after +ℤ sum_over at (drop (3 * (k + 1)) l) ≡ whole
one_more at l k before after r whole h inv a d =
    let n : 3 * (k + 1) ≡ 3 * k + 3 = omega arith in
    let rest : ℤ = sum_over at (drop (3 * k + 3) l) in
    ap (λ (m : ℕ). after +ℤ sum_over at (drop m l)) n
    ∙ ap (λ (z : ℤ). z +ℤ rest) (a ∙ ap (λ (z : ℤ). before +ℤ z) d)
    ∙ +ℤ_assoc before (determinant (at (get_or l (3 * k) 0)) (at (get_or l (3 * k + 1) 0)) (at (get_or l (3 * k + 2) 0))) rest
    ∙ ap (λ (z : ℤ). before +ℤ z) (sym (sum-from at l (3 * k) h))
    ∙ inv

pub loop-a-preserved : goal.loop-a-preserved
loop-a-preserved c =
    let l = c.loop-a in
    let k = l.a-index in
    let is = c.args.indices.now in
    let at : ℕ → Corner = corner_at c.args.positions.now in
    let t = c.loop-a-test.true in
    let few : k < 16384 = omega (arith, c.as_chunks.ensures.front_len) in
    let w : k < length is / 3 = omega (arith, c.as_chunks.ensures.front_len) in
    let front = c.as_chunks.ensures.front in
    let p = chunk_read is k 0 (3 * k) front w (omega arith) (omega arith) in
    let q = chunk_read is k 1 (3 * k + 1) front w (omega arith) refl in
    let r = chunk_read is k 2 (3 * k + 2) front w (omega arith) refl in
    let d = c.triangle-sum.ensures.value ∙ (λ i. determinant (at (p i)) (at (q i)) (at (r i))) in
    let e = next-read l.sum-bits c.triangle-sum.result k l.invariant.2 c.triangle-sum.ensures.result_bound few in (
      omega arith,
      one_more at is k (to_z w64 l.sum-bits) _ _ _ (omega arith) l.invariant.1 e d,
      rw e (next-most l.sum-bits c.triangle-sum.result k l.invariant.2 c.triangle-sum.ensures.result_bound few),
    )

pub returns : goal.returns
returns c =
    let k = c.loop-a.a-index in
    let t = c.loop-a-test.false in
    let z = sum_past (corner_at c.args.positions.now) c.args.indices.now (3 * k) (omega (arith, c.as_chunks.ensures.front_len)) in
    sym (+ℤ_idr _) ∙ ap (λ (y : ℤ). to_z w64 c.loop-a.sum-bits +ℤ y) (sym z) ∙ c.loop-a.invariant.1
