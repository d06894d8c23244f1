-- `weigh::sum::sum_over` meets its contract: the loop keeps what the laws of the loop say. Assumes nothing.
use Rattle.std.proofs.Common.{◌≡◌, ℕ, ◌+◌, ◌*◌, ◌/◌, ◌^◌, ◌<◌, ◌≤◌, length, sym, refl, ap, ◌∙◌, subst, arith}
use Rattle.volume.proofs.Corners.{chunk_read}
use Rattle.volume.specs.declared.Corner.{Corner}
use Rattle.weigh.specs.declared.total.Total.{Total}
use Rattle.weigh.specs.Sums.{corner_from}
use Rattle.weigh.specs.Biased.{Holds}
use Rattle.weigh.proofs.Loop.{Summed, one_further, wide-answer, all-summed}
use Rattle.weigh.proofs.sum.sum_over.Goals as goal

-- what k triangles leave is within what 2^33 do
all_hold : (k : ℕ) (t : Total) → k ≤ 2 ^ 33 → Holds k t → Holds (2 ^ 33) t
all_hold k t h s = record { low = s.low; sum = omega (arith, s.sum); shadow = omega (arith, s.shadow) }

pub returns-then-is_wide : goal.returns-then-is_wide
returns-then-is_wide c =
    let k = c.loop-i.i-index in
    let t = c.loop-i-test.true in
    let is = c.args.indices.now in
    let at : ℕ → Corner = corner_from c.args.positions.now c.args.first in
    let w : k < length is / 3 = omega (arith, c.as_chunks.ensures.front_len) in
    let front = c.as_chunks.ensures.front in
    let p = c.corner_from-a.ensures.value ∙ ap at (chunk_read is k 0 (3 * k) front w (omega arith) (omega arith)) in
    let q = c.corner_from-b.ensures.value ∙ ap at (chunk_read is k 1 (3 * k + 1) front w (omega arith) refl) in
    let r = c.corner_from-c.ensures.value ∙ ap at (chunk_read is k 2 (3 * k + 2) front w (omega arith) refl) in
    wide-answer at is k c.loop-i.total _ _ _ (omega arith) c.loop-i.invariant.1 p q r (sym c.is_wide.ensures ∙ c.if-is_wide.true)

pub loop-i-preserved : goal.loop-i-preserved
loop-i-preserved c =
    let k = c.loop-i.i-index in
    let t = c.loop-i-test.true in
    let is = c.args.indices.now in
    let at : ℕ → Corner = corner_from c.args.positions.now c.args.first in
    let w : k < length is / 3 = omega (arith, c.as_chunks.ensures.front_len) in
    let front = c.as_chunks.ensures.front in
    let p = c.corner_from-a.ensures.value ∙ ap at (chunk_read is k 0 (3 * k) front w (omega arith) (omega arith)) in
    let q = c.corner_from-b.ensures.value ∙ ap at (chunk_read is k 1 (3 * k + 1) front w (omega arith) refl) in
    let r = c.corner_from-c.ensures.value ∙ ap at (chunk_read is k 2 (3 * k + 2) front w (omega arith) refl) in (
      omega arith,
      one_further at is k c.loop-i.total c.with-total.result _ _ _ (omega arith) c.loop-i.invariant.1 p q r
          (sym c.is_wide.ensures ∙ c.if-is_wide.false) c.with-total.ensures,
    )

pub returns : goal.returns
returns c =
    let l = c.loop-i in
    let t = c.loop-i-test.false in
    let is = c.args.indices.now in
    let at : ℕ → Corner = corner_from c.args.positions.now c.args.first in
    let n = c.as_chunks.ensures.front_len in
    let e : l.i-index ≡ length c.as_chunks.result.0.now = omega (arith, l.invariant.0) in
    c.without_bias.ensures
    ∙ all-summed at is (length c.as_chunks.result.0.now) l.total (omega (arith, n, c.requires.indices_len)) (subst (λ (m : ℕ). Summed at is m l.total) e l.invariant.1)
