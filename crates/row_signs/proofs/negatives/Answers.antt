-- The invariant: the count is that of the distances so far, and at most as many, so that it fits 32 bits. Assumes nothing.
use Prim.Native.Nat.{ℕ}
use native.Mathlib.Nat.{zero-add}
use native.Mathlib.Omega.{arith}
use mathlib.Core.Path.{refl, sym, ap, ◌∙◌}
use lib.Ieee.{nan}
use lib.ListN.{get_or}
use Rattle.lists.specs.Lists.{one}
use Rattle.rules.specs.Cell.{negative}
use Rattle.grid.proofs.Places.{as-long, float-at}
use Rattle.row_signs.specs.Signs.{negative_at}
use Rattle.row_signs.proofs.Runs.{none-counted, one_more}
use Rattle.row_signs.proofs.negatives.Goals as goal

pub loop-d-init : goal.loop-d-init
loop-d-init g c = (omega arith, omega arith, none-counted (negative_at (g.D.Distance.floats c.args.points.now) 0))

pub loop-d-preserved : goal.loop-d-preserved
loop-d-preserved g c =
    let are = g.met.D.Distance.floats_are in
    let points = c.args.points.now in
    let floats = g.D.Distance.floats points in
    let w = c.loop-d in
    let d = c.float.ensures ∙ float-at are points c.d-item.result nan (omega (arith, as-long are points, c.loop-d-test.true)) c.d-item.is in
    let more = c.counted-count.ensures.value ∙ ap one (c.negative.ensures ∙ ap negative (d ∙ sym (ap (λ (i : ℕ). get_or floats i nan) (zero-add w.d-index)))) in
    (omega (arith, as-long are points, c.loop-d-test.true), omega arith, one_more (negative_at floats 0) w.d-index w.invariant.2 more refl)
