-- The invariant: the flag says whether one of the distances before this one is beyond the cap. Assumes nothing.
use native.Mathlib.Omega.{arith}
use Prim.Native.Nat.{◌<◌}
use mathlib.Core.Path.{refl, ap, ◌∙◌}
use lib.Ieee.{nan}
use lib.ListN.{length}
use lib.Seq.{take_all}
use Rattle.lists.specs.Lists.{some}
use Rattle.rules.specs.Call.{beyond}
use Rattle.grid.proofs.Places.{as-long, float-at}
use Rattle.grid.proofs.Runs.{asked-none, asked-more}
use Rattle.grid.proofs.scan.bad_row.Goals as goal

pub loop-d-init : goal.loop-d-init
loop-d-init g c = (omega arith, asked-none (g.D.Distance.floats c.args.row.now))

pub loop-d-preserved : goal.loop-d-preserved
loop-d-preserved g c =
    let are = g.met.D.Distance.floats_are in
    let row = c.args.row.now in
    let w = c.loop-d in
    let within : w.d-index < length (g.D.Distance.floats row) = omega (arith, as-long are row, c.loop-d-test.true) in
    let d = c.is_beyond-bad.ensures ∙ ap beyond (float-at are row _ nan within c.d-item.is) in
    (omega (arith, c.loop-d-test.true), asked-more (g.D.Distance.floats row) w.d-index within w.invariant.1 d refl)

pub returns : goal.returns
returns g c =
    let are = g.met.D.Distance.floats_are in
    let row = c.args.row.now in
    let w = c.loop-d in
    w.invariant.1 ∙ ap (some beyond) (take_all w.d-index (g.D.Distance.floats row) (omega (arith, as-long are row, c.loop-d-test.false)))
