-- The invariant: what is deepest of the first distances. Assumes nothing.
use native.Mathlib.Omega.{arith}
use mathlib.Core.Path.{◌∙◌}
use lib.Ieee.{nan}
use Rattle.grid.proofs.Places.{as-long, float-at}
use Rattle.closing.proofs.Walls.{deepest-none, deepest-more}
use Rattle.closing.proofs.wall.deepest.Goals as goal

pub loop-d-init : goal.loop-d-init
loop-d-init g c = (omega arith, deepest-none c.args.so_far (g.D.Distance.floats c.args.sdf.now))

pub loop-d-preserved : goal.loop-d-preserved
loop-d-preserved g c =
    let are = g.met.D.Distance.floats_are in
    let l = c.args.sdf.now in
    let d = c.float.ensures ∙ float-at are l c.d-item.result nan (omega (arith, as-long are l, c.loop-d-test.true)) c.d-item.is in
    (omega (arith, c.loop-d-test.true), deepest-more c.args.so_far (g.D.Distance.floats l) c.loop-d.d-index (omega (arith, as-long are l, c.loop-d-test.true)) c.loop-d.invariant.1 d c.deeper-found.ensures)
