-- The invariant: the flag says whether a layer before z has a distance beyond the cap. Assumes nothing.
use Prim.Native.Nat.{◌+◌}
use mathlib.Core.List.{List}
use mathlib.Core.Path.{refl, ◌∙◌}
use lib.Ieee.{Float}
use Rattle.grid.proofs.Runs.{box-is}
use Rattle.grid.proofs.Walks.{Turn, turn, end_fits, scan-begun, scan-more, scan-ended, point-spans}
use Rattle.grid.proofs.scan.bad_distance.Given.{Over}
use Rattle.grid.proofs.scan.bad_distance.Goals as goal
use Rattle.grid.proofs.scan.bad_distance.Goals.{In-loop-z, Start}

-- the layer of a turn
here : (g : Over) (c : In-loop-z g) → let k = c.args.k in Turn k.low.z (k.high.z + 1) c.loop-z.z
here g c = turn (point-spans c.requires).z c.loop-z.invariant.count c.loop-z-test.true

abbrev grid-of : (g : Over) → Start g → List Float
grid-of g c = let a = c.args in g.D.Distance.floats a.sdf.now

pub overflow_add-end : goal.overflow_add-end
overflow_add-end g c = end_fits (point-spans c.requires).z

pub loop-z-init : goal.loop-z-init
loop-z-init g c = scan-begun (point-spans c.requires).z

pub loop-z-preserved : goal.loop-z-preserved
loop-z-preserved g c =
    scan-more c.loop-z.invariant (here g (goal.at.loop-z-preserved g c).In-loop-z) c.bad_layer-bad.ensures refl

pub returns : goal.returns
returns g c =
    scan-ended c.loop-z.invariant c.loop-z-test.false ∙ box-is (grid-of g (goal.at.returns g c).Start) c.args.k
