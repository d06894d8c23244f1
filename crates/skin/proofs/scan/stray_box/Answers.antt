-- The invariant: the flag says whether a layer before z has a stray point. Assumes nothing.
use Prim.Native.Nat.{◌+◌}
use Rattle.grid.proofs.Walks.{Turn, turn, end_fits, scan-begun, scan-more, scan-ended, point-spans}
use Rattle.skin.specs.Scan.{stray_box}
use Rattle.skin.proofs.scan.stray_box.Given.{Over}
use Rattle.skin.proofs.scan.stray_box.Goals as goal
use Rattle.skin.proofs.scan.stray_box.Goals.{In-loop-z}

-- the layer of a turn
here : (g : Over) (c : In-loop-z g) → let k = c.args.k in Turn k.low.z (k.high.z + 1) c.loop-z.z
here g c = turn (point-spans c.requires).z c.loop-z.invariant.count c.loop-z-test.true

pub overflow_add-end : goal.overflow_add-end
overflow_add-end g c = end_fits (point-spans c.requires).z

pub loop-z-init : goal.loop-z-init
loop-z-init g c = scan-begun (point-spans c.requires).z

pub loop-z-preserved : goal.loop-z-preserved
loop-z-preserved g c =
    scan-more c.loop-z.invariant (here g (goal.at.loop-z-preserved g c).In-loop-z) c.stray_layer.ensures c.either-stray.ensures

pub returns : goal.returns
unfolding stray_box
returns g c = scan-ended c.loop-z.invariant c.loop-z-test.false
