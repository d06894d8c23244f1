-- The invariant: the flag says whether a row before y has a stray point. Assumes nothing.
use Prim.Native.Nat.{◌+◌}
use Rattle.grid.proofs.Walks.{Turn, turn, end_fits, scan-begun, scan-more, scan-ended, point-spans}
use Rattle.skin.specs.Scan.{stray_layer}
use Rattle.skin.proofs.scan.stray_layer.Given.{Over}
use Rattle.skin.proofs.scan.stray_layer.Goals as goal
use Rattle.skin.proofs.scan.stray_layer.Goals.{In-loop-y}

-- the row of a turn
here : (g : Over) (c : In-loop-y g) → let f = c.args.f in Turn f.low.y (f.high.y + 1) c.loop-y.y
here g c = turn (point-spans c.requires.inside).y c.loop-y.invariant.count c.loop-y-test.true

pub overflow_add-end : goal.overflow_add-end
overflow_add-end g c = end_fits (point-spans c.requires.inside).y

pub loop-y-init : goal.loop-y-init
loop-y-init g c = scan-begun (point-spans c.requires.inside).y

pub loop-y-preserved : goal.loop-y-preserved
loop-y-preserved g c =
    scan-more c.loop-y.invariant (here g (goal.at.loop-y-preserved g c).In-loop-y) c.stray_row.ensures c.either-stray.ensures

pub returns : goal.returns
unfolding stray_layer
returns g c = scan-ended c.loop-y.invariant c.loop-y-test.false
