-- The invariant: the flag says whether a row before y has a distance beyond the cap. Assumes nothing.
use Prim.Native.Nat.{◌-◌}
use Rattle.grid.proofs.Runs.{bad_row}
use Rattle.grid.proofs.Walks.{Scanned}
use Rattle.grid.proofs.scan.bad_layer.Given as goal

abbrev pub invariant-loop-y : goal.invariant-loop-y
invariant-loop-y g l = Scanned (bad_row (g.D.Distance.floats l.sdf) l.k l.z) l.from l.end l.y l.bad

abbrev pub decreases-loop-y : goal.decreases-loop-y
decreases-loop-y g l = l.end - l.y
