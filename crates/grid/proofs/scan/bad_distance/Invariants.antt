-- The invariant: the flag says whether a layer before z has a distance beyond the cap. Assumes nothing.
use Prim.Native.Nat.{◌-◌}
use Rattle.rules.specs.Call.{bad_layer}
use Rattle.grid.specs.Block.{box_of, field_of}
use Rattle.grid.proofs.Walks.{Scanned}
use Rattle.grid.proofs.scan.bad_distance.Given as goal

abbrev pub invariant-loop-z : goal.invariant-loop-z
invariant-loop-z g l = Scanned (bad_layer (field_of (g.D.Distance.floats l.sdf) l.k) (box_of l.k)) l.from l.end l.z l.bad

abbrev pub decreases-loop-z : goal.decreases-loop-z
decreases-loop-z g l = l.end - l.z
