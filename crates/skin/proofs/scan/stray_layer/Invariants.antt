-- The invariant: the flag says whether a row before y has a stray point. Assumes nothing.
use Rattle.grid.specs.Block.{box_of, field_of}
use Rattle.grid.proofs.Walks.{Scanned}
use Rattle.skin.specs.Scan.{stray_row}
use Rattle.skin.proofs.scan.stray_layer.Given as goal

abbrev pub invariant-loop-y : goal.invariant-loop-y
invariant-loop-y g l = Scanned (stray_row (field_of (g.D.Distance.floats l.sdf) l.f) (box_of l.f) (box_of l.k) l.place l.z) l.from l.end l.y l.stray
