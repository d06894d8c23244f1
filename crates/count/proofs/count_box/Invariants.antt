-- The invariant: the flag says whether a layer of points up to z has a distance beyond the cap, and the counts are those of the cells before the layer z.
-- Assumes nothing.
use Rattle.rules.specs.Call.{bad_layer}
use Rattle.grid.specs.Block.{box_of, field_of}
use Rattle.grid.specs.Order.{box_to}
use Rattle.grid.proofs.Walks.{Ahead}
use Rattle.count.proofs.Tallies.{Counts}
use Rattle.count.proofs.count_box.Given as goal

abbrev pub invariant-loop-z : goal.invariant-loop-z
invariant-loop-z g l = let field = field_of (g.D.Distance.floats l.sdf) l.k in
    Ahead (bad_layer field (box_of l.k)) l.from l.end l.z l.bad × Counts field l.k (box_to (box_of l.k) l.z) l.vertices l.indices
