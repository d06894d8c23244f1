-- The invariant: the edges that give a face, of the j vertices so far, are filed by their axes. A turn stores three, each of which counts on if it gives
-- one. Assumes nothing.
use Rattle.std.proofs.Common.{ℕ, ◌*◌, ◌≤◌}
use Rattle.rules.specs.Faces.{gives}
use Rattle.grid.specs.Block.{box_of, flags_of}
use Rattle.grid.specs.Layers.{two_layers}
use Rattle.layer_faces.specs.Quads.{edge_at}
use Rattle.layer_faces.proofs.Filing.{Filing}
use Rattle.layer_faces.proofs.Numbers.{Few}
use Rattle.layer_faces.proofs.list_edges.Given as goal

abbrev pub invariant-loop-j : goal.invariant-loop-j
invariant-loop-j g l = let g = two_layers (g.D.Distance.floats l.lower) (g.D.Distance.floats l.upper) l.k l.z in
    (l.j ≤ l.n) × (Filing (λ (e : ℕ). gives g (box_of l.k) (flags_of l.k) (edge_at l.cells l.z l.from e)) (3 * l.j) l.who l.rank l.x l.y l.along_z l.all × Few l.j l.x l.y l.along_z)
