-- The invariant: the indices are what they were with the faces of the first q entries, each put at its place. A turn makes one: four vertices, the first
-- by its number and three looked up, as the caller owes, and their quad is put. Assumes nothing.
use Rattle.std.proofs.Common.{◌≡◌, ◌≤◌}
use Rattle.layer_faces.specs.Quads.{quad_at}
use Rattle.layer_faces.specs.Filing.{along, faces_put}
use Rattle.layer_faces.proofs.put_faces.Given as goal

abbrev pub invariant-loop-q : goal.invariant-loop-q
invariant-loop-q g l = (l.q ≤ l.count)
    × (l.indices ≡ faces_put (λ v. quad_at l.first l.map l.positions l.map_below l.positions_below (g.D.Distance.floats l.lower) l.row l.cells v (along l.fn.axis)) l.who l.rank l.start l.from l.at l.q
    l.initial.indices)
