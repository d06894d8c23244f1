-- The invariant: the indices are the faces of the vertices before `done`, batch after batch; after the last, those of the layer. Assumes nothing.
use Rattle.grid.specs.Block.{box_of, flags_of}
use Rattle.grid.specs.Layers.{two_layers}
use Rattle.layer_faces.proofs.Lookups.{kept_of}
use Rattle.layer_faces.proofs.Vertices.{Faced}
use Rattle.layer_faces.proofs.face_layer.Given as goal

abbrev pub invariant-loop-done : goal.invariant-loop-done
invariant-loop-done g l = let g = two_layers (g.D.Distance.floats l.lower) (g.D.Distance.floats l.upper) l.k l.z in
    Faced g (box_of l.k) (flags_of l.k) l.first.here l.z (kept_of l.first l.map_below l.positions_below) l.initial.indices l.at l.done l.used l.indices
