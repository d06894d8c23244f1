-- The cells that were found are lent for their vertices, and the two halves make the whole. Assumes nothing.
use Rattle.grid.specs.Block.{box_of}
use Rattle.grid.specs.Layers.{two_layers}
use Rattle.layer_vertices.specs.Marked.{lists}
use Rattle.layer_vertices.specs.Cells.{finds}
use Rattle.layer_vertices.proofs.Finding.{part-found, marked-found}
use Rattle.layer_vertices.proofs.mark_layer.Goals as goal

pub estimate_part-requires-clause-cells_value : goal.estimate_part-requires-clause-cells_value
estimate_part-requires-clause-cells_value g c =
    let a = c.args in
    let g = two_layers (g.D.Distance.floats a.lower.now) (g.D.Distance.floats a.upper.now) a.k a.z in
    let e = c.find_layer-count.ensures in
    (part-found g (box_of a.k) a.z a.next (finds a.cells.now a.strides.now a.map.now) e.map_value e.value c.requires.room.cells).1

pub returns-clause-map_value : goal.returns-clause-map_value
returns-clause-map_value g c =
    let a = c.args in
    let g = two_layers (g.D.Distance.floats a.lower.now) (g.D.Distance.floats a.upper.now) a.k a.z in
    let v = c.estimate_part.ensures in
    marked-found g (box_of a.k) a.z a.next (lists a.positions.now a.normals.now a.cells.now a.strides.now a.crossings.now a.map.now) c.find_layer-count.ensures.map_value v.positions_after v.normals_after v.crossings_after
