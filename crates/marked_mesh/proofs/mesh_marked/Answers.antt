-- The parts are lent, and what the mesher says of them is said of the lists. Assumes nothing.
use lib.Ieee.{of_int, of_bits}
use Rattle.grid.specs.Block.{call_of}
use Rattle.marked_mesh.specs.Marked.{answered, left}
use Rattle.marked_mesh.proofs.Parts.{lent-list, settled}
use Rattle.marked_mesh.proofs.mesh_marked.Goals as goal

pub returns : goal.returns
unfolding answered left of_int of_bits
returns c =
    let a = c.args in
    let e = c.surface_nets-answer.ensures in
    let r =
    settled (call_of a.sdf.now a.k) a.asked
    (lent-list c.marked-positions.ensures c.lent-a.ensures.value)
    (lent-list c.marked-normals.ensures c.lent-b.ensures.value)
    (lent-list c.marked-cells.ensures c.lent-c.ensures.value)
    (lent-list c.marked-strides.ensures c.lent-d.ensures.value)
    (lent-list c.marked-crossings.ensures c.lent-e.ensures.value)
    (lent-list c.marked-map.ensures c.lent-f.ensures.value)
    (lent-list c.marked-indices.ensures c.lent-g.ensures.value)
    e.result_value e.indices_value
    in record { answer_value = r.0; lists_value = r.1 }
