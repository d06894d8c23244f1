-- `mesh_file::writer::write_vertices` meets its contract. After k turns the first k records are laid over the file.
-- Assumes nothing.
use Rattle.mesh_file.proofs.Filling.{vertices-next}
use borrow.Author.Rules.{rules}
use mathlib.Core.Path.{refl}
use Rattle.mesh_record.proofs.Laying.{loop-none}
use Rattle.mesh_file.specs.Mesh.{vertex_record}
use Rattle.mesh_file.proofs.writer.write_vertices.Goals as goal

pub loop-k-init : goal.loop-k-init
loop-k-init c = (search rules, refl, loop-none (vertex_record c.args.positions.now c.args.normals.now) 0 _)

pub loop-k-preserved : goal.loop-k-preserved
loop-k-preserved c =
    let a = c.args in
    let l = c.loop-k in
    (search rules, search rules, vertices-next a.positions.now a.normals.now l.k a.file.now l.file _ l.invariant.2 c.write_vertex.ensures)
