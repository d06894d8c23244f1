-- `mesh_file::writer::write_triangles` meets its contract. After k turns the first k records are laid over the file. Assumes nothing.
use Rattle.std.proofs.Common.{◌≡◌}
use Rattle.mesh_file.specs.Record.{each, laid}
use Rattle.mesh_file.specs.Mesh.{triangle_record}
use Rattle.mesh_file.proofs.writer.write_triangles.Given as goal

abbrev pub invariant-loop-k : goal.invariant-loop-k
invariant-loop-k l = l.file ≡ laid (each (triangle_record l.indices) l.k) l.at l.initial.file
