-- `mesh_file::read_mesh` meets its contract: a refusal leaves the lists; counts say that the file is whole and that there is room (`read_done`), and then
-- the lists are filled. Assumes nothing.
use Rattle.std.proofs.Common.{refl, sym, ◌∙◌}
use Rattle.mesh_file.specs.Reading.{read_answer}
use Rattle.mesh_file.proofs.Settled.{read_done, room-fills}
use Rattle.mesh_file.proofs.read_mesh.Goals as goal

pub fill_all-requires-clause-file_value : goal.fill_all-requires-clause-file_value
fill_all-requires-clause-file_value c =
    let n = c.in_ok-counts.counts in
    (read_done _ _ (read_answer 0 n.vertices n.triangles) c.in_ok-counts.ensures refl).0

pub returns-clause-indices_after : goal.returns-clause-indices_after
returns-clause-indices_after c =
    let n = c.in_ok-counts.counts in
    let d = read_done _ _ (read_answer 0 n.vertices n.triangles) c.in_ok-counts.ensures refl in
    c.fill_all.ensures ∙ sym (room-fills _ _ _ _ d.0 d.1)
