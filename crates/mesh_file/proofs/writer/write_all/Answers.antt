-- `mesh_file::writer::write_all` meets its contract: the three parts that are written are the file (`file-laid`). Assumes nothing.
use native.Mathlib.Omega.{arith}
use lib.ListN.{length}
use Rattle.lists.specs.Lists.{some}
use Rattle.mesh_file.specs.Mesh.{Mesh, mesh}
use Rattle.mesh_file.specs.Writing.{not_finite}
use Rattle.mesh_file.proofs.Searching.{all-finite}
use Rattle.mesh_file.proofs.Answering.{Lengths, Passed, passed, good-lengths, file-laid}
use Rattle.lists.proofs.Either.{or_left, or_right}
use Rattle.mesh_file.proofs.writer.write_all.Goals as goal
use Rattle.mesh_file.proofs.writer.write_all.Goals.{Start}

-- ---- what an accepted mesh is
abbrev given : Start → Mesh
given c = mesh c.args.positions.now c.args.normals.now c.args.indices.now

good : (c : Start) → Passed (given c) (length c.args.file.now)
good c = passed (given c) (length c.args.file.now) c.requires

lengths : (c : Start) → Lengths (length c.args.positions.now) (length c.args.normals.now) (length c.args.indices.now)
lengths c = good-lengths _ _ _ (good c).lists

-- ---- the needs
pub write_vertices-requires-clause-all_finite_2 : goal.write_vertices-requires-clause-all_finite_2
write_vertices-requires-clause-all_finite_2 c =
    let l = lengths (goal.at.write_vertices-requires-clause-all_finite_2 c).Start in
    let g = good (goal.at.write_vertices-requires-clause-all_finite_2 c).Start in
    let p = c.args.positions.now in
    let n = c.args.normals.now in
    let finite-p = all-finite p (or_left (some not_finite p) (some not_finite n) g.floats) in
    let finite-n = all-finite n (or_right (some not_finite p) (some not_finite n) g.floats) in finite-n

pub write_vertices-requires-clause-all_finite : goal.write_vertices-requires-clause-all_finite
write_vertices-requires-clause-all_finite c =
    let l = lengths (goal.at.write_vertices-requires-clause-all_finite c).Start in
    let g = good (goal.at.write_vertices-requires-clause-all_finite c).Start in
    let p = c.args.positions.now in
    let n = c.args.normals.now in
    let finite-p = all-finite p (or_left (some not_finite p) (some not_finite n) g.floats) in
    let finite-n = all-finite n (or_right (some not_finite p) (some not_finite n) g.floats) in finite-p

pub overflow_mul-v : goal.overflow_mul-v
overflow_mul-v c = let l = lengths (goal.at.overflow_mul-v c).Start in omega arith

pub overflow_mul-v-2 : goal.overflow_mul-v-2
overflow_mul-v-2 c = let l = lengths (goal.at.overflow_mul-v-2 c).Start in omega arith

pub overflow_mul-t : goal.overflow_mul-t
overflow_mul-t c = let l = lengths (goal.at.overflow_mul-t c).Start in omega arith

pub overflow_add-v : goal.overflow_add-v
overflow_add-v c = let l = lengths (goal.at.overflow_add-v c).Start in omega arith

pub overflow_cast-closing : goal.overflow_cast-closing
overflow_cast-closing c = let l = lengths (goal.at.overflow_cast-closing c).Start in omega arith

pub overflow_cast-closing-2 : goal.overflow_cast-closing-2
overflow_cast-closing-2 c = let l = lengths (goal.at.overflow_cast-closing-2 c).Start in omega arith

pub write_record-requires : goal.write_record-requires
write_record-requires c = let g = good (goal.at.write_record-requires c).Start in omega (arith, g.roomy)

pub returns : goal.returns
returns c =
    file-laid (given (goal.at.returns c).Start) c.args.file.now _ _ _ c.write_vertices.ensures c.write_triangles.ensures c.write_record.ensures

pub write_vertices-requires-clause-n_in_bounds_2 : goal.write_vertices-requires-clause-n_in_bounds_2
write_vertices-requires-clause-n_in_bounds_2 c = let l = lengths (goal.at.write_vertices-requires-clause-n_in_bounds_2 c).Start in omega arith

pub write_vertices-requires-clause-n_in_bounds_3 : goal.write_vertices-requires-clause-n_in_bounds_3
write_vertices-requires-clause-n_in_bounds_3 c = let g = good (goal.at.write_vertices-requires-clause-n_in_bounds_3 c).Start in omega (arith, g.roomy)

pub write_triangles-requires : goal.write_triangles-requires
write_triangles-requires c = let g = good (goal.at.write_triangles-requires c).Start in omega (arith, g.roomy)
