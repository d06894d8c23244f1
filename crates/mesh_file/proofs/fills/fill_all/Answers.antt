-- `mesh_file::fills::fill_all` meets its contract: a whole file has its length and finite floats, and the three fills lay its lists. Assumes nothing.
use Rattle.std.proofs.Common.{◌≡◌, ◌+◌, ◌*◌, List, ℕ, length, ap, ◌∙◌, arith}
use Rattle.mesh_file.specs.Record.{laid}
use Rattle.mesh_file.specs.Mesh.{mesh}
use Rattle.mesh_file.specs.Reading.{floats_of}
use Rattle.mesh_file.proofs.Accepted.{whole_length, positions-finite, normals-finite, all-filled}
use Rattle.mesh_file.proofs.Filling.{indices-after}
use Rattle.mesh_file.proofs.fills.fill_all.Goals as goal
use Rattle.mesh_file.proofs.fills.fill_all.Goals.{Start}

-- the file's length
long : (c : Start) → length c.args.file.now ≡ 32 * (c.args.counts.vertices + c.args.counts.triangles) + 32
long c = whole_length c.args.file.now c.args.counts.vertices c.args.counts.triangles c.requires.file_value

-- ---- the needs
pub fill-requires-clause-in_file : goal.fill-requires-clause-in_file
fill-requires-clause-in_file c = let l = long (goal.at.fill-requires-clause-in_file c).Start in omega arith

pub fill-requires-clause-stored : goal.fill-requires-clause-stored
fill-requires-clause-stored c = positions-finite c.args.file.now c.args.counts.vertices c.args.counts.triangles c.requires.file_value

pub fill-requires-2-clause-in_file : goal.fill-requires-2-clause-in_file
fill-requires-2-clause-in_file c = let l = long (goal.at.fill-requires-2-clause-in_file c).Start in omega arith

pub fill-requires-2-clause-stored : goal.fill-requires-2-clause-stored
fill-requires-2-clause-stored c = normals-finite c.args.file.now c.args.counts.vertices c.args.counts.triangles c.requires.file_value

pub overflow_mul-counts : goal.overflow_mul-counts
overflow_mul-counts c = let l = long (goal.at.overflow_mul-counts c).Start in omega arith

pub overflow_add-counts : goal.overflow_add-counts
overflow_add-counts c = let l = long (goal.at.overflow_add-counts c).Start in omega arith

pub fill-requires-3-clause-in_file : goal.fill-requires-3-clause-in_file
fill-requires-3-clause-in_file c = let l = long (goal.at.fill-requires-3-clause-in_file c).Start in omega arith

pub fill-requires-3-clause-stored : goal.fill-requires-3-clause-stored
fill-requires-3-clause-stored c = λ k l. (tt, tt, tt)

pub returns : goal.returns
unfolding floats_of
returns c =
    let a = c.args in
    let n = a.counts in
    all-filled a.file.now n.vertices n.triangles (mesh a.positions.now a.normals.now a.indices.now) _ _ _ c.fill.ensures c.fill-2.ensures
    (c.fill-3.ensures ∙ ap (λ (xs : List ℕ). laid xs 0 a.indices.now) (indices-after a.file.now n.vertices n.triangles))
