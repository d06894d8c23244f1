-- A call of the writer, of the reader and of the checker of mesh files, and of the writer of one record, with what came of it, as the public contracts
-- say it: of mesh_file's and mesh_record's functions and of the C ones alike. Definitions only. Assumes nothing.
use Rattle.std.specs.Prelude.{ℕ, ◌+◌, ◌*◌, ◌≤◌, ◌≡◌, List, [], ◌∷◌, length, take}
use Rattle.mesh_file.specs.Mesh.{Mesh, mesh, vertex_count, triangle_count, Held}
use Rattle.mesh_file.specs.Reading.{Bytes, read_of, checked, reading_in, over_mesh, filled_in}
use Rattle.mesh_file.specs.Writing.{writing, written}
use Rattle.mesh_record.specs.Written.{record_answer, record_written}
use Rattle.mesh_file.specs.Reading.{Read}
use Rattle.mesh_file.specs.Writing.{Wrote}

-- the mesh that was passed, the lent file as it was, the answer with its number of bytes, and the lent file afterwards
pub record Writes : Type 0 where
  pub given : Mesh
  pub lent : List ℕ
  pub says : Wrote
  pub left : List ℕ
  pub answered : says ≡ writing given (length lent)
  pub kept : left ≡ written given lent
  pub held : Held given

-- the file, the lent lists as they were, the answer with its counts, and the lent lists afterwards
pub record Reads : Type 0 where
  pub file : List ℕ
  pub lent : Mesh
  pub says : Read
  pub left : Mesh
  pub answered : says ≡ reading_in (read_of file) lent
  pub filled : left ≡ filled_in file (read_of file) lent
  pub bytes : Bytes file

-- the file, and the answer with its counts
pub record Checks : Type 0 where
  pub file : List ℕ
  pub says : Read
  pub answered : says ≡ checked (read_of file)

-- the seven words of one record, its place, the lent bytes as they were, the answer, and the lent bytes afterwards
pub record Puts : Type 0 where
  pub words : List ℕ
  pub seven : length words ≡ 7
  pub at : ℕ
  pub lent : List ℕ
  pub says : ℕ
  pub left : List ℕ
  pub answered : says ≡ record_answer at lent
  pub kept : left ≡ record_written words at lent

abbrev pub words_put : Puts → List ℕ
words_put p = p.words

-- into 32 bytes of its own
pub record Apart (p : Puts) : Type 0 where
  pub start : p.at ≡ 0
  pub whole : length p.lent ≡ 32

-- calls one after the other in one file, from a place on: each is lent what the one before left, a record further on. The file as it was, and as it is
-- left in the end
unfoldable pub InARow : {A : Type 0} → (A → Puts) → List A → ℕ → List ℕ → List ℕ → Type 0
InARow of [] at f g = g ≡ f
InARow of (u ∷ us) at f g = ((of u).at ≡ at) × (((of u).lent ≡ f) × InARow of us (at + 32) (of u).left g)

-- the mesh that a read left: the first 3, 3 and 3 numbers for each vertex and triangle counted
abbrev pub mesh_read : Reads → Mesh
mesh_read r = mesh (take (3 * r.says.vertices) r.left.positions) (take (3 * r.says.vertices) r.left.normals) (take (3 * r.says.triangles) r.left.indices)

-- lists with room for so many vertices and triangles
pub record Room (v t : ℕ) (s : Mesh) : Type 0 where
  pub positions : 3 * v ≤ length s.positions
  pub normals : 3 * v ≤ length s.normals
  pub indices : 3 * t ≤ length s.indices

-- "Read after write returns the same bits": the answer 0, the mesh's counts, and its lists, number for number, with the rest of the lent ones kept
pub record ReadBack (m : Mesh) (r : Reads) : Type 0 where
  pub done : r.says.answer ≡ 0
  pub vertices : r.says.vertices ≡ vertex_count m
  pub triangles : r.says.triangles ≡ triangle_count m
  pub same : mesh_read r ≡ m
  pub lists : r.left ≡ over_mesh m r.lent

-- "Any shorter beginning of a written file, the empty one too, is refused": 21, counts 0, and the lent lists are as they were
pub record RefusedCut (r : Reads) : Type 0 where
  pub answer : r.says.answer ≡ 21
  pub vertices : r.says.vertices ≡ 0
  pub triangles : r.says.triangles ≡ 0
  pub untouched : r.left ≡ r.lent
