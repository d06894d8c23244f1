-- Document 02, request 2: a mesh, and its file, byte by byte: "All vertices, then all triangles, then one closing record." Definitions only.
-- Assumes nothing.
use Rattle.std.specs.Prelude.{ℕ, ◌+◌, ◌*◌, ◌/◌, ◌<◌, List, [], ◌∷◌, ◌++◌, T, length, get_or, Float}
use Rattle.std.specs.Float.{nan, binary32}
use Rattle.std.specs.Float.Ieee.{to_bits}
use Rattle.lists.specs.Floats.{Binary32}
use Rattle.mesh_file.specs.Record.{record_of, each}
unfoldable pub use Rattle.mesh_record.specs.Faults.{finite}

-- flat lists, three numbers for each vertex and for each triangle
pub record Mesh : Type 0 where
  pub positions : List Float
  pub normals : List Float
  pub indices : List ℕ

abbrev pub mesh : List Float → List Float → List ℕ → Mesh
mesh p n i = record { positions = p; normals = n; indices = i }

abbrev pub vertex_count : Mesh → ℕ
vertex_count m = length m.positions / 3

abbrev pub triangle_count : Mesh → ℕ
triangle_count m = length m.indices / 3

-- every float of a list is finite
abbrev pub AllFinite : List Float → Type 0
AllFinite xs = (i : ℕ) → i < length xs → T (finite (get_or xs i nan))

-- the floats of a mesh are binary32 values. It is true of every list of f32, and the contracts hand it on
abbrev pub Held : Mesh → Type 0
Held m = Binary32 m.positions × Binary32 m.normals

-- the word of the float at a place of a list
abbrev pub bits_at : List Float → ℕ → ℕ
bits_at xs i = to_bits binary32 (get_or xs i nan)

-- "Vertex: 1, position, normal.": the seven words, and the record with their sum
abbrev pub vertex_seven : List Float → List Float → ℕ → List ℕ
vertex_seven p n i = 1 ∷ bits_at p i ∷ bits_at p (i + 1) ∷ bits_at p (i + 2) ∷ bits_at n i ∷ bits_at n (i + 1) ∷ bits_at n (i + 2) ∷ []

abbrev pub vertex_words : List Float → List Float → ℕ → List ℕ
vertex_words p n i = record_of (vertex_seven p n i)

abbrev pub vertex_record : List Float → List Float → ℕ → List ℕ
vertex_record p n k = vertex_words p n (3 * k)

-- "Triangle: 2, three indices, three zeros."
abbrev pub triangle_seven : List ℕ → ℕ → List ℕ
triangle_seven i k = 2 ∷ get_or i (3 * k) 0 ∷ get_or i (3 * k + 1) 0 ∷ get_or i (3 * k + 2) 0 ∷ 0 ∷ 0 ∷ 0 ∷ []

abbrev pub triangle_record : List ℕ → ℕ → List ℕ
triangle_record i k = record_of (triangle_seven i k)

-- "Closing: 3, vertex count, triangle count, four zeros."
abbrev pub closing_seven : ℕ → ℕ → List ℕ
closing_seven v t = 3 ∷ v ∷ t ∷ 0 ∷ 0 ∷ 0 ∷ 0 ∷ []

abbrev pub closing_record : ℕ → ℕ → List ℕ
closing_record v t = record_of (closing_seven v t)

-- "All vertices, then all triangles, then one closing record."
unfoldable pub file_of : Mesh → List ℕ
file_of m =
    each (vertex_record m.positions m.normals) (vertex_count m)
    ++ (each (triangle_record m.indices) (triangle_count m)
    ++ closing_record (vertex_count m) (triangle_count m))

abbrev pub file_length : Mesh → ℕ
file_length m = 32 * (vertex_count m + triangle_count m + 1)

-- the seven words of each record of that file, in its order
unfoldable pub mesh_words : Mesh → List (List ℕ)
mesh_words m =
    each (λ k. vertex_seven m.positions m.normals (3 * k) ∷ []) (vertex_count m)
    ++ (each (λ k. triangle_seven m.indices k ∷ []) (triangle_count m)
    ++ (closing_seven (vertex_count m) (triangle_count m) ∷ []))
