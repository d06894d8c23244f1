-- Document 02, request 2: the reader goes "record by record and the first fault answers, in one record the lowest number". Definitions only.
-- Assumes nothing.
use Rattle.std.specs.Prelude.{ℕ, zero, suc, ◌+◌, ◌*◌, ◌/◌, ◌<◌, Bool, ◌||◌, cond, Result, Ok, Err, List, [], ◌∷◌, T, ltb, eqb, length, get_or, Float}
use Rattle.std.specs.Float.{binary32}
use Rattle.std.specs.Float.Ieee.{of_bits}
use Rattle.lists.specs.Lists.{over}
unfoldable pub use Rattle.mesh_record.specs.Faults.{bad_sum, bad_kind, bad_zero, bad_counts, bad_index, bad_float, bad_end, fault_of, found_at}
pub use Rattle.mesh_record.specs.Faults.{words_at, cut, all_zero, finite_bits, three_finite, Found, good, faulty, numbers_of, found_of, seen}
use Rattle.mesh_file.specs.Record.{word_at, each}
use Rattle.mesh_file.specs.Mesh.{Mesh, mesh}
use Rattle.mesh_record.specs.declared.Counts.{Counts}
use Rattle.mesh_record.specs.declared.refusal.Refusal.{Refusal}
use Rattle.mesh_record.specs.Refusal.{number_of_refusal}

-- every byte is below 256. It is true of every list of u8, and the contracts hand it on
abbrev pub Bytes : List ℕ → Type 0
Bytes f = (i : ℕ) → i < length f → get_or f i 0 < 256

-- ---- the whole file

-- how far reading has come: so many vertices and triangles so far, the whole mesh, or a fault
pub data Progress : Type 0 where
  reading : ℕ → ℕ → Progress
  whole : ℕ → ℕ → Progress
  refused : ℕ → Progress

-- what a record adds: a vertex, a triangle, the end, or its fault
abbrev pub counted : Found → ℕ → ℕ → Progress
counted x v t =
    cond (eqb x.kind 1) (reading (suc v) t)
    (cond (eqb x.kind 2) (reading v (suc t))
    (cond (eqb x.kind 3) (whole v t) (refused x.fault)))

abbrev pub further : List ℕ → ℕ → Progress → Progress
further f k (reading v t) = counted (found_at f (32 * k) (seen v t)) v t
further f k (whole v t) = whole v t
further f k (refused n) = refused n

-- after the first k records
unfoldable pub after : List ℕ → ℕ → Progress
after f zero = reading 0 0
after f (suc k) = further f k (after f k)

-- "It goes record by record and the first fault answers": a file has no more records than this, and one past them is cut
unfoldable pub read_of : List ℕ → Progress
read_of f = after f (suc (length f / 32))

-- ---- the reader's answer, and the lent lists afterwards

-- the request's answer, 0 or the number of a refusal, with the vertices and triangles: counts 0 on a refusal
pub record Read : Type 0 where
  pub answer : ℕ
  pub vertices : ℕ
  pub triangles : ℕ

abbrev pub read_answer : ℕ → ℕ → ℕ → Read
read_answer n v t = record { answer = n; vertices = v; triangles = t }

-- that answer for the code's result
abbrev pub read_result : Result Counts Refusal → Read
read_result (Ok c) = read_answer 0 c.vertices c.triangles
read_result (Err r) = read_answer (number_of_refusal r) 0 0

abbrev pub checked : Progress → Read
checked (reading v t) = read_answer 21 0 0
checked (whole v t) = read_answer 0 v t
checked (refused n) = read_answer n 0 0

-- "last of all, 29 lent room too short", by the lists' lengths
abbrev pub short_lists : ℕ → ℕ → ℕ → ℕ → ℕ → Bool
short_lists v t p n i = ltb p (3 * v) || (ltb n (3 * v) || ltb i (3 * t))

abbrev pub short_room : ℕ → ℕ → Mesh → Bool
short_room v t s = short_lists v t (length s.positions) (length s.normals) (length s.indices)

abbrev pub reading_with : Progress → ℕ → ℕ → ℕ → Read
reading_with (reading v t) p n i = read_answer 21 0 0
reading_with (whole v t) p n i = cond (short_lists v t p n i) (read_answer 29 0 0) (read_answer 0 v t)
reading_with (refused a) p n i = read_answer a 0 0

abbrev pub reading_in : Progress → Mesh → Read
reading_in x s = reading_with x (length s.positions) (length s.normals) (length s.indices)

-- what three words are, from a place on, and that something holds of each
abbrev pub three_at : {A : Type 0} → (ℕ → A) → List ℕ → ℕ → List A
three_at of f at = of (word_at f at) ∷ of (word_at f (at + 4)) ∷ of (word_at f (at + 8)) ∷ []

abbrev pub ThreeHold : (ℕ → Type 0) → List ℕ → ℕ → Type 0
ThreeHold P f at = P (word_at f at) × P (word_at f (at + 4)) × P (word_at f (at + 8))

-- three floats, and three numbers, from a place on
abbrev pub floats_at : List ℕ → ℕ → List Float
floats_at f at = of_bits binary32 (word_at f at) ∷ of_bits binary32 (word_at f (at + 4)) ∷ of_bits binary32 (word_at f (at + 8)) ∷ []

abbrev pub numbers_at : List ℕ → ℕ → List ℕ
numbers_at f at = word_at f at ∷ word_at f (at + 4) ∷ word_at f (at + 8) ∷ []

-- the three floats at a place of each of the first v records are finite
abbrev pub FiniteFloats : List ℕ → ℕ → ℕ → Type 0
FiniteFloats f first v = (k : ℕ) → k < v → T (finite_bits (word_at f (32 * k + first))) × T (finite_bits (word_at f (32 * k + first + 4))) × T
    (finite_bits (word_at f (32 * k + first + 8)))

-- the floats at a place of each of the first v records, and the indices of the t records after them
unfoldable pub floats_of : List ℕ → ℕ → ℕ → List Float
floats_of f first v = each (λ k. floats_at f (32 * k + first)) v

unfoldable pub indices_of : List ℕ → ℕ → ℕ → List ℕ
indices_of f v t = each (λ k. numbers_at f (32 * (v + k) + 4)) t

-- the mesh of a file with so many vertices and triangles
unfoldable pub mesh_in : List ℕ → ℕ → ℕ → Mesh
mesh_in f v t = mesh (floats_of f 4 v) (floats_of f 16 v) (indices_of f v t)

abbrev pub over_mesh : Mesh → Mesh → Mesh
over_mesh new old = mesh (over new.positions old.positions) (over new.normals old.normals) (over new.indices old.indices)

-- "A refusal writes nothing": the lent lists afterwards
abbrev pub filled_in : List ℕ → Progress → Mesh → Mesh
filled_in f (reading v t) s = s
filled_in f (whole v t) s = cond (short_room v t s) s (over_mesh (mesh_in f v t) s)
filled_in f (refused n) s = s
