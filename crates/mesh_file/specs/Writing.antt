-- Document 02, request 2: "The writer gives, in this order, 30 for lists not in threes, normals not as long as positions or a count above
-- 32 bits, 26, 27, 29. A refusal writes nothing, counts 0." Definitions only. Assumes nothing.
use Rattle.std.specs.Prelude.{ℕ, ◌/◌, ◌%◌, ◌^◌, Bool, not, ◌||◌, cond, Result, Ok, Err, List, leb, ltb, eqb, length, Float}
use Rattle.lists.specs.Lists.{some, over}
use Rattle.mesh_file.specs.Mesh.{Mesh, vertex_count, finite, file_of, file_length}
use Rattle.mesh_record.specs.declared.refusal.Refusal.{Refusal}
use Rattle.mesh_record.specs.Refusal.{number_of_refusal}

-- the request's answer, 0 or the number of a refusal, and how many bytes were written
pub record Wrote : Type 0 where
  pub answer : ℕ
  pub bytes : ℕ

-- 30: "lists not in threes, normals not as long as positions or a count above 32 bits", by the lists' lengths
abbrev pub not_threes : ℕ → Bool
not_threes n = not (eqb (n % 3) 0)

abbrev pub bad_lengths : ℕ → ℕ → ℕ → Bool
bad_lengths p n i = not_threes p || not_threes n || not_threes i || not (eqb n p) || leb (2 ^ 32) (p / 3) || leb (2 ^ 32) (i / 3)

abbrev pub bad_lists : Mesh → Bool
bad_lists m = bad_lengths (length m.positions) (length m.normals) (length m.indices)

-- 26: "an index without its vertex"
abbrev pub no_vertex : ℕ → ℕ → Bool
no_vertex v i = leb v i

abbrev pub bad_indices : Mesh → Bool
bad_indices m = some (no_vertex (vertex_count m)) m.indices

-- 27: "a float that is not finite"
abbrev pub not_finite : Float → Bool
not_finite x = not (finite x)

abbrev pub bad_floats : Mesh → Bool
bad_floats m = some not_finite m.positions || some not_finite m.normals

-- the writer's answer, for so much lent room
unfoldable pub write_answer : Mesh → ℕ → ℕ
write_answer m room = cond (bad_lists m) 30 (cond (bad_indices m) 26 (cond (bad_floats m) 27 (cond (ltb room (file_length m)) 29 0)))

abbrev pub wrote : ℕ → ℕ → Wrote
wrote n b = record { answer = n; bytes = b }

-- that answer for the code's result
abbrev pub wrote_result : Result ℕ Refusal → Wrote
wrote_result (Ok n) = wrote 0 n
wrote_result (Err r) = wrote (number_of_refusal r) 0

-- the answer and the number of bytes written
unfoldable pub writing : Mesh → ℕ → Wrote
writing m room = cond (eqb (write_answer m room) 0) (wrote 0 (file_length m)) (wrote (write_answer m room) 0)

-- the lent file afterwards
unfoldable pub written : Mesh → List ℕ → List ℕ
written m f = cond (eqb (write_answer m (length f)) 0) (over (file_of m) f) f
