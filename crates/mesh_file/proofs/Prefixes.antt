-- "Any shorter beginning of a written file, the empty one too, is refused": of any accepted file each shorter beginning is refused with 21, whatever
-- room is lent. Assumes nothing.
use Prim.Native.Nat.{ℕ, ◌+◌, ◌-◌, ◌*◌, ◌/◌, ◌≤◌, ◌<◌}
use native.Mathlib.Omega.{arith}
use mathlib.Core.Path.{◌≡◌, ap, ◌∙◌}
use mathlib.Core.Logic.{⊎_elim}
use mathlib.Core.List.{List}
use lib.ListN.{length, take, length-take}
use Rattle.lists.proofs.Tests.{less-or-not}
use Rattle.mesh_file.specs.Mesh.{Mesh}
use Rattle.mesh_file.specs.Reading.{found_at, seen, reading, whole, refused, after, read_of, read_answer, reading_in, filled_in}
use Rattle.mesh_record.proofs.Told.{vertex-told, triangle-told}
use Rattle.mesh_file.proofs.History.{whole-records}
use Rattle.mesh_file.proofs.Accepted.{whole_length}
use Rattle.mesh_file.proofs.Steps.{vertex-step, triangle-step, vertex-before, triangle-before, reads-vertices, reads-triangles, reads-cut}

module _ (f : List ℕ) (v t : ℕ) (e : read_of f ≡ whole v t) (n : ℕ) where
  vertex-again : (j : ℕ) → j < v → 32 * j + 32 ≤ n → (found_at (take n f) (32 * j) (seen j 0)).kind ≡ 1
  vertex-again j l h = vertex-step (take n f) (32 * j) (seen j 0)
      (vertex-before f n (32 * j) (seen j 0) h (vertex-told f (32 * j) (seen j 0) ((whole-records f v t e).0.vertices j l)))

  triangle-again : (j : ℕ) → j < t → 32 * (v + j) + 32 ≤ n → (found_at (take n f) (32 * (v + j)) (seen v j)).kind ≡ 2
  triangle-again j l h =
      triangle-step (take n f) (32 * (v + j)) (seen v j)
      (triangle-before f n (32 * (v + j)) (seen v j) h (triangle-told f (32 * (v + j)) (seen v j) ((whole-records f v t e).0.triangles j l)))

  -- k whole records stand before the cut
  in-vertices : (k : ℕ) → k ≤ v → 32 * k ≤ n → after (take n f) k ≡ reading k 0
  in-vertices k h l = reads-vertices (take n f) k (λ j i. vertex-again j (omega arith) (omega arith))

  in-triangles : (k : ℕ) → k ≤ t → 32 * (v + k) ≤ n → after (take n f) (v + k) ≡ reading v k
  in-triangles k h l = reads-triangles (take n f) v k (in-vertices v (omega arith) (omega arith)) (λ j i. triangle-again j (omega arith) (omega arith))

  pub shorter-refused : n < length f → read_of (take n f) ≡ refused 21
  shorter-refused h =
      let l = whole_length f v t e in
      let m : length (take n f) ≡ n = length-take n f ∙ omega arith in
      ⊎_elim
      (λ (a : v < n / 32).
      let q : n / 32 ≡ v + (n / 32 - v) = omega arith in
      reads-cut (take n f) (n / 32) v (n / 32 - v) (ap (after (take n f)) q ∙ in-triangles (n / 32 - v) (omega arith) (omega arith)) (omega arith) (omega arith))
      (λ (a : n / 32 ≤ v). reads-cut (take n f) (n / 32) (n / 32) 0 (in-vertices (n / 32) a (omega arith)) (omega arith) (omega arith))
      (less-or-not v (n / 32))

  -- so reading it answers 21 with counts 0 and writes nothing, whatever room is lent
  pub shorter-answers : n < length f → (s : Mesh) → reading_in (read_of (take n f)) s ≡ read_answer 21 0 0
  shorter-answers h s = ap (λ p. reading_in p s) (shorter-refused h)

  pub shorter-writes-nothing : n < length f → (s : Mesh) → filled_in (take n f) (read_of (take n f)) s ≡ s
  shorter-writes-nothing h s = ap (λ p. filled_in (take n f) p s) (shorter-refused h)
