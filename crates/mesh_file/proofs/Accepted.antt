-- An accepted file: its length, its finite floats, and what the reader fills. Assumes nothing.
use Prim.Native.Nat.{ℕ, ◌+◌, ◌*◌, ◌<◌}
use native.Mathlib.Omega.{arith}
use mathlib.Core.Path.{◌≡◌, refl, subst}
use mathlib.Core.Bool.{Bool, true, ◌&&◌}
use mathlib.Core.List.{List}
use lib.Dec.{T}
use lib.ListN.{length}
use lib.Ieee.{Float}
use Rattle.lists.proofs.Tests.{is-test}
use Rattle.mesh_file.specs.Record.{word_at, laid}
use Rattle.mesh_file.specs.Mesh.{Mesh, mesh}
use Rattle.mesh_file.specs.Reading.{finite_bits, three_finite, FiniteFloats, seen, whole, read_of, floats_of, indices_of, mesh_in, over_mesh}
use Rattle.mesh_record.proofs.Laying.{over-laid}
use Rattle.mesh_record.proofs.Told.{both_left, both_right, vertex-told, closing-told}
use Rattle.mesh_file.proofs.History.{whole-records}

module _ (f : List ℕ) (v t : ℕ) (e : read_of f ≡ whole v t) where
  pub whole_length : length f ≡ 32 * (v + t) + 32
  whole_length = (closing-told f (32 * (v + t)) (seen v t) (whole-records f v t e).1).length

  six-finite : (k : ℕ) → k < v
      → three_finite (word_at f (32 * k + 4)) (word_at f (32 * k + 8)) (word_at f (32 * k + 12)) && three_finite (word_at f (32 * k + 16)) (word_at f (32 * k + 20))
      (word_at f (32 * k + 24)) ≡ true
  six-finite k l = (vertex-told f (32 * k) (seen k 0) ((whole-records f v t e).0.vertices k l)).floats

three : (a b c : Bool) → a && b && c ≡ true → T a × T b × T c
three a b c h = (is-test a (both_left a b (both_left (a && b) c h)), is-test b (both_right a b (both_left (a && b) c h)), is-test c (both_right (a && b) c h))

at_place : (f : List ℕ) (p q : ℕ) → p ≡ q → T (finite_bits (word_at f p)) → T (finite_bits (word_at f q))
at_place f p q e = subst (λ (x : ℕ). T (finite_bits (word_at f x))) e

placed : (f : List ℕ) (k first b c : ℕ) → k + b ≡ k + first + 4 → k + c ≡ k + first + 8 → three_finite (word_at f (k + first)) (word_at f (k + b)) (word_at f (k + c)) ≡ true
    → T (finite_bits (word_at f (k + first))) × T (finite_bits (word_at f (k + first + 4))) × T (finite_bits (word_at f (k + first + 8)))
placed f k first b c p q h =
    let r = three (finite_bits (word_at f (k + first))) (finite_bits (word_at f (k + b))) (finite_bits (word_at f (k + c))) h in
    (r.0, at_place f (k + b) (k + first + 4) p r.1, at_place f (k + c) (k + first + 8) q r.2)

module _ (f : List ℕ) (v t : ℕ) (e : read_of f ≡ whole v t) where
  pub positions-finite : FiniteFloats f 4 v
  positions-finite k l = placed f (32 * k) 4 8 12 (omega arith) (omega arith) (both_left _ _ (six-finite f v t e k l))

  pub normals-finite : FiniteFloats f 16 v
  normals-finite k l =
      placed f (32 * k) 16 20 24 (omega arith) (omega arith)
      (both_right (three_finite (word_at f (32 * k + 4)) (word_at f (32 * k + 8)) (word_at f (32 * k + 12))) _ (six-finite f v t e k l))

-- ---- the lists

-- what the three fills leave
pub all-filled : (f : List ℕ) (v t : ℕ) (s : Mesh) (p n : List Float) (i : List ℕ) → p ≡ laid (floats_of f 4 v) 0 s.positions
    → n ≡ laid (floats_of f 16 v) 0 s.normals → i ≡ laid (indices_of f v t) 0 s.indices → mesh p n i ≡ over_mesh (mesh_in f v t) s
unfolding mesh_in
all-filled f v t s p n i a b c =
    rw (over-laid (floats_of f 4 v) s.positions, over-laid (floats_of f 16 v) s.normals, over-laid (indices_of f v t) s.indices) (rw (a, b, c) refl)
