-- An accepted file is the file that writing its mesh gives, so two different files are never the same mesh. Assumes nothing.
use Prim.Native.Nat.{ℕ, suc, ◌+◌, ◌*◌, ◌^◌, ◌≤◌, ◌<◌}
use native.Mathlib.Nat.{add-zero}
use native.Mathlib.Omega.{arith}
use mathlib.Core.Path.{◌≡◌, refl, sym, ap, ap₂, ◌∙◌}
use mathlib.Core.Bool.{true, ◌&&◌}
use mathlib.Core.List.{List, ◌++◌}
use borrow.Author.Tests.{eqb-true}
use lib.Dec.{T, eqb}
use lib.ListN.{get_or}
use lib.Ieee.{Float, nan, binary32, of_bits, to_bits}
use lib.Ieee.Bits.{to_bits-of_bits}
use Rattle.mesh_file.specs.Record.{word_at, each}
use Rattle.mesh_file.specs.Mesh.{vertex_count, triangle_count, bits_at, vertex_record, triangle_record, closing_record, file_of}
use Rattle.mesh_file.specs.Reading.{Bytes, finite_bits, all_zero, seen, whole, read_of, floats_at, numbers_at, floats_of, indices_of, mesh_in, FiniteFloats}
use Rattle.mesh_record.proofs.OneWord.{finite-is-number}
use Rattle.mesh_record.proofs.Laying.{each-length}
use Rattle.mesh_record.proofs.Told.{both_left, both_right, vertex-told, triangle-told, closing-told}
use Rattle.mesh_file.proofs.History.{whole-records}
use Rattle.mesh_file.proofs.Accepted.{whole_length, positions-finite, normals-finite}
use Rattle.mesh_file.proofs.Parts.{part, word_below, record-of-bytes, each_at, each-of-parts, each_same, each-split}

-- the word of a float that was read from a finite word is that word
bits_back : (w : ℕ) → w < 2 ^ 32 → T (finite_bits w) → to_bits binary32 (of_bits binary32 w) ≡ w
bits_back w h e = to_bits-of_bits binary32 w h (finite-is-number (of_bits binary32 w) e)

zero_of : (a b c d : ℕ) → all_zero a b c d ≡ true → (a ≡ 0) × (b ≡ 0) × (c ≡ 0) × (d ≡ 0)
zero_of a b c d h =
    let h₁ = both_left (eqb a 0 && eqb b 0 && eqb c 0) (eqb d 0) h in
    let h₂ = both_left (eqb a 0 && eqb b 0) (eqb c 0) h₁ in (
      eqb-true a 0 (both_left (eqb a 0) (eqb b 0) h₂),
      eqb-true b 0 (both_right (eqb a 0) (eqb b 0) h₂),
      eqb-true c 0 (both_right (eqb a 0 && eqb b 0) (eqb c 0) h₁),
      eqb-true d 0 (both_right (eqb a 0 && eqb b 0 && eqb c 0) (eqb d 0) h),
    )

module _ (f : List ℕ) (bytes : Bytes f) (v t : ℕ) (e : read_of f ≡ whole v t) where
  -- the bits of the j-th float of a vertex are its word
  read-bits : (first k : ℕ) → FiniteFloats f first v → first + 12 ≤ 32 → k < v
      → (bits_at (floats_of f first v) (3 * k) ≡ word_at f (32 * k + first))
      × (bits_at (floats_of f first v) (3 * k + 1) ≡ word_at f (32 * k + first + 4))
      × (bits_at (floats_of f first v) (3 * k + 2) ≡ word_at f (32 * k + first + 8))
  unfolding floats_of
  read-bits first k ok h l =
      let n = whole_length f v t e in
      let b₀ = word_below f bytes (32 * k + first) (omega arith) in
      let b₁ = word_below f bytes (32 * k + first + 4) (omega arith) in
      let b₂ = word_below f bytes (32 * k + first + 8) (omega arith) in
      let g : ℕ → List Float = λ i. floats_at f (32 * i + first) in
      let at₀ : get_or (each g v) (3 * k) nan ≡ of_bits binary32 (word_at f (32 * k + first)) = ap (λ (x : ℕ). get_or (each g v) x nan) (sym (add-zero (3 * k))) ∙ each_at nan g 3
      (λ i. refl) v k 0 l (omega arith) in
      let at₁ : get_or (each g v) (3 * k + 1) nan ≡ of_bits binary32 (word_at f (32 * k + first + 4)) = each_at nan g 3 (λ i. refl) v k 1 l (omega arith) in
      let at₂ : get_or (each g v) (3 * k + 2) nan ≡ of_bits binary32 (word_at f (32 * k + first + 8)) = each_at nan g 3 (λ i. refl) v k 2 l (omega arith) in (
        ap (to_bits binary32) at₀ ∙ bits_back (word_at f (32 * k + first)) b₀ (ok k l).0,
        ap (to_bits binary32) at₁ ∙ bits_back (word_at f (32 * k + first + 4)) b₁ (ok k l).1,
        ap (to_bits binary32) at₂ ∙ bits_back (word_at f (32 * k + first + 8)) b₂ (ok k l).2,
      )

  vertex-part : (k : ℕ) → k < v → part 32 (32 * k) f ≡ vertex_record (floats_of f 4 v) (floats_of f 16 v) k
  vertex-part k l =
      let g = vertex-told f (32 * k) (seen k 0) ((whole-records f v t e).0.vertices k l) in
      let p = read-bits 4 k (positions-finite f v t e) (omega arith) l in
      let n = read-bits 16 k (normals-finite f v t e) (omega arith) l in
      let q₁ : 32 * k + 4 + 4 ≡ 32 * k + 8 = omega arith in
      let q₂ : 32 * k + 4 + 8 ≡ 32 * k + 12 = omega arith in
      let q₃ : 32 * k + 16 + 4 ≡ 32 * k + 20 = omega arith in
      let q₄ : 32 * k + 16 + 8 ≡ 32 * k + 24 = omega arith in
      let a₁ = sym p.0 in
      let a₂ = sym (p.1 ∙ ap (word_at f) q₁) in
      let a₃ = sym (p.2 ∙ ap (word_at f) q₂) in
      let a₄ = sym n.0 in
      let a₅ = sym (n.1 ∙ ap (word_at f) q₃) in
      let a₆ = sym (n.2 ∙ ap (word_at f) q₄) in
      record-of-bytes f bytes (32 * k) g.room 1 _ _ _ _ _ _ g.kind a₁ a₂ a₃ a₄ a₅ a₆ (rw (← a₁, ← a₂, ← a₃, ← a₄, ← a₅, ← a₆, ← g.kind) g.sum)

  -- the three indices of a triangle are its words
  read-index : (k : ℕ) → k < t
      → (get_or (indices_of f v t) (3 * k) 0 ≡ word_at f (32 * (v + k) + 4))
      × (get_or (indices_of f v t) (3 * k + 1) 0 ≡ word_at f (32 * (v + k) + 4 + 4))
      × (get_or (indices_of f v t) (3 * k + 2) 0 ≡ word_at f (32 * (v + k) + 4 + 8))
  unfolding indices_of
  read-index k l =
      let h : ℕ → List ℕ = λ i. numbers_at f (32 * (v + i) + 4) in (
        ap (λ (x : ℕ). get_or (each h t) x 0) (sym (add-zero (3 * k))) ∙ each_at 0 h 3 (λ i. refl) t k 0 l (omega arith),
        each_at 0 h 3 (λ i. refl) t k 1 l (omega arith),
        each_at 0 h 3 (λ i. refl) t k 2 l (omega arith),
      )

  triangle-part : (k : ℕ) → k < t → part 32 (32 * (v + k)) f ≡ triangle_record (indices_of f v t) k
  triangle-part k l =
      let g = triangle-told f (32 * (v + k)) (seen v k) ((whole-records f v t e).0.triangles k l) in
      let i = read-index k l in
      let q₁ : 32 * (v + k) + 4 + 4 ≡ 32 * (v + k) + 8 = omega arith in
      let q₂ : 32 * (v + k) + 4 + 8 ≡ 32 * (v + k) + 12 = omega arith in
      let a₁ = sym i.0 in
      let a₂ = sym (i.1 ∙ ap (word_at f) q₁) in
      let a₃ = sym (i.2 ∙ ap (word_at f) q₂) in
      let z = zero_of 0 (word_at f (32 * (v + k) + 16)) (word_at f (32 * (v + k) + 20)) (word_at f (32 * (v + k) + 24)) g.zeros in
      record-of-bytes f bytes (32 * (v + k)) g.room 2 _ _ _ 0 0 0 g.kind a₁ a₂ a₃ z.1 z.2 z.3 (g.sum ∙ rw (g.kind, a₁, a₂, a₃, z.1, z.2, z.3) refl)

  closing-part : part 32 (32 * (v + t)) f ≡ closing_record v t
  closing-part =
      let at = 32 * (v + t) in
      let g = closing-told f at (seen v t) (whole-records f v t e).1 in
      let z = zero_of (word_at f (at + 12)) (word_at f (at + 16)) (word_at f (at + 20)) (word_at f (at + 24)) g.zeros in
      let n = g.length in
      record-of-bytes f bytes at (omega arith) 3 v t 0 0 0 0 g.kind g.vertices g.triangles z.0 z.1 z.2 z.3
      (g.sum ∙ rw (g.kind, g.vertices, g.triangles, z.0, z.1, z.2, z.3) refl)

  pub read-vertices : vertex_count (mesh_in f v t) ≡ v
  unfolding mesh_in floats_of
  read-vertices = let n = each-length (λ k. floats_at f (32 * k + 4)) 3 (λ k. refl) v in omega arith

  pub read-triangles : triangle_count (mesh_in f v t) ≡ t
  unfolding mesh_in indices_of
  read-triangles = let n = each-length (λ k. numbers_at f (32 * (v + k) + 4)) 3 (λ k. refl) t in omega arith

  abbrev parts : ℕ → List ℕ
  parts k = part 32 (32 * k) f

  vertices-are : each (vertex_record (floats_of f 4 v) (floats_of f 16 v)) v ≡ each parts v
  vertices-are = each_same (vertex_record (floats_of f 4 v) (floats_of f 16 v)) parts v (λ k l. sym (vertex-part k l))

  triangles-are : each (triangle_record (indices_of f v t)) t ++ closing_record v t ≡ each (λ k. parts (v + k)) (suc t)
  unfolding each
  triangles-are = ap₂ ◌++◌ (each_same (triangle_record (indices_of f v t)) (λ k. parts (v + k)) t (λ k l. sym (triangle-part k l))) (sym closing-part)

  -- "an accepted file is the file that writing its mesh gives"
  pub accepted-is-written : file_of (mesh_in f v t) ≡ f
  unfolding file_of mesh_in
  accepted-is-written =
      let n = whole_length f v t e in
      let all : each parts (v + suc t) ≡ f = each-of-parts f 32 (v + suc t) (omega arith) in
      rw (read-vertices, read-triangles) (ap₂ ◌++◌ vertices-are triangles-are ∙ (sym (each-split parts v (suc t)) ∙ all))

-- two accepted files with the same mesh are the same file
pub same-mesh-same-file : (f g : List ℕ) → Bytes f → Bytes g → (v t v' t' : ℕ) → read_of f ≡ whole v t → read_of g ≡ whole v' t' → mesh_in f v t ≡ mesh_in g v' t' → f ≡ g
same-mesh-same-file f g bf bg v t v' t' ef eg q = sym (accepted-is-written f bf v t ef) ∙ (ap file_of q ∙ accepted-is-written g bg v' t' eg)
