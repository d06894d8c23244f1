-- The mesh of an accepted file is one that the writer accepts, so writing it gives the same file again. Assumes nothing.
use Prim.Native.Nat.{ℕ, ◌+◌, ◌*◌, ◌^◌, ◌≤◌, ◌<◌}
use native.Mathlib.Nat.{add-zero}
use native.Mathlib.Omega.{arith}
use mathlib.Core.Path.{◌≡◌, refl, sym, ap, ◌∙◌, subst}
use mathlib.Core.Bool.{not, ◌&&◌}
use mathlib.Core.List.{List}
use borrow.Author.Tests.{lt-leb, ltb-true}
use lib.Dec.{T, ltb}
use lib.ListN.{length, get_or, take}
use lib.Ieee.{Float, nan, binary32, fits}
use lib.Ieee.Bits.{of_bits-fits, is_true}
use Rattle.lists.specs.Lists.{some}
use Rattle.lists.proofs.Lists.{by-threes}
use Rattle.mesh_file.specs.Record.{word_at, each}
use Rattle.mesh_file.specs.Mesh.{vertex_count, finite, file_length}
use Rattle.mesh_file.specs.Reading.{Bytes, FiniteFloats, seen, whole, read_of, floats_at, numbers_at, floats_of, indices_of, mesh_in}
use Rattle.mesh_file.specs.Writing.{no_vertex, not_finite, write_answer, written}
use Rattle.mesh_record.proofs.Laying.{each-length}
use Rattle.lists.proofs.Either.{or-none}
use Rattle.mesh_file.proofs.Answering.{lengths-good}
use Rattle.lists.proofs.Searching.{none-some}
use Rattle.mesh_record.proofs.Told.{both_left, both_right, triangle-told, closing-told}
use Rattle.mesh_file.proofs.History.{whole-records}
use Rattle.mesh_file.proofs.Accepted.{positions-finite, normals-finite}
use Rattle.mesh_file.proofs.Parts.{word_below, each_at}
use Rattle.mesh_file.proofs.OneFile.{read-vertices, accepted-is-written}
use Rattle.mesh_file.proofs.RoundTrip.{Writable}
use Rattle.mesh_file.proofs.Settled.{room-writes, bytes-written}

-- ---- a flat list, triple by triple

module _ {A : Type 0} (z : A) (P : A → Type 0) (g : ℕ → List A) (e : (k : ℕ) → length (g k) ≡ 3) (n : ℕ)
    (each-good : (k : ℕ) → k < n → P (get_or (g k) 0 z) × P (get_or (g k) 1 z) × P (get_or (g k) 2 z)) where
  pub all-good : (i : ℕ) → i < length (each g n) → P (get_or (each g n) i z)
  all-good i h = by-threes (λ (j : ℕ). P (get_or (each g n) j z)) n at i (omega (arith, each-length g 3 e n))
    where
      at : (k : ℕ) → k < n → P (get_or (each g n) (3 * k) z) × P (get_or (each g n) (3 * k + 1) z) × P (get_or (each g n) (3 * k + 2) z)
      at k l =
          let p = each-good k l in (
            subst (λ (j : ℕ). P (get_or (each g n) j z)) (add-zero (3 * k)) (subst P (sym (each_at z g 3 e n k 0 l (omega arith))) p.0),
            subst P (sym (each_at z g 3 e n k 1 l (omega arith))) p.1,
            subst P (sym (each_at z g 3 e n k 2 l (omega arith))) p.2,
          )

-- ---- what the writer asks

abbrev Held : Float → Type 0
Held x = T (finite x) × T (fits binary32 x)

module _ (f : List ℕ) (bytes : Bytes f) (v t : ℕ) (e : read_of f ≡ whole v t) where
  held : (first : ℕ) → FiniteFloats f first v → (i : ℕ) → i < length (floats_of f first v) → Held (get_or (floats_of f first v) i nan)
  unfolding floats_of
  held first ok =
      all-good nan Held (λ k. floats_at f (32 * k + first)) (λ k. refl) v
      (λ k l. (
        ((ok k l).0, of_bits-fits binary32 (word_at f (32 * k + first))),
        ((ok k l).1, of_bits-fits binary32 (word_at f (32 * k + first + 4))),
        ((ok k l).2, of_bits-fits binary32 (word_at f (32 * k + first + 8))),
      ))

  index-held : (i : ℕ) → i < length (indices_of f v t) → get_or (indices_of f v t) i 0 < v
  unfolding indices_of
  index-held =
      all-good 0 (λ x. x < v) (λ k. numbers_at f (32 * (v + k) + 4)) (λ k. refl) t
      (λ k l.
      let at = 32 * (v + k) in
      let g = (triangle-told f at (seen v k) ((whole-records f v t e).0.triangles k l)).below in
      let q₁ : at + 8 ≡ at + 4 + 4 = omega arith in
      let q₂ : at + 12 ≡ at + 4 + 8 = omega arith in
      let a = ltb (word_at f (at + 4)) v in
      let b = ltb (word_at f (at + 8)) v in
      let c = ltb (word_at f (at + 12)) v in (
        ltb-true (word_at f (at + 4)) v (both_left a b (both_left (a && b) c g)),
        subst (λ (x : ℕ). word_at f x < v) q₁ (ltb-true (word_at f (at + 8)) v (both_right a b (both_left (a && b) c g))),
        subst (λ (x : ℕ). word_at f x < v) q₂ (ltb-true (word_at f (at + 12)) v (both_right (a && b) c g)),
      ))

  floats-length : (first : ℕ) → length (floats_of f first v) ≡ 3 * v
  unfolding floats_of
  floats-length first = each-length (λ k. floats_at f (32 * k + first)) 3 (λ k. refl) v

  indices-length : length (indices_of f v t) ≡ 3 * t
  unfolding indices_of
  indices-length = each-length (λ k. numbers_at f (32 * (v + k) + 4)) 3 (λ k. refl) t

  counts-below : (v < 2 ^ 32) × (t < 2 ^ 32)
  counts-below =
      let at = 32 * (v + t) in
      let g = closing-told f at (seen v t) (whole-records f v t e).1 in
      let n = g.length in (
        subst (λ (x : ℕ). x < 2 ^ 32) g.vertices (word_below f bytes (at + 4) (omega arith)),
        subst (λ (x : ℕ). x < 2 ^ 32) g.triangles
            (word_below f bytes (at + 8) (omega arith)),
      )

module _ (f : List ℕ) (bytes : Bytes f) (v t : ℕ) (e : read_of f ≡ whole v t) where
  pub accepted-writable : Writable (mesh_in f v t)
  unfolding mesh_in
  accepted-writable =
      let p = held f bytes v t e 4 (positions-finite f v t e) in
      let n = held f bytes v t e 16 (normals-finite f v t e) in
      let c = counts-below f bytes v t e in
      record {
        lists = lengths-good (length (floats_of f 4 v)) (length (floats_of f 16 v)) (length (indices_of f v t))
            (omega (arith, c, floats-length f bytes v t e 4, floats-length f bytes v t e 16, indices-length f bytes v t e));
        indices = none-some (no_vertex (vertex_count (mesh_in f v t))) 0 (indices_of f v t)
            (λ i l. lt-leb (vertex_count (mesh_in f v t)) (get_or (indices_of f v t) i 0)
            (subst (λ (x : ℕ). get_or (indices_of f v t) i 0 < x) (sym (read-vertices f bytes v t e)) (index-held f bytes v t e i l)));
        floats =
            or-none (some not_finite (floats_of f 4 v)) (some not_finite (floats_of f 16 v))
            (none-some not_finite nan (floats_of f 4 v) (λ i l. ap not (is_true (finite (get_or (floats_of f 4 v) i nan)) (p i l).0)))
            (none-some not_finite nan (floats_of f 16 v) (λ i l. ap not (is_true (finite (get_or (floats_of f 16 v) i nan)) (n i l).0)));
        positions-fit = λ i l. (p i l).1;
        normals-fit = λ i l. (n i l).1;
      }

  -- so writing the mesh of an accepted file into room enough gives that file again, byte for byte
  pub rewritten : (g : List ℕ) → file_length (mesh_in f v t) ≤ length g → write_answer (mesh_in f v t) (length g) ≡ 0
  rewritten g h = room-writes (mesh_in f v t) accepted-writable (length g) h

  pub rewritten-same : (g : List ℕ) → file_length (mesh_in f v t) ≤ length g → take (file_length (mesh_in f v t)) (written (mesh_in f v t) g) ≡ f
  rewritten-same g h = bytes-written (mesh_in f v t) g (rewritten g h) ∙ accepted-is-written f bytes v t e
