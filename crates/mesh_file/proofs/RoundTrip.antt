-- "Read after write returns the same bits": the file of a mesh that the writer accepts reads as that mesh, number for number. Assumes nothing.
use Prim.Native.Nat.{ℕ, ◌+◌, ◌*◌, ◌^◌, ◌≤◌, ◌<◌}
use native.Mathlib.Nat.{le_of_eq}
use native.Mathlib.Omega.{arith}
use mathlib.Core.Path.{◌≡◌, refl, sym, ap, ◌∙◌}
use mathlib.Core.Bool.{true, false}
use mathlib.Core.List.{List, ◌++◌}
use borrow.Author.Tests.{leb-false, lt-ltb}
use lib.ListN.{length, get_or, length-append}
use lib.Seq.{take_all}
use lib.Ieee.{Float, nan, binary32, of_bits}
use lib.Ieee.Bits.{of_bits-to_bits, to_bits-lt, is_true}
use Rattle.lists.specs.Lists.{some}
use Rattle.mesh_file.specs.Record.{word_at, each}
use Rattle.lists.specs.Floats.{Binary32}
use Rattle.mesh_file.specs.Mesh.{Mesh, mesh, vertex_count, triangle_count, finite, AllFinite, bits_at, vertex_record, triangle_record, closing_record, file_of, file_length}
use Rattle.mesh_file.specs.Reading.{finite_bits, three_finite, found_at, seen, whole, read_of, floats_at, numbers_at, floats_of, indices_of, mesh_in}
use Rattle.mesh_file.specs.Writing.{bad_lists, no_vertex, bad_indices, not_finite, bad_floats}
use Rattle.mesh_record.proofs.Laying.{each-length}
use Rattle.mesh_record.proofs.Recording.{record-length}
use Rattle.lists.proofs.Either.{or_left, or_right}
use Rattle.lists.proofs.Searching.{none-at}
use Rattle.mesh_file.proofs.Searching.{all-finite}
use Rattle.mesh_file.proofs.Answering.{Lengths, good-lengths}
use Rattle.mesh_file.proofs.Steps.{vertex-step, triangle-step, closing-step, reads_whole}
use Rattle.mesh_file.proofs.Parts.{part, part_left, part_right, each_part, each-of-parts, each_same, three-at, Holds, holds}

-- a mesh that the writer does not refuse with 30, 26 or 27
pub record Writable (m : Mesh) : Type 0 where
  pub lists : bad_lists m ≡ false
  pub indices : bad_indices m ≡ false
  pub floats : bad_floats m ≡ false
  pub positions-fit : Binary32 m.positions
  pub normals-fit : Binary32 m.normals

-- ---- the parts of a written file

module _ (m : Mesh) where
  abbrev vs : List ℕ
  vs = each (vertex_record m.positions m.normals) (vertex_count m)

  abbrev ts : List ℕ
  ts = each (triangle_record m.indices) (triangle_count m)

  abbrev cs : List ℕ
  cs = closing_record (vertex_count m) (triangle_count m)

  vs-length : length vs ≡ 32 * vertex_count m
  vs-length = each-length (vertex_record m.positions m.normals) 32 (λ k. record-length _ _ _ _ _ _ _) (vertex_count m)

  ts_length : length ts ≡ 32 * triangle_count m
  ts_length = each-length (triangle_record m.indices) 32 (λ k. record-length _ _ _ _ _ _ _) (triangle_count m)

  cs-length : length cs ≡ 32
  cs-length = record-length _ _ _ _ _ _ _

  pub file-length : length (file_of m) ≡ file_length m
  unfolding file_of
  file-length = omega (arith, length-append vs (ts ++ cs), length-append ts cs, vs-length, ts_length, cs-length)

  vertex-part : (k : ℕ) → k < vertex_count m → part 32 (32 * k) (file_of m) ≡ vertex_record m.positions m.normals k
  unfolding file_of
  vertex-part k l =
      let h : 32 * k + 32 ≤ length vs = omega (arith, vs-length) in
      part_left vs (ts ++ cs) 32 (32 * k) h ∙ each_part (vertex_record m.positions m.normals) 32 (λ k. record-length _ _ _ _ _ _ _) (vertex_count m) k l

  triangle-part : (k : ℕ) → k < triangle_count m → part 32 (32 * (vertex_count m + k)) (file_of m) ≡ triangle_record m.indices k
  unfolding file_of
  triangle-part k l =
      let q : 32 * (vertex_count m + k) ≡ length vs + 32 * k = omega (arith, vs-length) in
      let h : 32 * k + 32 ≤ length ts = omega (arith, ts_length) in
      part_right vs (ts ++ cs) 32 (32 * k) (32 * (vertex_count m + k)) q
      ∙ (part_left ts cs 32 (32 * k) h ∙ each_part (triangle_record m.indices) 32 (λ k. record-length _ _ _ _ _ _ _) (triangle_count m) k l)

  closing-part : part 32 (32 * (vertex_count m + triangle_count m)) (file_of m) ≡ cs
  unfolding file_of
  closing-part =
      let q : 32 * (vertex_count m + triangle_count m) ≡ length vs + 32 * triangle_count m = omega (arith, vs-length) in
      let r : 32 * triangle_count m ≡ length ts + 0 = omega (arith, ts_length) in
      part_right vs (ts ++ cs) 32 (32 * triangle_count m) (32 * (vertex_count m + triangle_count m)) q
      ∙ (part_right ts cs 32 0 (32 * triangle_count m) r ∙ take_all 32 cs (le_of_eq cs-length))

-- ---- its words

bits_below : (xs : List Float) → Binary32 xs → (i : ℕ) → i < length xs → bits_at xs i < 2 ^ 32
bits_below xs ok i l = to_bits-lt binary32 (get_or xs i nan) (ok i l)

bits-read : (xs : List Float) → Binary32 xs → (i : ℕ) → i < length xs → of_bits binary32 (bits_at xs i) ≡ get_or xs i nan
bits-read xs ok i l = of_bits-to_bits binary32 (get_or xs i nan) (ok i l)

bits-finite : (xs : List Float) → Binary32 xs → AllFinite xs → (i : ℕ) → i < length xs → finite_bits (bits_at xs i) ≡ true
bits-finite xs ok fin i l = ap finite (bits-read xs ok i l) ∙ is_true (finite (get_or xs i nan)) (fin i l)

module _ (m : Mesh) (w : Writable m) where
  abbrev lengths : Lengths (length m.positions) (length m.normals) (length m.indices)
  lengths = good-lengths (length m.positions) (length m.normals) (length m.indices) w.lists

  positions-finite : AllFinite m.positions
  positions-finite = all-finite m.positions (or_left (some not_finite m.positions) (some not_finite m.normals) w.floats)

  normals-finite : AllFinite m.normals
  normals-finite = all-finite m.normals (or_right (some not_finite m.positions) (some not_finite m.normals) w.floats)

  index_below : (i : ℕ) → i < length m.indices → get_or m.indices i 0 < vertex_count m
  index_below i l = leb-false (vertex_count m) (get_or m.indices i 0) (none-at (no_vertex (vertex_count m)) 0 m.indices w.indices i l)

  -- three floats of a vertex
  module _ (xs : List Float) (ok : Binary32 xs) (fin : AllFinite xs) (k : ℕ) (l : 3 * k + 3 ≤ length xs) where
    in₀ : 3 * k < length xs
    in₀ = omega arith

    in₁ : 3 * k + 1 < length xs
    in₁ = omega arith

    in₂ : 3 * k + 2 < length xs
    in₂ = omega arith

    three-finite : three_finite (bits_at xs (3 * k)) (bits_at xs (3 * k + 1)) (bits_at xs (3 * k + 2)) ≡ true
    three-finite = rw (bits-finite xs ok fin (3 * k) in₀, bits-finite xs ok fin (3 * k + 1) in₁, bits-finite xs ok fin (3 * k + 2) in₂) refl

  vertex-holds : (k : ℕ) → k < vertex_count m
      → Holds (file_of m) (32 * k) 1 (bits_at m.positions (3 * k)) (bits_at m.positions (3 * k + 1)) (bits_at m.positions (3 * k + 2)) (bits_at m.normals (3 * k))
      (bits_at m.normals (3 * k + 1)) (bits_at m.normals (3 * k + 2))
  vertex-holds k l =
      let g = lengths in
      holds (file_of m) (32 * k) 1 _ _ _ _ _ _ (vertex-part m k l) (omega arith)
      (bits_below m.positions w.positions-fit (3 * k) (omega arith)) (bits_below m.positions w.positions-fit (3 * k + 1) (omega arith))
      (bits_below m.positions w.positions-fit (3 * k + 2) (omega arith))
      (bits_below m.normals w.normals-fit (3 * k) (omega (arith, g.same))) (bits_below m.normals w.normals-fit (3 * k + 1) (omega (arith, g.same)))
      (bits_below m.normals w.normals-fit (3 * k + 2) (omega (arith, g.same)))

  triangle-holds : (k : ℕ) → k < triangle_count m → Holds (file_of m) (32 * (vertex_count m + k)) 2 (get_or m.indices (3 * k) 0) (get_or m.indices (3 * k + 1) 0)
      (get_or m.indices (3 * k + 2) 0) 0 0 0
  triangle-holds k l =
      let g = lengths in
      let few = g.few in
      let a = index_below (3 * k) (omega arith) in
      let b = index_below (3 * k + 1) (omega arith) in
      let c = index_below (3 * k + 2) (omega arith) in
      holds (file_of m) (32 * (vertex_count m + k)) 2 _ _ _ 0 0 0 (triangle-part m k l) (omega arith) (omega arith) (omega arith) (omega arith) (omega arith) (omega arith)
      (omega arith)

  closing-holds : Holds (file_of m) (32 * (vertex_count m + triangle_count m)) 3 (vertex_count m) (triangle_count m) 0 0 0 0
  closing-holds =
      let g = lengths in
      holds (file_of m) (32 * (vertex_count m + triangle_count m)) 3 (vertex_count m) (triangle_count m) 0 0 0 0 (closing-part m) (omega arith) g.few g.fewer (omega arith)
      (omega arith) (omega arith) (omega arith)

  -- ---- its records

  vertex-good : (k : ℕ) → k < vertex_count m → (found_at (file_of m) (32 * k) (seen k 0)).kind ≡ 1
  vertex-good k l =
      let g = lengths in
      let s = g.same in
      let n = file-length m in
      let h = vertex-holds k l in
      let a : 3 * k + 3 ≤ length m.positions = omega arith in
      let b : 3 * k + 3 ≤ length m.normals = omega arith in
      vertex-step (file_of m) (32 * k) (seen k 0)
      (record {
        room = omega arith;
        kind = h.w₀;
        sum = h.w₇ ∙ sym (rw (h.w₀, h.w₁, h.w₂, h.w₃, h.w₄, h.w₅, h.w₆) refl);
        first = refl;
        floats =
            rw (h.w₁, h.w₂, h.w₃, h.w₄, h.w₅, h.w₆)
            (rw (three-finite m.positions w.positions-fit positions-finite k a, three-finite m.normals w.normals-fit normals-finite k b) refl);
      })

  triangle-good : (k : ℕ) → k < triangle_count m → (found_at (file_of m) (32 * (vertex_count m + k)) (seen (vertex_count m) k)).kind ≡ 2
  triangle-good k l =
      let n = file-length m in
      let h = triangle-holds k l in
      let a = lt-ltb _ _ (index_below (3 * k) (omega arith)) in
      let b = lt-ltb _ _ (index_below (3 * k + 1) (omega arith)) in
      let c = lt-ltb _ _ (index_below (3 * k + 2) (omega arith)) in
      triangle-step (file_of m) (32 * (vertex_count m + k)) (seen (vertex_count m) k)
      (record {
        room = omega arith;
        kind = h.w₀;
        sum = h.w₇ ∙ sym (rw (h.w₀, h.w₁, h.w₂, h.w₃, h.w₄, h.w₅, h.w₆) refl);
        zeros = rw (h.w₄, h.w₅, h.w₆) refl;
        below = rw (h.w₁, h.w₂, h.w₃) (rw (a, b, c) refl);
      })

  closing-good : (found_at (file_of m) (32 * (vertex_count m + triangle_count m)) (seen (vertex_count m) (triangle_count m))).kind ≡ 3
  closing-good =
      let n = file-length m in
      let h = closing-holds in
      closing-step (file_of m) (32 * (vertex_count m + triangle_count m)) (seen (vertex_count m) (triangle_count m))
      (record {
        length = omega arith;
        kind = h.w₀;
        sum = h.w₇ ∙ sym (rw (h.w₀, h.w₁, h.w₂, h.w₃, h.w₄, h.w₅, h.w₆) refl);
        zeros = rw (h.w₃, h.w₄, h.w₅, h.w₆) refl;
        vertices = h.w₁;
        triangles = h.w₂;
      })

  pub written-reads : read_of (file_of m) ≡ whole (vertex_count m) (triangle_count m)
  written-reads = let n = file-length m in reads_whole (file_of m) (vertex_count m) (triangle_count m) vertex-good triangle-good closing-good (omega arith)

  -- ---- its numbers

  pub positions-length : length m.positions ≡ 3 * vertex_count m
  positions-length = let g = lengths in let h = g.threes in omega arith

  pub normals-length : length m.normals ≡ 3 * vertex_count m
  normals-length = let g = lengths in let h = g.threes in let s = g.same in omega arith

  pub indices-length : length m.indices ≡ 3 * triangle_count m
  indices-length = let g = lengths in let h = g.sixes in omega arith

  three_floats : (xs : List Float) → Binary32 xs → (k : ℕ) → 3 * k + 3 ≤ length xs → (at : ℕ) → word_at (file_of m) at ≡ bits_at xs (3 * k) → word_at (file_of m) (at + 4) ≡ bits_at xs
      (3 * k + 1)
      → word_at (file_of m) (at + 8) ≡ bits_at xs (3 * k + 2) → floats_at (file_of m) at ≡ part 3 (3 * k) xs
  three_floats xs ok k l at a b c =
      rw (a, b, c) (rw (bits-read xs ok (3 * k) (omega arith), bits-read xs ok (3 * k + 1) (omega arith), bits-read xs ok (3 * k + 2) (omega arith))
      (sym (three-at nan xs (3 * k) l)))

  positions-back : floats_of (file_of m) 4 (vertex_count m) ≡ m.positions
  unfolding floats_of
  positions-back =
      each_same (λ k. floats_at (file_of m) (32 * k + 4)) (λ k. part 3 (3 * k) m.positions) (vertex_count m)
      (λ k l.
      let h = vertex-holds k l in
      let n = positions-length in
      let p : 32 * k + 4 + 4 ≡ 32 * k + 8 = omega arith in
      let q : 32 * k + 4 + 8 ≡ 32 * k + 12 = omega arith in
      three_floats m.positions w.positions-fit k (omega arith) (32 * k + 4) h.w₁ (ap (word_at (file_of m)) p ∙ h.w₂) (ap (word_at (file_of m)) q ∙ h.w₃))
      ∙ each-of-parts m.positions 3 (vertex_count m) positions-length

  normals-back : floats_of (file_of m) 16 (vertex_count m) ≡ m.normals
  unfolding floats_of
  normals-back =
      each_same (λ k. floats_at (file_of m) (32 * k + 16)) (λ k. part 3 (3 * k) m.normals) (vertex_count m)
      (λ k l.
      let h = vertex-holds k l in
      let n = normals-length in
      let p : 32 * k + 16 + 4 ≡ 32 * k + 20 = omega arith in
      let q : 32 * k + 16 + 8 ≡ 32 * k + 24 = omega arith in
      three_floats m.normals w.normals-fit k (omega arith) (32 * k + 16) h.w₄ (ap (word_at (file_of m)) p ∙ h.w₅) (ap (word_at (file_of m)) q ∙ h.w₆))
      ∙ each-of-parts m.normals 3 (vertex_count m) normals-length

  indices-back : indices_of (file_of m) (vertex_count m) (triangle_count m) ≡ m.indices
  unfolding indices_of
  indices-back =
      each_same (λ k. numbers_at (file_of m) (32 * (vertex_count m + k) + 4)) (λ k. part 3 (3 * k) m.indices) (triangle_count m)
      (λ k l.
      let h = triangle-holds k l in
      let n = indices-length in
      let p : 32 * (vertex_count m + k) + 4 + 4 ≡ 32 * (vertex_count m + k) + 8 = omega arith in
      let q : 32 * (vertex_count m + k) + 4 + 8 ≡ 32 * (vertex_count m + k) + 12 = omega arith in
      rw (p, q) (rw (h.w₁, h.w₂, h.w₃) (sym (three-at 0 m.indices (3 * k) (omega arith)))))
      ∙ each-of-parts m.indices 3 (triangle_count m) indices-length

  -- "Read after write returns the same bits."
  pub written_same : mesh_in (file_of m) (vertex_count m) (triangle_count m) ≡ m
  unfolding mesh_in
  written_same = λ i. mesh (positions-back i) (normals-back i) (indices-back i)
