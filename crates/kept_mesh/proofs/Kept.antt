-- What a call of document 01 writes under answer 0 is a mesh that the writer of request 2 accepts, wherever the file has room and there are fewer than
-- 2^32 triangles; and what is read back from that file has the same bits. From the laws of the call and of the file. Assumes nothing.
use Prim.Native.Nat.{ℕ, ◌+◌, ◌*◌, ◌/◌, ◌%◌, ◌^◌, ◌≤◌, ◌<◌}
use native.Mathlib.Omega.{arith}
use mathlib.Core.Bool.{false, not}
use mathlib.Core.List.{List, map}
use mathlib.Core.Path.{◌≡◌, sym, ap, ap₂, subst, ◌∙◌}
use borrow.Author.Tests.{lt-leb}
use lib.Dec.{T}
use lib.Ieee.{Float, nan, inf, fin, binary32, fits}
use lib.Ieee.Bits.{is_true}
use lib.Ieee.Fits.{add-fits}
use lib.Ieee.Scale.{finite}
use lib.ListN.{length, get_or, take}
use lib.Seq.{get_or-take}
use Rattle.lists.specs.Lists.{some}
use Rattle.rules.specs.Grid.{GridPoint}
use Rattle.rules.specs.Cell.{Vector, position, normal}
use Rattle.rules.specs.Vertices.{vertices, vertex_position, vertex_normal}
use Rattle.rules.specs.Faces.{indices}
use Rattle.rules.specs.Call.{flat_vectors}
use Rattle.lists.proofs.Lists.{none, more, all-at, all-each, all_map, all-joined}
use Rattle.rules.proofs.Edges.{index-count}
use Rattle.rules.proofs.Numbers.{index_below}
use Rattle.rules.proofs.Seen.{length-vectors}
use Rattle.mesh_file.specs.Mesh as file
use Rattle.mesh_file.specs.Reading.{whole, read_of, mesh_in}
use Rattle.mesh_file.specs.Writing.{no_vertex, not_finite, write_answer}
use Rattle.mesh_file.specs.Writing as writer
use Rattle.lists.proofs.Either.{or-none}
use Rattle.mesh_file.proofs.Answering.{lengths-good}
use Rattle.lists.proofs.Searching.{none-some}
use Rattle.lists.specs.Floats.{Binary32}
use Rattle.mesh_file.proofs.RoundTrip.{Writable}
use Rattle.mesh_file.proofs.Settled.{room-writes, bytes_counted, read-after-write, same-after-write}
use Rattle.promises.specs.Served.{Served, Done}
use Rattle.promises.proofs.Done.{done-counts, done-few}
use Rattle.promises.proofs.Runs.{Run, served, BedRun, bed_served}
use Rattle.promises.proofs.ClosedMesh.{ClosedMesh, closed-mesh}
use Rattle.promises.proofs.ReadBack.{positions-back, normals-back, indices-back}
use Rattle.kept_mesh.specs.Parts.{mesh_of}

-- ---- three numbers for each vertex

-- a sum is a value of binary32
vectors-fit : (f : GridPoint → Vector) (vs : List GridPoint) → ((c : GridPoint) → T (fits binary32 (f c).x) × T (fits binary32 (f c).y) × T (fits binary32 (f c).z))
    → Binary32 (flat_vectors (map f vs))
vectors-fit f vs h i l =
    all-at (all-joined {P = λ (x : Float). T (fits binary32 x)} (all_map f (all-each (λ c. more (h c).0 (more (h c).1 (more (h c).2 none))) vs))) i l nan

-- the two names of a finite number
finite-file : (x : Float) → T (finite x) → T (file.finite x)
unfolding file.finite
finite-file nan h = absurd h
finite-file (inf s) h = absurd h
finite-file (fin s m e) h = tt

none-infinite : (xs : List Float) → ((i : ℕ) → i < length xs → T (finite (get_or xs i nan))) → some not_finite xs ≡ false
none-infinite xs h = none-some not_finite nan xs (λ i l. ap not (is_true (file.finite (get_or xs i nan)) (finite-file (get_or xs i nan) (h i l))))

-- ---- what a call that is done has written

module _ (u : Served) (done : Done u) where
  abbrev vs : List GridPoint
  vs = vertices u.call.grid u.call.box

  abbrev is : List ℕ
  is = indices u.call.grid u.call.box u.call.flags

  positions-length : length (mesh_of u).positions ≡ 3 * u.says.vertices
  positions-length = omega (arith, ap length (positions-back u done), length-vectors (vertex_position u.call.grid) vs, (done-counts u done).0)

  normals-length : length (mesh_of u).normals ≡ 3 * u.says.vertices
  normals-length = omega (arith, ap length (normals-back u done), length-vectors (vertex_normal u.call.grid) vs, (done-counts u done).0)

  indices-length : length (mesh_of u).indices ≡ u.says.indices
  indices-length = omega (arith, ap length (indices-back u done), (done-counts u done).1)

  pub vertices-kept : file.vertex_count (mesh_of u) ≡ u.says.vertices
  vertices-kept = omega (arith, positions-length)

  pub triangles-kept : file.triangle_count (mesh_of u) ≡ u.says.indices / 3
  triangles-kept = ap (λ (n : ℕ). n / 3) indices-length

  in-threes : length (mesh_of u).indices % 3 ≡ 0
  in-threes = omega (arith, indices-length, (done-counts u done).1, index-count u.call.grid u.call.box u.call.flags)

  index_kept : (i : ℕ) → i < length (mesh_of u).indices → get_or (mesh_of u).indices i 0 < file.vertex_count (mesh_of u)
  index_kept i l =
      let e : length vs ≡ file.vertex_count (mesh_of u) = omega (arith, vertices-kept, (done-counts u done).0) in
      subst (λ (n : ℕ). get_or (mesh_of u).indices i 0 < n) e
      (subst (λ (l : List ℕ). get_or l i 0 < length vs) (sym (indices-back u done))
      (index_below u.call.grid u.call.box u.call.flags i (omega (arith, ap length (indices-back u done)))))

  positions-fit : Binary32 (mesh_of u).positions
  unfolding position
  positions-fit = subst Binary32 (sym (positions-back u done))
      (vectors-fit (vertex_position u.call.grid) vs (λ c. (add-fits binary32 _ _, add-fits binary32 _ _, add-fits binary32 _ _)))

  normals-fit : Binary32 (mesh_of u).normals
  unfolding normal
  normals-fit = subst Binary32 (sym (normals-back u done))
      (vectors-fit (vertex_normal u.call.grid) vs (λ c. (add-fits binary32 _ _, add-fits binary32 _ _, add-fits binary32 _ _)))

-- ---- the law

-- V is at most 2^30 by condition 1. A premise on the triangles stays: a cell gives up to six, so that a grid of 2^30 points of alternating signs has some
-- 6·2^30, which the writer refuses with 30.
module _ (u : Served) (done : Done u) (fewer : u.says.indices / 3 < 2 ^ 32) where
  closed : ClosedMesh u
  closed = closed-mesh u done

  finite-kept : (some not_finite (mesh_of u).positions ≡ false) × (some not_finite (mesh_of u).normals ≡ false)
  finite-kept = (
    none-infinite (mesh_of u).positions
        (λ i l.
        let k : i < 3 * u.says.vertices = omega (arith, positions-length u done) in
        rw (get_or-take (3 * u.says.vertices) u.after.positions i nan k) (closed.finite i k).0),
    none-infinite (mesh_of u).normals
        (λ i l.
        let k : i < 3 * u.says.vertices = omega (arith, normals-length u done) in
        rw (get_or-take (3 * u.says.vertices) u.after.normals i nan k) (closed.finite i k).1),
  )

  -- the writer refuses it neither with 30 nor with 26 nor with 27
  pub kept-writable : Writable (mesh_of u)
  kept-writable =
      record {
        lists =
            lengths-good (length (mesh_of u).positions) (length (mesh_of u).normals) (length (mesh_of u).indices)
            (omega (arith, positions-length u done, normals-length u done, in-threes u done, triangles-kept u done, done-few u done));
        indices = none-some (no_vertex (file.vertex_count (mesh_of u))) 0 (mesh_of u).indices
            (λ i l. lt-leb (file.vertex_count (mesh_of u)) (get_or (mesh_of u).indices i 0) (index_kept u done i l));
        floats = or-none (some not_finite (mesh_of u).positions) (some not_finite (mesh_of u).normals) finite-kept.0 finite-kept.1;
        positions-fit = positions-fit u done;
        normals-fit = normals-fit u done;
      }

  -- so it is written wherever there is room: 32 bytes for each vertex and triangle, and for the closing record
  pub kept-written : (room : ℕ) → 32 * (u.says.vertices + u.says.indices / 3 + 1) ≤ room → write_answer (mesh_of u) room ≡ 0
  kept-written room h = room-writes (mesh_of u) kept-writable room (omega (arith, vertices-kept u done, triangles-kept u done))

  -- and the file that is then left reads as that mesh: V vertices, I / 3 triangles and the same bits
  module _ (f : List ℕ) (room : 32 * (u.says.vertices + u.says.indices / 3 + 1) ≤ length f) where
    enough : file.file_length (mesh_of u) ≤ length f
    enough = omega (arith, vertices-kept u done, triangles-kept u done)

    -- what write_mesh then answers
    pub kept-answered : writer.writing (mesh_of u) (length f) ≡ writer.wrote 0 (32 * (u.says.vertices + u.says.indices / 3 + 1))
    kept-answered =
        bytes_counted (mesh_of u) f (kept-written (length f) room)
        ∙ ap₂ (λ (v t : ℕ). writer.wrote 0 (32 * (v + t + 1))) (vertices-kept u done) (triangles-kept u done)

    abbrev pub left : List ℕ
    left = take (file.file_length (mesh_of u)) (writer.written (mesh_of u) f)

    pub kept-reads : read_of left ≡ whole u.says.vertices (u.says.indices / 3)
    kept-reads = read-after-write (mesh_of u) kept-writable f enough ∙ ap₂ whole (vertices-kept u done) (triangles-kept u done)

    pub kept_same : mesh_in left u.says.vertices (u.says.indices / 3) ≡ mesh_of u
    kept_same = ap₂ (mesh_in left) (sym (vertices-kept u done)) (sym (triangles-kept u done)) ∙ same-after-write (mesh_of u) kept-writable f enough

-- ---- of every call that answers 0

-- all of it: V vertices, I / 3 triangles, and a lent file with room for them
pub record KeptMesh (u : Served) : Type 0 where
  pub writable : Writable (mesh_of u)
  pub answered : (f : List ℕ) → 32 * (u.says.vertices + u.says.indices / 3 + 1) ≤ length f
      → writer.writing (mesh_of u) (length f) ≡ writer.wrote 0 (32 * (u.says.vertices + u.says.indices / 3 + 1))
  pub reads : (f : List ℕ) → 32 * (u.says.vertices + u.says.indices / 3 + 1) ≤ length f
      → read_of (take (file.file_length (mesh_of u)) (writer.written (mesh_of u) f)) ≡ whole u.says.vertices (u.says.indices / 3)
  pub same : (f : List ℕ) → 32 * (u.says.vertices + u.says.indices / 3 + 1) ≤ length f
      → mesh_in (take (file.file_length (mesh_of u)) (writer.written (mesh_of u) f)) u.says.vertices (u.says.indices / 3) ≡ mesh_of u

pub kept-mesh : (u : Served) → Done u → u.says.indices / 3 < 2 ^ 32 → KeptMesh u
kept-mesh u done fewer =
    record { writable = kept-writable u done fewer; answered = kept-answered u done fewer; reads = kept-reads u done fewer; same = kept_same u done fewer }

pub surface-nets-kept : (u : Run) → Done (served u) → (served u).says.indices / 3 < 2 ^ 32 → KeptMesh (served u)
surface-nets-kept u = kept-mesh (served u)

pub bed-surface-nets-kept : (u : BedRun) → Done (bed_served u) → (bed_served u).says.indices / 3 < 2 ^ 32 → KeptMesh (bed_served u)
bed-surface-nets-kept u = kept-mesh (bed_served u)
