-- Request 2 over what the contracts say, of any write and any read (specs/Filed): a write that answers 0 and then a read; a shorter beginning; a read that
-- answers 0 and then a write; a check and then a read. No premise but that the calls answered so and that one's bytes are the other's. Assumes nothing.
use Prim.Native.Nat.{ℕ, ◌+◌, ◌*◌, ◌≤◌, ◌<◌}
use native.Mathlib.Omega.{arith}
use mathlib.Core.Path.{◌≡◌, refl, sym, ap, ap₂, ◌∙◌, subst}
use mathlib.Core.Bool.{false}
use mathlib.Core.List.{List}
use lib.ListN.{length, take, drop}
use lib.Seq.{take_at, take-take}
use Rattle.lists.specs.Lists.{over}
use Rattle.mesh_file.specs.Mesh.{Mesh, mesh, vertex_count, triangle_count, file_of, file_length}
use Rattle.mesh_file.specs.Reading.{Progress, reading, whole, refused, read_of, read_answer, checked, short_room, reading_in}
use Rattle.mesh_file.specs.Reading.{floats_at, numbers_at, floats_of, indices_of, mesh_in, over_mesh, filled_in}
use Rattle.mesh_file.specs.Writing.{wrote, write_answer, written}
use Rattle.mesh_file.specs.Reading.{Read}
use Rattle.mesh_file.specs.Writing.{Wrote}
use Rattle.mesh_record.proofs.Laying.{each-length}
use Rattle.mesh_file.proofs.RoundTrip.{Writable, file-length, written-reads, written_same, positions-length, normals-length, indices-length}
use Rattle.mesh_file.proofs.Prefixes.{shorter-refused}
use Rattle.mesh_file.proofs.OneFile.{accepted-is-written}
use Rattle.mesh_file.proofs.Rewritten.{accepted-writable}
use Rattle.mesh_file.proofs.Answering.{passed, answered-zero}
use Rattle.mesh_file.proofs.Settled.{zero-writable, bytes-written, bytes_counted, room-writes, room-reads, room-fills, room-enough, read_done}
use Rattle.kept_mesh.specs.Filed.{Writes, Reads, Checks, mesh_read, Room, ReadBack, RefusedCut}

-- ---- what a write that answers 0 leaves

module _ (w : Writes) (done : w.says.answer ≡ 0) where
  none-refused : write_answer w.given (length w.lent) ≡ 0
  none-refused = answered-zero w.given (length w.lent) (ap (λ (r : Wrote). r.answer) (sym w.answered) ∙ done)

  pub done-writable : Writable w.given
  done-writable = zero-writable w.given w.held (length w.lent) none-refused

  pub done-bytes : w.says.bytes ≡ file_length w.given
  done-bytes = ap (λ (r : Wrote). r.bytes) (w.answered ∙ bytes_counted w.given w.lent none-refused)

  pub done-room : file_length w.given ≤ length w.lent
  done-room = (passed w.given (length w.lent) none-refused).roomy

  -- its first bytes are the file of the mesh, and the rest is kept
  pub done-left : w.left ≡ over (file_of w.given) w.lent
  unfolding written
  done-left = w.kept ∙ rw none-refused refl

  pub done-leaves : take w.says.bytes w.left ≡ file_of w.given
  done-leaves = ap₂ take done-bytes w.kept ∙ bytes-written w.given w.lent none-refused

-- ---- a write that answers 0, then a read of the bytes that it counted

module _ (w : Writes) (done : w.says.answer ≡ 0) (r : Reads) (same : r.file ≡ take w.says.bytes w.left)
    (room : Room (vertex_count w.given) (triangle_count w.given) r.lent) where
  abbrev m : Mesh
  m = w.given

  whole-file : r.file ≡ file_of m
  whole-file = same ∙ done-leaves w done

  reads : read_of r.file ≡ whole (vertex_count m) (triangle_count m)
  reads = ap read_of whole-file ∙ written-reads m (done-writable w done)

  not_short : short_room (vertex_count m) (triangle_count m) r.lent ≡ false
  not_short = room-enough (vertex_count m) (triangle_count m) r.lent room.positions room.normals room.indices

  says-read : r.says ≡ read_answer 0 (vertex_count m) (triangle_count m)
  says-read = r.answered ∙ room-reads r.file (vertex_count m) (triangle_count m) r.lent reads not_short

  left-read : r.left ≡ over_mesh m r.lent
  left-read =
      r.filled
      ∙ (room-fills r.file (vertex_count m) (triangle_count m) r.lent reads not_short
      ∙ ap (λ (x : Mesh). over_mesh x r.lent) (ap (λ (f : List ℕ). mesh_in f (vertex_count m) (triangle_count m)) whole-file ∙ written_same m (done-writable w done)))

  same_read : mesh_read r ≡ m
  same_read =
      (λ i.
      mesh (take (3 * (says-read i).vertices) (left-read i).positions) (take (3 * (says-read i).vertices) (left-read i).normals)
      (take (3 * (says-read i).triangles) (left-read i).indices))
      ∙ (λ i. mesh
      (take_at m.positions (drop (length m.positions) r.lent.positions) (3 * vertex_count m) (positions-length m (done-writable w done)) i)
      (take_at m.normals (drop (length m.normals) r.lent.normals) (3 * vertex_count m) (normals-length m (done-writable w done)) i)
      (take_at m.indices (drop (length m.indices) r.lent.indices) (3 * triangle_count m) (indices-length m (done-writable w done)) i))

  pub write-then-read : ReadBack w.given r
  write-then-read =
      record {
        done = ap (λ (x : Read). x.answer) says-read;
        vertices = ap (λ (x : Read). x.vertices) says-read;
        triangles = ap (λ (x : Read). x.triangles) says-read;
        same = same_read;
        lists = left-read;
      }

-- ---- a write that answers 0, then a read of a shorter beginning

module _ (w : Writes) (done : w.says.answer ≡ 0) (r : Reads) (n : ℕ) (shorter : n < w.says.bytes) (cut : r.file ≡ take n w.left) where
  beginning : r.file ≡ take n (file_of w.given)
  beginning =
      let h : n ≤ w.says.bytes = omega (arith, shorter) in
      cut ∙ (sym (take-take n w.says.bytes w.left h) ∙ ap (take n) (done-leaves w done))

  cut-reads : read_of r.file ≡ refused 21
  cut-reads =
      ap read_of beginning
      ∙ shorter-refused (file_of w.given) (vertex_count w.given) (triangle_count w.given) (written-reads w.given (done-writable w done)) n
      (omega (arith, shorter, done-bytes w done, file-length w.given))

  says-cut : r.says ≡ read_answer 21 0 0
  says-cut = r.answered ∙ ap (λ (p : Progress). reading_in p r.lent) cut-reads

  pub write-then-cut : RefusedCut r
  write-then-cut =
      record {
        answer = ap (λ (x : Read). x.answer) says-cut;
        vertices = ap (λ (x : Read). x.vertices) says-cut;
        triangles = ap (λ (x : Read). x.triangles) says-cut;
        untouched = r.filled ∙ ap (λ (p : Progress). filled_in r.file p r.lent) cut-reads;
      }

-- ---- a read that answers 0

floats-length : (f : List ℕ) (first v : ℕ) → length (floats_of f first v) ≡ 3 * v
unfolding floats_of
floats-length f first v = each-length (λ k. floats_at f (32 * k + first)) 3 (λ k. refl) v

numbers-length : (f : List ℕ) (v t : ℕ) → length (indices_of f v t) ≡ 3 * t
unfolding indices_of
numbers-length f v t = each-length (λ k. numbers_at f (32 * (v + k) + 4)) 3 (λ k. refl) t

module _ (r : Reads) (done : r.says.answer ≡ 0) where
  abbrev v : ℕ
  v = r.says.vertices

  abbrev t : ℕ
  t = r.says.triangles

  accepts : (read_of r.file ≡ whole v t) × (short_room v t r.lent ≡ false)
  accepts = read_done r.file r.lent r.says r.answered done

  left_is : r.left ≡ over_mesh (mesh_in r.file v t) r.lent
  left_is = r.filled ∙ room-fills r.file v t r.lent accepts.0 accepts.1

  pub mesh-read : mesh_read r ≡ mesh_in r.file v t
  unfolding mesh_in
  mesh-read =
      (λ i. mesh (take (3 * v) (left_is i).positions) (take (3 * v) (left_is i).normals) (take (3 * t) (left_is i).indices))
      ∙ (λ i. mesh
      (take_at (floats_of r.file 4 v) (drop (length (floats_of r.file 4 v)) r.lent.positions) (3 * v) (floats-length r.file 4 v) i)
      (take_at (floats_of r.file 16 v) (drop (length (floats_of r.file 16 v)) r.lent.normals) (3 * v) (floats-length r.file 16 v) i)
      (take_at (indices_of r.file v t) (drop (length (indices_of r.file v t)) r.lent.indices) (3 * t) (numbers-length r.file v t) i))

  -- an accepted file is the file of the mesh that was read from it
  pub read-is-written : file_of (mesh_read r) ≡ r.file
  read-is-written = ap file_of mesh-read ∙ accepted-is-written r.file r.bytes v t accepts.0

  -- which the writer accepts
  pub read-writable : Writable (mesh_read r)
  read-writable = subst Writable (sym mesh-read) (accepted-writable r.file r.bytes v t accepts.0)

-- two accepted files with the same mesh are the same file
pub same-read-same-file : (r r' : Reads) → r.says.answer ≡ 0 → r'.says.answer ≡ 0 → mesh_read r ≡ mesh_read r' → r.file ≡ r'.file
same-read-same-file r r' done done' q = sym (read-is-written r done) ∙ (ap file_of q ∙ read-is-written r' done')

-- ---- a read that answers 0, then a write of what it read: the same bytes again

module _ (r : Reads) (done : r.says.answer ≡ 0) (w : Writes) (same : w.given ≡ mesh_read r) (room : length r.file ≤ length w.lent) where
  again : file_of w.given ≡ r.file
  again = ap file_of same ∙ read-is-written r done

  long : file_length w.given ≡ length r.file
  long = sym (file-length w.given) ∙ ap length again

  written-again : write_answer w.given (length w.lent) ≡ 0
  written-again = room-writes w.given (subst Writable (sym same) (read-writable r done)) (length w.lent) (omega (arith, long, room))

  pub read-then-write : (w.says ≡ wrote 0 (length r.file)) × (take (length r.file) w.left ≡ r.file)
  read-then-write = (
    w.answered ∙ (bytes_counted w.given w.lent written-again ∙ ap (wrote 0) long),
    ap₂ take (sym long) w.kept ∙ (bytes-written w.given w.lent written-again ∙ again),
  )

-- ---- a check, then a read into lists with room for the counts that it gave: the same answer and counts, on a refusal too

pub check-then-read : (c : Checks) (r : Reads) → c.file ≡ r.file → Room c.says.vertices c.says.triangles r.lent → r.says ≡ c.says
check-then-read c r same room = go (read_of r.file) (c.answered ∙ ap (λ (f : List ℕ). checked (read_of f)) same) r.answered
  where
    go : (p : Progress) → c.says ≡ checked p → r.says ≡ reading_in p r.lent → r.says ≡ c.says
    go (reading v t) a b = b ∙ sym a
    go (whole v t) a b =
        let p = ap (λ (x : Read). x.vertices) a in
        let q = ap (λ (x : Read). x.triangles) a in
        let e = room-enough v t r.lent (omega (arith, p, room.positions)) (omega (arith, p, room.normals)) (omega (arith, q, room.indices)) in
        b ∙ (rw e refl ∙ sym a)
    go (refused n) a b = b ∙ sym a
