-- What the two public contracts settle: the bytes that the writer leaves, reading them back, and the reader's answer where there is room.
-- Assumes nothing.
use Prim.Native.Nat.{ℕ, ◌*◌, ◌≤◌}
use native.Mathlib.Omega.{arith}
use mathlib.Core.Path.{◌≡◌, refl, sym, ap, ◌∙◌}
use mathlib.Core.Bool.{Bool, true, false, cond}
use mathlib.Core.List.{List}
use borrow.Author.Tests.{le-ltb, ltb-false, ne_eqb}
use lib.Dec.{ltb}
use lib.ListN.{length, take, drop}
use lib.Seq.{take_at, drop_at}
use Rattle.mesh_file.specs.Mesh.{Mesh, vertex_count, triangle_count, Held, file_of, file_length}
use Rattle.mesh_file.specs.Reading.{Progress, reading, whole, refused, read_of, read_answer, checked, short_lists, short_room, reading_in, mesh_in, over_mesh, filled_in}
use Rattle.mesh_file.specs.Writing.{write_answer, wrote, writing, written}
use Rattle.mesh_file.specs.Reading.{Read}
use Rattle.lists.proofs.Either.{or-none, or_left, or_right}
use Rattle.mesh_file.proofs.Answering.{passed}
use Rattle.mesh_file.proofs.History.{accepted}
use Rattle.mesh_file.proofs.RoundTrip.{Writable, file-length, written-reads, written_same}

-- ---- the writer

pub room-writes : (m : Mesh) → Writable m → (room : ℕ) → file_length m ≤ room → write_answer m room ≡ 0
unfolding write_answer
room-writes m w room h = rw (w.lists, w.indices, w.floats) (rw (le-ltb room (file_length m) h) refl)

pub zero-writable : (m : Mesh) → Held m → (room : ℕ) → write_answer m room ≡ 0 → Writable m
zero-writable m held room e =
    let p = passed m room e in
    record { lists = p.lists; indices = p.indices; floats = p.floats; positions-fit = held.0; normals-fit = held.1 }

module _ (m : Mesh) (f : List ℕ) (e : write_answer m (length f) ≡ 0) where
  -- the written bytes are the definition's, and those past them are kept
  pub bytes-written : take (file_length m) (written m f) ≡ file_of m
  unfolding written
  bytes-written = rw e (take_at (file_of m) (drop (length (file_of m)) f) (file_length m) (file-length m))

  pub rest-kept : drop (file_length m) (written m f) ≡ drop (file_length m) f
  unfolding written
  rest-kept = rw e (drop_at (file_of m) (drop (length (file_of m)) f) (file_length m) (file-length m) ∙ ap (λ (n : ℕ). drop n f) (file-length m))

  pub bytes_counted : writing m (length f) ≡ wrote 0 (file_length m)
  unfolding writing
  bytes_counted = rw e refl

module _ (m : Mesh) (f : List ℕ) (n : write_answer m (length f) ≡ 0 → ⊥) where
  pub refused-counts-nothing : writing m (length f) ≡ wrote (write_answer m (length f)) 0
  unfolding writing
  refused-counts-nothing = rw (ne_eqb _ _ n) refl

-- ---- reading what was written

module _ (m : Mesh) (w : Writable m) (f : List ℕ) (room : file_length m ≤ length f) where
  abbrev file : List ℕ
  file = take (file_length m) (written m f)

  same : file ≡ file_of m
  same = bytes-written m f (room-writes m w (length f) room)

  pub read-after-write : read_of file ≡ whole (vertex_count m) (triangle_count m)
  read-after-write = ap read_of same ∙ written-reads m w

  pub same-after-write : mesh_in file (vertex_count m) (triangle_count m) ≡ m
  same-after-write = ap (λ x. mesh_in x (vertex_count m) (triangle_count m)) same ∙ written_same m w

-- ---- the reader

module _ (f : List ℕ) (v t : ℕ) (s : Mesh) (e : read_of f ≡ whole v t) (room : short_room v t s ≡ false) where
  -- what the definition accepts is not refused where there is room
  pub room-reads : reading_in (read_of f) s ≡ read_answer 0 v t
  room-reads = rw e (rw room refl)

  pub room-fills : filled_in f (read_of f) s ≡ over_mesh (mesh_in f v t) s
  room-fills = rw e (rw room refl)

-- a list that is not too short
pub not_short : (v t p n i : ℕ) → short_lists v t p n i ≡ false → (3 * v ≤ p) × (3 * v ≤ n) × (3 * t ≤ i)
not_short v t p n i h =
    let h₂ = or_right (ltb p (3 * v)) _ h in
    (ltb-false p (3 * v) (or_left (ltb p (3 * v)) _ h), ltb-false n (3 * v) (or_left (ltb n (3 * v)) _ h₂), ltb-false i (3 * t) (or_right (ltb n (3 * v)) _ h₂))

-- lists as long as the counts ask
pub room-enough : (v t : ℕ) (s : Mesh) → 3 * v ≤ length s.positions → 3 * v ≤ length s.normals → 3 * t ≤ length s.indices → short_room v t s ≡ false
room-enough v t s a b c =
    or-none _ _ (le-ltb (length s.positions) (3 * v) a) (or-none _ _ (le-ltb (length s.normals) (3 * v) b) (le-ltb (length s.indices) (3 * t) c))

no_short : (v t : ℕ) (s : Mesh) → (reading_in (whole v t) s).answer ≡ 0 → short_room v t s ≡ false
no_short v t s = go (short_room v t s)
  where
    go : (b : Bool) → (cond b (read_answer 29 0 0) (read_answer 0 v t)).answer ≡ 0 → b ≡ false
    go true e = absurd (omega (arith, e))
    go false e = refl

same-as-checked : (p : Progress) (s : Mesh) → (reading_in p s).answer ≡ 0 → reading_in p s ≡ checked p
same-as-checked (reading v t) s e = refl
same-as-checked (whole v t) s e = rw (no_short v t s e) refl
same-as-checked (refused n) s e = refl

-- the answer 0 says that the file is whole and that there was room
pub read_done : (f : List ℕ) (s : Mesh) (r : Read) → r ≡ reading_in (read_of f) s → r.answer ≡ 0 → (read_of f ≡ whole r.vertices r.triangles) ×
    (short_room r.vertices r.triangles s ≡ false)
read_done f s r e z =
    let z' : (reading_in (read_of f) s).answer ≡ 0 = ap (λ (x : Read). x.answer) (sym e) ∙ z in
    let w = accepted f r (e ∙ same-as-checked (read_of f) s z') z in
    (w, no_short r.vertices r.triangles s (ap (λ (p : Progress). (reading_in p s).answer) (sym w) ∙ z'))
