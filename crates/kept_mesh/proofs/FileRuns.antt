-- The laws of Filed of the functions themselves: calls of mesh_file's and of the C ones with outcomes that fit their generated contracts, by the places of
-- their arguments. The bytes that one call left are the bytes that the other is passed; nothing else is asked of them. Assumes nothing.
use Prim.Native.Nat.{ℕ, ◌<◌, ◌≤◌}
use mathlib.Core.Path.{◌≡◌, refl, ap, ◌∙◌, sym, subst}
use mathlib.Core.List.{List, [], ◌∷◌, map}
use Rattle.std.proofs.Common.{Ok}
use lib.ListN.{length, take}
use Rattle.lists.specs.Lists.{joined, over}
use Rattle.lists.proofs.Lists.{All, all_then}
use Rattle.mesh_file.specs.Mesh.{Mesh, mesh, vertex_count, triangle_count, file_of, file_length, mesh_words}
use Rattle.mesh_file.specs.Reading.{read_result}
use Rattle.mesh_file.specs.Writing.{wrote, wrote_result}
use Rattle.mesh_file.proofs.Results.{read-injective, wrote-injective}
use Rattle.mesh_record.specs.Refusal.{answer_of}
use Rattle.mesh_record.proofs.OneStep.{done-of-answer}
use Rattle.mesh_record.specs.declared.Counts.{Counts}
use Rattle.mesh_record.proofs.put_record.Kinds as put-record-kinds
use Rattle.mesh_record.proofs.put_record.Reads as put_record
use Rattle.mesh_file.proofs.check_file.Kinds as check-file-kinds
use Rattle.mesh_file.proofs.check_file.Reads as check-file
use Rattle.mesh_file.proofs.write_mesh.Kinds as write-mesh-kinds
use Rattle.mesh_file.proofs.write_mesh.Reads as write-mesh
use Rattle.mesh_file.proofs.read_mesh.Kinds as read-mesh-kinds
use Rattle.mesh_file.proofs.read_mesh.Reads as read-mesh
use Rattle.bed.proofs.Places.{Called, WriteCall, mesh_given, file_lent, file_left, bytes_counted, write-by-place}
use Rattle.bed.proofs.Places.{RecordCall, room_lent, place_given, words_given, room_left, record-by-place}
use Rattle.bed.proofs.Places.{ReadCall, file_read, lists_lent, lists_left, vertices_counted, triangles_counted, read-by-place}
use Rattle.bed.proofs.Places.{CheckCall, file_checked, counts_checked, check-by-place}
use Rattle.kept_mesh.specs.Filed.{Writes, Puts, words_put, Apart, InARow, Reads, Checks, mesh_read, Room, ReadBack, RefusedCut}
use Rattle.kept_mesh.proofs.Filed.{write-then-read, write-then-cut, read-is-written, same-read-same-file, read-then-write, check-then-read}
use Rattle.kept_mesh.proofs.Records.{records-apart, records-in-a-row, apart-is-write, row-is-write}

-- ---- mesh_record: put_record

abbrev pub PutRun : Type 0
PutRun = Called 1 put-record-kinds.ps put-record-kinds.r put_record.Learnt

abbrev pub put_of : PutRun → Puts
put_of u =
    let (file, (at, (words, _))) = u.args in
    record {
      words = words;
      seven = u.fits.1.1;
      at = at;
      lent = file.now;
      says = answer_of u.result;
      left = u.last.0;
      answered = u.fits.0;
      kept = u.fits.1.0;
    }

-- ---- mesh_file: write_mesh, read_mesh and check_file

abbrev pub WriteRun : Type 0
WriteRun = Called 4 write-mesh-kinds.ps write-mesh-kinds.r write-mesh.Learnt

abbrev pub write_of : WriteRun → Writes
write_of u =
    let (positions, (normals, (indices, (file, _)))) = u.args in
    record {
      given = mesh positions.now normals.now indices.now;
      lent = file.now;
      says = wrote_result u.result;
      left = u.last.1.1.1.0;
      answered = u.fits.0;
      kept = u.fits.1.0;
      held = u.fits.1.1;
    }

abbrev pub ReadRun : Type 0
ReadRun = Called 4 read-mesh-kinds.ps read-mesh-kinds.r read-mesh.Learnt

abbrev pub read_of : ReadRun → Reads
read_of u =
    let (file, (positions, (normals, (indices, _)))) = u.args in
    let (_, (positions', (normals', (indices', _)))) = u.last in
    record {
      file = file.now;
      lent = mesh positions.now normals.now indices.now;
      says = read_result u.result;
      left = mesh positions' normals' indices';
      answered = u.fits.0;
      filled = u.fits.1.0;
      bytes = u.fits.1.1;
    }

abbrev pub CheckRun : Type 0
CheckRun = Called 1 check-file-kinds.ps check-file-kinds.r check-file.Learnt

abbrev pub check_of : CheckRun → Checks
check_of u = record { file = u.args.0.now; says = read_result u.result; answered = u.fits }

-- ---- bed: the same for C, with the counts behind the last parameters

abbrev pub bed_write_of : WriteCall → Writes
bed_write_of u =
    let p = write-by-place u in
    record {
      given = mesh_given u;
      lent = file_lent u;
      says = wrote u.result (bytes_counted u);
      left = file_left u;
      answered = λ i. wrote (p.0 i) (p.1.1.0 i);
      kept = p.1.0;
      held = p.1.1.1;
    }

abbrev pub bed_put_of : RecordCall → Puts
bed_put_of u =
    let (_, (_, (kind, (a, (b, (c, (d, (e, (f, _))))))))) = u.args in
    record {
      words = kind ∷ a ∷ b ∷ c ∷ d ∷ e ∷ f ∷ [];
      seven = refl;
      at = place_given u;
      lent = room_lent u;
      says = u.result;
      left = room_left u;
      answered = (record-by-place u).0;
      kept = (record-by-place u).1;
    }

abbrev pub bed_read_of : ReadCall → Reads
bed_read_of u =
    let p = read-by-place u in
    record {
      file = file_read u;
      lent = lists_lent u;
      says = record { answer = u.result; vertices = vertices_counted u; triangles = triangles_counted u };
      left = lists_left u;
      answered = λ i. record { answer = p.0 i; vertices = p.1.1.0 i; triangles = p.1.1.1.0 i };
      filled = p.1.0;
      bytes = p.1.1.1.1;
    }

abbrev pub bed_check_of : CheckCall → Checks
bed_check_of u =
    let p = check-by-place u in
    record {
      file = file_checked u;
      says = counts_checked u;
      answered = λ i. record { answer = p.0 i; vertices = p.1.0 i; triangles = p.1.1.0 i };
    }

-- ---- a result that is no refusal: the answer 0, and its value

wrote-answer : (w : WriteRun) (n : ℕ) → w.result ≡ Ok n → (write_of w).says.answer ≡ 0
wrote-answer w n e = ap (λ x. (wrote_result x).answer) e

wrote-bytes : (w : WriteRun) (n : ℕ) → w.result ≡ Ok n → (write_of w).says.bytes ≡ n
wrote-bytes w n e = ap (λ x. (wrote_result x).bytes) e

read-answer : (r : ReadRun) (n : Counts) → r.result ≡ Ok n → (read_of r).says.answer ≡ 0
read-answer r n e = ap (λ x. (read_result x).answer) e

-- ---- "Read after write returns the same bits"

pub write-mesh-read-back : (w : WriteRun) (r : ReadRun) (n : ℕ) → w.result ≡ Ok n → (read_of r).file ≡ take n (write_of w).left
    → Room (vertex_count (write_of w).given) (triangle_count (write_of w).given) (read_of r).lent → ReadBack (write_of w).given (read_of r)
write-mesh-read-back w r n done same room = write-then-read (write_of w) (wrote-answer w n done) (read_of r) (same ∙ ap (λ k. take k (write_of w).left) (sym (wrote-bytes w n done))) room

pub bed-write-mesh-read-back : (w : WriteCall) (r : ReadCall) → w.result ≡ 0 → file_read r ≡ take (bytes_counted w) (file_left w)
    → Room (vertex_count (mesh_given w)) (triangle_count (mesh_given w)) (lists_lent r) → ReadBack (mesh_given w) (bed_read_of r)
bed-write-mesh-read-back w r done same room = write-then-read (bed_write_of w) done (bed_read_of r) same room

-- ---- "Any shorter beginning of a written file, the empty one too, is refused"

pub write-mesh-cut : (w : WriteRun) (r : ReadRun) (b n : ℕ) → w.result ≡ Ok b → n < b → (read_of r).file ≡ take n (write_of w).left → RefusedCut (read_of r)
write-mesh-cut w r b n done shorter cut = write-then-cut (write_of w) (wrote-answer w b done) (read_of r) n (subst (λ k. n < k) (sym (wrote-bytes w b done)) shorter) cut

pub bed-write-mesh-cut : (w : WriteCall) (r : ReadCall) (n : ℕ) → w.result ≡ 0 → n < bytes_counted w → file_read r ≡ take n (file_left w) → RefusedCut (bed_read_of r)
bed-write-mesh-cut w r n done shorter cut = write-then-cut (bed_write_of w) done (bed_read_of r) n shorter cut

-- ---- one file a mesh

pub read-mesh-one-file : (r : ReadRun) (n : Counts) → r.result ≡ Ok n → file_of (mesh_read (read_of r)) ≡ (read_of r).file
read-mesh-one-file r n done = read-is-written (read_of r) (read-answer r n done)

pub bed-read-mesh-one-file : (r : ReadCall) → r.result ≡ 0 → file_of (mesh_read (bed_read_of r)) ≡ file_read r
bed-read-mesh-one-file r done = read-is-written (bed_read_of r) done

pub read-mesh-same-file : (r r' : ReadRun) (n n' : Counts) → r.result ≡ Ok n → r'.result ≡ Ok n' → mesh_read (read_of r) ≡ mesh_read (read_of r') → (read_of r).file ≡ (read_of r').file
read-mesh-same-file r r' n n' done done' same = same-read-same-file (read_of r) (read_of r') (read-answer r n done) (read-answer r' n' done') same

pub bed-read-mesh-same-file : (r r' : ReadCall) → r.result ≡ 0 → r'.result ≡ 0 → mesh_read (bed_read_of r) ≡ mesh_read (bed_read_of r') → file_read r ≡ file_read r'
bed-read-mesh-same-file r r' done done' same = same-read-same-file (bed_read_of r) (bed_read_of r') done done' same

-- what was read, written again into room enough, gives the same bytes
pub read-mesh-rewritten : (r : ReadRun) (w : WriteRun) (n : Counts) → r.result ≡ Ok n → (write_of w).given ≡ mesh_read (read_of r) → length (read_of r).file ≤ length (write_of w).lent
    → (w.result ≡ Ok (length (read_of r).file)) × (take (length (read_of r).file) (write_of w).left ≡ (read_of r).file)
read-mesh-rewritten r w n done same room =
    let p = read-then-write (read_of r) (read-answer r n done) (write_of w) same room in
    (wrote-injective w.result (Ok (length (read_of r).file)) p.0, p.1)

pub bed-read-mesh-rewritten : (r : ReadCall) (w : WriteCall) → r.result ≡ 0 → mesh_given w ≡ mesh_read (bed_read_of r) → length (file_read r) ≤ length (file_lent w)
    → (wrote w.result (bytes_counted w) ≡ wrote 0 (length (file_read r))) × (take (length (file_read r)) (file_left w) ≡ file_read r)
bed-read-mesh-rewritten r w done same room = read-then-write (bed_read_of r) done (bed_write_of w) same room

-- ---- a check tells what a read will answer, and how much to lend

pub check-file-read-mesh : (c : CheckRun) (r : ReadRun) → (check_of c).file ≡ (read_of r).file → Room (check_of c).says.vertices (check_of c).says.triangles (read_of r).lent
    → r.result ≡ c.result
check-file-read-mesh c r same room = read-injective r.result c.result (check-then-read (check_of c) (read_of r) same room)

pub bed-check-mesh-read-mesh : (c : CheckCall) (r : ReadCall) → file_checked c ≡ file_read r → Room (counts_checked c).vertices (counts_checked c).triangles (lists_lent r)
    → (bed_read_of r).says ≡ counts_checked c
bed-check-mesh-read-mesh c r same room = check-then-read (bed_check_of c) (bed_read_of r) same room

-- ---- records joined are the file of the mesh

-- calls of bed_write_record, a list of them, whose words are those of a mesh's records in their order: each into 32 bytes at place 0
pub bed-records-apart : (us : List RecordCall) (m : Mesh) → map words_given us ≡ mesh_words m → All (λ u. Apart (bed_put_of u)) us
    → All (λ u. u.result ≡ 0) us × (joined room_left us ≡ file_of m)
bed-records-apart us m words h = records-apart bed_put_of m us words h

-- or one after the other into one file, at 0, 32, 64 and so on, each in the bytes that the one before left
pub bed-records-in-a-row : (us : List RecordCall) (m : Mesh) (f g : List ℕ) → map words_given us ≡ mesh_words m → InARow bed_put_of us 0 f g → file_length m ≤ length f
    → All (λ u. u.result ≡ 0) us × (g ≡ over (file_of m) f)
bed-records-in-a-row us m f g words r h = records-in-a-row bed_put_of m us words f g r h

-- which is what bed_write_mesh leaves where it answers 0: the bytes that it counts, and the whole lent file
pub bed-records-are-write : (us : List RecordCall) (w : WriteCall) → w.result ≡ 0 → map words_given us ≡ mesh_words (mesh_given w) → All (λ u. Apart (bed_put_of u)) us
    → joined room_left us ≡ take (bytes_counted w) (file_left w)
bed-records-are-write us w done words h = apart-is-write bed_put_of (bed_write_of w) done us words h

pub bed-row-is-write : (us : List RecordCall) (w : WriteCall) (g : List ℕ) → w.result ≡ 0 → map words_given us ≡ mesh_words (mesh_given w) → InARow bed_put_of us 0 (file_lent w) g
    → g ≡ file_left w
bed-row-is-write us w g done words r = row-is-write bed_put_of (bed_write_of w) done us words g r

-- the same of mesh_record's own function
pub put-records-apart : (us : List PutRun) (m : Mesh) → map (λ u. words_put (put_of u)) us ≡ mesh_words m → All (λ u. Apart (put_of u)) us
    → All (λ u. u.result ≡ Ok tt) us × (joined (λ u. (put_of u).left) us ≡ file_of m)
put-records-apart us m words h =
    let p = records-apart put_of m us words h in (all_then (λ u. done-of-answer u.result) p.0, p.1)

pub put-records-in-a-row : (us : List PutRun) (m : Mesh) (f g : List ℕ) → map (λ u. words_put (put_of u)) us ≡ mesh_words m → InARow put_of us 0 f g → file_length m ≤ length f
    → All (λ u. u.result ≡ Ok tt) us × (g ≡ over (file_of m) f)
put-records-in-a-row us m f g words r h =
    let p = records-in-a-row put_of m us words f g r h in (all_then (λ u. done-of-answer u.result) p.0, p.1)
