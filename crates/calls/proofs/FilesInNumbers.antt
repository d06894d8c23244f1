-- One call of each function on mesh files, by the places of its arguments: whatever fits the contract on these numbers answered so and left these lists. A mesh of three
-- vertices and one triangle, no two of whose floats are alike, bytes and lists with room to spare, and a record at a place that is no multiple of 32, whose words sum up past
-- 2^32. The bytes were packed by Python's struct from document 02, request 2. Computed by the kernel. Assumes nothing.
use Prim.Native.Nat.{ℕ, zero, suc, ◌<◌}
use native.Mathlib.Omega.{arith}
use mathlib.Core.Bool.{false}
use mathlib.Core.List.{List, [], ◌∷◌, ◌++◌}
use mathlib.Core.Path.{◌≡◌, ap, subst}
use lib.Count.{count_trailing_zeros}
use lib.Dec.{lit≤}
use lib.IntN.{pos}
use lib.ListN.{length, take, drop}
use lib.Ieee.{Float, fin, fits, odd, of_fields, of_bits, size, to_bits}
use Rattle.lists.specs.Lists.{run, up_to, joined, some}
use Rattle.lists.specs.Floats.{Binary32}
use Rattle.mesh_record.specs.Record.{bytes_of, word_at, total, sum_of, record_of, each}
use Rattle.mesh_record.specs.Written.{record_answer, record_written}
use Rattle.mesh_record.specs.Faults.{finite, bad_sum, bad_kind, bad_zero, bad_counts, bad_index, bad_float, bad_end, fault_of, found_at}
use Rattle.mesh_file.specs.Mesh.{Mesh, mesh, file_of, Held}
use Rattle.mesh_file.specs.Reading.{Bytes, after, read_of, checked, reading_in, floats_of, indices_of, mesh_in, filled_in}
use Rattle.mesh_file.specs.Writing.{write_answer, writing, written}
use Rattle.bed.proofs.Places.{
  WriteCall,
  RecordCall,
  ReadCall,
  CheckCall,
  lists_left,
  write-by-place,
  record-by-place,
  read-by-place,
  check-by-place,
}
use Rattle.calls.proofs.Lists.{floats}

-- what a computed fact opens
opened : Unit {0}
unfolding bytes_of word_at total sum_of record_of each finite file_of bad_sum bad_kind bad_zero bad_counts bad_index bad_float bad_end fault_of found_at after read_of floats_of indices_of mesh_in
    write_answer writing written joined some run up_to odd of_fields of_bits size to_bits count_trailing_zeros
opened = tt

abbrev positions : List ℕ
positions = 0x3FA00000 ∷ 0xC0200000 ∷ 0x40700000 ∷ 0x40800000 ∷ 0x40B00000 ∷ 0xC0D80000 ∷ 0x3F000000 ∷ 0x41000000 ∷ 0xC1140000 ∷ []

abbrev normals : List ℕ
normals = 0xBF800000 ∷ 0x3F000000 ∷ 0x3E800000 ∷ 0x40000000 ∷ 0xC0400000 ∷ 0x3E000000 ∷ 0x41100000 ∷ 0xC1200000 ∷ 0x41300000 ∷ []

abbrev indices : List ℕ
indices = 2 ∷ 0 ∷ 1 ∷ []

abbrev bytes : List ℕ
bytes =
    1 ∷ 0 ∷ 0 ∷ 0 ∷ 0 ∷ 0 ∷ 160 ∷ 63 ∷ 0 ∷ 0 ∷ 32 ∷ 192 ∷ 0 ∷ 0 ∷ 112 ∷ 64 ∷ 0 ∷ 0 ∷ 128 ∷ 191 ∷ 0 ∷ 0 ∷ 0 ∷ 63 ∷ 0 ∷ 0 ∷ 128 ∷ 62 ∷ 1 ∷ 0 ∷ 48 ∷ 125
    ∷ 1 ∷ 0 ∷ 0 ∷ 0 ∷ 0 ∷ 0 ∷ 128 ∷ 64 ∷ 0 ∷ 0 ∷ 176 ∷ 64 ∷ 0 ∷ 0 ∷ 216 ∷ 192 ∷ 0 ∷ 0 ∷ 0 ∷ 64 ∷ 0 ∷ 0 ∷ 64 ∷ 192 ∷ 0 ∷ 0 ∷ 0 ∷ 62 ∷ 1 ∷ 0 ∷ 72 ∷ 128
    ∷ 1 ∷ 0 ∷ 0 ∷ 0 ∷ 0 ∷ 0 ∷ 0 ∷ 63 ∷ 0 ∷ 0 ∷ 0 ∷ 65 ∷ 0 ∷ 0 ∷ 20 ∷ 193 ∷ 0 ∷ 0 ∷ 16 ∷ 65 ∷ 0 ∷ 0 ∷ 32 ∷ 193 ∷ 0 ∷ 0 ∷ 48 ∷ 65 ∷ 1 ∷ 0 ∷ 116 ∷ 132
    ∷ 2 ∷ 0 ∷ 0 ∷ 0 ∷ 2 ∷ 0 ∷ 0 ∷ 0 ∷ 0 ∷ 0 ∷ 0 ∷ 0 ∷ 1 ∷ 0 ∷ 0 ∷ 0 ∷ 0 ∷ 0 ∷ 0 ∷ 0 ∷ 0 ∷ 0 ∷ 0 ∷ 0 ∷ 0 ∷ 0 ∷ 0 ∷ 0 ∷ 5 ∷ 0 ∷ 0 ∷ 0
    ∷ 3 ∷ 0 ∷ 0 ∷ 0 ∷ 3 ∷ 0 ∷ 0 ∷ 0 ∷ 1 ∷ 0 ∷ 0 ∷ 0 ∷ 0 ∷ 0 ∷ 0 ∷ 0 ∷ 0 ∷ 0 ∷ 0 ∷ 0 ∷ 0 ∷ 0 ∷ 0 ∷ 0 ∷ 0 ∷ 0 ∷ 0 ∷ 0 ∷ 7 ∷ 0 ∷ 0 ∷ 0 ∷ []

-- ---- bed_write_mesh: positions, normals, indices, the file, its number of bytes

abbrev WriteLent : Type 0
WriteLent = List Float × List Float × List ℕ × List ℕ

abbrev write_lent : WriteLent
write_lent = (floats positions, floats normals, indices, up_to 10 173)

abbrev write_given : WriteCall → WriteLent
write_given u = let (positions', (normals', (indices', (file, _)))) = u.args in (positions'.now, normals'.now, indices'.now, file.now)

-- 160 bytes are written, and the last three are kept
pub write-mesh-called : (u : WriteCall) → write_given u ≡ write_lent
    → (let (_, (_, (_, (left, (count, _))))) = u.last in (u.result ≡ 0) × (left ≡ bytes ++ (170 ∷ 171 ∷ 172 ∷ [])) × (count ≡ 160))
unfolding opened
write-mesh-called u e =
    let (_, (_, (_, (left, (count, _))))) = u.last in
    let (answered, (wrote, (counted, _))) = write-by-place u in
    subst
    (λ (g : WriteLent). (u.result ≡ (writing (mesh g.0 g.1 g.2) (length g.3)).answer) × (left ≡ written (mesh g.0 g.1 g.2) g.3)
    × (count ≡ (writing (mesh g.0 g.1 g.2) (length g.3)).bytes)) e (answered, wrote, counted)

-- ---- bed_write_record: the file, the place in it, seven words

abbrev RecordLent : Type 0
RecordLent = List ℕ × ℕ × List ℕ

abbrev seven_words : List ℕ
seven_words = 0xF1E2D3C4 ∷ 0x01020304 ∷ 0x15263748 ∷ 0x99887766 ∷ 0xA0B1C2D3 ∷ 0x0A1B2C3D ∷ 0xE5F60718 ∷ []

abbrev record_lent : ℕ → RecordLent
record_lent at = (up_to 60 102, at, seven_words)

abbrev record_given : RecordCall → RecordLent
record_given u = let (file, (at, (kind, (a, (b, (c, (d, (e, (f, _))))))))) = u.args in (file.now, at, kind ∷ a ∷ b ∷ c ∷ d ∷ e ∷ f ∷ [])

record-says : {at : ℕ} (u : RecordCall) → record_given u ≡ record_lent at
    → (let (left, _) = u.last in (u.result ≡ record_answer at (up_to 60 102)) × (left ≡ record_written seven_words at (up_to 60 102)))
record-says u e =
    let (left, _) = u.last in
    subst (λ (g : RecordLent). (u.result ≡ record_answer g.1 g.0) × (left ≡ record_written g.2 g.1 g.0)) e (record-by-place u)

-- over the bytes 7 to 38 of 42: the words' sum is 0x332567B9E, of which 0x32567B9E is kept
pub write-record-called : (u : RecordCall) → record_given u ≡ record_lent 7
    → (let (left, _) = u.last in
    (u.result ≡ 0)
    × (left ≡ 60 ∷ 61 ∷ 62 ∷ 63 ∷ 64 ∷ 65 ∷ 66
    ∷ 196 ∷ 211 ∷ 226 ∷ 241 ∷ 4 ∷ 3 ∷ 2 ∷ 1 ∷ 72 ∷ 55 ∷ 38 ∷ 21 ∷ 102 ∷ 119 ∷ 136 ∷ 153 ∷ 211 ∷ 194 ∷ 177 ∷ 160 ∷ 61 ∷ 44 ∷ 27 ∷ 10 ∷ 24 ∷ 7 ∷ 246 ∷ 229
    ∷ 158 ∷ 123 ∷ 86 ∷ 50 ∷ 99 ∷ 100 ∷ 101 ∷ []))
unfolding opened
write-record-called u e = record-says u e

-- from 10 on it ends with the last byte, and from 11 on it would end past it
pub write-record-last : (u : RecordCall) → record_given u ≡ record_lent 10 → u.result ≡ 0
unfolding opened
write-record-last u e = (record-says u e).0

pub write-record-refused : (u : RecordCall) → record_given u ≡ record_lent 11 → (let (left, _) = u.last in (u.result ≡ 29) × (left ≡ up_to 60 102))
unfolding opened
write-record-refused u e = record-says u e

-- ---- bed_read_mesh: the file, positions, normals, indices, the two counts

abbrev ReadLent : Type 0
ReadLent = List ℕ × List Float × List Float × List ℕ

-- lists of ten, eleven and five: 2.0, 3.0, 4.0 and on, 2.5, 3.5, 4.5 and on as the bits have them, and 70 to 74
abbrev ten_old : List ℕ
ten_old = 0x40000000 ∷ 0x40400000 ∷ 0x40800000 ∷ 0x40A00000 ∷ 0x40C00000 ∷ 0x40E00000 ∷ 0x41000000 ∷ 0x41100000 ∷ 0x41200000 ∷ 0x41300000 ∷ []

abbrev eleven_old : List ℕ
eleven_old =
    0x40200000 ∷ 0x40600000 ∷ 0x40900000 ∷ 0x40B00000 ∷ 0x40D00000 ∷ 0x40F00000 ∷ 0x41080000 ∷ 0x41180000 ∷ 0x41280000 ∷ 0x41380000 ∷ 0x41480000 ∷ []

abbrev read_lent : ReadLent
read_lent = (bytes, floats ten_old, floats eleven_old, up_to 70 75)

abbrev read_given : ReadCall → ReadLent
read_given u = let (file, (positions', (normals', (indices', _)))) = u.args in (file.now, positions'.now, normals'.now, indices'.now)

-- three vertices and one triangle; what stood past them is kept
pub read-mesh-called : (u : ReadCall) → read_given u ≡ read_lent
    → (let (_, (positions', (normals', (indices', (v, (t, _)))))) = u.last in
    (u.result ≡ 0)
    × (positions' ≡ floats (positions ++ (0x41300000 ∷ [])))
    × (normals' ≡ floats (normals ++ (0x41380000 ∷ 0x41480000 ∷ [])))
    × (indices' ≡ indices ++ (73 ∷ 74 ∷ []))
    × (v ≡ 3)
    × (t ≡ 1))
unfolding opened
read-mesh-called u e =
    let (_, (_, (_, (_, (v, (t, _)))))) = u.last in
    let (answered, (filled, (vertices, (triangles, _)))) = read-by-place u in
    let (a, l, n, k) =
    subst
    (λ (g : ReadLent). (u.result ≡ (reading_in (read_of g.0) (mesh g.1 g.2 g.3)).answer)
    × (lists_left u ≡ filled_in g.0 (read_of g.0) (mesh g.1 g.2 g.3))
    × (v ≡ (reading_in (read_of g.0) (mesh g.1 g.2 g.3)).vertices)
    × (t ≡ (reading_in (read_of g.0) (mesh g.1 g.2 g.3)).triangles)) e (answered, filled, vertices, triangles) in
    (a, ap (λ (m : Mesh). m.positions) l, ap (λ (m : Mesh). m.normals) l, ap (λ (m : Mesh). m.indices) l, n, k)

-- ---- bed_check_mesh: the file, the two counts

abbrev check_given : CheckCall → List ℕ
check_given u = let (file, _) = u.args in file.now

check-says : {file : List ℕ} (u : CheckCall) → check_given u ≡ file
    → (let (_, (v, (t, _))) = u.last in
    (u.result ≡ (checked (read_of file)).answer) × (v ≡ (checked (read_of file)).vertices) × (t ≡ (checked (read_of file)).triangles))
check-says u e =
    let (_, (v, (t, _))) = u.last in
    let (answered, (vertices, (triangles, _))) = check-by-place u in
    subst
    (λ (file : List ℕ). (u.result ≡ (checked (read_of file)).answer) × (v ≡ (checked (read_of file)).vertices) × (t ≡ (checked (read_of file)).triangles)) e
    (answered, vertices, triangles)

pub check-mesh-called : (u : CheckCall) → check_given u ≡ bytes → (let (_, (v, (t, _))) = u.last in (u.result ≡ 0) × (v ≡ 3) × (t ≡ 1))
unfolding opened
check-mesh-called u e = check-says u e

-- without its last byte it is "21 cut file"; with one changed, "22 bad sum"; counts 0
pub check-mesh-cut : (u : CheckCall) → check_given u ≡ take 159 bytes → (let (_, (v, (t, _))) = u.last in (u.result ≡ 21) × (v ≡ 0) × (t ≡ 0))
unfolding opened
check-mesh-cut u e = check-says u e

pub check-mesh-bad-sum : (u : CheckCall) → check_given u ≡ take 6 bytes ++ (161 ∷ drop 7 bytes) → (let (_, (v, (t, _))) = u.last in (u.result ≡ 22) × (v ≡ 0) × (t ≡ 0))
unfolding opened
check-mesh-bad-sum u e = check-says u e

-- ---- what a list of u8 and a list of f32 hold, which contracts hand on: a number up to 255, and a float of at most 24 bits, in the positions and in the normals

byte-list : Bytes (255 ∷ 0 ∷ [])
byte-list zero h = lit≤ tt
byte-list (suc zero) h = lit≤ tt
byte-list (suc (suc i)) h = absurd (omega arith)

no-byte-list : Bytes (7 ∷ 256 ∷ []) → ⊥
no-byte-list b = let h : 256 < 256 = b 1 (lit≤ tt) in omega arith

-- 2^24 - 1 and 2^24 + 1
abbrev narrow : List Float
narrow = fin false 16777215 (pos 0) ∷ []

abbrev wide : List Float
wide = fin false 16777217 (pos 0) ∷ []

narrow-fits : Binary32 narrow
unfolding fits
narrow-fits zero h = tt
narrow-fits (suc i) h = absurd (omega arith)

pub bytes-are : Bytes (255 ∷ 0 ∷ []) × (Bytes (7 ∷ 256 ∷ []) → ⊥)
bytes-are = (byte-list, no-byte-list)

pub floats-are : Held (mesh narrow narrow []) × (Held (mesh wide narrow []) → ⊥) × (Held (mesh narrow wide []) → ⊥)
unfolding fits
floats-are = ((narrow-fits, narrow-fits), λ h. h.0 0 (lit≤ tt), λ h. h.1 0 (lit≤ tt))
