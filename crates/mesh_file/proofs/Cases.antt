-- Document 02, request 2: a file of three vertices and two triangles, no two numbers of which stand at one place by chance, with what reading and writing answer about it, as
-- equations that the kernel computes from the definitions. The bytes were packed by Python's struct; the answers wanted are the request's own. Assumes nothing.
use Prim.Native.Nat.{ℕ, suc}
use mathlib.Core.List.{List, [], ◌∷◌, ◌++◌, map}
use mathlib.Core.Path.{◌≡◌, refl}
use lib.ListN.{take, drop, replicate}
use lib.Count.{count_trailing_zeros}
use lib.Ieee.{Float, binary32, odd, of_fields, of_bits, size, to_bits}
use Rattle.lists.specs.Lists.{joined, some}
use Rattle.mesh_file.specs.Record.{bytes_of, word_at, total, sum_of, record_of, each}
use Rattle.mesh_file.specs.Mesh.{Mesh, mesh, finite, file_of}
use Rattle.mesh_file.specs.Reading.{
  bad_sum,
  bad_kind,
  bad_zero,
  bad_counts,
  bad_index,
  bad_float,
  bad_end,
  fault_of,
  found_at,
  after,
  read_of,
  reading_in,
  floats_of,
  indices_of,
  mesh_in,
  filled_in,
}
use Rattle.mesh_file.specs.Reading.{read_result}
use Rattle.mesh_file.specs.Writing.{write_answer, writing, written, wrote_result}
use Rattle.std.proofs.Common.{Ok, Err}
use Rattle.mesh_record.specs.declared.refusal.Refusal.TheVariants.{BadSum, ShortRoom}

abbrev floats : List ℕ → List Float
floats = map (of_bits binary32)

abbrev positions : List ℕ
positions = 0x3FC00000 ∷ 0xC0100000 ∷ 0x40480000 ∷ 0x40800000 ∷ 0x40B00000 ∷ 0xC0D80000 ∷ 0x00000000 ∷ 0x41000000 ∷ 0x80000000 ∷ []

abbrev normals : List ℕ
normals = 0xBF800000 ∷ 0x3F000000 ∷ 0x3E800000 ∷ 0x40000000 ∷ 0xC0400000 ∷ 0x000116C2 ∷ 0x41100000 ∷ 0xC1200000 ∷ 0x41300000 ∷ []

abbrev indices : List ℕ
indices = 2 ∷ 0 ∷ 1 ∷ 0 ∷ 2 ∷ 1 ∷ []

abbrev small : Mesh
small = mesh (floats positions) (floats normals) indices

abbrev file : List ℕ
file =
    (1 ∷ 0 ∷ 0 ∷ 0 ∷ 0 ∷ 0 ∷ 192 ∷ 63 ∷ 0 ∷ 0 ∷ 16 ∷ 192 ∷ 0 ∷ 0 ∷ 72 ∷ 64 ∷ 0 ∷ 0 ∷ 128 ∷ 191 ∷ 0 ∷ 0 ∷ 0 ∷ 63 ∷ 0 ∷ 0 ∷ 128 ∷ 62 ∷ 1 ∷ 0 ∷ 24 ∷ 125 ∷ [])
    ++ (1 ∷ 0 ∷ 0 ∷ 0 ∷ 0 ∷ 0 ∷ 128 ∷ 64 ∷ 0 ∷ 0 ∷ 176 ∷ 64 ∷ 0 ∷ 0 ∷ 216 ∷ 192 ∷ 0 ∷ 0 ∷ 0 ∷ 64 ∷ 0 ∷ 0 ∷ 64 ∷ 192 ∷ 194 ∷ 22 ∷ 1 ∷ 0 ∷ 195 ∷ 22 ∷ 73 ∷ 66 ∷ [])
    ++ (1 ∷ 0 ∷ 0 ∷ 0 ∷ 0 ∷ 0 ∷ 0 ∷ 0 ∷ 0 ∷ 0 ∷ 0 ∷ 65 ∷ 0 ∷ 0 ∷ 0 ∷ 128 ∷ 0 ∷ 0 ∷ 16 ∷ 65 ∷ 0 ∷ 0 ∷ 32 ∷ 193 ∷ 0 ∷ 0 ∷ 48 ∷ 65 ∷ 1 ∷ 0 ∷ 96 ∷ 4 ∷ [])
    ++ (2 ∷ 0 ∷ 0 ∷ 0 ∷ 2 ∷ 0 ∷ 0 ∷ 0 ∷ 0 ∷ 0 ∷ 0 ∷ 0 ∷ 1 ∷ 0 ∷ 0 ∷ 0 ∷ 0 ∷ 0 ∷ 0 ∷ 0 ∷ 0 ∷ 0 ∷ 0 ∷ 0 ∷ 0 ∷ 0 ∷ 0 ∷ 0 ∷ 5 ∷ 0 ∷ 0 ∷ 0 ∷ [])
    ++ (2 ∷ 0 ∷ 0 ∷ 0 ∷ 0 ∷ 0 ∷ 0 ∷ 0 ∷ 2 ∷ 0 ∷ 0 ∷ 0 ∷ 1 ∷ 0 ∷ 0 ∷ 0 ∷ 0 ∷ 0 ∷ 0 ∷ 0 ∷ 0 ∷ 0 ∷ 0 ∷ 0 ∷ 0 ∷ 0 ∷ 0 ∷ 0 ∷ 5 ∷ 0 ∷ 0 ∷ 0 ∷ [])
    ++ (3 ∷ 0 ∷ 0 ∷ 0 ∷ 3 ∷ 0 ∷ 0 ∷ 0 ∷ 2 ∷ 0 ∷ 0 ∷ 0 ∷ 0 ∷ 0 ∷ 0 ∷ 0 ∷ 0 ∷ 0 ∷ 0 ∷ 0 ∷ 0 ∷ 0 ∷ 0 ∷ 0 ∷ 0 ∷ 0 ∷ 0 ∷ 0 ∷ 8 ∷ 0 ∷ 0 ∷ 0 ∷ [])

-- the three lists of a mesh, one after the other, floats by their bits
abbrev numbers : Mesh → List ℕ
numbers m = map (to_bits binary32) m.positions ++ (map (to_bits binary32) m.normals ++ m.indices)

-- lent lists, all of whose numbers are marked: -5.0 and 77
abbrev lent : ℕ → ℕ → ℕ → Mesh
lent p n i = mesh (floats (replicate p 0xC0A00000)) (floats (replicate n 0xC0A00000)) (replicate i 77)

-- what a computed test opens
unfoldable opened : Unit {0}
unfolding bytes_of word_at total sum_of record_of each finite file_of bad_sum bad_kind bad_zero bad_counts bad_index bad_float bad_end fault_of found_at after read_of floats_of indices_of mesh_in
    write_answer writing written joined some odd of_fields of_bits size to_bits count_trailing_zeros
opened = tt

-- ---- written

-- "All vertices, then all triangles, then one closing record", each byte of them
pub file-is : file_of small ≡ file
unfolding opened
file-is = refl

-- the first 192 bytes written, and the rest kept; one byte short nothing is
pub written_is : (written small (replicate 195 9) ≡ file ++ replicate 3 9) × (written small (replicate 191 9) ≡ replicate 191 9)
unfolding opened
written_is = (refl, refl)

-- what the writer answers for lists of positions, normals and indices and so many bytes of room, with the bytes written
abbrev answers : List ℕ → List ℕ → List ℕ → ℕ → List ℕ
answers p n i room = let m = mesh (floats p) (floats n) i in (writing m room).answer ∷ (writing m room).bytes ∷ []

-- "in this order, 30 for lists not in threes, normals not as long as positions [..], 26, 27, 29"
pub writer-answers :
    (answers positions normals indices 192 ≡ 0 ∷ 192 ∷ [])
    × (answers positions normals indices 191 ≡ 29 ∷ 0 ∷ [])
    × (answers (take 8 positions) (take 8 normals) indices 192 ≡ 30 ∷ 0 ∷ [])
    × (answers positions normals (take 5 indices) 192 ≡ 30 ∷ 0 ∷ [])
    × (answers positions (take 6 normals) (3 ∷ 3 ∷ 3 ∷ []) 0 ≡ 30 ∷ 0 ∷ [])
    × (answers (0x7FC00000 ∷ drop 1 positions) normals (0 ∷ 1 ∷ 3 ∷ []) 0 ≡ 26 ∷ 0 ∷ [])
    × (answers (0x7FC00000 ∷ drop 1 positions) normals indices 0 ≡ 27 ∷ 0 ∷ [])
    × (answers positions (take 8 normals ++ (0xFF800000 ∷ [])) indices 192 ≡ 27 ∷ 0 ∷ [])
unfolding opened
writer-answers = (refl, refl, refl, refl, refl, refl, refl, refl)

-- ---- read

-- the mesh of the file, over longer lists that keep their rest
pub read_is : numbers (filled_in file (read_of file) (lent 10 11 8)) ≡ (positions ++ (0xC0A00000 ∷ [])) ++ ((normals ++ replicate 2 0xC0A00000) ++ (indices ++ replicate 2 77))
unfolding opened
read_is = refl

-- what the reader answers for a file and lent lists of these lengths, with the vertices and triangles
abbrev reads : List ℕ → ℕ → ℕ → ℕ → List ℕ
reads f p n i = let r = reading_in (read_of f) (lent p n i) in r.answer ∷ r.vertices ∷ r.triangles ∷ []

-- a file with one byte changed
abbrev changed : ℕ → ℕ → List ℕ
changed at byte = take at file ++ (byte ∷ drop (suc at) file)

-- a good file; "21 cut file"; 22 in the second record before what comes after it; a vertex after a triangle; "28 bytes after the closing record" before "last of all, 29 lent room too
-- short", which is of each list
pub reader-answers :
    (reads file 9 9 6 ≡ 0 ∷ 3 ∷ 2 ∷ [])
    × (reads [] 9 9 6 ≡ 21 ∷ 0 ∷ 0 ∷ [])
    × (reads (take 160 file) 9 9 6 ≡ 21 ∷ 0 ∷ 0 ∷ [])
    × (reads (take 191 file) 9 9 6 ≡ 21 ∷ 0 ∷ 0 ∷ [])
    × (reads (changed 36 7) 9 9 6 ≡ 22 ∷ 0 ∷ 0 ∷ [])
    × (reads (take 128 file ++ (take 32 file ++ drop 128 file)) 9 9 6 ≡ 23 ∷ 0 ∷ 0 ∷ [])
    × (reads (take 32 file ++ drop 64 file) 9 9 6 ≡ 26 ∷ 0 ∷ 0 ∷ [])
    × (reads (take 128 file ++ drop 160 file) 9 9 6 ≡ 25 ∷ 0 ∷ 0 ∷ [])
    × (reads (file ++ (0 ∷ [])) 0 0 0 ≡ 28 ∷ 0 ∷ 0 ∷ [])
    × (reads file 8 9 6 ≡ 29 ∷ 0 ∷ 0 ∷ [])
    × (reads file 9 8 6 ≡ 29 ∷ 0 ∷ 0 ∷ [])
    × (reads file 9 9 5 ≡ 29 ∷ 0 ∷ 0 ∷ [])
unfolding opened
reader-answers = (refl, refl, refl, refl, refl, refl, refl, refl, refl, refl, refl, refl)

-- "A refusal writes nothing"
pub refused-keeps : numbers (filled_in (take 191 file) (read_of (take 191 file)) (lent 9 9 6)) ≡ numbers (lent 9 9 6)
unfolding opened
refused-keeps = refl

-- ---- the code's results, as the request's answers: 0 with what was counted, or a refusal's number and counts 0

pub results-are :
    (read_result (Ok (record { vertices = 3; triangles = 2 })) ≡ record { answer = 0; vertices = 3; triangles = 2 })
    × (read_result (Err BadSum) ≡ record { answer = 22; vertices = 0; triangles = 0 })
    × (wrote_result (Ok 192) ≡ record { answer = 0; bytes = 192 })
    × (wrote_result (Err ShortRoom) ≡ record { answer = 29; bytes = 0 })
results-are = (refl, refl, refl, refl)
