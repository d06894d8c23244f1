-- Document 02, request 2: records and what is found at them, as one table that the kernel computes from the definitions. The bytes were packed by Python's struct, and the
-- numbers wanted are the request's own: none comes from these definitions or from the code. Assumes nothing.
use Rattle.std.proofs.Common.{◌≡◌, ℕ, Bool, not, ◌&&◌, eqb, Ok, Err, List, [], ◌∷◌, map, refl}
use lib.Ieee.{odd, of_fields, of_bits}
use Rattle.lists.specs.Lists.{keep}
use Rattle.mesh_record.specs.Record.{word_at, total, sum_of}
use Rattle.mesh_record.specs.Refusal.{number_of_refusal, answer_of}
use Rattle.mesh_record.specs.declared.refusal.Refusal.TheVariants.{CutFile, BadSum, BadKind, NotZero, WrongCounts, IndexWithoutVertex, FloatNotFinite, BytesAfterClosing, ShortRoom, BadLists}
use Rattle.mesh_record.specs.Faults.{Found, bad_sum, bad_kind, bad_zero, bad_counts, bad_index, finite, bad_float, bad_end, fault_of, found_at, seen}

-- a file, a place in it, the vertices and triangles seen before it, and what is found there: the record's kind, or 0 and its fault
pub record Case : Type 0 where
  pub file : List ℕ
  pub place : ℕ
  pub vertices : ℕ
  pub triangles : ℕ
  pub kind : ℕ
  pub fault : ℕ

abbrev case : List ℕ → ℕ → ℕ → ℕ → ℕ → ℕ → Case
case f at v t k n = record { file = f; place = at; vertices = v; triangles = t; kind = k; fault = n }

abbrev found : Case → Found
found k = found_at k.file k.place (seen k.vertices k.triangles)

abbrev pub passes : Case → Bool
passes k = eqb (found k).kind k.kind && eqb (found k).fault k.fault

abbrev pub cases : List Case
cases =
    -- a vertex, whose words add up to more than 2^32; the same after 32 other bytes
    case (1 ∷ 0 ∷ 0 ∷ 0 ∷ 0 ∷ 0 ∷ 192 ∷ 63 ∷ 0 ∷ 0 ∷ 16 ∷ 192 ∷ 0 ∷ 0 ∷ 72 ∷ 64 ∷ 0 ∷ 0 ∷ 0 ∷ 128 ∷ 204 ∷ 113 ∷ 5 ∷ 0 ∷ 0 ∷ 0 ∷ 224 ∷ 64 ∷ 205 ∷ 113 ∷ 253 ∷ 0 ∷ []) 0 0 0 1 0
    ∷ case (0 ∷ 1 ∷ 2 ∷ 3 ∷ 4 ∷ 5 ∷ 6 ∷ 7 ∷ 8 ∷ 9 ∷ 10 ∷ 11 ∷ 12 ∷ 13 ∷ 14 ∷ 15 ∷ 16 ∷ 17 ∷ 18 ∷ 19 ∷ 20 ∷ 21 ∷ 22 ∷ 23 ∷ 24 ∷ 25 ∷ 26 ∷ 27 ∷ 28 ∷ 29 ∷ 30 ∷ 31 ∷ 1 ∷ 0 ∷ 0 ∷ 0 ∷ 0 ∷ 0 ∷ 192 ∷ 63 ∷ 0 ∷ 0 ∷ 16 ∷ 192 ∷ 0 ∷ 0 ∷ 72 ∷ 64 ∷ 0 ∷ 0 ∷ 0 ∷ 128 ∷ 204 ∷ 113 ∷ 5 ∷ 0 ∷ 0 ∷ 0 ∷ 224 ∷ 64 ∷ 205 ∷ 113 ∷ 253 ∷ 0 ∷ []) 32 9 0 1 0
    -- a triangle, whatever came before it; a closing record
    ∷ case (2 ∷ 0 ∷ 0 ∷ 0 ∷ 0 ∷ 0 ∷ 0 ∷ 0 ∷ 3 ∷ 0 ∷ 0 ∷ 0 ∷ 4 ∷ 0 ∷ 0 ∷ 0 ∷ 0 ∷ 0 ∷ 0 ∷ 0 ∷ 0 ∷ 0 ∷ 0 ∷ 0 ∷ 0 ∷ 0 ∷ 0 ∷ 0 ∷ 9 ∷ 0 ∷ 0 ∷ 0 ∷ []) 0 5 0 2 0
    ∷ case (2 ∷ 0 ∷ 0 ∷ 0 ∷ 0 ∷ 0 ∷ 0 ∷ 0 ∷ 3 ∷ 0 ∷ 0 ∷ 0 ∷ 4 ∷ 0 ∷ 0 ∷ 0 ∷ 0 ∷ 0 ∷ 0 ∷ 0 ∷ 0 ∷ 0 ∷ 0 ∷ 0 ∷ 0 ∷ 0 ∷ 0 ∷ 0 ∷ 9 ∷ 0 ∷ 0 ∷ 0 ∷ []) 0 5 4 2 0
    ∷ case (3 ∷ 0 ∷ 0 ∷ 0 ∷ 5 ∷ 0 ∷ 0 ∷ 0 ∷ 7 ∷ 0 ∷ 0 ∷ 0 ∷ 0 ∷ 0 ∷ 0 ∷ 0 ∷ 0 ∷ 0 ∷ 0 ∷ 0 ∷ 0 ∷ 0 ∷ 0 ∷ 0 ∷ 0 ∷ 0 ∷ 0 ∷ 0 ∷ 15 ∷ 0 ∷ 0 ∷ 0 ∷ []) 0 5 7 3 0
    -- the closing record of no mesh
    ∷ case (3 ∷ 0 ∷ 0 ∷ 0 ∷ 0 ∷ 0 ∷ 0 ∷ 0 ∷ 0 ∷ 0 ∷ 0 ∷ 0 ∷ 0 ∷ 0 ∷ 0 ∷ 0 ∷ 0 ∷ 0 ∷ 0 ∷ 0 ∷ 0 ∷ 0 ∷ 0 ∷ 0 ∷ 0 ∷ 0 ∷ 0 ∷ 0 ∷ 3 ∷ 0 ∷ 0 ∷ 0 ∷ []) 0 0 0 3 0
    -- 21: 31 bytes; and 32 of which the first is left out
    ∷ case (1 ∷ 0 ∷ 0 ∷ 0 ∷ 0 ∷ 0 ∷ 192 ∷ 63 ∷ 0 ∷ 0 ∷ 16 ∷ 192 ∷ 0 ∷ 0 ∷ 72 ∷ 64 ∷ 0 ∷ 0 ∷ 0 ∷ 128 ∷ 204 ∷ 113 ∷ 5 ∷ 0 ∷ 0 ∷ 0 ∷ 224 ∷ 64 ∷ 205 ∷ 113 ∷ 253 ∷ []) 0 0 0 0 21
    ∷ case (1 ∷ 0 ∷ 0 ∷ 0 ∷ 0 ∷ 0 ∷ 192 ∷ 63 ∷ 0 ∷ 0 ∷ 16 ∷ 192 ∷ 0 ∷ 0 ∷ 72 ∷ 64 ∷ 0 ∷ 0 ∷ 0 ∷ 128 ∷ 204 ∷ 113 ∷ 5 ∷ 0 ∷ 0 ∷ 0 ∷ 224 ∷ 64 ∷ 205 ∷ 113 ∷ 253 ∷ 0 ∷ []) 1 0 0 0 21
    -- 22: one too many; and before 23, 24, 26 and 27
    ∷ case (1 ∷ 0 ∷ 0 ∷ 0 ∷ 0 ∷ 0 ∷ 192 ∷ 63 ∷ 0 ∷ 0 ∷ 16 ∷ 192 ∷ 0 ∷ 0 ∷ 72 ∷ 64 ∷ 0 ∷ 0 ∷ 0 ∷ 128 ∷ 204 ∷ 113 ∷ 5 ∷ 0 ∷ 0 ∷ 0 ∷ 224 ∷ 64 ∷ 206 ∷ 113 ∷ 253 ∷ 0 ∷ []) 0 0 0 0 22
    ∷ case (9 ∷ 0 ∷ 0 ∷ 0 ∷ 0 ∷ 0 ∷ 192 ∷ 63 ∷ 0 ∷ 0 ∷ 16 ∷ 192 ∷ 0 ∷ 0 ∷ 72 ∷ 64 ∷ 0 ∷ 0 ∷ 0 ∷ 128 ∷ 204 ∷ 113 ∷ 5 ∷ 0 ∷ 0 ∷ 0 ∷ 224 ∷ 64 ∷ 218 ∷ 113 ∷ 253 ∷ 0 ∷ []) 0 0 0 0 22
    ∷ case (2 ∷ 0 ∷ 0 ∷ 0 ∷ 9 ∷ 0 ∷ 0 ∷ 0 ∷ 9 ∷ 0 ∷ 0 ∷ 0 ∷ 9 ∷ 0 ∷ 0 ∷ 0 ∷ 1 ∷ 0 ∷ 0 ∷ 0 ∷ 0 ∷ 0 ∷ 0 ∷ 0 ∷ 0 ∷ 0 ∷ 0 ∷ 0 ∷ 35 ∷ 0 ∷ 0 ∷ 0 ∷ []) 0 5 0 0 22
    ∷ case (1 ∷ 0 ∷ 0 ∷ 0 ∷ 0 ∷ 0 ∷ 192 ∷ 127 ∷ 0 ∷ 0 ∷ 16 ∷ 192 ∷ 0 ∷ 0 ∷ 72 ∷ 64 ∷ 0 ∷ 0 ∷ 0 ∷ 128 ∷ 204 ∷ 113 ∷ 5 ∷ 0 ∷ 0 ∷ 0 ∷ 224 ∷ 64 ∷ 210 ∷ 113 ∷ 253 ∷ 64 ∷ []) 0 0 0 0 22
    -- 23: kinds 0, 4 and 9; a vertex after a triangle, and before 27
    ∷ case (9 ∷ 0 ∷ 0 ∷ 0 ∷ 0 ∷ 0 ∷ 192 ∷ 63 ∷ 0 ∷ 0 ∷ 16 ∷ 192 ∷ 0 ∷ 0 ∷ 72 ∷ 64 ∷ 0 ∷ 0 ∷ 0 ∷ 128 ∷ 204 ∷ 113 ∷ 5 ∷ 0 ∷ 0 ∷ 0 ∷ 224 ∷ 64 ∷ 213 ∷ 113 ∷ 253 ∷ 0 ∷ []) 0 0 0 0 23
    ∷ case (0 ∷ 0 ∷ 0 ∷ 0 ∷ 0 ∷ 0 ∷ 0 ∷ 0 ∷ 0 ∷ 0 ∷ 0 ∷ 0 ∷ 0 ∷ 0 ∷ 0 ∷ 0 ∷ 0 ∷ 0 ∷ 0 ∷ 0 ∷ 0 ∷ 0 ∷ 0 ∷ 0 ∷ 0 ∷ 0 ∷ 0 ∷ 0 ∷ 0 ∷ 0 ∷ 0 ∷ 0 ∷ []) 0 0 0 0 23
    ∷ case (4 ∷ 0 ∷ 0 ∷ 0 ∷ 0 ∷ 0 ∷ 0 ∷ 0 ∷ 0 ∷ 0 ∷ 0 ∷ 0 ∷ 0 ∷ 0 ∷ 0 ∷ 0 ∷ 0 ∷ 0 ∷ 0 ∷ 0 ∷ 0 ∷ 0 ∷ 0 ∷ 0 ∷ 0 ∷ 0 ∷ 0 ∷ 0 ∷ 4 ∷ 0 ∷ 0 ∷ 0 ∷ []) 0 0 0 0 23
    ∷ case (1 ∷ 0 ∷ 0 ∷ 0 ∷ 0 ∷ 0 ∷ 192 ∷ 63 ∷ 0 ∷ 0 ∷ 16 ∷ 192 ∷ 0 ∷ 0 ∷ 72 ∷ 64 ∷ 0 ∷ 0 ∷ 0 ∷ 128 ∷ 204 ∷ 113 ∷ 5 ∷ 0 ∷ 0 ∷ 0 ∷ 224 ∷ 64 ∷ 205 ∷ 113 ∷ 253 ∷ 0 ∷ []) 0 5 1 0 23
    ∷ case (1 ∷ 0 ∷ 0 ∷ 0 ∷ 0 ∷ 0 ∷ 192 ∷ 127 ∷ 0 ∷ 0 ∷ 16 ∷ 192 ∷ 0 ∷ 0 ∷ 72 ∷ 64 ∷ 0 ∷ 0 ∷ 0 ∷ 128 ∷ 204 ∷ 113 ∷ 5 ∷ 0 ∷ 0 ∷ 0 ∷ 224 ∷ 64 ∷ 205 ∷ 113 ∷ 253 ∷ 64 ∷ []) 0 5 1 0 23
    -- 24: each word of a triangle that should be zero
    ∷ case (2 ∷ 0 ∷ 0 ∷ 0 ∷ 0 ∷ 0 ∷ 0 ∷ 0 ∷ 3 ∷ 0 ∷ 0 ∷ 0 ∷ 4 ∷ 0 ∷ 0 ∷ 0 ∷ 1 ∷ 0 ∷ 0 ∷ 0 ∷ 0 ∷ 0 ∷ 0 ∷ 0 ∷ 0 ∷ 0 ∷ 0 ∷ 0 ∷ 10 ∷ 0 ∷ 0 ∷ 0 ∷ []) 0 5 0 0 24
    ∷ case (2 ∷ 0 ∷ 0 ∷ 0 ∷ 0 ∷ 0 ∷ 0 ∷ 0 ∷ 3 ∷ 0 ∷ 0 ∷ 0 ∷ 4 ∷ 0 ∷ 0 ∷ 0 ∷ 0 ∷ 0 ∷ 0 ∷ 0 ∷ 1 ∷ 0 ∷ 0 ∷ 0 ∷ 0 ∷ 0 ∷ 0 ∷ 0 ∷ 10 ∷ 0 ∷ 0 ∷ 0 ∷ []) 0 5 0 0 24
    ∷ case (2 ∷ 0 ∷ 0 ∷ 0 ∷ 0 ∷ 0 ∷ 0 ∷ 0 ∷ 3 ∷ 0 ∷ 0 ∷ 0 ∷ 4 ∷ 0 ∷ 0 ∷ 0 ∷ 0 ∷ 0 ∷ 0 ∷ 0 ∷ 0 ∷ 0 ∷ 0 ∷ 0 ∷ 1 ∷ 0 ∷ 0 ∷ 0 ∷ 10 ∷ 0 ∷ 0 ∷ 0 ∷ []) 0 5 0 0 24
    -- before 26
    ∷ case (2 ∷ 0 ∷ 0 ∷ 0 ∷ 0 ∷ 0 ∷ 0 ∷ 0 ∷ 5 ∷ 0 ∷ 0 ∷ 0 ∷ 4 ∷ 0 ∷ 0 ∷ 0 ∷ 0 ∷ 0 ∷ 0 ∷ 0 ∷ 0 ∷ 0 ∷ 0 ∷ 128 ∷ 0 ∷ 0 ∷ 0 ∷ 0 ∷ 11 ∷ 0 ∷ 0 ∷ 128 ∷ []) 0 5 0 0 24
    -- each word of a closing record that should be zero
    ∷ case (3 ∷ 0 ∷ 0 ∷ 0 ∷ 5 ∷ 0 ∷ 0 ∷ 0 ∷ 7 ∷ 0 ∷ 0 ∷ 0 ∷ 1 ∷ 0 ∷ 0 ∷ 0 ∷ 0 ∷ 0 ∷ 0 ∷ 0 ∷ 0 ∷ 0 ∷ 0 ∷ 0 ∷ 0 ∷ 0 ∷ 0 ∷ 0 ∷ 16 ∷ 0 ∷ 0 ∷ 0 ∷ []) 0 5 7 0 24
    ∷ case (3 ∷ 0 ∷ 0 ∷ 0 ∷ 5 ∷ 0 ∷ 0 ∷ 0 ∷ 7 ∷ 0 ∷ 0 ∷ 0 ∷ 0 ∷ 0 ∷ 0 ∷ 0 ∷ 1 ∷ 0 ∷ 0 ∷ 0 ∷ 0 ∷ 0 ∷ 0 ∷ 0 ∷ 0 ∷ 0 ∷ 0 ∷ 0 ∷ 16 ∷ 0 ∷ 0 ∷ 0 ∷ []) 0 5 7 0 24
    ∷ case (3 ∷ 0 ∷ 0 ∷ 0 ∷ 5 ∷ 0 ∷ 0 ∷ 0 ∷ 7 ∷ 0 ∷ 0 ∷ 0 ∷ 0 ∷ 0 ∷ 0 ∷ 0 ∷ 0 ∷ 0 ∷ 0 ∷ 0 ∷ 1 ∷ 0 ∷ 0 ∷ 0 ∷ 0 ∷ 0 ∷ 0 ∷ 0 ∷ 16 ∷ 0 ∷ 0 ∷ 0 ∷ []) 0 5 7 0 24
    ∷ case (3 ∷ 0 ∷ 0 ∷ 0 ∷ 5 ∷ 0 ∷ 0 ∷ 0 ∷ 7 ∷ 0 ∷ 0 ∷ 0 ∷ 0 ∷ 0 ∷ 0 ∷ 0 ∷ 0 ∷ 0 ∷ 0 ∷ 0 ∷ 0 ∷ 0 ∷ 0 ∷ 0 ∷ 1 ∷ 0 ∷ 0 ∷ 0 ∷ 16 ∷ 0 ∷ 0 ∷ 0 ∷ []) 0 5 7 0 24
    -- before 25 and 28
    ∷ case (3 ∷ 0 ∷ 0 ∷ 0 ∷ 7 ∷ 0 ∷ 0 ∷ 0 ∷ 5 ∷ 0 ∷ 0 ∷ 0 ∷ 0 ∷ 0 ∷ 0 ∷ 0 ∷ 1 ∷ 0 ∷ 0 ∷ 0 ∷ 0 ∷ 0 ∷ 0 ∷ 0 ∷ 0 ∷ 0 ∷ 0 ∷ 0 ∷ 16 ∷ 0 ∷ 0 ∷ 0 ∷ 0 ∷ []) 0 5 7 0 24
    -- 25: the counts exchanged; the vertices alone; the triangles alone; and before 28
    ∷ case (3 ∷ 0 ∷ 0 ∷ 0 ∷ 7 ∷ 0 ∷ 0 ∷ 0 ∷ 5 ∷ 0 ∷ 0 ∷ 0 ∷ 0 ∷ 0 ∷ 0 ∷ 0 ∷ 0 ∷ 0 ∷ 0 ∷ 0 ∷ 0 ∷ 0 ∷ 0 ∷ 0 ∷ 0 ∷ 0 ∷ 0 ∷ 0 ∷ 15 ∷ 0 ∷ 0 ∷ 0 ∷ []) 0 5 7 0 25
    ∷ case (3 ∷ 0 ∷ 0 ∷ 0 ∷ 5 ∷ 0 ∷ 0 ∷ 0 ∷ 8 ∷ 0 ∷ 0 ∷ 0 ∷ 0 ∷ 0 ∷ 0 ∷ 0 ∷ 0 ∷ 0 ∷ 0 ∷ 0 ∷ 0 ∷ 0 ∷ 0 ∷ 0 ∷ 0 ∷ 0 ∷ 0 ∷ 0 ∷ 16 ∷ 0 ∷ 0 ∷ 0 ∷ []) 0 5 7 0 25
    ∷ case (3 ∷ 0 ∷ 0 ∷ 0 ∷ 4 ∷ 0 ∷ 0 ∷ 0 ∷ 7 ∷ 0 ∷ 0 ∷ 0 ∷ 0 ∷ 0 ∷ 0 ∷ 0 ∷ 0 ∷ 0 ∷ 0 ∷ 0 ∷ 0 ∷ 0 ∷ 0 ∷ 0 ∷ 0 ∷ 0 ∷ 0 ∷ 0 ∷ 14 ∷ 0 ∷ 0 ∷ 0 ∷ []) 0 5 7 0 25
    ∷ case (3 ∷ 0 ∷ 0 ∷ 0 ∷ 5 ∷ 0 ∷ 0 ∷ 0 ∷ 8 ∷ 0 ∷ 0 ∷ 0 ∷ 0 ∷ 0 ∷ 0 ∷ 0 ∷ 0 ∷ 0 ∷ 0 ∷ 0 ∷ 0 ∷ 0 ∷ 0 ∷ 0 ∷ 0 ∷ 0 ∷ 0 ∷ 0 ∷ 16 ∷ 0 ∷ 0 ∷ 0 ∷ 0 ∷ []) 0 5 7 0 25
    -- 26: each index, one past the last
    ∷ case (2 ∷ 0 ∷ 0 ∷ 0 ∷ 5 ∷ 0 ∷ 0 ∷ 0 ∷ 3 ∷ 0 ∷ 0 ∷ 0 ∷ 4 ∷ 0 ∷ 0 ∷ 0 ∷ 0 ∷ 0 ∷ 0 ∷ 0 ∷ 0 ∷ 0 ∷ 0 ∷ 0 ∷ 0 ∷ 0 ∷ 0 ∷ 0 ∷ 14 ∷ 0 ∷ 0 ∷ 0 ∷ []) 0 5 0 0 26
    ∷ case (2 ∷ 0 ∷ 0 ∷ 0 ∷ 0 ∷ 0 ∷ 0 ∷ 0 ∷ 5 ∷ 0 ∷ 0 ∷ 0 ∷ 4 ∷ 0 ∷ 0 ∷ 0 ∷ 0 ∷ 0 ∷ 0 ∷ 0 ∷ 0 ∷ 0 ∷ 0 ∷ 0 ∷ 0 ∷ 0 ∷ 0 ∷ 0 ∷ 11 ∷ 0 ∷ 0 ∷ 0 ∷ []) 0 5 0 0 26
    ∷ case (2 ∷ 0 ∷ 0 ∷ 0 ∷ 0 ∷ 0 ∷ 0 ∷ 0 ∷ 3 ∷ 0 ∷ 0 ∷ 0 ∷ 5 ∷ 0 ∷ 0 ∷ 0 ∷ 0 ∷ 0 ∷ 0 ∷ 0 ∷ 0 ∷ 0 ∷ 0 ∷ 0 ∷ 0 ∷ 0 ∷ 0 ∷ 0 ∷ 10 ∷ 0 ∷ 0 ∷ 0 ∷ []) 0 5 0 0 26
    -- 27: each float not a number, or infinite
    ∷ case (1 ∷ 0 ∷ 0 ∷ 0 ∷ 0 ∷ 0 ∷ 192 ∷ 127 ∷ 0 ∷ 0 ∷ 16 ∷ 192 ∷ 0 ∷ 0 ∷ 72 ∷ 64 ∷ 0 ∷ 0 ∷ 0 ∷ 128 ∷ 204 ∷ 113 ∷ 5 ∷ 0 ∷ 0 ∷ 0 ∷ 224 ∷ 64 ∷ 205 ∷ 113 ∷ 253 ∷ 64 ∷ []) 0 0 0 0 27
    ∷ case (1 ∷ 0 ∷ 0 ∷ 0 ∷ 0 ∷ 0 ∷ 192 ∷ 63 ∷ 0 ∷ 0 ∷ 128 ∷ 255 ∷ 0 ∷ 0 ∷ 72 ∷ 64 ∷ 0 ∷ 0 ∷ 0 ∷ 128 ∷ 204 ∷ 113 ∷ 5 ∷ 0 ∷ 0 ∷ 0 ∷ 224 ∷ 64 ∷ 205 ∷ 113 ∷ 109 ∷ 64 ∷ []) 0 0 0 0 27
    ∷ case (1 ∷ 0 ∷ 0 ∷ 0 ∷ 0 ∷ 0 ∷ 192 ∷ 63 ∷ 0 ∷ 0 ∷ 16 ∷ 192 ∷ 0 ∷ 0 ∷ 192 ∷ 127 ∷ 0 ∷ 0 ∷ 0 ∷ 128 ∷ 204 ∷ 113 ∷ 5 ∷ 0 ∷ 0 ∷ 0 ∷ 224 ∷ 64 ∷ 205 ∷ 113 ∷ 117 ∷ 64 ∷ []) 0 0 0 0 27
    ∷ case (1 ∷ 0 ∷ 0 ∷ 0 ∷ 0 ∷ 0 ∷ 192 ∷ 63 ∷ 0 ∷ 0 ∷ 16 ∷ 192 ∷ 0 ∷ 0 ∷ 72 ∷ 64 ∷ 0 ∷ 0 ∷ 128 ∷ 255 ∷ 204 ∷ 113 ∷ 5 ∷ 0 ∷ 0 ∷ 0 ∷ 224 ∷ 64 ∷ 205 ∷ 113 ∷ 125 ∷ 128 ∷ []) 0 0 0 0 27
    ∷ case (1 ∷ 0 ∷ 0 ∷ 0 ∷ 0 ∷ 0 ∷ 192 ∷ 63 ∷ 0 ∷ 0 ∷ 16 ∷ 192 ∷ 0 ∷ 0 ∷ 72 ∷ 64 ∷ 0 ∷ 0 ∷ 0 ∷ 128 ∷ 0 ∷ 0 ∷ 192 ∷ 127 ∷ 0 ∷ 0 ∷ 224 ∷ 64 ∷ 1 ∷ 0 ∷ 184 ∷ 128 ∷ []) 0 0 0 0 27
    ∷ case (1 ∷ 0 ∷ 0 ∷ 0 ∷ 0 ∷ 0 ∷ 192 ∷ 63 ∷ 0 ∷ 0 ∷ 16 ∷ 192 ∷ 0 ∷ 0 ∷ 72 ∷ 64 ∷ 0 ∷ 0 ∷ 0 ∷ 128 ∷ 204 ∷ 113 ∷ 5 ∷ 0 ∷ 0 ∷ 0 ∷ 128 ∷ 255 ∷ 205 ∷ 113 ∷ 157 ∷ 191 ∷ []) 0 0 0 0 27
    -- 28: a byte after the closing record; of a vertex or a triangle that is no fault
    ∷ case (3 ∷ 0 ∷ 0 ∷ 0 ∷ 5 ∷ 0 ∷ 0 ∷ 0 ∷ 7 ∷ 0 ∷ 0 ∷ 0 ∷ 0 ∷ 0 ∷ 0 ∷ 0 ∷ 0 ∷ 0 ∷ 0 ∷ 0 ∷ 0 ∷ 0 ∷ 0 ∷ 0 ∷ 0 ∷ 0 ∷ 0 ∷ 0 ∷ 15 ∷ 0 ∷ 0 ∷ 0 ∷ 0 ∷ []) 0 5 7 0 28
    ∷ case (1 ∷ 0 ∷ 0 ∷ 0 ∷ 0 ∷ 0 ∷ 192 ∷ 63 ∷ 0 ∷ 0 ∷ 16 ∷ 192 ∷ 0 ∷ 0 ∷ 72 ∷ 64 ∷ 0 ∷ 0 ∷ 0 ∷ 128 ∷ 204 ∷ 113 ∷ 5 ∷ 0 ∷ 0 ∷ 0 ∷ 224 ∷ 64 ∷ 205 ∷ 113 ∷ 253 ∷ 0 ∷ 0 ∷ []) 0 0 0 1 0
    ∷ case (2 ∷ 0 ∷ 0 ∷ 0 ∷ 0 ∷ 0 ∷ 0 ∷ 0 ∷ 3 ∷ 0 ∷ 0 ∷ 0 ∷ 4 ∷ 0 ∷ 0 ∷ 0 ∷ 0 ∷ 0 ∷ 0 ∷ 0 ∷ 0 ∷ 0 ∷ 0 ∷ 0 ∷ 0 ∷ 0 ∷ 0 ∷ 0 ∷ 9 ∷ 0 ∷ 0 ∷ 0 ∷ 3 ∷ 0 ∷ 0 ∷ 0 ∷ 5 ∷ 0 ∷ 0 ∷ 0 ∷ 7 ∷ 0 ∷ 0 ∷ 0 ∷ 0 ∷ 0 ∷ 0 ∷ 0 ∷ 0 ∷ 0 ∷ 0 ∷ 0 ∷ 0 ∷ 0 ∷ 0 ∷ 0 ∷ 0 ∷ 0 ∷ 0 ∷ 0 ∷ 15 ∷ 0 ∷ 0 ∷ 0 ∷ []) 0 5 0 2 0
    ∷ []

-- no entry of the table fails
pub none-fails : keep (λ (k : Case). not (passes k)) cases ≡ []
unfolding keep word_at total sum_of bad_sum bad_kind bad_zero bad_counts bad_index finite bad_float bad_end fault_of found_at odd of_fields of_bits
none-fails = refl

-- "21 cut file" to "30 [..] lists not in threes": each refusal has the request's number
pub refusals-are :
    map number_of_refusal
    (CutFile ∷ BadSum ∷ BadKind ∷ NotZero ∷ WrongCounts ∷ IndexWithoutVertex ∷ FloatNotFinite ∷ BytesAfterClosing ∷ ShortRoom ∷ BadLists ∷ [])
    ≡ 21 ∷ 22 ∷ 23 ∷ 24 ∷ 25 ∷ 26 ∷ 27 ∷ 28 ∷ 29 ∷ 30 ∷ []
refusals-are = refl

-- and the answer is 0 where nothing is refused
pub answers-are : (answer_of (Ok (tt {0})) ≡ 0) × (answer_of {A = ℕ} (Err ShortRoom) ≡ 29)
answers-are = (refl, refl)
