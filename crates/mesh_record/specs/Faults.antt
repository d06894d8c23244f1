-- Document 02, request 2: the faults of one record, "in one record the lowest number", and what reading finds at a place. Definitions only.
-- Assumes nothing.
use Rattle.std.specs.Prelude.{◌≡◌, ℕ, ◌+◌, Bool, true, false, cond, not, ◌&&◌, ◌||◌, ◌⊎◌, Result, Ok, Err, List, [], ◌∷◌, length, ◌==◌, from_bits, nat_lt, Float}
use Rattle.std.specs.Float.{nan, inf, fin, binary32}
use Rattle.mesh_record.specs.Record.{word_at, sum_of}
use Rattle.mesh_record.specs.declared.Words.{Words}
use Rattle.mesh_record.specs.declared.Counts.{Counts}
use Rattle.mesh_record.specs.declared.Step.{Step}
use Rattle.mesh_record.specs.declared.Step.TheVariants.{Vertex, Triangle, Closed}
use Rattle.mesh_record.specs.declared.refusal.Refusal.{Refusal}
use Rattle.mesh_record.specs.declared.refusal.Refusal.TheVariants.{BadKind}
use Rattle.mesh_record.specs.Refusal.{number_of_refusal}

-- ---- the faults of one record, by its eight words and by what was seen before it

abbrev pub words_at : List ℕ → ℕ → Words
words_at f at =
    record {
      kind = word_at f at;
      a = word_at f (at + 4);
      b = word_at f (at + 8);
      c = word_at f (at + 12);
      d = word_at f (at + 16);
      e = word_at f (at + 20);
      f = word_at f (at + 24);
      sum = word_at f (at + 28);
    }

-- 21: "cut file"
abbrev pub cut : List ℕ → ℕ → Bool
cut f at = nat_lt (length f) (at + 32)

-- 22: "bad sum"
unfoldable pub bad_sum : Words → Bool
bad_sum w = not (w.sum == sum_of (w.kind ∷ w.a ∷ w.b ∷ w.c ∷ w.d ∷ w.e ∷ w.f ∷ []))

-- 23: "bad kind or order": a vertex comes before all triangles
unfoldable pub bad_kind : ℕ → ℕ → Bool
bad_kind kind triangles = (kind == 1 && not (triangles == 0)) || (not (kind == 1) && not (kind == 2) && not (kind == 3))

-- 24: "a word that should be zero"
abbrev pub all_zero : ℕ → ℕ → ℕ → ℕ → Bool
all_zero a b c d = a == 0 && b == 0 && c == 0 && d == 0

unfoldable pub bad_zero : Words → Bool
bad_zero w = (w.kind == 2 && not (all_zero 0 w.d w.e w.f)) || (w.kind == 3 && not (all_zero w.c w.d w.e w.f))

-- 25: "wrong counts"
unfoldable pub bad_counts : Words → Counts → Bool
bad_counts w s = w.kind == 3 && not (w.a == s.vertices && w.b == s.triangles)

-- 26: "an index without its vertex"
unfoldable pub bad_index : Words → ℕ → Bool
bad_index w v = w.kind == 2 && not (nat_lt w.a v && nat_lt w.b v && nat_lt w.c v)

-- 27: "a float that is not finite"
unfoldable pub finite : Float → Bool
finite nan = false
finite (inf s) = false
finite (fin s m e) = true

abbrev pub finite_bits : ℕ → Bool
finite_bits w = finite (from_bits binary32 w)

abbrev pub three_finite : ℕ → ℕ → ℕ → Bool
three_finite a b c = finite_bits a && finite_bits b && finite_bits c

unfoldable pub bad_float : Words → Bool
bad_float w = w.kind == 1 && not (three_finite w.a w.b w.c && three_finite w.d w.e w.f)

-- 28: "bytes after the closing record"
unfoldable pub bad_end : Words → Bool → Bool
bad_end w more = w.kind == 3 && more

-- "in one record the lowest number"; 0 for a good record
unfoldable pub fault_of : Words → Counts → Bool → ℕ
fault_of w s more =
    cond (bad_sum w) 22
    (cond (bad_kind w.kind s.triangles) 23
    (cond (bad_zero w) 24
    (cond (bad_counts w s) 25
    (cond (bad_index w s.vertices) 26
    (cond (bad_float w) 27
    (cond (bad_end w more) 28 0))))))

-- ---- one record

-- what reading finds at a place, in the request's numbers: a good record's kind, 1 to 3, and fault 0; or kind 0 and the number of the fault
pub record Found : Type 0 where
  pub kind : ℕ
  pub fault : ℕ

abbrev pub good : ℕ → Found
good kind = record { kind = kind; fault = 0 }

abbrev pub faulty : ℕ → Found
faulty fault = record { kind = 0; fault = fault }

-- those numbers for each case of the code's enums
abbrev pub numbers_of : Result Step Refusal → Found
numbers_of (Ok Vertex) = good 1
numbers_of (Ok Triangle) = good 2
numbers_of (Ok Closed) = good 3
numbers_of (Err r) = faulty (number_of_refusal r)

-- "Vertex: 1", "Triangle: 2", "Closing: 3", and no other
abbrev pub step_of : ℕ → Result Step Refusal
step_of kind = cond (kind == 1) (Ok Vertex) (cond (kind == 2) (Ok Triangle) (cond (kind == 3) (Ok Closed) (Err BadKind)))

abbrev pub Known : ℕ → Type 0
Known kind = (kind ≡ 1) ⊎ ((kind ≡ 2) ⊎ (kind ≡ 3))

abbrev pub found_of : ℕ → ℕ → Found
found_of fault kind = cond (fault == 0) (good kind) (faulty fault)

-- what reading finds at a place of a file, after so many vertices and triangles
unfoldable pub found_at : List ℕ → ℕ → Counts → Found
found_at f at s = cond (cut f at) (faulty 21) (found_of (fault_of (words_at f at) s (nat_lt (at + 32) (length f))) (word_at f at))

abbrev pub seen : ℕ → ℕ → Counts
seen v t = record { vertices = v; triangles = t }
