-- Document 02, request 14: "Refused, with volume 0, in this order: 61 lists not in threes, 62 more than 16,384 triangles, 63 any coordinate
-- not finite or not from 0 to 128 (-0.0 counts as 0), 64 an index without its vertex." Definitions only. Assumes nothing.
use Rattle.std.specs.Prelude.{ℕ, ◌/◌, ◌%◌, Bool, not, ◌||◌, cond, List, leb, ltb, eqb, ℤ, pos, length, Float, Result, Ok, Err}
use Rattle.lists.specs.Lists.{some}
use Rattle.volume.specs.Steps.{outside}
use Rattle.volume.specs.Volume.{sixfold}
use Rattle.volume.specs.declared.Refusal.{Refusal}
use Rattle.volume.specs.declared.Refusal.TheVariants.{NotThrees, TooMany, Outside, NoVertex}

-- 61, by a list's length
abbrev pub not_threes : ℕ → Bool
not_threes n = not (eqb (n % 3) 0)

-- 62, by the length of the index list
abbrev pub too_many : ℕ → Bool
too_many n = ltb 16384 (n / 3)

-- 63: every coordinate of the list, whether or not a triangle has the vertex
abbrev pub some_outside : List Float → Bool
some_outside positions = some outside positions

-- 64
abbrev pub no_vertex : ℕ → ℕ → Bool
no_vertex vertices i = leb vertices i

-- the same where the vertices are numbered from `first` to just before `end`
abbrev pub not_from : ℕ → ℕ → ℕ → Bool
not_from first end v = ltb v first || leb end v

abbrev pub some_without : List Float → List ℕ → Bool
some_without positions indices = some (no_vertex (length positions / 3)) indices

-- the answer number, and six times the volume: 0 on a refusal
pub record Weighed : Type 0 where
  pub answer : ℕ
  pub volume : ℤ

abbrev pub weighed : ℕ → ℤ → Weighed
weighed n v = record { answer = n; volume = v }

unfoldable pub weighing : List Float → List ℕ → Weighed
weighing positions indices =
    cond (not_threes (length positions) || not_threes (length indices)) (weighed 61 (pos 0))
    (cond (too_many (length indices)) (weighed 62 (pos 0))
    (cond (some_outside positions) (weighed 63 (pos 0))
    (cond (some_without positions indices) (weighed 64 (pos 0))
    (weighed 0 (sixfold positions indices)))))

-- the number of a refusal
abbrev pub number_of : Refusal → ℕ
number_of NotThrees = 61
number_of TooMany = 62
number_of Outside = 63
number_of NoVertex = 64

-- what a call gives, in numbers
abbrev pub told_by : Result ℤ Refusal → Weighed
told_by (Ok v) = weighed 0 v
told_by (Err r) = weighed (number_of r) (pos 0)
