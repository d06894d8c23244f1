-- The answers of the weighing. Refused, with sum and shadow 0, in this order: 61 lists not in threes, 63 any coordinate not finite or not from 0 to 16,777,216
-- (-0.0 counts as 0), 64 an index without its vertex, 75 more than 2^33 triangles, 76 a triangle whose second or third corner is more than 512 steps from its
-- first in x or in y. Definitions only. Assumes nothing.
use Rattle.std.specs.Prelude.{ℕ, ◌+◌, ◌/◌, ◌^◌, Bool, false, cond, ◌||◌, List, [], ◌∷◌, length, ℤ, pos, nat_le, nat_lt, Float, Result, Ok, Err}
use Rattle.lists.specs.Lists.{some}
use Rattle.volume.specs.declared.Corner.{Corner}
use Rattle.volume.specs.Steps.{past}
use Rattle.volume.specs.Answers.{not_threes}
use Rattle.weigh.specs.Sums.{corner_from, pillars, shadows}
use Rattle.weigh.specs.Words.{high_of, low_of, words_as}
use Rattle.weigh.specs.declared.Weight.{Weight}
use Rattle.weigh.specs.declared.Refusal.{Refusal}
use Rattle.weigh.specs.declared.Refusal.TheVariants.{NotThrees, Beyond, NoVertex, TooMany, Wide}

-- 63, of one coordinate
abbrev pub beyond : Float → Bool
beyond x = past 16777216 x

-- every coordinate of the list, whether or not a triangle has the vertex
abbrev pub some_beyond : List Float → Bool
some_beyond positions = some beyond positions

-- 64: the vertices lent are numbered from `first` on
abbrev pub no_vertex : ℕ → ℕ → ℕ → Bool
no_vertex first vertices v = nat_lt v first || nat_le (first + vertices) v

abbrev pub some_without : List Float → ℕ → List ℕ → Bool
some_without positions first indices = some (no_vertex first (length positions / 3)) indices

-- 75, by the length of the index list
abbrev pub too_many : ℕ → Bool
too_many n = nat_lt (2 ^ 33) (n / 3)

-- 76: more than 512 steps apart, whichever is larger
abbrev pub apart : ℕ → ℕ → Bool
apart m n = nat_lt (m + 512) n || nat_lt (n + 512) m

abbrev pub wide : Corner → Corner → Corner → Bool
wide a b c = (apart a.x b.x || apart a.y b.y) || (apart a.x c.x || apart a.y c.y)

unfoldable pub some_wide : (ℕ → Corner) → List ℕ → Bool
some_wide at [] = false
some_wide at (i ∷ []) = false
some_wide at (i ∷ j ∷ []) = false
some_wide at (i ∷ j ∷ k ∷ is) = wide (at i) (at j) (at k) || some_wide at is

-- an answer number, the two words of the sum, and the shadow
pub record Answer : Type 0 where
  pub answer : ℕ
  pub low : ℕ
  pub high : ℤ
  pub shadow : ℤ

abbrev pub told : ℕ → ℕ → ℤ → ℤ → Answer
told n low high shadow = record { answer = n; low = low; high = high; shadow = shadow }

abbrev pub says : ℕ → ℤ → ℤ → Answer
says n sum shadow = told n (low_of sum) (high_of sum) shadow

abbrev pub refuses : ℕ → Answer
refuses n = told n 0 (pos 0) (pos 0)

unfoldable pub weight : List Float → ℕ → List ℕ → Answer
weight positions first indices =
    cond (not_threes (length positions) || not_threes (length indices)) (refuses 61)
    (cond (some_beyond positions) (refuses 63)
    (cond (some_without positions first indices) (refuses 64)
    (cond (too_many (length indices)) (refuses 75)
    (cond (some_wide (corner_from positions first) indices) (refuses 76)
    (says 0 (pillars positions first indices) (shadows positions first indices))))))

-- the sum that an answer tells
abbrev pub sum_in : Answer → ℤ
sum_in w = words_as w.high w.low

-- the number of a refusal
abbrev pub number_of : Refusal → ℕ
number_of NotThrees = 61
number_of Beyond = 63
number_of NoVertex = 64
number_of TooMany = 75
number_of Wide = 76

-- what a call gives, in numbers
abbrev pub told_by : Result Weight Refusal → Answer
told_by (Ok w) = told 0 w.low w.high w.shadow
told_by (Err r) = refuses (number_of r)
