-- Words computed by the kernel from the definitions: those of a test that is not alike from its two ends, the places of set bits, a word moved on into one
-- unlike it, the masks about a word's end, and the mixed cells of four lines of points. The numbers wanted were added up from powers of two, and the mixed
-- cells are those with one to seven negative corners of eight, counted by hand; none comes from these definitions or from the code. Assumes nothing.
use Prim.Native.Nat.{ℕ}
use mathlib.Core.Bool.{Bool}
use mathlib.Core.List.{List, [], ◌∷◌, map}
use mathlib.Core.Path.{◌≡◌, refl}
use lib.Dec.{eqb}
use Rattle.lists.specs.Lists.{run, up_to, some}
use Rattle.sign_words.specs.declared.Lines.{Lines}
use Rattle.sign_words.specs.Words.{word, words_of, places, onward_of, below_mask, ends_at, mixed_of}

-- a test that passes at these numbers alone
abbrev passing : ℕ → Bool
passing i = some (eqb i) (0 ∷ 1 ∷ 5 ∷ 62 ∷ 63 ∷ 64 ∷ 66 ∷ 127 ∷ 130 ∷ [])

-- 64 bits from 0, 64, 128 and 3 on; five bits from 3 on, one from 5 on, none
pub word-cases : map (λ (p : ℕ). word passing p 64) (0 ∷ 64 ∷ 128 ∷ 3 ∷ []) ≡ 13835058055282163747 ∷ 9223372036854775813 ∷ 4 ∷ 13258597302978740228 ∷ []
unfolding word some
word-cases = refl

pub short-cases : word passing 3 5 ∷ word passing 5 1 ∷ word passing 5 0 ∷ [] ≡ 4 ∷ 1 ∷ 0 ∷ []
unfolding word some
short-cases = refl

-- the second and the third word of the test
pub words-case : words_of passing 1 2 ≡ 9223372036854775813 ∷ 4 ∷ []
unfolding word some run up_to
words-case = refl

-- 83 is 64 + 16 + 2 + 1: its bits from 10 on, all seven and the lowest four
pub places-case : places 10 7 83 ≡ 10 ∷ 11 ∷ 14 ∷ 16 ∷ []
unfolding places
places-case = refl

pub places-cut : places 10 4 83 ≡ 10 ∷ 11 ∷ []
unfolding places
places-cut = refl

-- 6 goes on as 3, with a last bit if the next word is odd; the two words of the test; a whole word before an empty one
pub onward-cases : onward_of 6 2 ∷ onward_of 6 3 ∷ onward_of 13835058055282163747 9223372036854775813 ∷ onward_of 18446744073709551615 0 ∷ []
    ≡ 3 ∷ 9223372036854775811 ∷ 16140901064495857681 ∷ 9223372036854775807 ∷ []
onward-cases = refl

-- of 70 places the first word is full and the second has six; of 64 the second has none; of one place, and of none
pub mask-cases : map (below_mask 70) (0 ∷ 1 ∷ 2 ∷ []) ≡ 18446744073709551615 ∷ 63 ∷ 0 ∷ []
unfolding word
mask-cases = refl

pub mask-ends : below_mask 64 0 ∷ below_mask 64 1 ∷ below_mask 1 0 ∷ below_mask 0 0 ∷ [] ≡ 18446744073709551615 ∷ 0 ∷ 1 ∷ 0 ∷ []
unfolding word
mask-ends = refl

-- ---- four lines of 65 points, two words each: near negative at 0 to 10, far at 0 to 9 and 20, near above at 1 to 10, far above at 1 to 9 and 64

abbrev lines : List ℕ
lines = 77 ∷ 2047 ∷ 0 ∷ 1049599 ∷ 0 ∷ 77 ∷ 2046 ∷ 0 ∷ 1022 ∷ 1 ∷ []

abbrev along : Lines
along = record { near = 1; far = 3; near_up = 6; far_up = 8 }

-- some of the four at 0 to 10 and 20, and at 64; all of them at 1 to 9, and at none past 63
pub ends-cases : ends_at lines along 0 ∷ ends_at lines along 1 ∷ [] ≡ record { some = 1050623; all = 1022 } ∷ record { some = 1; all = 0 } ∷ []
ends-cases = refl

-- cells 1 to 8 have eight negative corners, 11 to 18 and 21 to 62 have none: left are 0, 9, 10, 19, 20 and 63
pub mixed-case : mixed_of (ends_at lines along 0) (ends_at lines along 1) ≡ 9223372036856350209
mixed-case = refl
