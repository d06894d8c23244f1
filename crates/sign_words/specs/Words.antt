-- Words of 64 bits as answers of a test: bit i of a word is the test's answer at a place and i further on. A cell is told from the words of the four
-- lines of points along it, and these moved on by one. Definitions only. Assumes nothing.
use Rattle.std.specs.Prelude.{ℕ, zero, suc, ◌+◌, ◌-◌, ◌*◌, ◌/◌, ◌%◌, ◌≤◌, ◌<◌, Bool, cond, List, [], ◌∷◌, map, ◌≡◌, ltb, length, get_or}
use Rattle.std.specs.Int.Bits.{bit_and, bit_or}
use Rattle.lists.specs.Lists.{one, up_to}
use Rattle.sign_words.specs.declared.Lines.{Lines}
use Rattle.sign_words.specs.declared.Ends.{Ends}

-- n answers of a test from p on, the first in the lowest bit
unfoldable pub word : (ℕ → Bool) → ℕ → ℕ → ℕ
word f p zero = 0
word f p (suc n) = word f (suc p) n * 2 + one (f p)

-- the words `first` to `first + n` of a test's answers
abbrev pub words_of : (ℕ → Bool) → ℕ → ℕ → List ℕ
words_of f first n = map (λ (i : ℕ). word f (64 * i) 64) (up_to first (first + n))

-- the places of the bits that are set among n, the lowest having the place p
unfoldable pub places : ℕ → ℕ → ℕ → List ℕ
places p zero w = []
places p (suc n) w = cond (ltb 0 (w % 2)) (p ∷ places (suc p) n (w / 2)) (places (suc p) n (w / 2))

-- a word moved on by one: each bit is its next one, the last that of the next word
abbrev pub onward_of : ℕ → ℕ → ℕ
onward_of w next = bit_or (w / 2) (next * 9223372036854775808 % 18446744073709551616)

-- the word i of "below n"
abbrev pub below_mask : ℕ → ℕ → ℕ
below_mask n i = word (λ (j : ℕ). ltb j n) (64 * i) 64

-- of four words: where some has its bit set, and where all have
abbrev pub ends_of : ℕ → ℕ → ℕ → ℕ → Ends
ends_of a b c d = record { some = bit_or (bit_or a b) (bit_or c d); all = bit_and (bit_and a b) (bit_and c d) }

-- those of the words of four lines, each i words on
abbrev pub ends_at : List ℕ → Lines → ℕ → Ends
ends_at words l i =
    ends_of (get_or words (l.near + i) 0) (get_or words (l.far + i) 0) (get_or words (l.near_up + i) 0) (get_or words (l.far_up + i) 0)

-- the cells of which some corner is negative and not all are, by the points at their lower ends and the next 64
abbrev pub mixed_of : Ends → Ends → ℕ
mixed_of f next =
    bit_and (bit_or f.some (onward_of f.some next.some))
    (18446744073709551615 - bit_and f.all (onward_of f.all next.all))

-- n words of a test's answers, from word `first` on, stand in a list from a place on
pub record Held (words : List ℕ) (at : ℕ) (f : ℕ → Bool) (first n : ℕ) : Type 0 where
  pub holds : at + n ≤ length words
  pub each : (i : ℕ) → i < n → get_or words (at + i) 0 ≡ word f (64 * (first + i)) 64
