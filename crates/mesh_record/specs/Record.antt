-- Document 02, request 2: "records of 32 bytes, no header, eight little-endian words each", "the eighth word is the sum of the other seven
-- modulo 2^32". Definitions only. Assumes nothing.
use Rattle.std.specs.Prelude.{ℕ, zero, suc, ◌+◌, ◌*◌, ◌/◌, ◌%◌, ◌^◌, List, [], ◌∷◌, ◌++◌, length, take, drop, slice_index}
use Rattle.lists.specs.Lists.{joined}

-- the four bytes of a word, the lowest first
unfoldable pub bytes_of : ℕ → List ℕ
bytes_of w = w % 256 ∷ w / 256 % 256 ∷ w / 65536 % 256 ∷ w / 16777216 % 256 ∷ []

-- the word of the four bytes at a place of a file
unfoldable pub word_at : List ℕ → ℕ → ℕ
word_at f at = slice_index f at + 256 * slice_index f (at + 1) + 65536 * slice_index f (at + 2) + 16777216 * slice_index f (at + 3)

unfoldable pub total : List ℕ → ℕ
total [] = 0
total (w ∷ ws) = w + total ws

-- "the sum of the other seven modulo 2^32"
unfoldable pub sum_of : List ℕ → ℕ
sum_of ws = total ws % 2 ^ 32

-- the 32 bytes of seven words and their sum
unfoldable pub record_of : List ℕ → List ℕ
record_of ws = joined bytes_of (ws ++ (sum_of ws ∷ []))

-- f 0, f 1, .. f (n - 1), one after the other
unfoldable pub each : {A : Type 0} → (ℕ → List A) → ℕ → List A
each f zero = []
each f (suc n) = each f n ++ f n

-- the new numbers over those of the old list from a place on, all others kept
abbrev pub laid : {A : Type 0} → List A → ℕ → List A → List A
laid new at old = take at old ++ (new ++ drop (at + length new) old)
