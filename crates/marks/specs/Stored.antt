-- Stored numbers: words of four bytes, the lowest first, and when a list begins with the first of them. Definitions only. Assumes nothing.
use Rattle.std.specs.Prelude.{ℕ, zero, suc, ◌+◌, ◌*◌, ◌/◌, Bool, true, cond, ◌&&◌, List, length, ◌==◌, nat_le, nat_lt, slice_index, slice_index_or, Float}
use Rattle.std.specs.Float.{nan}
use Rattle.marks.specs.Marks.{bits_of}

-- the word at place j of these bytes, and 0 where they hold no such word
unfoldable pub stored_word : List ℕ → ℕ → ℕ
stored_word s j = cond (nat_le (length s / 4) j) 0 (slice_index s (4 * j) + 256 * slice_index s (4 * j + 1) + 65536 * slice_index s (4 * j + 2) + 16777216 * slice_index s (4 * j + 3))

-- every number below n passes the test
unfoldable pub each_below : (ℕ → Bool) → ℕ → Bool
each_below f zero = true
each_below f (suc n) = each_below f n && f n

-- the element at a place is the stored word there, by its bits; past the end it is not
unfoldable pub place_is : {A : Type 0} → (A → ℕ) → A → List A → List ℕ → ℕ → Bool
place_is bits other xs s j = nat_lt j (length xs) && bits (slice_index_or xs j other) == stored_word s j

-- the list begins with the first n stored words: one that is shorter does not
abbrev pub words_are : List ℕ → List ℕ → ℕ → Bool
words_are xs s n = each_below (place_is (λ w. w) 0 xs s) n

abbrev pub floats_are : List Float → List ℕ → ℕ → Bool
floats_are xs s n = each_below (place_is bits_of nan xs s) n
