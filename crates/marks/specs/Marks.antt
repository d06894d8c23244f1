-- Marks: what a lent number holds before a call, one more for each next number, so that a number changed by mistake is seen.
-- The list of marks, when marks are kept, and a float's bits, by which floats are compared. Definitions only. Assumes nothing.
use Rattle.std.specs.Prelude.{ℕ, zero, suc, ◌+◌, ◌%◌, Bool, true, false, cond, not, ◌&&◌, ◌||◌, List, [], ◌∷◌, length, pos, ◌==◌, is_nan, nat_eq, nat_lt, to_bits, Float}
use Rattle.std.specs.Float.{fin, binary32}
use Rattle.std.specs.Float.Ieee.{add}
use Rattle.rules.specs.Grid.{GridPoint, Box, point_at, is_cell, in_box}
use Rattle.rules.specs.Vertices.{edge_entry}

-- ---- the marks

-- m, f m, f (f m), ..: so many of them
unfoldable pub marks : {A : Type 0} → (A → A) → A → ℕ → List A
marks f m zero = []
marks f m (suc n) = m ∷ marks f (f m) n

-- one more, modulo 2 ^ 32
abbrev pub next_word : ℕ → ℕ
next_word m = (m + 1) % 4294967296

abbrev pub word_marks : ℕ → ℕ → List ℕ
word_marks first n = marks next_word first n

-- 1.0 more, rounded to binary32
abbrev pub next_float : Float → Float
next_float m = add binary32 m (fin false 1 (pos 0))

abbrev pub float_marks : Float → ℕ → List Float
float_marks first n = marks next_float first n

-- ---- the bits of a float

-- its binary32 pattern, and 0x7FC00000 of not-a-number, which has no one pattern
unfoldable pub bits_of : Float → ℕ
bits_of x = cond (is_nan x) 2143289344 (to_bits binary32 x)

-- ---- marks kept

-- each element of the first list is right by its place and the mark there in the second, up to the end of either list, but for the places that are
-- skipped; the first has the place n
unfoldable pub kept_but : {A : Type 0} → (ℕ → A → A → Bool) → (ℕ → Bool) → ℕ → List A → List A → Bool
kept_but right skipped n [] ms = true
kept_but right skipped n (x ∷ xs) [] = true
kept_but right skipped n (x ∷ xs) (m ∷ ms) = (skipped n || right n x m) && kept_but right skipped (suc n) xs ms

-- from the place `from` on, by the step from a mark to the next one and the bits by which two are compared
abbrev pub kept_from : {A : Type 0} → (A → A) → (A → ℕ) → ℕ → A → List A → Bool
kept_from next bits from first xs = kept_but (λ j x m. bits x == bits m) (λ j. nat_lt j from) 0 xs (marks next first (length xs))

abbrev pub kept_words : ℕ → ℕ → List ℕ → Bool
kept_words from first xs = kept_but (λ j. nat_eq) (λ j. nat_lt j from) 0 xs (word_marks first (length xs))

abbrev pub same_bits : Float → Float → Bool
same_bits x m = bits_of x == bits_of m

abbrev pub kept_floats : ℕ → Float → List Float → Bool
kept_floats from first xs = kept_but (λ j. same_bits) (λ j. nat_lt j from) 0 xs (float_marks first (length xs))

-- whether the point at an index of a grid is the lowest corner of a cell of the box: in dimensions with a 0 there is no such point
unfoldable pub cell_at : GridPoint → Box → ℕ → Bool
cell_at dims b j = not (dims.x == 0) && (not (dims.y == 0) && is_cell b (point_at dims j))

-- the same of a point of the box
unfoldable pub box_at : GridPoint → Box → ℕ → Bool
box_at dims b j = not (dims.x == 0) && (not (dims.y == 0) && in_box b (point_at dims j))

-- the box with max so much further on each axis: 1 further, the box's points are its cells
abbrev pub reaching : ℕ → Box → Box
reaching more b = record { low = b.low; high = record { x = b.high.x + more; y = b.high.y + more; z = b.high.z + more } }

-- an entry that is no cell's, by its mark: document 02, request 7, "Points outside the box still keep theirs."
unfoldable pub no_cell_entry : GridPoint → Box → ℕ → ℕ → ℕ
no_cell_entry dims b j mark = cond (box_at dims b j) edge_entry mark

-- so at each index that is no cell's
abbrev pub kept_map : GridPoint → Box → ℕ → List ℕ → Bool
kept_map dims b first xs = kept_but (λ j x m. nat_eq x (no_cell_entry dims b j m)) (cell_at dims b) 0 xs (word_marks first (length xs))
