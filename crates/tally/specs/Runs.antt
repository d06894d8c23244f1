-- What the code counts in a row, from two layers of distances: the cells with eight negative corners. This follows the code and stands in no contract that
-- another crate sees. Definitions only. Assumes nothing.
use Rattle.std.specs.Prelude.{ℕ, ◌+◌, Bool, List, eqb, Float}
use Rattle.lists.specs.Lists.{many, run}
use Rattle.rules.specs.Cell.{negatives}
use Rattle.grid.specs.Corners.{side_between, eight_of}

-- whether the j-th cell of a row has eight, `at` being the place of the row's first corner in its layer
abbrev pub whole_at : List Float → List Float → ℕ → ℕ → ℕ → Bool
whole_at lower upper at row j = eqb (negatives (eight_of (side_between lower upper (at + j) row) (side_between lower upper (at + j + 1) row))) 8

abbrev pub whole_run : List Float → List Float → ℕ → ℕ → ℕ → ℕ
whole_run lower upper at row n = many (whole_at lower upper at row) (run n)
