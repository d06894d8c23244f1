-- The negative corners of a cell's side, and whether a cell of a row is a surface cell, by the two layers of distances that hold its corners.
-- Definitions only. Assumes nothing.
use Rattle.std.specs.Prelude.{ℕ, ◌+◌, Bool, List, Float}
use Rattle.lists.specs.Lists.{one}
use Rattle.rules.specs.Cell.{negative, surface}
use Rattle.grid.specs.declared.corners.Side.{Side}
use Rattle.grid.specs.Corners.{side_between, eight_of}

abbrev pub side_negatives : Side → ℕ
side_negatives s = one (negative s.a) + one (negative s.b) + one (negative s.c) + one (negative s.d)

-- whether the j-th cell of a row is a surface cell, `at` being the place of the row's first corner in its layer
abbrev pub surface_at : List Float → List Float → ℕ → ℕ → ℕ → Bool
surface_at lower upper at row j = surface (eight_of (side_between lower upper (at + j) row) (side_between lower upper (at + j + 1) row))
