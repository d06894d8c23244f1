-- The negatives of a run of distances, and of a row of points in two layers. These follow the code and stand in no contract that a user sees.
-- Definitions only. Assumes nothing.
use Rattle.std.specs.Prelude.{ℕ, ◌+◌, ◌-◌, ◌*◌, Bool, ◌||◌, List, eqb, get_or, Float}
use Rattle.std.specs.Float.{nan}
use Rattle.lists.specs.Lists.{many, run}
use Rattle.rules.specs.Grid.{Box}
use Rattle.rules.specs.Cell.{negative}
use Rattle.grid.specs.declared.Block.{Block}
use Rattle.grid.specs.Block.{box_of}

-- whether the j-th distance from p on is negative
abbrev pub negative_at : List Float → ℕ → ℕ → Bool
negative_at l p j = negative (get_or l (p + j) nan)

abbrev pub negatives_run : List Float → ℕ → ℕ → ℕ
negatives_run l p n = many (negative_at l p) (run n)

-- how many cells a row has
abbrev pub row_length : Box → ℕ
row_length b = b.high.x - b.low.x

-- where the row y of the box's points begins in a layer, and how many points it has
abbrev pub row_start : Block → ℕ → ℕ
row_start k y = k.low.x + k.dims.x * y

abbrev pub row_points : Block → ℕ
row_points k = row_length (box_of k) + 1

-- the negatives of that row in both layers, and those of the two rows with the corners of the row y of cells
unfoldable pub row_negatives : List Float → List Float → Block → ℕ → ℕ
row_negatives lower upper k y = negatives_run lower (row_start k y) (row_points k) + negatives_run upper (row_start k y) (row_points k)

abbrev pub cells_negatives : List Float → List Float → Block → ℕ → ℕ
cells_negatives lower upper k y = row_negatives lower upper k y + row_negatives lower upper k (y + 1)

-- whether none of the points of a row's cells are negative, or all, by how many are
abbrev pub one_sign : Block → ℕ → Bool
one_sign k n = eqb n 0 || eqb n (4 * row_points k)
