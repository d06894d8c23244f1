-- The cells that lie wholly in the sludge, counted from the distances alone. Definitions only. Assumes nothing.
use Rattle.std.specs.Prelude.{ℕ, Bool, eqb}
use Rattle.lists.specs.Lists.{many}
use Rattle.rules.specs.Grid.{GridPoint, Box, Field}
use Rattle.rules.specs.Cell.{negatives, values}
use Rattle.rules.specs.Vertices.{layer_cells, cells}

-- all eight corners are negative
abbrev pub all_negative : Field → GridPoint → Bool
all_negative g c = eqb (negatives (values g c)) 8

-- how many cells of the box lie wholly in the sludge, and how many of its layer z
abbrev pub whole_cells : Field → Box → ℕ
whole_cells g b = many (all_negative g) (cells b)

abbrev pub whole_in_layer : Field → Box → ℕ → ℕ
whole_in_layer g b z = many (all_negative g) (layer_cells b z)
