-- The cells before a place in their order, in a row, in a layer and in the box: the lists that the loops have passed.
-- Definitions only. Assumes nothing.
use Rattle.std.specs.Prelude.{ℕ, List, map}
use Rattle.lists.specs.Lists.{up_to, joined}
use Rattle.rules.specs.Grid.{GridPoint, Box}
use Rattle.rules.specs.Vertices.{row_cells, layer_cells}

unfoldable pub row_to : Box → ℕ → ℕ → ℕ → List GridPoint
row_to b z y x = map (λ (x' : ℕ). record { x = x'; y = y; z = z }) (up_to b.low.x x)

unfoldable pub layer_to : Box → ℕ → ℕ → List GridPoint
layer_to b z y = joined (row_cells b z) (up_to b.low.y y)

unfoldable pub box_to : Box → ℕ → List GridPoint
box_to b z = joined (layer_cells b) (up_to b.low.z z)
