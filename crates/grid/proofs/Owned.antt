-- Ownership of an edge from a cell's lowest corner: the test that it is a cell passes. Assumes nothing.
use mathlib.Core.Bool.{Bool, true, false, ◌&&◌}
use mathlib.Core.Path.{◌≡◌, refl}
use lib.Dec.{T}
use Rattle.rules.specs.Grid.{GridPoint, Axis, Box, is_cell}
use Rattle.rules.specs.Faces.{Flags, edge, owned, axis_b, axis_c, above_low, inside_max}

passed : (a b : Bool) → T a → a && b ≡ b
passed true b t = refl
passed false b t = absurd t

pub owned-cell : (b : Box) (m : Flags) (a : Axis) (p : GridPoint) → T (is_cell b p) → owned b m (edge a p) ≡
    (above_low (axis_b a) b p && (above_low (axis_c a) b p && inside_max a b m p))
unfolding owned
owned-cell b m a p t = passed (is_cell b p) (above_low (axis_b a) b p && (above_low (axis_c a) b p && inside_max a b m p)) t
