-- Where the wall stands, computed by the kernel from the rules alone: an open grid of 1 by 2 by 2 points, all -1.0. With the wall at 2 ^ 25 the vertices of the cells at x = 0
-- and at x = 1, whose crossings are all along x, have the position 1.0; with the wall at 2 ^ 23 the first lies 2 ^ -23 below it and the second 2 ^ -23 above, so that the law is false there. Assumes nothing.
use Prim.Native.Nat.{ℕ}
use mathlib.Core.Bool.{true, false}
use mathlib.Core.List.{[], ◌∷◌}
use mathlib.Core.Path.{◌≡◌, refl}
use lib.Count.{count_trailing_zeros}
use lib.IntN.{pos, negsuc}
use lib.Ieee.{fin, add, sub, mul, div, lt, of_int, round, size, units, odd, neg, sum, span, climb}
use Rattle.lists.specs.Lists.{keep, many}
use Rattle.rules.specs.Grid.{GridPoint, Field}
use Rattle.rules.specs.Cell.{fraction, point_between, crossing_point, crossing_points, summed, crossings, centroid, position}
use Rattle.rules.specs.Vertices.{surface_cell, vertex_position}
use Rattle.closing.specs.Closed.{open_field, closed_value, closed_field}
use Rattle.closing.specs.Wall.{wall_at}

abbrev point : ℕ → ℕ → ℕ → GridPoint
point x y z = record { x = x; y = y; z = z }

abbrev tank : Field
tank = open_field (point 1 2 2) (fin true 1 (pos 0) ∷ fin true 1 (pos 0) ∷ fin true 1 (pos 0) ∷ fin true 1 (pos 0) ∷ [])

-- 149 - 124 is 25, and 147 - 124 is 23
abbrev far : Field
far = closed_field tank (wall_at 149)

abbrev near : Field
near = closed_field tank (wall_at 147)

opened : Unit {0}
unfolding closed_value keep many fraction point_between crossing_point crossing_points summed crossings centroid position add sub mul div lt of_int round size units odd neg sum span climb
    count_trailing_zeros
opened = tt

pub far-stands :
    (surface_cell far (point 0 1 1) ≡ true)
    × ((vertex_position far (point 0 1 1)).x ≡ fin false 1 (pos 0))
    × ((vertex_position far (point 1 1 1)).x ≡ fin false 1 (pos 0))
    × ((vertex_position far (point 1 2 0)).x ≡ fin false 1 (pos 0))
    × ((vertex_position far (point 1 2 0)).y ≡ fin false 1 (pos 1))
    × ((vertex_position far (point 1 2 0)).z ≡ fin false 1 (pos 0))
unfolding opened
far-stands = (refl, refl, refl, refl, refl, refl)

-- 8388607 / 2 ^ 23 and 8388609 / 2 ^ 23
pub near-does-not :
    ((vertex_position near (point 0 1 1)).x ≡ fin false 8388607 (negsuc 22))
    × ((vertex_position near (point 1 1 1)).x ≡ fin false 8388609 (negsuc 22))
unfolding opened
near-does-not = (refl, refl)
