-- Two weights as numbers, and a full tank of 2 by 3 by 2 points meshed and weighed by the kernel from the definitions alone. The numbers are worked out by hand: 6·256³ is
-- 100663296, and there are 2·4·7, none and 1·2·1 cells. Assumes nothing.
use Prim.Native.Nat.{ℕ}
use mathlib.Core.Bool.{true, false, cond}
use mathlib.Core.Path.{◌≡◌, refl}
use lib.Count.{count_trailing_zeros}
use lib.Dec.{eqb}
use lib.IntN.{pos, negsuc}
use lib.Ieee.{fin, add, sub, mul, div, lt, of_int, round, size, units, odd, neg, sum, span, climb}
use Rattle.lists.specs.Lists.{run, up_to, keep, many, joined}
use Rattle.rules.specs.Grid.{GridPoint, Field}
use Rattle.rules.specs.Cell.{fraction, point_between, crossing_point, crossing_points, summed, crossings, centroid, position}
use Rattle.rules.specs.Vertices.{row_cells, layer_cells, cells, layer_vertices, vertices}
use Rattle.rules.specs.Faces.{all_three, owned, changes, cell_edges, layer_edges, edges, shorter, face_cells}
use Rattle.volume.specs.Steps.{steps}
use Rattle.volume.specs.Volume.{determinant}
use Rattle.closing.specs.Closed.{closed_dims, closed_value, closed_field}
use Rattle.closing.specs.Wall.{wall_at}
use Rattle.weighed_mesh.proofs.Faces.{sum_z, corners_sum, face_sum}
use Rattle.closed_bed.specs.Standing.{whole_box}
use Rattle.full_tank.specs.Tank.{full_weight}

abbrev point : ℕ → ℕ → ℕ → GridPoint
point x y z = record { x = x; y = y; z = z }

pub weights : (full_weight (point 3 5 8) ≡ 5637144576) × (full_weight (point 1 9 4) ≡ 0)
weights = (refl, refl)

opened : Unit {0}
unfolding run up_to keep many joined fraction point_between crossing_point crossing_points summed crossings centroid position row_cells layer_cells cells layer_vertices vertices owned changes
    cell_edges layer_edges edges shorter face_cells add sub mul div lt of_int round size units odd neg sum span climb count_trailing_zeros steps determinant sum_z corners_sum face_sum closed_value
opened = tt

-- -0.75 at one point, and -1.0 at the others
abbrev sludge : Field
sludge = record { dims = point 2 3 2; dist = λ (i : ℕ). cond (eqb i 5) (fin true 3 (negsuc 1)) (fin true 1 (pos 0)) }

-- the wall is 2 ^ 25
abbrev tank : Field
tank = closed_field sludge (wall_at 149)

pub tank-weight : sum_z (face_sum tank) (edges tank (whole_box (closed_dims (point 2 3 2))) (all_three false)) ≡ pos 201326592
unfolding opened
tank-weight = refl
