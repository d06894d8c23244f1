-- A column of two points inside, computed by the kernel from the definitions, in numbers that a second program worked out from the distances: the three layers' weights,
-- of which two are below zero, the whole's, and the volume's own sum, which it is since the skin has no hole. Assumes nothing.
use Prim.Native.Nat.{ℕ}
use mathlib.Core.Bool.{true, false, cond, ◌||◌}
use mathlib.Core.List.{map}
use mathlib.Core.Path.{◌≡◌, refl}
use lib.Count.{count_trailing_zeros}
use lib.Dec.{eqb}
use lib.IntN.{pos, negsuc}
use lib.Ieee.{fin, add, sub, mul, div, lt, of_int, round, size, units, odd, neg, sum, span, climb}
use Rattle.lists.specs.Lists.{run, up_to, keep, many, some, joined, place}
use Rattle.rules.specs.Grid.{GridPoint, Box, Field, index}
use Rattle.rules.specs.Cell.{one32, fraction, point_between, crossing_point, crossing_points, summed, crossings, centroid, position}
use Rattle.rules.specs.Vertices.{row_cells, layer_cells, layer_vertices, vertices, first_vertex, vertex_position}
use Rattle.rules.specs.Faces.{all_three, owned, changes, cell_edges, layer_edges, edges, shorter, face_cells, layer_indices, indices}
use Rattle.rules.specs.Call.{flat_vectors}
use Rattle.volume.specs.Steps.{past, steps}
use Rattle.volume.specs.Volume.{determinant, sum_over, sixfold}
use Rattle.weigh.specs.Sums.{shadow_of, pillar_of, sum_of}
use Rattle.weigh.specs.Words.{high_of, low_of}
use Rattle.weigh.specs.Answers.{Answer, some_wide, told, weight}
use Rattle.weighed_bed.specs.Layered.{layer_positions, layer_first, layer_triangles}

abbrev point : ℕ → ℕ → ℕ → GridPoint
point x y z = record { x = x; y = y; z = z }

opened : Unit {0}
unfolding run up_to keep many some joined place fraction point_between crossing_point crossing_points summed crossings centroid position row_cells layer_cells layer_vertices vertices
    first_vertex owned changes cell_edges layer_edges edges shorter face_cells layer_indices indices add sub mul div lt of_int round size units odd neg sum span climb count_trailing_zeros
    steps determinant sum_over shadow_of pillar_of sum_of high_of low_of past some_wide weight
opened = tt

-- dimensions 4, 4, 5, 1.0 but for -1.0 at (1,1,1) and (1,1,2), box to (3,3,4)
abbrev column : Field
column =
    record {
      dims = point 4 4 5;
      dist = λ i. cond (eqb i (index (point 4 4 5) (point 1 1 1)) || eqb i (index (point 4 4 5) (point 1 1 2))) (fin true 1 (pos 0)) one32;
    }

abbrev box_to4 : Box
box_to4 = record { low = point 0 0 0; high = point 3 3 4 }

abbrev layer_weight : ℕ → Answer
layer_weight z = weight (layer_positions column box_to4 z) (layer_first column box_to4 z) (layer_triangles column box_to4 (all_three false) z)

-- the floor of the column: 213 steps high, 85 by 85 wide, facing down
pub lowest : layer_weight 0 ≡ told 0 18446744073700318066 (negsuc 0) (negsuc 14449)
unfolding opened
lowest = refl

-- its sides, which lean out
pub middle : layer_weight 1 ≡ told 0 18446744073692831668 (negsuc 0) (negsuc 18317)
unfolding opened
middle = refl

-- and above: the sides lean in, and the top; its vertices are numbered from 8 on, those below it from 4 on
pub highest : (layer_first column box_to4 2 ≡ 4) × (layer_weight 2 ≡ told 0 49474996 (pos 0) (pos 32768))
unfolding opened
highest = (refl, refl)

-- -9,233,550 - 16,719,948 + 49,474,996; seen from above the areas cancel
pub whole : weight (flat_vectors (map (vertex_position column) (vertices column box_to4))) 0 (indices column box_to4 (all_three false)) ≡ told 0 23521498 (pos 0) (pos 0)
unfolding opened
whole = refl

pub volume-too : sixfold (flat_vectors (map (vertex_position column) (vertices column box_to4))) (indices column box_to4 (all_three false)) ≡ pos 23521498
unfolding opened
volume-too = refl
