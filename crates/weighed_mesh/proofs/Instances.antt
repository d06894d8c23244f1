-- Request 14 on two grids, computed by the kernel from the definitions: one point inside, whose skin is a cube of 85 steps, above zero; and a face of which one
-- triangle alone folds over. Assumes nothing.
use Prim.Native.Nat.{ℕ}
use mathlib.Core.Bool.{true, false, cond}
use mathlib.Core.List.{List, [], ◌∷◌, map}
use mathlib.Core.Path.{◌≡◌, refl, ap₂, ◌∙◌}
use lib.Count.{count_trailing_zeros}
use lib.Dec.{eqb}
use lib.IntN.{ℤ, pos, negsuc}
use lib.ListN.{get_or, take, drop}
use lib.Ieee.{Float, fin, binary32, add, sub, mul, div, lt, of_int, round, size, units, odd, neg, sum, span, climb}
use Rattle.lists.specs.Lists.{run, up_to, keep, many, some, joined, place}
use Rattle.rules.specs.Grid.{GridPoint, axis_x, Box, Field, index}
use Rattle.rules.specs.Cell.{one32, fraction, point_between, crossing_point, crossing_points, summed, crossings, centroid, position}
use Rattle.rules.specs.Vertices.{row_cells, layer_cells, layer_vertices, vertices, first_vertex, vertex_position}
use Rattle.rules.specs.Faces.{edge, all_three, owned, changes, cell_edges, layer_edges, edges, shorter, face_cells, layer_indices, indices}
use Rattle.rules.specs.Call.{flat_vectors}
use Rattle.rules.specs.Cutting.{face_of, Corner as Seen}
use Rattle.volume.specs.Steps.{steps}
use Rattle.volume.specs.Volume.{determinant, sum_over, sixfold}
use Rattle.weighed_mesh.specs.Facing.{steps_of, areas, face_area}

abbrev point : ℕ → ℕ → ℕ → GridPoint
point x y z = record { x = x; y = y; z = z }

opened : Unit {0}
unfolding run up_to keep many some joined place fraction point_between crossing_point crossing_points summed crossings centroid position row_cells layer_cells layer_vertices vertices
    first_vertex owned changes cell_edges layer_edges edges shorter face_cells layer_indices indices add sub mul div lt of_int round size units odd neg sum span climb count_trailing_zeros
    steps determinant sum_over areas
opened = tt

-- ---- one point: dimensions 4, 4, 4, 1.0 but for -1.0 at (1,1,1), box to (3,3,3)

abbrev single : Field
single = record { dims = point 4 4 4; dist = λ i. cond (eqb i (index (point 4 4 4) (point 1 1 1))) (fin true 1 (pos 0)) one32 }

abbrev box_to3 : Box
box_to3 = record { low = point 0 0 0; high = point 3 3 3 }

-- 0x3F555555 and 0x3F955555: 213 and 298 steps
abbrev c : Float
c = fin false 13981013 (negsuc 23)

abbrev d : Float
d = fin false 9786709 (negsuc 22)

abbrev single_positions : List Float
single_positions =
    c ∷ c ∷ c ∷ d ∷ c ∷ c ∷ c ∷ d ∷ c ∷ d ∷ d ∷ c
    ∷ c ∷ c ∷ d ∷ d ∷ c ∷ d ∷ c ∷ d ∷ d ∷ d ∷ d ∷ d ∷ []

abbrev single_list : List ℕ
single_list =
    2 ∷ 1 ∷ 0 ∷ 2 ∷ 3 ∷ 1 ∷ 1 ∷ 4 ∷ 0 ∷ 1 ∷ 5 ∷ 4 ∷ 4 ∷ 2 ∷ 0 ∷ 4 ∷ 6 ∷ 2
    ∷ 5 ∷ 1 ∷ 3 ∷ 5 ∷ 3 ∷ 7 ∷ 3 ∷ 2 ∷ 6 ∷ 3 ∷ 6 ∷ 7 ∷ 6 ∷ 4 ∷ 5 ∷ 6 ∷ 5 ∷ 7 ∷ []

single-positions : flat_vectors (map (vertex_position single) (vertices single box_to3)) ≡ single_positions
unfolding opened
single-positions = refl

single-indices : indices single box_to3 (all_three false) ≡ single_list
unfolding opened
single-indices = refl

single_list-sum : sixfold single_positions single_list ≡ pos 3684750
unfolding opened
single_list-sum = refl

-- 6·85³: the mesher's surface faces out of the sludge, and sludge counts above zero
pub single-sum : sixfold (flat_vectors (map (vertex_position single) (vertices single box_to3))) (indices single box_to3 (all_three false)) ≡ pos 3684750
single-sum = ap₂ sixfold single-positions single-indices ∙ single_list-sum

-- its two faces on x edges: 2·85², from p1 to p2 where p1 is negative, and the other way where p2 is
pub single-areas : (face_area (face_of single (edge axis_x (point 1 1 1))) ≡ pos 14450) × (face_area (face_of single (edge axis_x (point 0 1 1))) ≡ negsuc 14449)
unfolding opened
single-areas = (refl, refl)

-- ---- a quad that is not convex: dimensions 3, 3, 3, the x edge at (0,1,1), whose p2 is negative

abbrev wild_values : List ℤ
wild_values =
    pos 8 ∷ pos 64 ∷ pos 512 ∷ pos 8 ∷ pos 4096 ∷ negsuc 4095 ∷ negsuc 63 ∷ negsuc 4095 ∷ negsuc 7
    ∷ pos 512 ∷ pos 8 ∷ pos 1 ∷ pos 1 ∷ negsuc 511 ∷ negsuc 511 ∷ negsuc 511 ∷ negsuc 0 ∷ pos 8
    ∷ negsuc 4095 ∷ negsuc 4095 ∷ negsuc 0 ∷ negsuc 511 ∷ negsuc 511 ∷ negsuc 0 ∷ pos 8 ∷ pos 64 ∷ pos 8 ∷ []

abbrev wild : Field
wild = record { dims = point 3 3 3; dist = λ i. of_int binary32 (get_or wild_values i (pos 0)) }

abbrev wild_corners : List Seen
wild_corners = (face_of wild (edge axis_x (point 0 1 1))).corners

-- the first triangle alone faces the wrong way; the two together do not
pub folded : (areas axis_x (map (λ (c : Seen). steps_of c.position) (take 3 wild_corners)) ≡ pos 4992)
    × (areas axis_x (map (λ (c : Seen). steps_of c.position) (drop 3 wild_corners)) ≡ negsuc 52651)
    × (face_area (face_of wild (edge axis_x (point 0 1 1))) ≡ negsuc 47659)
unfolding opened
folded = (refl, refl, refl)
