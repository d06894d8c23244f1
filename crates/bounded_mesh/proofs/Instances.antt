-- The counts on four grids and the volume on one, computed by the kernel from the definitions; the numbers are those of a model of the documents in another language.
-- One point in the sludge, two, a block of eight, and a block of twelve without a corner, not alike on any two axes. Assumes nothing.
use Prim.Native.Nat.{ℕ}
use mathlib.Core.Bool.{Bool, true, false, not, ◌&&◌, cond}
use mathlib.Core.List.{map}
use mathlib.Core.Path.{◌≡◌, refl, ◌∙◌}
use lib.Count.{count_trailing_zeros}
use lib.IntN.{ℤ, pos}
use lib.ListN.{length}
use lib.Ieee.{fin, add, sub, mul, div, lt, of_int, round, size, units, odd, neg, sum, span, climb}
use Rattle.lists.specs.Lists.{run, up_to, keep, many, joined}
use Rattle.rules.specs.Grid.{GridPoint, Box, Field, between, same_point, point_at}
use Rattle.rules.specs.Cell.{one32, fraction, point_between, crossing_point, crossing_points, summed, crossings, centroid, position}
use Rattle.rules.specs.Vertices.{row_cells, layer_cells, cells, layer_vertices, vertices, vertex_position}
use Rattle.rules.specs.Faces.{all_three, owned, changes, cell_edges, layer_edges, edges, shorter, face_cells, layer_points, points, changing_edges, indices}
use Rattle.rules.specs.Call.{flat_vectors}
use Rattle.volume.specs.Steps.{steps}
use Rattle.volume.specs.Volume.{determinant, sixfold}
use Rattle.weighed_mesh.proofs.Faces.{sum_z, corners_sum, face_sum, mesh-sum}
use Rattle.tally.specs.Cells.{whole_cells}

abbrev point : ℕ → ℕ → ℕ → GridPoint
point x y z = record { x = x; y = y; z = z }

opened : Unit {0}
unfolding run up_to keep many joined fraction point_between crossing_point crossing_points summed crossings centroid position row_cells layer_cells cells layer_vertices vertices owned changes
    cell_edges layer_edges edges shorter face_cells layer_points points changing_edges add sub mul div lt of_int round size units odd neg sum span climb count_trailing_zeros steps determinant sum_z corners_sum face_sum
opened = tt

-- -1.0 at the points that pass the test, and 1.0 at the others
abbrev signs : GridPoint → (GridPoint → Bool) → Field
signs dims test = record { dims = dims; dist = λ i. cond (test (point_at dims i)) (fin true 1 (pos 0)) one32 }

abbrev box_to : GridPoint → Box
box_to high = record { low = point 0 0 0; high = high }

-- what is counted: the cells wholly in the sludge, V and the number of faces
abbrev Counts : Field → Box → ℕ → ℕ → ℕ → Type 0
Counts g b a v f = (whole_cells g b ≡ a) × (length (vertices g b) ≡ v) × (changing_edges g b (all_three false) ≡ f)

-- the sum over the triangles of the rules' mesh
abbrev weight : Field → Box → ℤ
weight g b = sixfold (flat_vectors (map (vertex_position g) (vertices g b))) (indices g b (all_three false))

-- ---- one point, and two along x: the surface goes round them, and no cell lies in the sludge

pub single-counts : Counts (signs (point 4 4 4) (same_point (point 1 1 1))) (box_to (point 3 3 3)) 0 8 6
unfolding opened
single-counts = (refl, refl, refl)

pub pair-counts : Counts (signs (point 5 4 4) (λ (p : GridPoint). between 1 2 p.x && (between 1 1 p.y && between 1 1 p.z))) (box_to (point 4 3 3)) 0 12 10
unfolding opened
pair-counts = (refl, refl, refl)

-- ---- a block of eight points round one cell: 3.996 cells

abbrev block : Field
block = signs (point 5 5 5) (λ (p : GridPoint). between 1 2 p.x && (between 1 2 p.y && between 1 2 p.z))

pub block-counts : Counts block (box_to (point 4 4 4)) 1 26 24
unfolding opened
block-counts = (refl, refl, refl)

block-faces : sum_z (face_sum block) (edges block (box_to (point 4 4 4)) (all_three false)) ≡ pos 402259968
unfolding opened
block-faces = refl

pub block-weight : weight block (box_to (point 4 4 4)) ≡ pos 402259968
block-weight = mesh-sum block (box_to (point 4 4 4)) (all_three false) ∙ block-faces

-- ---- the twelve points from (2,1,2) to (4,2,3) without (4,2,3), in a box from (1,0,1): of the two cells between them one is whole

abbrev in_notched : GridPoint → Bool
in_notched p = (between 2 4 p.x && (between 1 2 p.y && between 2 3 p.z)) && not (same_point (point 4 2 3) p)

pub notched-counts : Counts (signs (point 7 5 6) in_notched) (record { low = point 1 0 1; high = point 6 4 5 }) 1 34 32
unfolding opened
notched-counts = (refl, refl, refl)
