-- The lists of cells, points and vertices of a box hold cells, points and surface cells of that box, so a test that fails at every point of the
-- list fails at every point of the box; and an edge that gives a face has its four cells in it. From what a layer holds. Assumes nothing.
use Prim.Native.Nat.{ℕ, ◌+◌, ◌≤◌, ◌<◌}
use native.Mathlib.Omega.{arith}
use mathlib.Core.Bool.{Bool, not, ◌&&◌}
use mathlib.Core.Path.{◌≡◌}
use lib.Dec.{T, eqb, T_not, not_T}
use lib.Ieee.Fits.{and_i, and_l, and_r}
use Rattle.lists.specs.Lists.{many, some, below}
use Rattle.rules.specs.Grid.{GridPoint, Axis, axis_x, axis_y, axis_z, Box, Field, same_point, step_up, in_box, is_cell, value}
use Rattle.rules.specs.Vertices.{layer_cells, cells, surface_cell, vertices}
use Rattle.rules.specs.Faces.{Flags, layer_edges, layer_points, points, point_layers}
use Rattle.rules.specs.Call.{beyond, bad_layer, bad_distance}
use Rattle.lists.proofs.Tests.{one_of, one-positive, below_in}
use Rattle.lists.proofs.Lists.{All, all_then, all_map, all-joined, all_keep}
use Rattle.lists.proofs.Some.{some-has, some-member, some-joined}
use Rattle.lists.proofs.Runs.{up_to-each}
use Rattle.rules.proofs.Indexes.{in-box, cell-within}
use Rattle.rules.proofs.Counting.{same_point-sound, same_point-itself, is_layer_cell, layer-z, points-once, layer_cells-all, vertices-are}
use Rattle.rules.proofs.FourCells.{Four, four-in, gives-owned}
use Rattle.rules.proofs.Edges.{layer_edges-all}

-- ---- the lists of cells and points hold cells and points of the box

pub layer-cells : (b : Box) (z : ℕ) → b.low.z ≤ z → z < b.high.z → All (λ (c : GridPoint). T (is_cell b c)) (layer_cells b z)
layer-cells b z l h = all_then at (layer_cells-all b z)
  where
    at : (c : GridPoint) → T (is_layer_cell b z c) → T (is_cell b c)
    at c t =
        and_i in_x (in_y && in_z) (and_l in_x (in_y && eqb c.z z) t)
        (and_i in_y in_z (and_l in_y (eqb c.z z) (and_r in_x (in_y && eqb c.z z) t)) (rw (layer-z b z c t) (below_in b.low.z b.high.z z l h)))
      where
        in_x : Bool
        in_x = below b.low.x b.high.x c.x

        in_y : Bool
        in_y = below b.low.y b.high.y c.y

        in_z : Bool
        in_z = below b.low.z b.high.z c.z

pub cells-all : (b : Box) → All (λ (c : GridPoint). T (is_cell b c)) (cells b)
unfolding cells
cells-all b = all-joined (up_to-each b.low.z b.high.z (layer-cells b))

pub vertices-all : (g : Field) (b : Box) → All (λ (c : GridPoint). T (is_cell b c) × T (surface_cell g c)) (vertices g b)
vertices-all g b = rw (vertices-are g b) (all_keep (surface_cell g) (all_then (λ c t s. (t, s)) (cells-all b)))

pub points-all : (b : Box) → All (λ (p : GridPoint). T (in_box b p)) (points b)
unfolding points layer_points
points-all b =
    all-joined (up_to-each b.low.z (b.high.z + 1)
    (λ z lz hz. all-joined (up_to-each b.low.y (b.high.y + 1)
    (λ y ly hy. all_map (λ (x : ℕ). record { x = x; y = y; z = z }) (up_to-each b.low.x (b.high.x + 1)
    (λ x lx hx. in-box b (record { x = x; y = y; z = z }) (omega arith)))))))

-- ---- some point of the box

module _ (b : Box) (f : GridPoint → Bool) where
  pub none_in : T (not (some f (points b))) → (p : GridPoint) → T (in_box b p) → T (f p) → ⊥
  none_in h p i t = T_not (some f (points b)) h (some-has same_point same_point-sound same_point-itself f p t (points b) (omega (arith, points-once b p, one_of (in_box b p) i)))

  pub in-none : ((p : GridPoint) → T (in_box b p) → T (f p) → ⊥) → T (not (some f (points b)))
  in-none h = not_T (some f (points b)) (λ t. go (some-member same_point same_point-sound same_point-itself f (points b) t))
    where
      go : (p : GridPoint) × (0 < many (same_point p) (points b)) × T (f p) → ⊥
      go w = h w.0 (one-positive (in_box b w.0) (omega (arith, w.1, points-once b w.0))) w.2

-- condition 5 looks at each of them
pub distance_is : (g : Field) (b : Box) → some (λ (p : GridPoint). beyond (value g p)) (points b) ≡ bad_distance g b
unfolding bad_distance bad_layer points
distance_is g b = some-joined (λ (p : GridPoint). beyond (value g p)) (layer_points b) (point_layers b)

-- ---- edges

-- the four cells round an edge that gives a face are cells of the box
pub edge-cells : (g : Field) (b : Box) (m : Flags) (z : ℕ) → All (Four (λ (c : GridPoint). T (is_cell b c))) (layer_edges g b m z)
edge-cells g b m z = all_then (λ e h. four-in b m e (gives-owned g b m e h.0)) (layer_edges-all g b m z)

-- the upper end of an edge from a cell's lowest corner is a point of the box
pub up-in-box : (b : Box) (a : Axis) (c : GridPoint) → T (is_cell b c) → T (in_box b (step_up a c))
up-in-box b axis_x c t = let w = cell-within b c t in in-box b (step_up axis_x c) (omega arith)
up-in-box b axis_y c t = let w = cell-within b c t in in-box b (step_up axis_y c) (omega arith)
up-in-box b axis_z c t = let w = cell-within b c t in in-box b (step_up axis_z c) (omega arith)
