-- The vertices of a layer, and its edges that give faces, depend on two layers of distances alone: two grids of one shape that agree on the points of
-- the box in the layers z and z + 1 have the same. From the locality of the rules, in the slab of the box between the two. Assumes nothing.
use Prim.Native.Nat.{ℕ, ◌+◌}
use native.Mathlib.Omega.{arith}
use mathlib.Core.Bool.{Bool, ◌&&◌}
use mathlib.Core.List.{List, map}
use mathlib.Core.Path.{◌≡◌, sym, ap, ap₂, ◌∙◌}
use lib.Dec.{T}
use lib.Ieee.{Float, unlike}
use Rattle.lists.specs.Lists.{joined, place}
use Rattle.rules.specs.Grid.{GridPoint, Axis, axis_x, axis_y, axis_z, Box, Field, same_point, is_cell, in_box, value, step_up}
use Rattle.rules.specs.Cell.{negative}
use Rattle.rules.specs.Vertices.{row_cells, layer_cells, surface_cell, layer_vertices, vertex_position, vertex_normal, vertex_crossings, vertex_number}
use Rattle.rules.specs.Faces.{Flags, edge, owned, changes, gives, cell_edges, layer_edges}
use Rattle.lists.proofs.Lists.{All, none, more, all_then, all_keep, map_same, joined_same, keep_same}
use Rattle.rules.proofs.Indexes.{cell-within, cell-in-box, is-cell}
use Rattle.rules.proofs.Inside.{layer-cells, up-in-box}
use Rattle.rules.proofs.Locality.{surface-same, position-same, normal-same, crossed-same}

-- the part of a box between the layers z and z + 1
abbrev pub slab : Box → ℕ → Box
slab b z = record { low = record { x = b.low.x; y = b.low.y; z = z }; high = record { x = b.high.x; y = b.high.y; z = z + 1 } }

-- its cells are the layer's
pub slab-cells : (b : Box) (z : ℕ) → All (λ c. T (is_cell (slab b z) c)) (layer_cells b z)
unfolding layer_cells row_cells
slab-cells b z = layer-cells (slab b z) z (omega arith) (omega arith)

abbrev pub grid : GridPoint → (ℕ → Float) → Field
grid d f = record { dims = d; dist = f }

module _ (d : GridPoint) (f f' : ℕ → Float) (b : Box) (z : ℕ) (agree : (p : GridPoint) → T (in_box (slab b z) p) → value (grid d f) p ≡ value (grid d f') p) where
  abbrev g : Field
  g = grid d f

  abbrev g' : Field
  g' = grid d f'

  pub layer-alike : layer_vertices (grid d f) b z ≡ layer_vertices (grid d f') b z
  unfolding layer_vertices
  layer-alike = keep_same (all_then (surface-same g g' (slab b z) agree) (slab-cells b z))

  -- the vertices are cells of the slab
  pub vertices-in : All (λ c. T (is_cell (slab b z) c)) (layer_vertices (grid d f) b z)
  unfolding layer_vertices
  vertices-in = all_keep (surface_cell g) (all_then (λ c t s. t) (slab-cells b z))

  pub positions-alike : map (vertex_position (grid d f)) (layer_vertices (grid d f) b z) ≡ map (vertex_position (grid d f')) (layer_vertices (grid d f') b z)
  positions-alike = map_same (all_then (position-same g g' (slab b z) agree) vertices-in) ∙ ap (map (vertex_position g')) layer-alike

  pub normals-alike : map (vertex_normal (grid d f)) (layer_vertices (grid d f) b z) ≡ map (vertex_normal (grid d f')) (layer_vertices (grid d f') b z)
  normals-alike = map_same (all_then (normal-same g g' (slab b z) agree) vertices-in) ∙ ap (map (vertex_normal g')) layer-alike

  pub crossings-alike : map (vertex_crossings (grid d f)) (layer_vertices (grid d f) b z) ≡ map (vertex_crossings (grid d f')) (layer_vertices (grid d f') b z)
  crossings-alike = map_same (all_then (crossed-same g g' (slab b z) agree) vertices-in) ∙ ap (map (vertex_crossings g')) layer-alike

  -- a cell of the layer, in the box
  pub in-slab : (c : GridPoint) → T (is_cell b c) → c.z ≡ z → T (is_cell (slab b z) c)
  in-slab c t e = let w = cell-within b c t in is-cell (slab b z) c (omega arith)

  pub surface-alike : (c : GridPoint) → T (is_cell b c) → c.z ≡ z → surface_cell (grid d f) c ≡ surface_cell (grid d f') c
  surface-alike c t e = surface-same g g' (slab b z) agree c (in-slab c t e)

  pub position-alike : (c : GridPoint) → T (is_cell b c) → c.z ≡ z → vertex_position (grid d f) c ≡ vertex_position (grid d f') c
  position-alike c t e = position-same g g' (slab b z) agree c (in-slab c t e)

  pub number-alike : (first : ℕ) (c : GridPoint) → c.z ≡ z → vertex_number (grid d f) b first c ≡ vertex_number (grid d f') b first c
  number-alike first c e =
      ap (λ (y : ℕ). first + place (same_point c) (layer_vertices g b y)) e
      ∙ ap (λ (l : List GridPoint). first + place (same_point c) l) layer-alike
      ∙ ap (λ (y : ℕ). first + place (same_point c) (layer_vertices g' b y)) (sym e)

  -- ---- edges

  module _ (m : Flags) where
    changes-alike : (a : Axis) (c : GridPoint) → T (is_cell (slab b z) c) → changes (grid d f) (edge a c) ≡ changes (grid d f') (edge a c)
    unfolding changes
    changes-alike a c t = ap₂ (λ (x y : Float). unlike (negative x) (negative y)) (agree c (cell-in-box (slab b z) c t)) (agree (step_up a c) (up-in-box (slab b z) a c t))

    gives-alike : (a : Axis) (c : GridPoint) → T (is_cell (slab b z) c) → gives (grid d f) b m (edge a c) ≡ gives (grid d f') b m (edge a c)
    gives-alike a c t = ap (λ (s : Bool). owned b m (edge a c) && s) (changes-alike a c t)

    cell-edges-alike : (c : GridPoint) → T (is_cell (slab b z) c) → cell_edges (grid d f) b m c ≡ cell_edges (grid d f') b m c
    unfolding cell_edges
    cell-edges-alike c t = keep_same (more (gives-alike axis_x c t) (more (gives-alike axis_y c t) (more (gives-alike axis_z c t) none)))

    pub edges-alike : layer_edges (grid d f) b m z ≡ layer_edges (grid d f') b m z
    unfolding layer_edges
    edges-alike = joined_same (all_then cell-edges-alike vertices-in) ∙ ap (joined (cell_edges g' b m)) layer-alike
