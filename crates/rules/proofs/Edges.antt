-- The edges that give faces: each stands in the list once, and nothing else does; so their number is the count of changing edges, and I is
-- six times that. From the counts of points, and the vertex at each such edge. Assumes nothing.
use Prim.Native.Nat.{ℕ, ◌+◌, ◌*◌}
use native.Mathlib.Omega.{arith}
use mathlib.Core.Bool.{Bool, true, false, ◌&&◌, and-false}
use mathlib.Core.List.{List, map}
use mathlib.Core.Path.{◌≡◌, refl, sym, ap, ap₂, ◌∙◌}
use lib.Dec.{T}
use lib.Ieee.Fits.{and_i, and_l, and_r}
use lib.ListN.{length, length-map}
use Rattle.lists.specs.Lists.{one, keep, many, joined}
use Rattle.rules.specs.Grid.{GridPoint, Box, Field, same_point, is_cell, in_box, Axis, axis_x, axis_y, axis_z, value}
use Rattle.rules.specs.Cell.{negative}
use Rattle.rules.specs.Vertices.{layers, surface_cell, layer_vertices, vertices, first_vertex, number_in}
use Rattle.rules.specs.Faces.{
  points,
  Edge,
  Flags,
  gives,
  edge,
  edges_at,
  cell_edges,
  layer_edges,
  edges,
  cell1,
  cell2,
  cell3,
  cell4,
  six,
  shorter,
  face_cells,
  layer_indices,
  indices,
  changing_edges,
}
use Rattle.lists.proofs.Tests.{same_test}
use Rattle.lists.proofs.Lists.{
  All,
  all-each,
  all_then,
  all-joined,
  all_keep,
  joined-joined,
  total,
  total-same,
  total-plus,
  total-scaled,
  length-keep,
  many-keep,
  many-total,
  many-with,
  many-joined-once,
  length-joined,
  joined_length,
  none,
  more,
}
use Rattle.lists.proofs.Permutation.{Perm, perm-length, perm-counts}
use Rattle.rules.proofs.Counting.{same_point-sound, same_point-itself, same_point-moves, is_layer_cell, layer-z, points-once, vertices-once, layer_vertices-all}
use Rattle.rules.proofs.Indexes.{cell-in-box}
use Rattle.rules.proofs.FourCells.{four-on, gives-cell}

-- ---- edges told apart

abbrev pub same_axis : Axis → Axis → Bool
same_axis axis_x axis_x = true
same_axis axis_x axis_y = false
same_axis axis_x axis_z = false
same_axis axis_y axis_x = false
same_axis axis_y axis_y = true
same_axis axis_y axis_z = false
same_axis axis_z axis_x = false
same_axis axis_z axis_y = false
same_axis axis_z axis_z = true

pub same_axis-sound : (a b : Axis) → T (same_axis a b) → a ≡ b
same_axis-sound axis_x axis_x t = refl
same_axis-sound axis_x axis_y t = absurd t
same_axis-sound axis_x axis_z t = absurd t
same_axis-sound axis_y axis_x t = absurd t
same_axis-sound axis_y axis_y t = refl
same_axis-sound axis_y axis_z t = absurd t
same_axis-sound axis_z axis_x t = absurd t
same_axis-sound axis_z axis_y t = absurd t
same_axis-sound axis_z axis_z t = refl

same_axis-itself : (a : Axis) → T (same_axis a a)
same_axis-itself axis_x = tt
same_axis-itself axis_y = tt
same_axis-itself axis_z = tt

-- "A face is known by its grid edge"
abbrev pub same_edge : Edge → Edge → Bool
same_edge e f = same_axis e.axis f.axis && same_point e.from f.from

pub same_edge-sound : (e f : Edge) → T (same_edge e f) → e ≡ f
same_edge-sound e f t = λ i. record { axis = ea i; from = ef i }
  where
    ea : e.axis ≡ f.axis
    ea = same_axis-sound e.axis f.axis (and_l (same_axis e.axis f.axis) (same_point e.from f.from) t)

    ef : e.from ≡ f.from
    ef = same_point-sound e.from f.from (and_r (same_axis e.axis f.axis) (same_point e.from f.from) t)

pub same_edge-itself : (e : Edge) → T (same_edge e e)
same_edge-itself e = and_i (same_axis e.axis e.axis) (same_point e.from e.from) (same_axis-itself e.axis) (same_point-itself e.from)

-- ---- each edge that gives a face stands in the list once

-- the x, y and z edge of a point, of which a test keeps some
kept-edges-once : (f : Edge → Bool) (a : Axis) (p c : GridPoint) → many (same_edge (edge a p)) (keep f (edges_at c)) ≡ one (f (edge a p) && same_point p c)
unfolding many
kept-edges-once f axis_x p c =
    many-keep (same_edge (edge axis_x p)) f (edges_at c)
    ∙ omega (arith, ap one (same_point-moves (λ (q : GridPoint). f (edge axis_x q)) p c), ap one (and-false (f (edge axis_y c))), ap one (and-false (f (edge axis_z c))))
kept-edges-once f axis_y p c =
    many-keep (same_edge (edge axis_y p)) f (edges_at c)
    ∙ omega (arith, ap one (same_point-moves (λ (q : GridPoint). f (edge axis_y q)) p c), ap one (and-false (f (edge axis_x c))), ap one (and-false (f (edge axis_z c))))
kept-edges-once f axis_z p c =
    many-keep (same_edge (edge axis_z p)) f (edges_at c)
    ∙ omega (arith, ap one (same_point-moves (λ (q : GridPoint). f (edge axis_z q)) p c), ap one (and-false (f (edge axis_x c))), ap one (and-false (f (edge axis_y c))))

-- over a list of points that holds the edge's lowest corner once wherever the edge passes
joined-edges-once : (f : Edge → Bool) (l : List GridPoint) (e : Edge) (t : Bool) → many (same_point e.from) l ≡ one t → (T (f e) → T t)
    → many (same_edge e) (joined (λ (c : GridPoint). keep f (edges_at c)) l) ≡ one (f e)
joined-edges-once f l e t h k =
    many-joined-once (same_edge e) (λ (c : GridPoint). keep f (edges_at c)) (λ (c : GridPoint). f e && same_point e.from c) (kept-edges-once f e.axis e.from) l
    ∙ many-with (same_point e.from) (f e) l t h
    ∙ ap one (same_test (f e && t) (f e) (and_l (f e) t) (λ s. and_i (f e) t s (k s)))

pub edges_are : (g : Field) (b : Box) (m : Flags) → edges g b m ≡ joined (cell_edges g b m) (vertices g b)
unfolding edges layer_edges vertices
edges_are g b m = sym (joined-joined (cell_edges g b m) (layer_vertices g b) (layers b))

pub edges-once : (g : Field) (b : Box) (m : Flags) (e : Edge) → many (same_edge e) (edges g b m) ≡ one (gives g b m e)
unfolding cell_edges
edges-once g b m e =
    ap (many (same_edge e)) (edges_are g b m)
    ∙ joined-edges-once (gives g b m) (vertices g b) e (is_cell b e.from && surface_cell g e.from) (vertices-once g b e.from)
    (λ t. and_i (is_cell b e.from) (surface_cell g e.from) (gives-cell g b m e t) (four-on g b m e t).one)

-- ---- what the lists hold

pub cell_edges-all : (g : Field) (b : Box) (m : Flags) (c : GridPoint) → All (λ e. T (gives g b m e) × (e.from ≡ c)) (cell_edges g b m c)
unfolding cell_edges
cell_edges-all g b m c = all_keep (gives g b m) (more (λ t. (t, refl)) (more (λ t. (t, refl)) (more (λ t. (t, refl)) none)))

pub layer_edges-all : (g : Field) (b : Box) (m : Flags) (z : ℕ) → All (λ e. T (gives g b m e) × (e.from.z ≡ z)) (layer_edges g b m z)
unfolding layer_edges
layer_edges-all g b m z = all-joined (all_then at (layer_vertices-all g b z))
  where
    at : (c : GridPoint) → T (is_layer_cell b z c && surface_cell g c) → All (λ (e : Edge). T (gives g b m e) × (e.from.z ≡ z)) (cell_edges g b m c)
    at c t = all_then (λ e h. (h.0, ap (λ (p : GridPoint). p.z) h.1 ∙ layer-z b z c (and_l (is_layer_cell b z c) (surface_cell g c) t))) (cell_edges-all g b m c)

pub edges-all : (g : Field) (b : Box) (m : Flags) → All (λ e. T (gives g b m e)) (edges g b m)
unfolding edges
edges-all g b m = all-joined (all-each (λ z. all_then (λ e h. h.0) (layer_edges-all g b m z)) (layers b))

-- ---- their number, from the distances alone

-- the same edges, found among all points of the box
abbrev pub found_edges : Field → Box → Flags → List Edge
found_edges g b m = joined (λ (p : GridPoint). keep (gives g b m) (edges_at p)) (points b)

pub edges-found : (g : Field) (b : Box) (m : Flags) → Perm (edges g b m) (found_edges g b m)
edges-found g b m =
    perm-counts same_edge same_edge-sound same_edge-itself (edges g b m) (found_edges g b m)
    (λ e. edges-once g b m e ∙ sym (joined-edges-once (gives g b m) (points b) e (in_box b e.from) (points-once b e.from)
    (λ t. cell-in-box b e.from (gives-cell g b m e t))))

pub cell_edges-length : (g : Field) (b : Box) (m : Flags) (c : GridPoint)
    → length (cell_edges g b m c) ≡ one (gives g b m (edge axis_x c)) + one (gives g b m (edge axis_y c)) + one (gives g b m (edge axis_z c))
unfolding cell_edges many
cell_edges-length g b m c = length-keep (gives g b m) (edges_at c) ∙ omega arith

pub edge_count : (g : Field) (b : Box) (m : Flags) → length (edges g b m) ≡ changing_edges g b m
unfolding changing_edges cell_edges
edge_count g b m =
    perm-length (edges-found g b m)
    ∙ length-joined (λ (p : GridPoint). keep (gives g b m) (edges_at p)) (points b)
    ∙ total-same (all-each (cell_edges-length g b m) (points b))
    ∙ total-plus (λ p. at axis_x p + at axis_y p) (at axis_z) (points b)
    ∙ ap₂ ◌+◌ (total-plus (at axis_x) (at axis_y) (points b) ∙ ap₂ ◌+◌ (along-axis axis_x) (along-axis axis_y)) (along-axis axis_z)
  where
    at : Axis → GridPoint → ℕ
    at a p = one (gives g b m (edge a p))

    along-axis : (a : Axis) → total (at a) (points b) ≡ many (λ (p : GridPoint). gives g b m (edge a p)) (points b)
    along-axis a = sym (many-total (λ (p : GridPoint). gives g b m (edge a p)) (points b))

-- ---- a face has six corners

pub face_cells-length : (g : Field) (e : Edge) → length (face_cells g e) ≡ 6
unfolding face_cells
face_cells-length g e = go (shorter g e) (negative (value g e.from))
  where
    go : (s t : Bool) → length (six s t (cell1 e) (cell2 e) (cell3 e) (cell4 e)) ≡ 6
    go true true = refl
    go true false = refl
    go false true = refl
    go false false = refl

pub map-six : {A B : Type 0} (f : A → B) (s t : Bool) (v1 v2 v3 v4 : A) → map f (six s t v1 v2 v3 v4) ≡ six s t (f v1) (f v2) (f v3) (f v4)
map-six f true true v1 v2 v3 v4 = refl
map-six f true false v1 v2 v3 v4 = refl
map-six f false true v1 v2 v3 v4 = refl
map-six f false false v1 v2 v3 v4 = refl

pub layer-index-count : (g : Field) (b : Box) (m : Flags) (first z : ℕ) → length (layer_indices g b m first z) ≡ 6 * length (layer_edges g b m z)
unfolding layer_indices
layer-index-count g b m first z =
    joined_length (λ (e : Edge). map (number_in g b z first) (face_cells g e)) 6 (λ e. length-map (face_cells g e) (number_in g b z first) ∙ face_cells-length g e) (layer_edges g b m z)

layer-lengths : (g : Field) (b : Box) (m : Flags) → length (edges g b m) ≡ total (λ (z : ℕ). length (layer_edges g b m z)) (layers b)
unfolding edges
layer-lengths g b m = length-joined (layer_edges g b m) (layers b)

pub index-count : (g : Field) (b : Box) (m : Flags) → length (indices g b m) ≡ 6 * changing_edges g b m
unfolding indices
index-count g b m =
    length-joined (λ (z : ℕ). layer_indices g b m (first_vertex g b z) z) (layers b)
    ∙ total-same (all-each (λ z. layer-index-count g b m (first_vertex g b z) z) (layers b))
    ∙ total-scaled 6 (λ (z : ℕ). length (layer_edges g b m z)) (layers b)
    ∙ ap (λ n. 6 * n) (sym (layer-lengths g b m) ∙ edge_count g b m)
