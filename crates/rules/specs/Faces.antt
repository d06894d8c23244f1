-- Document 01, "Faces": owned edges, the face that an owned edge with exactly one negative end gives, and the index list. All is said of one
-- z layer, and the box joins its layers. The max plane has a flag for each axis; the document's yes/no sets all three.
-- Definitions only. Assumes nothing.
use Rattle.std.specs.Prelude.{ℕ, ◌-◌, ◌+◌, Bool, true, false, not, ◌&&◌, ◌||◌, List, [], ◌∷◌, map, ltb, eqb}
use Rattle.std.specs.Float.Ieee.{lt, unlike}
use Rattle.lists.specs.Lists.{up_to, keep, many, joined}
use Rattle.rules.specs.Grid.{GridPoint, Axis, axis_x, axis_y, axis_z, Box, Field, along, step_up, step_down, turned, is_cell, value}
use Rattle.rules.specs.Cell.{negative, squared_distance}
use Rattle.rules.specs.Vertices.{layers, layer_vertices, first_vertex, number_in, vertex_position}

-- the grid edge from p1 one step up on its axis
pub record Edge : Type 0 where
  pub axis : Axis
  pub from : GridPoint

-- the max plane, for each axis
pub record Flags : Type 0 where
  pub x : Bool
  pub y : Bool
  pub z : Bool

-- document 01's one yes/no
abbrev pub all_three : Bool → Flags
all_three yes' = record { x = yes'; y = yes'; z = yes' }

abbrev pub flag : Axis → Flags → Bool
flag axis_x m = m.x
flag axis_y m = m.y
flag axis_z m = m.z

-- "For the x edge (B, C) are (y, z); for y, (z, x); for z, (x, y)."
abbrev pub axis_b : Axis → Axis
axis_b a = turned a

abbrev pub axis_c : Axis → Axis
axis_c a = turned (turned a)

-- "An edge is owned if p1 is the lowest corner of a cell of the box, is above min on B and C and, unless max plane, p1's coordinate
-- along the edge is not max - 1."
abbrev pub above_low : Axis → Box → GridPoint → Bool
above_low a b p = ltb (along a b.low) (along a p)

abbrev pub inside_max : Axis → Box → Flags → GridPoint → Bool
inside_max a b m p = flag a m || not (eqb (along a p) (along a b.high - 1))

unfoldable pub owned : Box → Flags → Edge → Bool
owned b m e =
    is_cell b e.from && (above_low (axis_b e.axis) b e.from && (above_low (axis_c e.axis) b e.from && inside_max e.axis b m e.from))

-- exactly one end is negative
unfoldable pub changes : Field → Edge → Bool
changes g e = unlike (negative (value g e.from)) (negative (value g (step_up e.axis e.from)))

-- "An owned edge with exactly one negative end gives one face."
abbrev pub gives : Field → Box → Flags → Edge → Bool
gives g b m e = owned b m e && changes g e

-- "at each the x, y, z edge from its lowest corner"
abbrev pub edge : Axis → GridPoint → Edge
edge a p = record { axis = a; from = p }

abbrev pub edges_at : GridPoint → List Edge
edges_at p = edge axis_x p ∷ edge axis_y p ∷ edge axis_z p ∷ []

unfoldable pub cell_edges : Field → Box → Flags → GridPoint → List Edge
cell_edges g b m c = keep (gives g b m) (edges_at c)

-- "Surface cells in vertex order": the edges that give the faces of one layer, and of the box
unfoldable pub layer_edges : Field → Box → Flags → ℕ → List Edge
layer_edges g b m z = joined (cell_edges g b m) (layer_vertices g b z)

unfoldable pub edges : Field → Box → Flags → List Edge
edges g b m = joined (layer_edges g b m) (layers b)

-- ---- a face

-- "v1 is the cell at p1; v2 one step down along B; v3 down along C; v4 down along both."
abbrev pub cell1 : Edge → GridPoint
cell1 e = e.from

abbrev pub cell2 : Edge → GridPoint
cell2 e = step_down (axis_b e.axis) e.from

abbrev pub cell3 : Edge → GridPoint
cell3 e = step_down (axis_c e.axis) e.from

abbrev pub cell4 : Edge → GridPoint
cell4 e = step_down (axis_c e.axis) (step_down (axis_b e.axis) e.from)

-- the six corners of a face's two triangles, in order: by whether v1-v4 is strictly shorter than v2-v3, and whether p1 is negative
abbrev pub six : {A : Type 0} → Bool → Bool → A → A → A → A → List A
six true true v1 v2 v3 v4 = v1 ∷ v2 ∷ v4 ∷ v1 ∷ v4 ∷ v3 ∷ []
six true false v1 v2 v3 v4 = v1 ∷ v4 ∷ v2 ∷ v1 ∷ v3 ∷ v4 ∷ []
six false true v1 v2 v3 v4 = v2 ∷ v4 ∷ v3 ∷ v2 ∷ v3 ∷ v1 ∷ []
six false false v1 v2 v3 v4 = v2 ∷ v3 ∷ v4 ∷ v2 ∷ v1 ∷ v3 ∷ []

-- "If the squared distance v1-v4 is strictly less than v2-v3"
unfoldable pub shorter : Field → Edge → Bool
shorter g e =
    lt (squared_distance (vertex_position g (cell1 e)) (vertex_position g (cell4 e))) (squared_distance (vertex_position g (cell2 e)) (vertex_position g (cell3 e)))

-- the cells of a face's six corners
unfoldable pub face_cells : Field → Edge → List GridPoint
face_cells g e = six (shorter g e) (negative (value g e.from)) (cell1 e) (cell2 e) (cell3 e) (cell4 e)

-- ---- the index list

-- of the layer z, whose first vertex has the number `first`
unfoldable pub layer_indices : Field → Box → Flags → ℕ → ℕ → List ℕ
layer_indices g b m first z = joined (λ (e : Edge). map (number_in g b z first) (face_cells g e)) (layer_edges g b m z)

unfoldable pub indices : Field → Box → Flags → List ℕ
indices g b m = joined (λ (z : ℕ). layer_indices g b m (first_vertex g b z) z) (layers b)

-- ---- the number of faces, from the distances alone: no cell that has a vertex, no map and no list of faces is spoken of

-- the points of a box, both corners included
unfoldable pub layer_points : Box → ℕ → List GridPoint
layer_points b z =
    joined (λ (y : ℕ). map (λ (x : ℕ). record { x = x; y = y; z = z }) (up_to b.low.x (b.high.x + 1))) (up_to b.low.y (b.high.y + 1))

-- the z of each layer of points
abbrev pub point_layers : Box → List ℕ
point_layers b = up_to b.low.z (b.high.z + 1)

unfoldable pub points : Box → List GridPoint
points b = joined (layer_points b) (point_layers b)

-- the owned edges with exactly one negative end, counted over the axes and the points of the box
unfoldable pub changing_edges : Field → Box → Flags → ℕ
changing_edges g b m = many (λ (p : GridPoint). gives g b m (edge axis_x p)) (points b) + many (λ (p : GridPoint). gives g b m (edge axis_y p)) (points b) + many
    (λ (p : GridPoint). gives g b m (edge axis_z p)) (points b)
