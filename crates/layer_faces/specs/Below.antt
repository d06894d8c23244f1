-- The indices of the layer z, where the layer below is known by what was kept of it: its part of the map, and its vertices' positions. Whatever is
-- kept there, the indices are defined; where it is what the rules say of that layer, they are the rules' own. Definitions only. Assumes nothing.
use Rattle.std.specs.Prelude.{◌≡◌, ℕ, ◌+◌, ◌-◌, ◌*◌, ◌<◌, Bool, cond, T, List, map, length, ◌==◌, nat_lt, slice_index, slice_index_or, Float}
use Rattle.std.specs.Float.{nan}
use Rattle.std.specs.Float.Ieee.{lt}
use Rattle.lists.specs.Lists.{joined}
use Rattle.rules.specs.Grid.{GridPoint, Box, Field, is_cell, value}
use Rattle.rules.specs.Cell.{Vector, negative, squared_distance}
use Rattle.rules.specs.Vertices.{surface_cell, layer_vertices, vertex_number, vertex_position}
use Rattle.rules.specs.Faces.{Edge, Flags, layer_edges, cell1, cell2, cell3, cell4, six}
use Rattle.rules.specs.Call.{flat_vectors, flat_points}
use Rattle.grid.specs.Layers.{in_layer}

-- ---- a vertex by its number

abbrev pub nowhere : Vector
nowhere = record { x = nan; y = nan; z = nan }

-- the position of the vertex v in a list whose first vertex has the number `first`; not-a-number where the list does not hold it
unfoldable pub position_at : List Float → ℕ → ℕ → Vector
position_at l first v =
    cond (nat_lt v first) nowhere
    (cond (nat_lt (length l) (3 * (v - first) + 3)) nowhere
    (record { x = slice_index_or l (3 * (v - first)) nan; y = slice_index_or l (3 * (v - first) + 1) nan; z = slice_index_or l (3 * (v - first) + 2) nan }))

-- ---- the layer below

-- its part of the map, its vertices' positions, and the number of the first of them
pub record Kept : Type 0 where
  pub map : List ℕ
  pub positions : List Float
  pub first : ℕ

abbrev pub kept_number : GridPoint → Kept → GridPoint → ℕ
kept_number d below c = slice_index below.map (in_layer d c)

-- ---- a face of the layer z, whose first vertex has the number `first`

-- a cell of the layer by the rules, and a cell of the layer below by what was kept
abbrev pub number_over : Field → Box → ℕ → ℕ → Kept → GridPoint → ℕ
number_over g b first z below c = cond (c.z == z) (vertex_number g b first c) (kept_number g.dims below c)

abbrev pub position_over : Field → ℕ → Kept → GridPoint → Vector
position_over g z below c = cond (c.z == z) (vertex_position g c) (position_at below.positions below.first (kept_number g.dims below c))

-- "If the squared distance v1-v4 is strictly less than v2-v3"
unfoldable pub shorter_over : Field → ℕ → Kept → Edge → Bool
shorter_over g z below e =
    lt (squared_distance (position_over g z below (cell1 e)) (position_over g z below (cell4 e)))
    (squared_distance (position_over g z below (cell2 e)) (position_over g z below (cell3 e)))

unfoldable pub face_over : Field → Box → ℕ → ℕ → Kept → Edge → List ℕ
face_over g b first z below e =
    six (shorter_over g z below e) (negative (value g e.from))
    (number_over g b first z below (cell1 e)) (number_over g b first z below (cell2 e)) (number_over g b first z below (cell3 e)) (number_over g b first z below (cell4 e))

-- the layer's index list: the rules' `layer_indices`, with what was kept in the place of the layer below
unfoldable pub indices_over : Field → Box → Flags → ℕ → ℕ → Kept → List ℕ
indices_over g b m first z below = joined (face_over g b first z below) (layer_edges g b m z)

-- ---- what stands of the layer itself, once it is marked

pub record Standing (g : Field) (b : Box) (first z : ℕ) (cs mp : List ℕ) (ps : List Float) : Type 0 where
  pub cells : cs ≡ flat_points (layer_vertices g b z)
  pub positions : ps ≡ flat_vectors (map (vertex_position g) (layer_vertices g b z))
  pub numbers : (c : GridPoint) → T (is_cell b c) → c.z ≡ z → T (surface_cell g c) → slice_index mp (in_layer g.dims c) ≡ vertex_number g b first c
  pub holds : in_layer g.dims b.high < length mp
