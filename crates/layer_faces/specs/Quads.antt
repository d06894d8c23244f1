-- What the code does for a batch of the layer's vertices: it lists the edges that give a face by their numbers in the batch, and puts a quad for each,
-- whose vertices are looked up so many entries before the edge's own cell, in this layer's part of the map or in that of the layer below. These follow
-- the code and stand in no contract that another crate sees. Definitions only. Assumes nothing.
use Rattle.std.specs.Prelude.{ℕ, zero, suc, ◌+◌, ◌-◌, ◌*◌, ◌/◌, ◌%◌, ◌<◌, ◌≤◌, Bool, true, false, cond, T, List, length, get_or, take, drop, slice_index, slice_index_or, Float}
use Rattle.std.specs.Float.{nan}
use Rattle.std.specs.Float.Ieee.{lt}
use Rattle.lists.specs.Lists.{run, keep, joined}
use Rattle.rules.specs.Grid.{GridPoint, Axis, axis_x, axis_y, axis_z, Box, Field, is_cell}
use Rattle.rules.specs.Cell.{Vector, negative, squared_distance}
use Rattle.rules.specs.Vertices.{layer_vertices}
use Rattle.rules.specs.Faces.{Flags, Edge, edge, gives, cell_edges, six}
use Rattle.cube.specs.AsRules.{vector}
use Rattle.layer_faces.specs.declared.Vertex.{Vertex}
use Rattle.layer_faces.specs.declared.Way.{Way}
use Rattle.layer_faces.specs.declared.Firsts.{Firsts}
use Rattle.layer_faces.specs.Below.{position_at}

-- ---- a quad of four vertices

-- a vertex that was looked up
pub record Seen : Type 0 where
  pub number : ℕ
  pub position : Vector

-- the struct of src/ as one
abbrev pub seen : Vertex → Seen
seen v = record { number = v.number; position = vector v.position }

unfoldable pub quad_of : Bool → Seen → Seen → Seen → Seen → List ℕ
quad_of n1 v1 v2 v3 v4 =
    six (lt (squared_distance v1.position v4.position) (squared_distance v2.position v3.position)) n1 v1.number v2.number v3.number v4.number

-- ---- an edge by its number

-- the cell of the vertex v, in the layer's list of three numbers a vertex
abbrev pub cell_at : List ℕ → ℕ → ℕ → GridPoint
cell_at cs z v = record { x = slice_index cs (3 * v); y = slice_index cs (3 * v + 1); z = z }

abbrev pub axis_of : ℕ → Axis
axis_of zero = axis_x
axis_of (suc zero) = axis_y
axis_of (suc (suc n)) = axis_z

-- the edge with the number 3 j + a: along the axis a, of the j-th vertex from `from` on
abbrev pub edge_at : List ℕ → ℕ → ℕ → ℕ → Edge
edge_at cs z from e = edge (axis_of (e % 3)) (cell_at cs z (from + e / 3))

-- of the first n edges, the numbers of those that give a face
unfoldable pub listed : Field → Box → Flags → List ℕ → ℕ → ℕ → ℕ → List ℕ
listed g b m cs z from n = keep (λ (e : ℕ). gives g b m (edge_at cs z from e)) (run n)

-- the first n vertices of the list are cells of the box
pub record Cells (b : Box) (z : ℕ) (cs : List ℕ) (n : ℕ) : Type 0 where
  pub within : 3 * n ≤ length cs
  pub each : (v : ℕ) → v < n → T (is_cell b (cell_at cs z v))

-- ---- the four cells round an edge

abbrev pub way : Bool → ℕ → Way
way here back = record { here = here; back = back }

-- by the axis and the length of a row: for x (B, C) are (y, z), for y (z, x), for z (x, y)
abbrev pub way2 : ℕ → Axis → Way
way2 row axis_x = way true row
way2 row axis_y = way false 0
way2 row axis_z = way true 1

abbrev pub way3 : ℕ → Axis → Way
way3 row axis_x = way false 0
way3 row axis_y = way true 1
way3 row axis_z = way true row

abbrev pub way4 : ℕ → Axis → Way
way4 row axis_x = way false row
way4 row axis_y = way false 1
way4 row axis_z = way true (row + 1)

-- where the cell of the vertex v stands in its layer
abbrev pub place_at : ℕ → List ℕ → ℕ → ℕ
place_at row cs v = slice_index cs (3 * v) + row * slice_index cs (3 * v + 1)

-- the vertex v of this layer, whose first one has the number `first`
abbrev pub own : ℕ → List Float → ℕ → Seen
own first positions v =
    record { number = first + v; position = record { x = slice_index_or positions (3 * v) nan; y = slice_index_or positions (3 * v + 1) nan; z = slice_index_or positions (3 * v + 2) nan } }

module _ (first : Firsts) (map : List ℕ) (positions : List Float) (under : List ℕ) (kept : List Float) where
  -- the vertex whose number stands in the one map or the other
  abbrev pub looked : ℕ → Way → Seen
  looked cell w =
      let v : ℕ = get_or (cond w.here map under) (cell - w.back) 0 in
      record { number = v; position = position_at (cond w.here positions kept) (cond w.here first.here first.below) v }

  -- the quad of the edge along an axis from the cell of the vertex v
  unfoldable pub quad_at : List Float → ℕ → List ℕ → ℕ → Axis → List ℕ
  quad_at lower row cs v a =
      let cell : ℕ = place_at row cs v in
      quad_of (negative (slice_index_or lower cell nan)) (own first.here positions v) (looked cell (way2 row a)) (looked cell (way3 row a)) (looked cell (way4 row a))

  -- by the edge's number in a batch
  abbrev pub quad_by : List Float → ℕ → List ℕ → ℕ → ℕ → List ℕ
  quad_by lower row cs from e = quad_at lower row cs (from + e / 3) (axis_of (e % 3))

-- a look-up stays within its list
pub record Reaches (map under : List ℕ) (cell : ℕ) (w : Way) : Type 0 where
  pub back : w.back ≤ cell
  pub within : cell - w.back < length (cond w.here map under)

-- all that the quad is made of stands in its list
pub record Ready (lower : List Float) (row first : ℕ) (cs map : List ℕ) (positions : List Float) (under : List ℕ) (v : ℕ) (a : Axis) : Type 0 where
  pub cell : 3 * v + 2 < length cs
  pub position : 3 * v + 2 < length positions
  pub number : first + v < 4294967296
  pub sign : place_at row cs v < length lower
  pub narrow : row < 4294967296
  pub two : Reaches map under (place_at row cs v) (way2 row a)
  pub three : Reaches map under (place_at row cs v) (way3 row a)
  pub four : Reaches map under (place_at row cs v) (way4 row a)

-- ---- a batch

-- the edges that give a face, of n vertices from `from` on
abbrev pub some_edges : Field → Box → Flags → ℕ → ℕ → ℕ → List Edge
some_edges g b m z from n = joined (cell_edges g b m) (take n (drop from (layer_vertices g b z)))

-- the layer has these vertices, they are few, and there is room for their faces
pub record Batch (g : Field) (b : Box) (m : Flags) (z from n indices at : ℕ) : Type 0 where
  pub within : from + n ≤ length (layer_vertices g b z)
  pub few : n ≤ 32
  pub room : at + 6 * length (some_edges g b m z from n) ≤ indices
