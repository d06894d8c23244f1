-- What marking the layer z leaves of the lent lists, in the rules' own words: the layer's vertices from a place on, and the entry of each of
-- the box's points in the layer's part of the map. The place in the lists and the number that a vertex gets are apart. Definitions only. Assumes nothing.
use Rattle.std.specs.Prelude.{ℕ, ◌+◌, ◌*◌, ◌/◌, ◌%◌, ◌≤◌, ◌<◌, not, cond, List, map, T, length, Float}
use Rattle.std.proofs.lemmas.List.Edits.{sets}
use Rattle.lists.specs.Lists.{placed}
use Rattle.rules.specs.Grid.{GridPoint, Box, Field, index, is_cell, in_box}
use Rattle.rules.specs.Vertices.{surface_cell, layer_vertices, vertex_position, vertex_normal, vertex_crossings, vertex_number, null_vertex, edge_entry}
use Rattle.rules.specs.Call.{bad_dimensions, bad_box, flat_vectors, flat_points}
use Rattle.grid.specs.declared.Block.{Block}
use Rattle.grid.specs.Block.{point, box_of}
use Rattle.grid.specs.Layers.{in_layer}
use Rattle.layer_vertices.specs.declared.Next.{Next}

-- the lists that a layer's vertices go to, and the layer's part of the map
pub record Lists : Type 0 where
  pub positions : List Float
  pub normals : List Float
  pub cells : List ℕ
  pub strides : List ℕ
  pub crossings : List ℕ
  pub map : List ℕ

abbrev pub lists : List Float → List Float → List ℕ → List ℕ → List ℕ → List ℕ → Lists
lists positions normals cells strides crossings map =
    record { positions = positions; normals = normals; cells = cells; strides = strides; crossings = crossings; map = map }

-- the same lists with another map
abbrev pub with_map : List ℕ → Lists → Lists
with_map map s = lists s.positions s.normals s.cells s.strides s.crossings map

-- ---- the map

-- "Its map entry is that number; any other cell's is 4,294,967,295.", where the layer's first vertex has the number `first`
abbrev pub cell_number : Field → Box → ℕ → GridPoint → ℕ
cell_number g b first c = cond (surface_cell g c) (vertex_number g b first c) null_vertex

-- the point of the layer z that stands at a place of its part of the map
abbrev pub layer_point : GridPoint → ℕ → ℕ → GridPoint
layer_point d z j = record { x = j % d.x; y = j / d.x; z = z }

-- the entry at a place of the layer's part afterwards, by the old one: of a cell, of a point of the box that is no cell, and of any other
unfoldable pub layer_entry : Field → Box → ℕ → ℕ → ℕ → ℕ → ℕ
layer_entry g b z first j old =
    cond (is_cell b (layer_point g.dims z j)) (cell_number g b first (layer_point g.dims z j))
    (cond (in_box b (layer_point g.dims z j)) edge_entry old)

-- the same in the box's last layer, which has no cells and asks no distance
unfoldable pub last_entry : GridPoint → Box → ℕ → ℕ → ℕ
last_entry d b j old = cond (in_box b (layer_point d b.high.z j)) edge_entry old

-- neither of the conditions 1 and 2 applies, and a layer's part of the map holds the box's points
pub record InPart (map : List ℕ) (k : Block) : Type 0 where
  pub dims : T (not (bad_dimensions (point k.dims)))
  pub box : T (not (bad_box (point k.dims) (box_of k)))
  pub holds : in_layer (point k.dims) (point k.high) < length map

-- ---- all lists

-- the vertices of vs in the lists from a place on, by stores in a row (`sets`), three for each vector and each point; and a map
abbrev pub listed : Field → ℕ → List GridPoint → List ℕ → Lists → Lists
listed g place vs entries s =
    record {
      positions = sets s.positions (3 * place) (flat_vectors (map (vertex_position g) vs));
      normals = sets s.normals (3 * place) (flat_vectors (map (vertex_normal g) vs));
      cells = sets s.cells (3 * place) (flat_points vs);
      strides = sets s.strides place (map (index g.dims) vs);
      crossings = sets s.crossings place (map (vertex_crossings g) vs);
      map = entries;
    }

unfoldable pub marked : Field → Box → ℕ → Next → Lists → Lists
marked g b z next s = listed g next.place (layer_vertices g b z) (placed (layer_entry g b z next.number) 0 s.map) s

-- there is room for n vertices from a place on, and none of their numbers is that of no vertex
pub record Room (next : Next) (n : ℕ) (s : Lists) : Type 0 where
  pub positions : 3 * (next.place + n) ≤ length s.positions
  pub normals : 3 * (next.place + n) ≤ length s.normals
  pub cells : 3 * (next.place + n) ≤ length s.cells
  pub strides : next.place + n ≤ length s.strides
  pub crossings : next.place + n ≤ length s.crossings
  pub numbers : next.number + n ≤ null_vertex
