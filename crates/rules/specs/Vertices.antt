-- Document 01, "Cells and vertices": the cells of a box in their order, the vertices, their numbers and the map. All is said of one z layer,
-- and the box joins its layers. Definitions only. Assumes nothing.
use Rattle.std.specs.Prelude.{ℕ, ◌+◌, ◌-◌, Bool, cond, List, map, eqb, length}
use Rattle.lists.specs.Lists.{up_to, keep, joined, place}
use Rattle.rules.specs.Grid.{GridPoint, Box, Field, same_point, is_cell, in_box, point_at}
use Rattle.rules.specs.Cell.{Vector, values, surface, crossings, centroid, position, normal}

-- ---- "Order: z outermost, then y, then x innermost."

unfoldable pub row_cells : Box → ℕ → ℕ → List GridPoint
row_cells b z y = map (λ (x : ℕ). record { x = x; y = y; z = z }) (up_to b.low.x b.high.x)

unfoldable pub layer_cells : Box → ℕ → List GridPoint
layer_cells b z = joined (row_cells b z) (up_to b.low.y b.high.y)

-- the z of each layer of cells
abbrev pub layers : Box → List ℕ
layers b = up_to b.low.z b.high.z

unfoldable pub cells : Box → List GridPoint
cells b = joined (layer_cells b) (layers b)

-- ---- "A cell with 1 to 7 negative corners of 8 is a surface cell and gets the next vertex number, from 0."

abbrev pub surface_cell : Field → GridPoint → Bool
surface_cell g c = surface (values g c)

unfoldable pub layer_vertices : Field → Box → ℕ → List GridPoint
layer_vertices g b z = keep (surface_cell g) (layer_cells b z)

unfoldable pub vertices : Field → Box → List GridPoint
vertices g b = joined (layer_vertices g b) (layers b)

-- the number of the first vertex of the layer z: how many vertices the layers below it have
unfoldable pub first_vertex : Field → Box → ℕ → ℕ
first_vertex g b z = length (joined (layer_vertices g b) (up_to b.low.z z))

-- the number of a cell's vertex, where its layer's first vertex has the number `first`
abbrev pub vertex_number : Field → Box → ℕ → GridPoint → ℕ
vertex_number g b first c = first + place (same_point c) (layer_vertices g b c.z)

-- the same for a cell of the layer z, whose first vertex has the number `first`, or of the layer below it
abbrev pub number_in : Field → Box → ℕ → ℕ → GridPoint → ℕ
number_in g b z first c = cond (eqb c.z z) (vertex_number g b first c) (vertex_number g b (first - length (layer_vertices g b c.z)) c)

-- ---- a surface cell's vertex

abbrev pub vertex_position : Field → GridPoint → Vector
vertex_position g c = position c (centroid (values g c))

abbrev pub vertex_normal : Field → GridPoint → Vector
vertex_normal g c = normal (values g c) (centroid (values g c))

-- document 02, request 13: "how many edges crossed"
abbrev pub vertex_crossings : Field → GridPoint → ℕ
vertex_crossings g c = crossings (values g c)

-- ---- the map

-- what stands in the map for a point of the box that has no vertex
abbrev pub null_vertex : ℕ
null_vertex = 4294967295

-- "Its map entry is that number; any other cell's is 4,294,967,295."
unfoldable pub cell_entry : Field → Box → GridPoint → ℕ
cell_entry g b c = cond (surface_cell g c) (vertex_number g b (first_vertex g b c.z) c) null_vertex

-- document 02, request 7: "On answer 0 the entry of every point of the box that is no cell becomes 4,294,967,295, also for a flat box."
abbrev pub edge_entry : ℕ
edge_entry = null_vertex

-- the map's entry at an index afterwards, by the old one: of a cell, of a point of the box that is no cell, and of any other
unfoldable pub map_entry : Field → Box → ℕ → ℕ → ℕ
map_entry g b j old = cond (is_cell b (point_at g.dims j)) (cell_entry g b (point_at g.dims j)) (cond (in_box b (point_at g.dims j)) edge_entry old)
