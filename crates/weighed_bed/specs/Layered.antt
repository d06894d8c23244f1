-- What a layer's triangles are weighed with: the positions of the vertices of the layer below and of its own, one after the other, and the number of the first of
-- them. Below min z there is none. Definitions only. Assumes nothing.
use Rattle.std.specs.Prelude.{ℕ, ◌-◌, cond, List, [], ◌++◌, map, ltb, Float, length}
use Rattle.rules.specs.Grid.{GridPoint, Box, Field}
use Rattle.rules.specs.Vertices.{layer_vertices, first_vertex, vertex_position}
use Rattle.rules.specs.Faces.{Flags, layer_indices}
use Rattle.rules.specs.Call.{flat_vectors}

abbrev pub vertices_below : Field → Box → ℕ → List GridPoint
vertices_below g b z = cond (ltb b.low.z z) (layer_vertices g b (z - 1)) []

abbrev pub two_layers : Field → Box → ℕ → List GridPoint
two_layers g b z = vertices_below g b z ++ layer_vertices g b z

abbrev pub layer_positions : Field → Box → ℕ → List Float
layer_positions g b z = flat_vectors (map (vertex_position g) (two_layers g b z))

-- the first vertex of the layer z has the number `first_vertex g b z`
abbrev pub layer_first : Field → Box → ℕ → ℕ
layer_first g b z = first_vertex g b z - length (vertices_below g b z)

-- the layer's triangles, with vertex numbers running on
abbrev pub layer_triangles : Field → Box → Flags → ℕ → List ℕ
layer_triangles g b m z = layer_indices g b m (first_vertex g b z) z
