-- The points of a box that lie in the sludge, and a vertex for every cell, which the proof sees. Definitions only. Assumes nothing.
use Rattle.std.specs.Prelude.{Bool, ◌&&◌, cond}
use Rattle.rules.specs.Grid.{GridPoint, Box, Field, is_cell, in_box, value}
use Rattle.rules.specs.Cell.{negative}
use Rattle.rules.specs.Vertices.{surface_cell}
use Rattle.weighed_mesh.specs.Facing.{vertex_steps}
use Rattle.bounded_mesh.specs.Round.{in_steps, Placing}

-- a negative point of the box
abbrev pub in_sludge : Field → Box → GridPoint → Bool
in_sludge g b p = in_box b p && negative (value g p)

-- a surface cell of the box has its own vertex, in steps, and any other cell its lowest corner: no face has a corner there
unfoldable pub placed : Field → Box → Placing
placed g b c = cond (is_cell b c && surface_cell g c) (vertex_steps g c) (in_steps c)
