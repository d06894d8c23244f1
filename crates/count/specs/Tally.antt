-- What the count says of a list of cells, and of the whole box. Definitions only. Assumes nothing.
use Rattle.std.specs.Prelude.{◌*◌, List, length}
use Rattle.lists.specs.Lists.{keep, joined}
use Rattle.rules.specs.Grid.{GridPoint, Box, Field}
use Rattle.rules.specs.Vertices.{surface_cell}
use Rattle.rules.specs.Faces.{Flags, cell_edges}
use Rattle.count.specs.declared.Tally.{Tally}
use Rattle.count.specs.declared.Findings.{Findings}

-- of a list of cells: the surface cells among them, and six for each of their edges that gives a face
unfoldable pub tally_of : Field → Box → Flags → List GridPoint → Tally
tally_of g b m l = record { vertices = length (keep (surface_cell g) l); indices = 6 * length (joined (cell_edges g b m) (keep (surface_cell g) l)) }

-- the counts among what the whole box says
abbrev pub counts : Findings → Tally
counts f = record { vertices = f.vertices; indices = f.indices }
