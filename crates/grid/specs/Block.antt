-- The structs of src/ as the rules have them: three numbers are a grid point, and a block is a box with its flags in a grid.
-- Definitions only. Assumes nothing.
use Rattle.std.specs.Prelude.{List, length, get_or, Float}
use Rattle.std.specs.Float.{nan}
use Rattle.rules.specs.Grid.{GridPoint, Box, Field}
use Rattle.rules.specs.Faces.{Flags}
use Rattle.rules.specs.Call.{Call}
use Rattle.grid.specs.declared.Extent.{Extent}
use Rattle.grid.specs.declared.EachAxis.{EachAxis}
use Rattle.grid.specs.declared.Block.{Block}

abbrev pub point : Extent → GridPoint
point e = record { x = e.x; y = e.y; z = e.z }

abbrev pub box_of : Block → Box
box_of k = record { low = point k.low; high = point k.high }

abbrev pub flags : EachAxis → Flags
flags m = record { x = m.x; y = m.y; z = m.z }

abbrev pub flags_of : Block → Flags
flags_of k = flags k.max_plane

-- the distances of a grid of these numbers
abbrev pub field_of : List Float → Block → Field
field_of grid k = record { dims = point k.dims; dist = λ i. get_or grid i nan }

-- what goes into a call
abbrev pub call_of : List Float → Block → Call
call_of grid k = record { grid = field_of grid k; size = length grid; box = box_of k; flags = flags_of k }
