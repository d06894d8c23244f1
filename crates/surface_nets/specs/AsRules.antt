-- The call's arguments as the rules have them. Definitions only. Assumes nothing.
use Rattle.std.specs.Prelude.{List, Float}
use Rattle.rules.specs.Call.{Call}
use Rattle.grid.specs.declared.Extent.{Extent}
use Rattle.grid.specs.declared.EachAxis.{EachAxis}
use Rattle.grid.specs.declared.Block.{Block}
use Rattle.grid.specs.Block.{call_of}

-- the block of a call
abbrev pub block_of : Extent → Extent → Extent → EachAxis → Block
block_of dims low high plane = record { dims = dims; low = low; high = high; max_plane = plane }

abbrev pub call_made : List Float → Extent → Extent → Extent → EachAxis → Call
call_made grid dims low high plane = call_of grid (block_of dims low high plane)
