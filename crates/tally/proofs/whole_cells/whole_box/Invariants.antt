-- The invariant: the count is that of the cells before the layer z. Assumes nothing.
use mathlib.Core.Path.{◌≡◌}
use Rattle.lists.specs.Lists.{many}
use Rattle.grid.specs.Block.{box_of, field_of}
use Rattle.grid.specs.Order.{box_to}
use Rattle.grid.proofs.Walks.{Counting}
use Rattle.tally.specs.Cells.{all_negative}
use Rattle.tally.proofs.whole_cells.whole_box.Given as goal

abbrev pub invariant-loop-z : goal.invariant-loop-z
invariant-loop-z g l = Counting l.from l.end l.z × (l.count ≡ many (all_negative (field_of (g.D.Distance.floats l.sdf) l.k)) (box_to (box_of l.k) l.z))
