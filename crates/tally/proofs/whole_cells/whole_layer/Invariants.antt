-- The invariant: the count is that of the cells before the row y. Assumes nothing.
use mathlib.Core.Path.{◌≡◌}
use Rattle.lists.specs.Lists.{many}
use Rattle.grid.specs.Block.{box_of}
use Rattle.grid.specs.Layers.{two_layers}
use Rattle.grid.specs.Order.{layer_to}
use Rattle.grid.proofs.Walks.{Counting}
use Rattle.tally.specs.Cells.{all_negative}
use Rattle.tally.proofs.whole_cells.whole_layer.Given as goal

abbrev pub invariant-loop-y : goal.invariant-loop-y
invariant-loop-y g l = Counting l.from l.end l.y × (l.count ≡ many (all_negative (two_layers (g.D.Distance.floats l.lower) (g.D.Distance.floats l.upper) l.k l.z)) (layer_to (box_of l.k) l.z l.y))
