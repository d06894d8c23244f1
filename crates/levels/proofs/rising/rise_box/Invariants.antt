-- `levels::rising::rise_box` meets its contract. The invariant: the columns have their levels up to the layer before z. Assumes nothing.
use Rattle.std.proofs.Common.{◌≡◌, ◌+◌, ◌-◌, length}
use Rattle.grid.specs.Block.{box_of}
use Rattle.grid.proofs.Walks.{Counting}
use Rattle.levels.specs.Columns.{columns, changed}
use Rattle.levels.proofs.Layers.{columns_to}
use Rattle.levels.proofs.rising.rise_box.Given as goal

abbrev pub invariant-loop-z : goal.invariant-loop-z
invariant-loop-z g l = Counting l.from l.end l.z × (length l.out ≡ length l.initial.out)
    × (l.out ≡ changed (columns_to (g.D.Distance.floats l.sdf) l.k (l.z - (l.k.low.z + 1))) 0 (columns (box_of l.k)) l.initial.out)

abbrev pub decreases-loop-z : goal.decreases-loop-z
decreases-loop-z g l = l.end - l.z
