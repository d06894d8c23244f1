-- `levels::rising::rise_layer` meets its contract. The invariant: the columns of the rows before y are changed, and the rest are old. Assumes nothing.
use Rattle.std.proofs.Common.{◌≡◌, ◌-◌, length}
use Rattle.grid.proofs.Walks.{Counting}
use Rattle.levels.specs.Columns.{changed}
use Rattle.levels.specs.Fits.{column_step}
use Rattle.levels.proofs.Rows.{row_to}
use Rattle.levels.proofs.rising.rise_layer.Given as goal

abbrev pub invariant-loop-y : goal.invariant-loop-y
invariant-loop-y g l = Counting l.from l.end l.y × (length l.out ≡ length l.initial.out)
    × (l.out ≡ changed (column_step l.k (g.D.Distance.floats l.lower) (g.D.Distance.floats l.upper) l.a l.b l.z) 0 (row_to l.k l.y) l.initial.out)

abbrev pub decreases-loop-y : goal.decreases-loop-y
decreases-loop-y g l = l.end - l.y
