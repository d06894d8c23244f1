-- `levels::rising::rise_row` meets its contract. The invariant: the row's first j columns are changed, and the rest are old. Assumes nothing.
use Rattle.std.proofs.Common.{◌≡◌, ◌+◌, ◌≤◌, length}
use Rattle.levels.specs.Columns.{changed}
use Rattle.levels.specs.Fits.{row_step}
use Rattle.levels.proofs.rising.rise_row.Given as goal

abbrev pub invariant-loop-j : goal.invariant-loop-j
invariant-loop-j g l = (l.j ≤ length l.lower) × (length l.out ≡ length l.initial.out)
    × (l.out ≡ changed (row_step (g.D.Distance.floats l.lower) (g.D.Distance.floats l.upper) 0 0 l.z l.to) l.to (l.to + l.j) l.initial.out)
