-- The invariant: the count is that of the first j cells, and what is carried is the negatives of the lower side of the j-th. Assumes nothing.
use Prim.Native.Nat.{◌≤◌, ◌+◌}
use mathlib.Core.Path.{◌≡◌}
use Rattle.grid.specs.Corners.{side_between}
use Rattle.grid.specs.Signs.{side_negatives}
use Rattle.tally.specs.Runs.{whole_run}
use Rattle.tally.proofs.whole_cells.whole_run.Given as goal

abbrev pub invariant-loop-j : goal.invariant-loop-j
invariant-loop-j g l =
    let lo = g.D.Distance.floats l.lower in
    let u = g.D.Distance.floats l.upper in
    (l.j ≤ l.n) × (l.count ≤ l.j) × (l.low ≤ 4) × (l.low ≡ side_negatives (side_between lo u (l.at + l.j) l.row)) × (l.count ≡ whole_run lo u l.at l.row l.j)
