-- The invariant: the row's part of the map is what the first j cells leave, and what is carried is the negatives of the lower side of the j-th. Assumes nothing.
use Prim.Native.Nat.{◌≤◌, ◌-◌, ◌+◌}
use mathlib.Core.Path.{◌≡◌}
use lib.Seq.{sets}
use Rattle.grid.specs.Corners.{side_between}
use Rattle.grid.specs.Signs.{side_negatives}
use Rattle.layer_vertices.specs.Cells.{classes}
use Rattle.layer_vertices.proofs.class_row.Given as goal

abbrev pub invariant-loop-j : goal.invariant-loop-j
invariant-loop-j g l = let lower = g.D.Distance.floats l.lower in
    let upper = g.D.Distance.floats l.upper in
    (l.j ≤ l.n) × (l.low ≤ 4) × (l.low ≡ side_negatives (side_between lower upper (l.at + l.j) l.row)) × (l.map ≡ sets l.initial.map l.at (classes lower upper l.at l.row l.j))

abbrev pub decreases-loop-j : goal.decreases-loop-j
decreases-loop-j g l = l.n - l.j
