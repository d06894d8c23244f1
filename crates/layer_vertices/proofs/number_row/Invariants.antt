-- The invariant: the lists are what the first j cells leave, by the marks that stood there where it began. Assumes nothing.
use Prim.Native.Nat.{◌≤◌}
use Rattle.grid.specs.Block.{point}
use Rattle.layer_vertices.specs.Cells.{finds, Numbered}
use Rattle.layer_vertices.proofs.number_row.Given as goal

abbrev pub invariant-loop-j : goal.invariant-loop-j
invariant-loop-j l = (l.j ≤ l.n) × Numbered (point l.dims) (point l.c) l.j l.initial.state (finds l.initial.cells l.initial.strides l.initial.map) l.state (finds l.cells l.strides l.map)
