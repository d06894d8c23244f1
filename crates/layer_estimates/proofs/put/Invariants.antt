-- The invariant: the lists are what the vertices of the lanes before j leave. A turn writes the vertex of the lane j behind them. Assumes nothing.
use Prim.Native.Nat.{◌-◌, ◌≤◌}
use mathlib.Core.List.{map}
use Rattle.lists.specs.Lists.{up_to}
use Rattle.layer_estimates.specs.Estimates.{lists, vertex_at}
use Rattle.layer_estimates.proofs.Writing.{Wrote}
use Rattle.layer_estimates.proofs.put.Given as goal

-- The invariant: the lists are what the vertices of the lanes before j leave. A turn writes the vertex of the lane j behind them. Assumes nothing.
abbrev pub invariant-loop-j : goal.invariant-loop-j
invariant-loop-j l = (l.j ≤ l.n) × Wrote l.place (lists l.initial.positions l.initial.normals l.initial.crossings) (map (vertex_at l.cells l.from l.centroids l.gradients l.counts) (up_to 0 l.j)) (lists l.positions l.normals l.crossings)

abbrev pub decreases-loop-j : goal.decreases-loop-j
decreases-loop-j l = l.n - l.j
