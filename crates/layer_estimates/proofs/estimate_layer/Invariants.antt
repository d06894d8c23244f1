-- The invariant: the lists are what the vertices of the first `done` cells leave. A turn is a batch, and after the last one the cells are all of the
-- layer's. Assumes nothing.
use Prim.Native.Nat.{◌≤◌}
use mathlib.Core.List.{map}
use Rattle.lists.specs.Lists.{up_to}
use Rattle.layer_estimates.specs.Estimates.{lists, estimated}
use Rattle.layer_estimates.proofs.Writing.{Wrote}
use Rattle.layer_estimates.proofs.estimate_layer.Given as goal

abbrev pub invariant-loop-done : goal.invariant-loop-done
invariant-loop-done g l = let vertex = estimated (g.D.Distance.floats l.lower) (g.D.Distance.floats l.upper) l.row l.cells in
    (l.done ≤ l.count) × Wrote l.place (lists l.initial.positions l.initial.normals l.initial.crossings) (map vertex (up_to 0 l.done)) (lists l.positions l.normals l.crossings)
