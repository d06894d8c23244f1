-- The invariant: the count is that of the distances so far, and at most as many, so that it fits 32 bits. Assumes nothing.
use Prim.Native.Nat.{◌≤◌}
use mathlib.Core.Path.{◌≡◌}
use lib.ListN.{length}
use Rattle.row_signs.specs.Signs.{negatives_run}
use Rattle.row_signs.proofs.negatives.Given as goal

abbrev pub invariant-loop-d : goal.invariant-loop-d
invariant-loop-d g l = let floats = g.D.Distance.floats l.points in
    (l.d-index ≤ length floats) × (l.count ≤ l.d-index) × (l.count ≡ negatives_run floats 0 l.d-index)
