-- The invariant: the lanes before j hold what is worked out of theirs. A turn stores the results of the lane j, each list by a law of lanes.
-- Assumes nothing.
use Prim.Native.Nat.{◌-◌, ◌≤◌}
use mathlib.Core.Path.{◌≡◌}
use lib.ListN.{length}
use Rattle.layer_estimates.specs.Estimates.{Solved}
use Rattle.layer_estimates.proofs.solve.Given as goal

-- The invariant: the lanes before j hold what is worked out of theirs. A turn stores the results of the lane j, each list by a law of lanes.
-- Assumes nothing.
abbrev pub invariant-loop-j : goal.invariant-loop-j
invariant-loop-j l = (l.j ≤ 32) × ((length l.centroids ≡ 96) × ((length l.gradients ≡ 96) × ((length l.counts ≡ 32) × Solved l.corners l.centroids l.gradients l.counts l.j)))

abbrev pub decreases-loop-j : goal.decreases-loop-j
decreases-loop-j l = 32 - l.j
