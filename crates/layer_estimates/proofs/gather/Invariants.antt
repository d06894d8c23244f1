-- The invariant: the lanes before j hold the corner values of their cells. A turn stores the eight of the lane j, by a law of lanes. Assumes nothing.
use Prim.Native.Nat.{◌-◌, ◌≤◌}
use mathlib.Core.Path.{◌≡◌}
use lib.ListN.{length}
use Rattle.layer_estimates.specs.Estimates.{Gathered}
use Rattle.layer_estimates.proofs.gather.Given as goal

-- The invariant: the lanes before j hold the corner values of their cells. A turn stores the eight of the lane j, by a law of lanes. Assumes nothing.
abbrev pub invariant-loop-j : goal.invariant-loop-j
invariant-loop-j g l = (l.j ≤ l.n) × ((length l.corners ≡ 256) × Gathered (g.D.Distance.floats l.lower) (g.D.Distance.floats l.upper) l.row l.cells l.from l.corners l.j)

abbrev pub decreases-loop-j : goal.decreases-loop-j
decreases-loop-j g l = l.n - l.j
