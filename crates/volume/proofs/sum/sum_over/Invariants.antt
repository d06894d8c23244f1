-- `volume::sum::sum_over` meets its contract: what is summed and what is left are together the sum of the whole, and k determinants are at
-- most k·2^46 in magnitude. Assumes nothing.
use Prim.Native.Nat.{◌*◌, ◌^◌, ◌≤◌}
use mathlib.Core.Path.{◌≡◌}
use lib.IntN.{nat_abs, ◌+ℤ◌}
use lib.ListN.{length, drop}
use Rattle.volume.specs.Volume.{corner_at, sum_over, sixfold}
use Rattle.volume.proofs.sum.sum_over.Given as goal

abbrev pub invariant-loop-a : goal.invariant-loop-a
invariant-loop-a l = (l.a-index ≤ length l.triangles) × (l.sum +ℤ sum_over (corner_at l.positions) (drop (3 * l.a-index) l.indices) ≡ sixfold l.positions l.indices) × (nat_abs (l.sum) ≤ l.a-index * 2 ^ 46)
