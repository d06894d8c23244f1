-- The invariant: the flag says whether one of the distances before this one is beyond the cap. Assumes nothing.
use Prim.Native.Nat.{◌≤◌}
use mathlib.Core.Path.{◌≡◌}
use lib.ListN.{length, take}
use Rattle.lists.specs.Lists.{some}
use Rattle.rules.specs.Call.{beyond}
use Rattle.grid.proofs.scan.bad_row.Given as goal

abbrev pub invariant-loop-d : goal.invariant-loop-d
invariant-loop-d g l = (l.d-index ≤ length l.row) × (l.bad ≡ some beyond (take l.d-index (g.D.Distance.floats l.row)))
