-- The invariant: the first numbers are the floats. Assumes nothing.
use Rattle.std.proofs.Common.{◌≡◌, ◌≤◌, length, take}
use Rattle.fixture_widths.proofs.put_floats.Given as goal

abbrev pub invariant-loop-i : goal.invariant-loop-i
invariant-loop-i g l = (l.i ≤ length l.layer) × (take l.i l.out ≡ take l.i (g.D.Distance.floats l.layer))
