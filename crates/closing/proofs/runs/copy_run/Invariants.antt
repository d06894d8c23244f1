-- The invariant: the first j distances are stored. Assumes nothing.
use Rattle.std.proofs.Common.{◌≡◌, ◌≤◌, length, take}
use lib.Seq.{sets}
use Rattle.closing.proofs.runs.copy_run.Given as goal

abbrev pub invariant-loop-j : goal.invariant-loop-j
invariant-loop-j g l = (l.j ≤ length l.run) × (l.closed ≡ sets l.initial.closed l.at (take l.j (g.D.Distance.floats l.run)))
