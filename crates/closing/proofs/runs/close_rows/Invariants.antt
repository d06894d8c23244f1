-- The invariant: the first y rows are stored. Assumes nothing.
use Prim.Native.Nat.{◌+◌, ◌*◌, ◌≤◌}
use mathlib.Core.Path.{◌≡◌}
use lib.Seq.{sets}
use Rattle.closing.specs.Runs.{spread, rows_value}
use Rattle.closing.proofs.runs.close_rows.Given as goal

abbrev pub invariant-loop-y : goal.invariant-loop-y
invariant-loop-y g l = (l.y ≤ l.m) × (l.closed ≡ sets l.initial.closed l.at (spread (rows_value (g.D.Distance.floats l.layer) l.wall l.n 0) ((l.n + 3) * l.y)))
