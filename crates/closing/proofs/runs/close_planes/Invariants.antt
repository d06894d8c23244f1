-- The invariant: the first z layers are stored. Assumes nothing.
use Prim.Native.Nat.{◌+◌, ◌*◌, ◌≤◌}
use mathlib.Core.Path.{◌≡◌}
use lib.Seq.{sets}
use Rattle.closing.specs.Runs.{spread, layers_value}
use Rattle.closing.proofs.runs.close_planes.Given as goal

abbrev pub invariant-loop-z : goal.invariant-loop-z
invariant-loop-z g l = (l.z ≤ l.l) × (l.closed ≡ sets l.initial.closed l.at (spread (layers_value (g.D.Distance.floats l.sdf) l.wall l.n l.m) ((l.n + 3) * (l.m + 3) * l.z)))
