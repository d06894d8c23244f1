-- The invariant: after k turns the two powers of two are those of k, or of the place that was found. Assumes nothing.
use Prim.Native.Nat.{◌≤◌}
use mathlib.Core.Path.{◌≡◌}
use Rattle.closing.specs.Wall.{depth, wall_at}
use Rattle.closing.proofs.Walls.{reached, end}
use Rattle.closing.proofs.wall.wall_for.Given as goal

abbrev pub invariant-loop-k : goal.invariant-loop-k
invariant-loop-k l = (l._k ≤ 248) × (l.depth ≡ depth (reached l._k (end l.deepest))) × (l.wall ≡ wall_at (reached l._k (end l.deepest)))
