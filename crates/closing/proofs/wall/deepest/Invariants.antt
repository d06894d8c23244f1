-- The invariant: what is deepest of the first distances. Assumes nothing.
use Rattle.std.proofs.Common.{◌≡◌, ◌≤◌, length, take}
use Rattle.closing.specs.Wall.{deepest}
use Rattle.closing.proofs.wall.deepest.Given as goal

abbrev pub invariant-loop-d : goal.invariant-loop-d
invariant-loop-d g l = (l.d-index ≤ length l.sdf) × (l.found ≡ deepest l.so_far (take l.d-index (g.D.Distance.floats l.sdf)))
