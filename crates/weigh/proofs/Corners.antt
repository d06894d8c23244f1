-- The corners of an accepted list. Assumes nothing.
use Rattle.std.proofs.Common.{◌≡◌, ℕ, ◌+◌, ◌*◌, ◌≤◌, false, List, length, arith}
use lib.Ieee.{Float}
use Rattle.lists.specs.Lists.{some}
use Rattle.volume.specs.Volume.{corner_at}
use Rattle.volume.proofs.Coordinate.{steps-low}
use Rattle.volume.proofs.Corners.{inside}
use Rattle.weigh.specs.Answers.{beyond}
use Rattle.weigh.specs.Biased.{Low}

pub low_corner : (p : List Float) (v : ℕ) → 3 * v + 3 ≤ length p → some beyond p ≡ false → Low (corner_at p v)
low_corner p v h e = record {
  x = steps-low _ (inside 16777216 p e (3 * v) (omega arith));
  y = steps-low _ (inside 16777216 p e (3 * v + 1) (omega arith));
  z = steps-low _ (inside 16777216 p e (3 * v + 2) (omega arith));
}
