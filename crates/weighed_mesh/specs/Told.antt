-- A call of the volume with what came of it, as the public contracts say it; and what a mesh call hands on to it. Definitions only.
-- Assumes nothing.
use Rattle.std.specs.Prelude.{ℕ, ◌*◌, List, ◌≡◌, ℤ, take, Float}
use Rattle.volume.specs.Volume.{sixfold}
use Rattle.volume.specs.Answers.{Weighed, weighing}
use Rattle.promises.specs.Served.{Served}

-- what went in, and the answer number with the volume: the equation is that of the contracts of `volume` and `bed_volume`
pub record Told : Type 0 where
  pub positions : List Float
  pub indices : List ℕ
  pub says : Weighed
  pub told : says ≡ weighing positions indices

-- what a mesh call leaves for the volume: the first 3V numbers of the positions and the first I of the indices
abbrev pub positions_of : Served → List Float
positions_of u = take (3 * u.says.vertices) u.after.positions

abbrev pub indices_of : Served → List ℕ
indices_of u = take u.says.indices u.after.indices

-- the sum of their determinants, whether or not they are within the bounds of the volume's call
abbrev pub weight_of : Served → ℤ
weight_of u = sixfold (positions_of u) (indices_of u)
