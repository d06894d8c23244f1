-- A call of the weighing with what came of it, as the public contracts say it; and what a mesh call hands on to it. Definitions only.
-- Assumes nothing.
use Rattle.std.specs.Prelude.{ℕ, List, ◌≡◌, ℤ, Float}
use Rattle.weigh.specs.Sums.{pillars, shadows}
use Rattle.weigh.specs.Answers.{Answer, weight}
use Rattle.promises.specs.Served.{Served}
use Rattle.weighed_mesh.specs.Told.{positions_of, indices_of}

-- what went in, and the answer number with the sum and the shadow: the equation is that of the contracts of `weigh` and `bed_weigh`
pub record Told : Type 0 where
  pub positions : List Float
  pub first : ℕ
  pub indices : List ℕ
  pub says : Answer
  pub told : says ≡ weight positions first indices

-- of the first 3V positions and I indices that a mesh call leaves
abbrev pub pillars_of : Served → ℤ
pillars_of u = pillars (positions_of u) 0 (indices_of u)

abbrev pub shadows_of : Served → ℤ
shadows_of u = shadows (positions_of u) 0 (indices_of u)
