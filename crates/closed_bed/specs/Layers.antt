-- What the layers of the closed grid are made from. Definitions only. Assumes nothing.
use Rattle.std.specs.Prelude.{ℕ, ◌-◌, ◌*◌, cond, List, [], Float, take, drop}
use Rattle.rules.specs.Grid.{GridPoint, between}
use Rattle.closing.specs.Closed.{layer_count}

-- the layer z - 1 of the open grid, and nothing where the closed layer is wall
abbrev pub layer_of : GridPoint → List Float → ℕ → List Float
layer_of d sdf z = cond (between 1 d.z z) (take (layer_count d) (drop (layer_count d * (z - 1)) sdf)) []
