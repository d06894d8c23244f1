-- The layers of a grid, offered one after the other from min z up. Definitions only. Assumes nothing.
use Rattle.std.specs.Prelude.{ℕ, zero, suc, ◌+◌, ◌*◌, List, [], take, drop, Float}
use Rattle.rules.specs.Grid.{GridPoint, Box}
use Rattle.levels.specs.Call.{layer_after}

-- the X·Y distances of the layer z
abbrev pub layer_at : List Float → GridPoint → ℕ → List Float
layer_at grid d z = take (d.x * d.y) (drop (d.x * d.y * z) grid)

-- the layer below the n-th of the box: none below the first
abbrev pub below_nth : List Float → GridPoint → Box → ℕ → List Float
below_nth grid d b zero = []
below_nth grid d b (suc n) = layer_at grid d (b.low.z + n)

-- the list after n layers
unfoldable pub after_layers : List Float → GridPoint → Box → ℕ → List Float → List Float
after_layers grid d b zero old = old
after_layers grid d b (suc n) old = layer_after (below_nth grid d b n) (layer_at grid d (b.low.z + n)) d b (b.low.z + n) (after_layers grid d b n old)
