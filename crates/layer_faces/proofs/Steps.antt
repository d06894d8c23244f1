-- Where the four cells round an owned edge stand in their layers: so many entries before the edge's own cell, in the layer or in the one below.
-- Assumes nothing.
use Rattle.std.proofs.Common.{◌≡◌, ◌+◌, ◌-◌, ◌<◌, arith}
use Rattle.rules.specs.Grid.{GridPoint, axis_x, axis_y, step_down}
use Rattle.rules.proofs.Indexes.{index-down}
use Rattle.grid.specs.Layers.{in_layer}

module _ (d c : GridPoint) where
  pub left-of : 0 < c.x → in_layer d (step_down axis_x c) ≡ in_layer d c - 1
  left-of h = omega arith

  pub front_of : 0 < c.y → in_layer d (step_down axis_y c) + d.x ≡ in_layer d c
  front_of h = omega (arith, index-down d axis_y c h)

  pub across-of : 0 < c.x → 0 < c.y → in_layer d (step_down axis_y (step_down axis_x c)) + (d.x + 1) ≡ in_layer d c
  across-of h k = omega (arith, index-down d axis_y c k)
