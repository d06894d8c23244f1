-- When a point, and a box, lie in a grid: what the conditions 1 to 3 of document 01 leave once none of them applies. And condition 5 for a run
-- of distances. Definitions only. Assumes nothing.
use Rattle.std.specs.Prelude.{ℕ, ◌+◌, ◌*◌, ◌<◌, ◌≤◌, Bool, not, List, T, length, get_or, Float}
use Rattle.std.specs.Float.{nan}
use Rattle.lists.specs.Lists.{some, run}
use Rattle.rules.specs.Grid.{GridPoint}
use Rattle.rules.specs.Call.{bad_dimensions, bad_box, bad_length, beyond}
use Rattle.grid.specs.declared.Block.{Block}
use Rattle.grid.specs.Block.{point, box_of}

-- a point within the dimensions, and dimensions within condition 1
pub record PointInside (d p : GridPoint) : Type 0 where
  pub x : p.x < d.x
  pub y : p.y < d.y
  pub z : p.z < d.z
  pub few : d.x * d.y * d.z ≤ 1073741824

-- none of the conditions 1 to 3 applies
pub record Inside (grid : List Float) (k : Block) : Type 0 where
  pub dims : T (not (bad_dimensions (point k.dims)))
  pub box : T (not (bad_box (point k.dims) (box_of k)))
  pub size : T (not (bad_length (point k.dims) (length grid)))

-- one of n distances from `at` on is beyond the cap
abbrev pub bad_run : List Float → ℕ → ℕ → Bool
bad_run l at n = some (λ (j : ℕ). beyond (get_or l (at + j) nan)) (run n)
