-- What the inner functions ask: that dimensions and box pass the conditions 1 and 2, that a layer lies in each of two lists, and that the columns have
-- room. And what one of them says of a row. Definitions only. Assumes nothing.
use Rattle.std.specs.Prelude.{◌≡◌, ℕ, ◌+◌, ◌-◌, ◌*◌, ◌≤◌, false, not, T, List, length, nat_eq, slice_index_or, Float}
use Rattle.std.specs.Float.{nan}
use Rattle.rules.specs.Call.{bad_dimensions, bad_box}
use Rattle.grid.specs.declared.Block.{Block}
use Rattle.grid.specs.Block.{point, box_of}
use Rattle.grid.specs.Layers.{in_layer}
use Rattle.levels.specs.Column.{first_level, level_step}
use Rattle.levels.specs.Columns.{columns, in_column}

-- the conditions 1 and 2, and room for the columns
pub record Roomy (k : Block) (room : ℕ) : Type 0 where
  pub dims : T (not (bad_dimensions (point k.dims)))
  pub box : T (not (bad_box (point k.dims) (box_of k)))
  pub holds : columns (box_of k) ≤ room

-- two layers of X·Y distances, each from a place on in its list
pub record Laid (k : Block) (lower upper : List Float) (a b : ℕ) : Type 0 where
  pub below : a + k.dims.x * k.dims.y ≤ length lower
  pub here : b + k.dims.x * k.dims.y ≤ length upper
  pub few : (a ≤ 1073741824) × (b ≤ 1073741824)

-- a row of levels from the place `to` on, by two rows of distances from a and b on
abbrev pub row_step : List Float → List Float → ℕ → ℕ → ℕ → ℕ → ℕ → Float → Float
row_step lower upper a b z to i old = level_step z (slice_index_or lower (a + (i - to)) nan) (slice_index_or upper (b + (i - to)) nan) old

-- the columns' levels, by two layers of distances from a and b on
abbrev pub column_step : Block → List Float → List Float → ℕ → ℕ → ℕ → ℕ → Float → Float
column_step k lower upper a b z j old =
    let at = in_layer (point k.dims) (in_column (box_of k) j z) in
    level_step z (slice_index_or lower (at + a) nan) (slice_index_or upper (at + b) nan) old

-- and by the lowest layer alone
abbrev pub lowest_step : Block → List Float → ℕ → ℕ → ℕ → Float → Float
lowest_step k upper b z j _ = first_level z (slice_index_or upper (in_layer (point k.dims) (in_column (box_of k) j z) + b) nan)

-- a layer of X·Y distances, the conditions 1 and 2 not applying
pub record Plane (k : Block) (layer : List Float) : Type 0 where
  pub dims : T (not (bad_dimensions (point k.dims)))
  pub box : T (not (bad_box (point k.dims) (box_of k)))
  pub long : length layer ≡ k.dims.x * k.dims.y

-- what a layer that is taken, and the layer below it, were found to be
pub record Taken (k : Block) (lower upper : List Float) (z room : ℕ) : Type 0 where
  pub roomy : Roomy k room
  pub long : length upper ≡ k.dims.x * k.dims.y
  pub below : nat_eq z k.low.z ≡ false → length lower ≡ k.dims.x * k.dims.y
