-- Two neighbour layers of points that are lent apart, each a list of X·Y distances: the field that they are, and when a box's cells between them
-- can be read. Nothing is said of any other layer. Definitions only. Assumes nothing.
use Rattle.std.specs.Prelude.{ℕ, ◌+◌, ◌-◌, ◌*◌, ◌<◌, ◌≤◌, not, cond, List, T, ltb, length, get_or, take, drop, Float}
use Rattle.std.specs.Float.{nan}
use Rattle.rules.specs.Grid.{GridPoint, Field}
use Rattle.rules.specs.Call.{bad_dimensions, bad_box}
use Rattle.grid.specs.declared.Block.{Block}
use Rattle.grid.specs.Block.{point, box_of}

-- where a point stands among the X·Y points of its layer
abbrev pub in_layer : GridPoint → GridPoint → ℕ
in_layer d p = p.x + d.x * p.y

-- the distance at an index of the whole grid, by the `plane` distances of the layer z and those of the next one
unfoldable pub layer_dist : List Float → List Float → ℕ → ℕ → ℕ → Float
layer_dist lower upper plane z i = cond (ltb i (plane * z + plane)) (get_or lower (i - plane * z) nan) (get_or upper (i - (plane * z + plane)) nan)

abbrev pub two_layers : List Float → List Float → Block → ℕ → Field
two_layers lower upper k z = record { dims = point k.dims; dist = layer_dist lower upper (k.dims.x * k.dims.y) z }

-- n elements of a list from a place on, and all that is left from a place on, as slices lend them
abbrev pub part : {A : Type 0} → ℕ → ℕ → List A → List A
part start n l = take (start + n - start) (drop start l)

abbrev pub rest : {A : Type 0} → ℕ → List A → List A
rest start l = take (length l - start) (drop start l)

-- neither of the conditions 1 and 2 applies, z is a layer of cells of the box, and both lists hold the box's points
pub record InLayers (lower upper : List Float) (k : Block) (z : ℕ) : Type 0 where
  pub dims : T (not (bad_dimensions (point k.dims)))
  pub box : T (not (bad_box (point k.dims) (box_of k)))
  pub here : (k.low.z ≤ z) × (z < k.high.z)
  pub lower_holds : in_layer (point k.dims) (point k.high) < length lower
  pub upper_holds : in_layer (point k.dims) (point k.high) < length upper
