-- What the conditions 1 to 3 leave: every index of a point of the box is below the grid's length and below 2^30, and so are the strides.
-- Assumes nothing.
use Prim.Native.Nat.{ℕ, ◌*◌, ◌<◌, ◌≤◌}
use native.Mathlib.Nat.{le_trans, le_of_eq, mul-one, mul-le-mul_left}
use native.Mathlib.Omega.{arith}
use mathlib.Core.Bool.{not, ◌||◌}
use mathlib.Core.List.{List}
use mathlib.Core.Path.{◌≡◌, sym}
use mir.Syntax.{w64}
use mir.Val.{Fits}
use lib.Dec.{T, ltb, nltb→le}
use lib.ListN.{length}
use lib.Ieee.{Float}
use Rattle.rules.specs.Grid.{GridPoint, Box, index, in_box}
use Rattle.rules.specs.Call.{bad_dimension, bad_dimensions, bad_box}
use Rattle.lists.proofs.Tests.{nor-right}
use Rattle.rules.proofs.Indexes.{BoxFits, box-fits, box-within, index_below, volume}
pub use Rattle.rules.proofs.Indexes.{small}
use Rattle.grid.specs.declared.Block.{Block}
use Rattle.grid.specs.Block.{point, box_of}
use Rattle.grid.specs.Inside.{PointInside, Inside}

-- the product of the dimensions
pub few : (d : GridPoint) → T (not (bad_dimensions d)) → d.x * d.y * d.z ≤ 1073741824
unfolding bad_dimensions
few d t = nltb→le 1073741824 (d.x * d.y * d.z) (nor-right (bad_dimension d.x || (bad_dimension d.y || bad_dimension d.z)) (ltb 1073741824 (d.x * d.y * d.z)) t)

pub plane-few : (d p : GridPoint) → PointInside d p → d.x * d.y ≤ 1073741824
plane-few d p i =
    let one-layer : 1 ≤ d.z = omega arith in
    le_trans (le_of_eq (sym (mul-one (d.x * d.y)))) (le_trans (mul-le-mul_left (d.x * d.y) one-layer) i.few)

pub index-few : (d p : GridPoint) → PointInside d p → index d p < 1073741824
index-few d p i = let v = volume d p i.x i.y i.z in omega arith

-- its place, counted in distances of four bytes
pub place-fits : {d p : GridPoint} {at : ℕ} → PointInside d p → at ≡ index d p → Fits w64 (at * 4)
place-fits {d} {p} i e = let few = index-few d p i in omega arith

module _ (grid : List Float) (k : Block) (i : Inside grid k) where
  pub fits : BoxFits (point k.dims) (box_of k)
  fits = box-fits (point k.dims) (box_of k) i.box

  pub point-inside : (p : GridPoint) → T (in_box (box_of k) p) → PointInside (point k.dims) p
  point-inside p t =
      let (x, y, z) = box-within (point k.dims) (box_of k) p i.box t in
      record { x = x; y = y; z = z; few = few (point k.dims) i.dims }

  pub below_length : (p : GridPoint) → T (in_box (box_of k) p) → index (point k.dims) p < length grid
  below_length p t = index_below (point k.dims) (box_of k) (length grid) p i.box i.size t

-- the box's high corner lies in the grid, by conditions 1 and 2
pub corner-inside : (d : GridPoint) (b : Box) → T (not (bad_dimensions d)) → T (not (bad_box d b)) → PointInside d b.high
corner-inside d b s t = let f = box-fits d b t in record { x = f.x.1; y = f.y.1; z = f.z.1; few = few d s }
