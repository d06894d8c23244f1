-- Where the rows of a box begin and end in the list of distances. Assumes nothing.
use Prim.Native.Nat.{ℕ, ◌+◌, ◌-◌, ◌*◌, ◌≤◌}
use native.Mathlib.Nat.{le_trans, le_of_eq, mul-one, mul-le-mul, mul-le-mul_left}
use native.Mathlib.Omega.{arith}
use mathlib.Core.List.{List}
use mathlib.Core.Path.{sym}
use lib.Dec.{T}
use lib.ListN.{length}
use lib.Ieee.{Float}
use Rattle.rules.specs.Grid.{index, in_box}
use Rattle.rules.proofs.Indexes.{in-box}
use Rattle.grid.specs.declared.Block.{Block}
use Rattle.grid.specs.Block.{point, box_of}
use Rattle.grid.specs.Inside.{PointInside, Inside}
use Rattle.grid.specs.Order.{layer_to, box_to}
use Rattle.grid.proofs.Bounds.{few, fits, point-inside, below_length}
use Rattle.grid.proofs.Order.{layer-length, box-length}

module _ {grid : List Float} {k : Block} (i : Inside grid k) {y z : ℕ} (ys : (k.low.y ≤ y) × (y ≤ k.high.y)) (zs : (k.low.z ≤ z) × (z ≤ k.high.z)) where
  -- a point of the row
  pub on_row : {x : ℕ} → (k.low.x ≤ x) × (x ≤ k.high.x) → T (in_box (box_of k) (record { x = x; y = y; z = z }))
  on_row {x} xs = in-box (box_of k) (record { x = x; y = y; z = z }) (record { x = xs; y = ys; z = zs })

  pub row-start : PointInside (point k.dims) (record { x = k.low.x; y = y; z = z })
  row-start = let f = fits grid k i in point-inside grid k i (record { x = k.low.x; y = y; z = z }) (on_row (omega arith))

  -- the row's points, both ends included, lie in the list
  pub row-end : index (point k.dims) (record { x = k.low.x; y = y; z = z }) + (k.high.x + 1 - k.low.x) ≤ length grid
  row-end =
      let f = fits grid k i in
      let h = below_length grid k i (record { x = k.high.x; y = y; z = z }) (on_row (omega arith)) in
      omega arith

-- ---- the lists of cells are short

module _ (grid : List Float) (k : Block) (i : Inside grid k) where
  pub layer-short : (z y : ℕ) → y ≤ k.high.y → length (layer_to (box_of k) z y) ≤ 1073741824
  layer-short z y h =
      let f = fits grid k i in
      let s = few (point k.dims) i.dims in
      let a : k.high.x - k.low.x ≤ k.dims.x = omega arith in
      let b : y - k.low.y ≤ k.dims.y = omega arith in
      let deep : 1 ≤ k.dims.z = omega arith in
      le_trans (le_of_eq (layer-length (box_of k) z y)) (le_trans (mul-le-mul a b)
      (le_trans (le_of_eq (sym (mul-one (k.dims.x * k.dims.y)))) (le_trans (mul-le-mul_left (k.dims.x * k.dims.y) deep) s)))

  pub box-short : (z : ℕ) → z ≤ k.high.z → length (box_to (box_of k) z) ≤ 1073741824
  box-short z h =
      let f = fits grid k i in
      let s = few (point k.dims) i.dims in
      let a : k.high.x - k.low.x ≤ k.dims.x = omega arith in
      let b : k.high.y - k.low.y ≤ k.dims.y = omega arith in
      let d : z - k.low.z ≤ k.dims.z = omega arith in
      le_trans (le_of_eq (box-length (box_of k) z)) (le_trans (mul-le-mul (mul-le-mul a b) d) s)
