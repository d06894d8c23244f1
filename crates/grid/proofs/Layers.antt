-- Two layers that are lent apart: a distance is found in the one or the other, a cell's corners are its two sides between them, and the places
-- in a layer are counted as in a grid. Assumes nothing.
use Prim.Native.Nat.{ℕ, ◌+◌, ◌-◌, ◌*◌, ◌≤◌, ◌<◌}
use native.Mathlib.Nat.{mul-suc, mul-one, mul-add, mul-le-mul_left, le_trans, le_of_eq}
use native.Mathlib.Omega.{arith}
use mathlib.Core.Bool.{Bool, cond, not}
use mathlib.Core.List.{List, [], ◌∷◌}
use mathlib.Core.Path.{◌≡◌, refl, sym, ap, ◌∙◌}
use borrow.Author.Tests.{lt-ltb, le-ltb, eq-eqb}
use lib.Dec.{T}
use lib.ListN.{get_or, replicate, length-replicate}
use lib.Ieee.{Float, nan}
use Rattle.rules.specs.Grid.{GridPoint, index, value, is_cell}
use Rattle.rules.specs.Cell.{values, corner_of}
use Rattle.rules.specs.Call.{bad_dimensions, bad_box, bad_length}
use Rattle.rules.proofs.Indexes.{BoxFits, box-fits, cell-within}
use Rattle.grid.specs.declared.Block.{Block}
use Rattle.grid.specs.declared.corners.Side.{Side}
use Rattle.grid.specs.Block.{point, box_of}
use Rattle.grid.specs.Inside.{Inside}
use Rattle.grid.specs.Corners.{side_between, eight_of}
use Rattle.grid.specs.Layers.{in_layer, layer_dist, two_layers, InLayers}
use Rattle.grid.proofs.Bounds.{few}

-- ---- places in a layer

pub in-plane : (d p : GridPoint) → p.x < d.x → p.y < d.y → in_layer d p < d.x * d.y
in-plane d p hx hy = omega (arith, mul-le-mul_left d.x hy, mul-suc d.x p.y)

-- a point at or below another stands at or before it
pub in_order : (d p q : GridPoint) → p.x ≤ q.x → p.y ≤ q.y → in_layer d p ≤ in_layer d q
in_order d p q hx hy = omega (arith, mul-le-mul_left d.x hy)

-- ---- the distance at a point of either layer

module _ (lower upper : List Float) (k : Block) (z : ℕ) (p : GridPoint) where
  abbrev d : GridPoint
  d = point k.dims

  abbrev plane : ℕ
  plane = k.dims.x * k.dims.y

  pub value-lower : p.z ≡ z → in_layer (point k.dims) p < k.dims.x * k.dims.y → value (two_layers lower upper k z) p ≡ get_or lower (in_layer (point k.dims) p) nan
  unfolding layer_dist
  value-lower e h =
      let same : plane * p.z ≡ plane * z = ap (λ (n : ℕ). plane * n) e in
      let back : index d p - plane * z ≡ in_layer d p = omega arith in
      ap (λ (t : Bool). cond t (get_or lower (index d p - plane * z) nan) (get_or upper (index d p - (plane * z + plane)) nan)) (lt-ltb (index d p) (plane * z + plane) (omega arith))
      ∙ ap (λ (n : ℕ). get_or lower n nan) back

  pub value-upper : p.z ≡ z + 1 → value (two_layers lower upper k z) p ≡ get_or upper (in_layer (point k.dims) p) nan
  unfolding layer_dist
  value-upper e =
      let same : plane * p.z ≡ plane * z + plane = ap (λ (n : ℕ). plane * n) e ∙ mul-add plane z 1 ∙ ap (λ (n : ℕ). plane * z + n) (mul-one plane) in
      let back : index d p - (plane * z + plane) ≡ in_layer d p = omega arith in
      ap (λ (t : Bool). cond t (get_or lower (index d p - plane * z) nan) (get_or upper (index d p - (plane * z + plane)) nan)) (le-ltb (index d p) (plane * z + plane) (omega arith))
      ∙ ap (λ (n : ℕ). get_or upper n nan) back

-- ---- a cell's corners

module _ (lower upper : List Float) (k : Block) (z : ℕ) (c : GridPoint) (ez : c.z ≡ z) (hx : c.x + 1 < k.dims.x) (hy : c.y + 1 < k.dims.y) where
  abbrev dims : GridPoint
  dims = point k.dims

  -- a corner of the lower layer, and one of the upper, dx and dy from the lowest
  low-at : (i n : ℕ) → (corner_of c i).x < k.dims.x → (corner_of c i).y < k.dims.y → (corner_of c i).z ≡ z → in_layer (point k.dims) (corner_of c i) ≡ n → value
      (two_layers lower upper k z) (corner_of c i) ≡ get_or lower n nan
  low-at i n x y e f = value-lower lower upper k z (corner_of c i) e (in-plane dims (corner_of c i) x y) ∙ ap (λ (m : ℕ). get_or lower m nan) f

  high-at : (i n : ℕ) → (corner_of c i).z ≡ z + 1 → in_layer (point k.dims) (corner_of c i) ≡ n → value (two_layers lower upper k z) (corner_of c i) ≡ get_or upper n nan
  high-at i n e f = value-upper lower upper k z (corner_of c i) e ∙ ap (λ (m : ℕ). get_or upper m nan) f

  pub values-between : (at row : ℕ) → at ≡ in_layer (point k.dims) c → row ≡ k.dims.x → values (two_layers lower upper k z) c ≡ eight_of (side_between lower upper at row)
      (side_between lower upper (at + 1) row)
  values-between at row e f =
      let up : k.dims.x * (c.y + 1) ≡ k.dims.x * c.y + k.dims.x = mul-add k.dims.x c.y 1 ∙ ap (λ (n : ℕ). k.dims.x * c.y + n) (mul-one k.dims.x) in
      let no : k.dims.x * (c.y + 0) ≡ k.dims.x * c.y = ap (λ (n : ℕ). k.dims.x * n) (omega arith) in
      let v0 = low-at 0 at (omega arith) (omega arith) (omega arith) (omega arith) in
      let v1 = low-at 1 (at + 1) (omega arith) (omega arith) (omega arith) (omega arith) in
      let v2 = low-at 2 (at + row) (omega arith) (omega arith) (omega arith) (omega arith) in
      let v3 = low-at 3 (at + 1 + row) (omega arith) (omega arith) (omega arith) (omega arith) in
      let v4 = high-at 4 at (omega arith) (omega arith) in
      let v5 = high-at 5 (at + 1) (omega arith) (omega arith) in
      let v6 = high-at 6 (at + row) (omega arith) (omega arith) in
      let v7 = high-at 7 (at + 1 + row) (omega arith) (omega arith) in
      λ i. v0 i ∷ v1 i ∷ v2 i ∷ v3 i ∷ v4 i ∷ v5 i ∷ v6 i ∷ v7 i ∷ []

-- ---- a box between two layers

-- such a box lies in a grid of its dimensions, so that what is known of loops over a grid holds here too
pub in-some-grid : {k : Block} → T (not (bad_dimensions (point k.dims))) → T (not (bad_box (point k.dims) (box_of k)))
    → Inside (replicate (k.dims.x * k.dims.y * k.dims.z) nan) k
unfolding bad_length
in-some-grid {k} d b =
    let n = k.dims.x * k.dims.y * k.dims.z in
    record { dims = d; box = b; size = rw (length-replicate n nan, eq-eqb n n refl) tt }

module _ {lower upper : List Float} {k : Block} {z : ℕ} (i : InLayers lower upper k z) where
  pub layers-fit : BoxFits (point k.dims) (box_of k)
  layers-fit = box-fits (point k.dims) (box_of k) i.box

  pub somewhere : Inside (replicate (k.dims.x * k.dims.y * k.dims.z) nan) k
  somewhere = in-some-grid i.dims i.box

  pub plane-small : k.dims.x * k.dims.y ≤ 1073741824
  plane-small =
      let f = layers-fit in
      let one-layer : 1 ≤ k.dims.z = omega arith in
      le_trans (le_of_eq (sym (mul-one (k.dims.x * k.dims.y)))) (le_trans (mul-le-mul_left (k.dims.x * k.dims.y) one-layer) (few (point k.dims) i.dims))

  -- what the code reads of a cell of the box
  pub corners-between : (c : GridPoint) → T (is_cell (box_of k) c) → c.z ≡ z → {at : ℕ} {low high : Side} {v : List Float} → at ≡ in_layer (point k.dims) c
      → low ≡ side_between lower upper at k.dims.x → high ≡ side_between lower upper (at + 1) k.dims.x → v ≡ eight_of low high → v ≡ values (two_layers lower upper k z) c
  corners-between c t ez {at} {low} {high} ea el eh ev =
      let f = layers-fit in
      let w = cell-within (box_of k) c t in
      ev ∙ ap (λ (s : Side). eight_of s high) el ∙ ap (λ (s : Side). eight_of (side_between lower upper at k.dims.x) s) eh
      ∙ sym (values-between lower upper k z c ez (omega arith) (omega arith) at k.dims.x ea refl)
