-- The parts of a grid that are lent for the layer z: they are its two layers of distances, and hold the box. From the conditions 1 to 3. Assumes nothing.
use Prim.Native.Nat.{ℕ, ◌+◌, ◌-◌, ◌*◌, ◌≤◌, ◌<◌}
use native.Mathlib.Nat.{mul-one, mul-suc, mul-add, mul-le-mul_left}
use native.Mathlib.Omega.{arith}
use mathlib.Core.List.{List}
use mathlib.Core.Logic.{◌⊎◌, inl, inr}
use mathlib.Core.Path.{◌≡◌, sym, ap, ◌∙◌}
use lib.Dec.{T}
use lib.Ieee.{Float, nan}
use lib.ListN.{length, get_or, take, drop, length-drop}
use lib.Seq.{length-take-le, take_all, get_or-take, get_or-drop}
use Rattle.rules.specs.Grid.{GridPoint, index, in_box, value}
use Rattle.lists.proofs.Tests.{less-or-not}
use Rattle.rules.proofs.Indexes.{within, in-box}
use Rattle.grid.specs.declared.Block.{Block}
use Rattle.grid.specs.Block.{point, box_of, field_of}
use Rattle.grid.specs.Inside.{Inside}
use Rattle.grid.specs.Layers.{in_layer, two_layers, part, rest, InLayers}
use Rattle.grid.proofs.Bounds.{few, fits, below_length}
use Rattle.grid.proofs.Layers.{in-plane, value-lower, value-upper}
use Rattle.grid.proofs.Slab.{slab}

pub length_part : {A : Type 0} (start n : ℕ) (l : List A) → start + n ≤ length l → length (part start n l) ≡ n
length_part start n l h =
    let e : start + n - start ≡ n = omega arith in
    ap (λ (m : ℕ). length (take m (drop start l))) e ∙ length-take-le n (drop start l) (omega (arith, length-drop start l))

pub part_at : {A : Type 0} (start n : ℕ) (l : List A) (j : ℕ) (d : A) → j < n → get_or (part start n l) j d ≡ get_or l (start + j) d
part_at start n l j d h = get_or-take (start + n - start) (drop start l) j d (omega arith) ∙ get_or-drop start l j d

pub rest_at : {A : Type 0} (start : ℕ) (l : List A) (j : ℕ) (d : A) → get_or (rest start l) j d ≡ get_or l (start + j) d
rest_at start l j d = ap (λ (s : List _). get_or s j d) (take_all (length l - start) (drop start l) (omega (arith, length-drop start l))) ∙ get_or-drop start l j d

pub length_rest : {A : Type 0} (start : ℕ) (l : List A) → length (rest start l) ≡ length l - start
length_rest start l = ap length (take_all (length l - start) (drop start l) (omega (arith, length-drop start l))) ∙ length-drop start l

-- a layer of points ends where the next begins, and the last at the grid's end
pub layer-under : (plane z n : ℕ) → z < n → plane * z + plane ≤ plane * n
layer-under plane z n h = omega (arith, mul-le-mul_left plane h, mul-suc plane z)

-- ---- the two layers

module _ (sdf : List Float) (k : Block) (i : Inside sdf k) (z : ℕ) (zs : (k.low.z ≤ z) × (z < k.high.z)) where
  abbrev plane : ℕ
  plane = k.dims.x * k.dims.y

  above : plane * (z + 1) ≡ plane * z + plane
  above = mul-add plane z 1 ∙ ap (λ (n : ℕ). plane * z + n) (mul-one plane)

  -- the box's last point in the upper layer
  last : in_layer (point k.dims) (point k.high) + (k.dims.x * k.dims.y * z + k.dims.x * k.dims.y) < length sdf
  last =
      let f = fits sdf k i in
      let p : GridPoint = record { x = k.high.x; y = k.high.y; z = z + 1 } in
      let t : T (in_box (box_of k) p) = in-box (box_of k) p (omega arith) in
      omega (arith, below_length sdf k i p t, above)

  pub layer-end : k.dims.x * k.dims.y * z + k.dims.x * k.dims.y ≤ length sdf
  layer-end = omega (arith, last)

  pub layer-few : k.dims.x * k.dims.y * z + k.dims.x * k.dims.y ≤ 1073741824
  layer-few =
      let f = fits sdf k i in
      omega (arith, layer-under plane z k.dims.z (omega arith), few (point k.dims) i.dims)

  pub corner-in : in_layer (point k.dims) (point k.high) < k.dims.x * k.dims.y
  corner-in = let f = fits sdf k i in in-plane (point k.dims) (point k.high) f.x.1 f.y.1

  pub in-layers : InLayers (part (k.dims.x * k.dims.y * z) (k.dims.x * k.dims.y) sdf) (rest (k.dims.x * k.dims.y * z + k.dims.x * k.dims.y) sdf) k z
  in-layers =
      record {
        dims = i.dims;
        box = i.box;
        here = zs;
        lower_holds = omega (arith, corner-in, length_part (plane * z) plane sdf layer-end);
        upper_holds = omega (arith, last, length_rest (plane * z + plane) sdf);
      }

  -- lists that are these parts
  pub layers-lent : {lower upper : List Float} → lower ≡ part (k.dims.x * k.dims.y * z) (k.dims.x * k.dims.y) sdf
      → upper ≡ rest (k.dims.x * k.dims.y * z + k.dims.x * k.dims.y) sdf → InLayers lower upper k z
  layers-lent e u = rw (e, u) in-layers

  -- the layer's part of a map that is as long as the grid
  pub corner-lent : (l : List ℕ) → length sdf ≤ length l → in_layer (point k.dims) (point k.high) < length (part (k.dims.x * k.dims.y * z) (k.dims.x * k.dims.y) l)
  corner-lent l h = omega (arith, corner-in, length_part (plane * z) plane l (omega (arith, layer-end)))

  pub layers-agree : (p : GridPoint) → T (in_box (slab (box_of k) z) p)
      → value (two_layers (part (k.dims.x * k.dims.y * z) (k.dims.x * k.dims.y) sdf) (rest (k.dims.x * k.dims.y * z + k.dims.x * k.dims.y) sdf) k z) p ≡ value
      (field_of sdf k) p
  layers-agree p t = go (less-or-not p.z (z + 1))
    where
      lower : List Float
      lower = part (plane * z) plane sdf

      upper : List Float
      upper = rest (plane * z + plane) sdf

      d : GridPoint
      d = point k.dims

      inside : in_layer d p < plane
      inside = let f = fits sdf k i in let w = within (slab (box_of k) z) p t in in-plane d p (omega arith) (omega arith)

      go : (p.z < z + 1) ⊎ (z + 1 ≤ p.z) → value (two_layers lower upper k z) p ≡ value (field_of sdf k) p
      go (inl h) =
          let w = within (slab (box_of k) z) p t in
          let e : p.z ≡ z = omega arith in
          let same : plane * z ≡ plane * p.z = ap (λ (n : ℕ). plane * n) (sym e) in
          let at : plane * z + in_layer d p ≡ index d p = omega arith in
          value-lower lower upper k z p e inside ∙ part_at (plane * z) plane sdf (in_layer d p) nan inside ∙ ap (λ (n : ℕ). get_or sdf n nan) at
      go (inr h) =
          let w = within (slab (box_of k) z) p t in
          let e : p.z ≡ z + 1 = omega arith in
          let same : plane * z + plane ≡ plane * p.z = sym (ap (λ (n : ℕ). plane * n) e ∙ above) in
          let at : plane * z + plane + in_layer d p ≡ index d p = omega arith in
          value-upper lower upper k z p e ∙ rest_at (plane * z + plane) sdf (in_layer d p) nan ∙ ap (λ (n : ℕ). get_or sdf n nan) at
