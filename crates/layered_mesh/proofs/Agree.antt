-- Two layers of a grid that are lent apart have the grid's distances. Assumes nothing.
use Prim.Native.Nat.{ℕ, ◌+◌, ◌*◌, ◌≤◌, ◌<◌}
use native.Mathlib.Omega.{arith}
use mathlib.Core.List.{List}
use mathlib.Core.Logic.{◌⊎◌, inl, inr}
use mathlib.Core.Path.{◌≡◌, sym, ap, ◌∙◌}
use lib.Dec.{T}
use lib.Ieee.{Float, nan}
use lib.ListN.{get_or, drop}
use lib.Seq.{get_or-take, get_or-drop}
use Rattle.rules.specs.Grid.{GridPoint, index, in_box, value}
use Rattle.lists.proofs.Tests.{less-or-not}
use Rattle.rules.proofs.Indexes.{BoxFits, within}
use Rattle.grid.specs.declared.Block.{Block}
use Rattle.grid.specs.Block.{point, box_of, field_of}
use Rattle.grid.specs.Layers.{in_layer, two_layers}
use Rattle.grid.proofs.Layers.{in-plane, value-lower, value-upper}
use Rattle.grid.proofs.Slab.{slab}
use Rattle.layers.specs.Memory.{plane}
use Rattle.layered_mesh.specs.Fed.{layer_of}

module _ (sdf : List Float) (k : Block) (f : BoxFits (point k.dims) (box_of k)) where
  -- a distance of a layer
  pub layer-at : (z : ℕ) (p : GridPoint) → p.z ≡ z → in_layer (point k.dims) p < plane k → get_or (layer_of sdf k z) (in_layer (point k.dims) p) nan ≡ value (field_of sdf k) p
  layer-at z p e h =
      let d = point k.dims in
      let same : plane k * z ≡ plane k * p.z = ap (λ (n : ℕ). plane k * n) (sym e) in
      let at : plane k * z + in_layer d p ≡ index d p = omega arith in
      get_or-take (plane k) (drop (plane k * z) sdf) (in_layer d p) nan h ∙ get_or-drop (plane k * z) sdf (in_layer d p) nan ∙ ap (λ (n : ℕ). get_or sdf n nan) at

  pub layers-agree : (z : ℕ) (p : GridPoint) → T (in_box (slab (box_of k) z) p) → value (two_layers (layer_of sdf k z) (layer_of sdf k (z + 1)) k z) p ≡ value (field_of sdf k) p
  layers-agree z p t = go (less-or-not p.z (z + 1))
    where
      d : GridPoint
      d = point k.dims

      inside : in_layer d p < plane k
      inside = let w = within (slab (box_of k) z) p t in in-plane d p (omega arith) (omega arith)

      go : (p.z < z + 1) ⊎ (z + 1 ≤ p.z) → value (two_layers (layer_of sdf k z) (layer_of sdf k (z + 1)) k z) p ≡ value (field_of sdf k) p
      go (inl h) =
          let w = within (slab (box_of k) z) p t in
          let e : p.z ≡ z = omega arith in
          value-lower (layer_of sdf k z) (layer_of sdf k (z + 1)) k z p e inside ∙ layer-at z p e inside
      go (inr h) =
          let w = within (slab (box_of k) z) p t in
          let e : p.z ≡ z + 1 = omega arith in
          value-upper (layer_of sdf k z) (layer_of sdf k (z + 1)) k z p e ∙ layer-at (z + 1) p e inside
