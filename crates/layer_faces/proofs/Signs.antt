-- The signs that the code reads at a cell of the layer are those of its three edges' ends, and the look-ups for an edge that gives a face stay within
-- their lists. Assumes nothing.
use Rattle.std.proofs.Common.{◌≡◌, ℕ, ◌+◌, ◌*◌, ◌<◌, ◌≤◌, Bool, ◌&&◌, T, List, length, get_or, sym, ap, ◌∙◌, mul-one, mul-add, arith, w64, Fits}
use lib.Ieee.{Float, nan, unlike}
use Rattle.rules.specs.Grid.{GridPoint, Axis, axis_x, axis_y, axis_z, Box, Field, step_up, is_cell, value}
use Rattle.rules.specs.Cell.{negative}
use Rattle.rules.specs.Faces.{Flags, edge, owned, changes, gives}
use Rattle.rules.proofs.Indexes.{cell-within}
use Rattle.rules.proofs.FourCells.{owned-says, gives-owned}
use Rattle.grid.specs.declared.Block.{Block}
use Rattle.grid.specs.Block.{point, box_of, flags_of}
use Rattle.grid.specs.Layers.{in_layer, two_layers, InLayers}
use Rattle.grid.proofs.Layers.{in-plane, in_order, value-lower, value-upper, layers-fit, plane-small}
use Rattle.layer_faces.specs.Quads.{way2, way3, way4, Reaches}
use Rattle.layer_faces.proofs.Steps.{front_of, across-of}

-- whether an edge gives a face, by what the code has read
pub gives-is : (g : Field) (b : Box) (m : Flags) (a : Axis) (c : GridPoint) {own n n' : Bool} → own ≡ owned b m (edge a c) → n ≡ negative (value g c) → n' ≡ negative
    (value g (step_up a c)) → (own && unlike n n') ≡ gives g b m (edge a c)
unfolding changes
gives-is g b m a c e f h = λ i. e i && unlike (f i) (h i)

module _ {lower upper : List Float} {k : Block} {z : ℕ} (i : InLayers lower upper k z) (c : GridPoint) (t : T (is_cell (box_of k) c)) (ez : c.z ≡ z) where
  abbrev d : GridPoint
  d = point k.dims

  row_up : k.dims.x * (c.y + 1) ≡ k.dims.x * c.y + k.dims.x
  row_up = mul-add k.dims.x c.y 1 ∙ ap (λ (n : ℕ). k.dims.x * c.y + n) (mul-one k.dims.x)

  -- the cell's place, and those of its other edges' ends
  pub cell-at : in_layer (point k.dims) c + 1 + k.dims.x ≤ in_layer (point k.dims) (point k.high)
  cell-at =
      let w = cell-within (box_of k) c t in
      let o = in_order d (record { x = c.x + 1; y = c.y + 1; z = c.z }) (point k.high) (omega arith) (omega arith) in
      omega (arith, row_up)

  pub high-few : in_layer (point k.dims) (point k.high) < 1073741824
  high-few =
      let f = layers-fit i in
      omega (arith, in-plane d (point k.high) f.x.1 f.y.1, plane-small i)

  pub row_fits : Fits w64 (k.dims.x * c.y)
  row_fits = omega (arith, cell-at, high-few)

  inside : (p : GridPoint) → p.x ≤ c.x + 1 → p.y ≤ c.y + 1 → in_layer (point k.dims) p < k.dims.x * k.dims.y
  inside p hx hy =
      let w = cell-within (box_of k) c t in
      let f = layers-fit i in
      in-plane d p (omega arith) (omega arith)

  pub sign-here : get_or lower (in_layer (point k.dims) c) nan ≡ value (two_layers lower upper k z) c
  sign-here = sym (value-lower lower upper k z c ez (inside c (omega arith) (omega arith)))

  pub sign-x : get_or lower (in_layer (point k.dims) c + 1) nan ≡ value (two_layers lower upper k z) (step_up axis_x c)
  sign-x =
      let at : in_layer d c + 1 ≡ in_layer d (step_up axis_x c) = omega arith in
      ap (λ (n : ℕ). get_or lower n nan) at ∙ sym (value-lower lower upper k z (step_up axis_x c) ez (inside (step_up axis_x c) (omega arith) (omega arith)))

  pub sign-y : get_or lower (in_layer (point k.dims) c + k.dims.x) nan ≡ value (two_layers lower upper k z) (step_up axis_y c)
  sign-y =
      let at : in_layer d c + k.dims.x ≡ in_layer d (step_up axis_y c) = omega (arith, row_up) in
      ap (λ (n : ℕ). get_or lower n nan) at ∙ sym (value-lower lower upper k z (step_up axis_y c) ez (inside (step_up axis_y c) (omega arith) (omega arith)))

  pub sign-z : get_or upper (in_layer (point k.dims) c) nan ≡ value (two_layers lower upper k z) (step_up axis_z c)
  sign-z = sym (value-upper lower upper k z (step_up axis_z c) (ap (λ (n : ℕ). n + 1) ez))

  -- ---- the look-ups

  module _ (map under : List ℕ) (here : in_layer (point k.dims) (point k.high) < length map)
      (below : k.low.z < c.z → in_layer (point k.dims) (point k.high) < length under) where
    pub record Reached (a : Axis) : Type 0 where
      pub two : Reaches map under (in_layer (point k.dims) c) (way2 k.dims.x a)
      pub three : Reaches map under (in_layer (point k.dims) c) (way3 k.dims.x a)
      pub four : Reaches map under (in_layer (point k.dims) c) (way4 k.dims.x a)

    pub reached : (a : Axis) → T (gives (two_layers lower upper k z) (box_of k) (flags_of k) (edge a c)) → Reached a
    reached axis_x s =
        let o = owned-says (box_of k) (flags_of k) (edge axis_x c) (gives-owned (two_layers lower upper k z) (box_of k) (flags_of k) (edge axis_x c) s) in
        let deep = below o.above_c in
        let up = o.above_b in
        let y : 0 < c.y = omega arith in
        let row = front_of d c y in
        let near = cell-at in
        record {
          two = record { back = omega arith; within = omega arith };
          three = record { back = omega arith; within = omega arith };
          four = record { back = omega arith; within = omega arith };
        }
    reached axis_y s =
        let o = owned-says (box_of k) (flags_of k) (edge axis_y c) (gives-owned (two_layers lower upper k z) (box_of k) (flags_of k) (edge axis_y c) s) in
        let deep = below o.above_b in
        let up = o.above_c in
        let near = cell-at in
        record {
          two = record { back = omega arith; within = omega arith };
          three = record { back = omega arith; within = omega arith };
          four = record { back = omega arith; within = omega arith };
        }
    reached axis_z s =
        let o = owned-says (box_of k) (flags_of k) (edge axis_z c) (gives-owned (two_layers lower upper k z) (box_of k) (flags_of k) (edge axis_z c) s) in
        let right = o.above_b in
        let up = o.above_c in
        let x : 0 < c.x = omega arith in
        let y : 0 < c.y = omega arith in
        let row = front_of d c y in
        let corner = across-of d c x y in
        let near = cell-at in
        record {
          two = record { back = omega arith; within = omega arith };
          three = record { back = omega arith; within = omega arith };
          four = record { back = omega arith; within = omega arith };
        }
