-- The layers of the closed grid, each made from one layer of the open grid or from none, are the closed grid when they stand one behind the other. Assumes
-- nothing.
use Prim.Native.Nat.{ℕ, zero, suc, ◌+◌, ◌-◌, ◌*◌, ◌/◌, ◌≤◌, ◌<◌}
use native.Mathlib.Nat.{mul-zero, mul-suc, mul-add-div, div-eq_of_lt, add-zero, mul-pos, mul-le-mul_left}
use native.Mathlib.Omega.{arith}
use mathlib.Core.Bool.{Bool, true, false, cond}
use mathlib.Core.List.{List, [], ◌++◌}
use mathlib.Core.Path.{◌≡◌, refl, sym, ap, ap₂, ◌∙◌}
use lib.Dec.{T, leb, le→leb}
use lib.Ieee.Bits.{is_true}
use lib.Ieee.Fits.{and_i}
use lib.Ieee.{Float, nan}
use lib.ListN.{length, get_or, take, drop}
use lib.Seq.{get_or-take, get_or-drop}
use Rattle.lists.specs.Lists.{up_to, joined}
use Rattle.lists.proofs.Tests.{is-test}
use Rattle.lists.proofs.Runs.{up_to-none, joined-last}
use Rattle.rules.specs.Grid.{GridPoint, Field, index, point_at, between, value}
use Rattle.closing.specs.Closed.{closed_dims, layer_count, in_open, open_point, open_field, closed_value, closed_field, closed_list, layer_field, closed_layer}
use Rattle.closing.specs.Runs.{spread}
use Rattle.closing.proofs.Spread.{length-spread, spread_none, spread_join, spread_same}
use Rattle.closed_bed.specs.Layers.{layer_of}
use Rattle.closed_bed.proofs.Values.{value-open, value-wall}
use Rattle.closed_bed.proofs.Enclosing.{open-point}

in_between : (n k : ℕ) → 1 ≤ k → k ≤ n → T (between 1 n k)
in_between n k h i = and_i (leb 1 k) (leb k n) (le→leb 1 k h) (le→leb k n i)

-- one digit below its base on top of the other
low-digits : (x y a b : ℕ) → x < a → y < b → x + a * y < a * b
low-digits x y a b h i = let more : suc y ≤ b = omega arith in omega (arith, mul-le-mul_left a more, mul-suc a y)

module _ (d : GridPoint) (sdf : List Float) (wall : Float) where
  abbrev plane : ℕ
  plane = layer_count (closed_dims d)

  abbrev whole : Field
  whole = open_field d sdf

  -- what the layer z is made from knows the open grid there
  known : (z : ℕ) (p : GridPoint) → p.z ≡ z → T (in_open d p) → value (layer_field d (z - 1) (layer_of d sdf z)) (open_point p) ≡ value whole (open_point p)
  known z p e t =
      let o = open-point d p t in
      let at : GridPoint = open_point p in
      let far = layer_count d * (z - 1) in
      let near = at.x + d.x * at.y in
      let here : between 1 d.z z ≡ true = is_true (between 1 d.z z) (in_between d.z z (omega arith) (omega arith)) in
      let same : at.z ≡ z - 1 = omega arith in
      let split : index d at ≡ far + near = ap (λ (k : ℕ). at.x + d.x * at.y + layer_count d * k) same ∙ omega arith in
      let off : index d at - far ≡ near = omega arith in
      let small : near < layer_count d = low-digits at.x at.y d.x d.y (omega arith) (omega arith) in
      ap (λ (k : ℕ). get_or (layer_of d sdf z) k nan) off
      ∙ ap (λ (b : Bool). get_or (cond b (take (layer_count d) (drop far sdf)) []) near nan) here
      ∙ get_or-take (layer_count d) (drop far sdf) near nan small
      ∙ get_or-drop far sdf near nan
      ∙ ap (λ (k : ℕ). get_or sdf k nan) (sym split)

  same-value : (z : ℕ) (p : GridPoint) → p.z ≡ z → closed_value (layer_field d (z - 1) (layer_of d sdf z)) wall p ≡ closed_value whole wall p
  same-value z p e = go (in_open d p) refl
    where
      go : (t : Bool) → in_open d p ≡ t → closed_value (layer_field d (z - 1) (layer_of d sdf z)) wall p ≡ closed_value whole wall p
      go true h =
          value-open (layer_field d (z - 1) (layer_of d sdf z)) wall p h ∙ known z p e (is-test (in_open d p) h) ∙ sym (value-open whole wall p h)
      go false h = value-wall (layer_field d (z - 1) (layer_of d sdf z)) wall p h ∙ sym (value-wall whole wall p h)

  height : (z i : ℕ) → i < plane → (plane * z + i) / plane ≡ z
  height z i h = let some : 0 < plane = mul-pos (omega arith) (omega arith) in mul-add-div some z i ∙ ap (λ (k : ℕ). z + k) (div-eq_of_lt h) ∙ add-zero z

  pub layer-is : (z : ℕ) → closed_layer d wall z (layer_of d sdf z) ≡ spread (λ i. (closed_field whole wall).dist (plane * z + i)) plane
  unfolding closed_layer spread
  layer-is z =
      spread_same (λ i. (closed_field (layer_field d (z - 1) (layer_of d sdf z)) wall).dist (plane * z + i)) (λ i. (closed_field whole wall).dist (plane * z + i)) plane
      (λ i h. same-value z (point_at (closed_dims d) (plane * z + i)) (height z i h))

  -- the first n layers
  layers-to : (n : ℕ) → joined (λ z. closed_layer d wall z (layer_of d sdf z)) (up_to 0 n) ≡ spread (closed_field whole wall).dist (plane * n)
  unfolding joined
  layers-to zero =
      ap (joined (λ z. closed_layer d wall z (layer_of d sdf z))) (up_to-none 0 0 (omega arith))
      ∙ sym (ap (spread (closed_field whole wall).dist) (mul-zero plane) ∙ spread_none (closed_field whole wall).dist)
  layers-to (suc n) =
      let e : plane * n + plane ≡ plane * suc n = omega (arith, mul-suc plane n) in
      joined-last (λ z. closed_layer d wall z (layer_of d sdf z)) 0 n (omega arith)
      ∙ ap₂ ◌++◌ (layers-to n) (layer-is n)
      ∙ spread_join (closed_field whole wall).dist (plane * n) plane
      ∙ ap (spread (closed_field whole wall).dist) e

  -- all of them
  pub layers-joined : joined (λ z. closed_layer d wall z (layer_of d sdf z)) (up_to 0 (d.z + 3)) ≡ closed_list whole wall
  unfolding closed_list spread
  layers-joined = layers-to (d.z + 3)

pub closed-layer-long : (d : GridPoint) (wall : Float) (z : ℕ) (layer : List Float) → length (closed_layer d wall z layer) ≡ layer_count (closed_dims d)
unfolding closed_layer spread
closed-layer-long d wall z layer = length-spread (λ i. (closed_field (layer_field d (z - 1) layer) wall).dist (layer_count (closed_dims d) * z + i)) (layer_count (closed_dims d))
