-- All layers of a grid, each cut at its own z, one behind the other are the grid cut at once, and each is answered as the grid is. And a layer of whole numbers, cut
-- into floats, is the layer of those floats, cut in its place. Assumes nothing.
use Prim.Native.Nat.{ℕ, zero, suc, ◌+◌, ◌*◌, ◌≤◌, ◌<◌}
use native.Mathlib.Nat.{mul-le-mul_left, mul-add, mul-one, mul-zero, zero-add}
use native.Mathlib.Numerals.{add-one}
use native.Mathlib.Omega.{arith}
use mathlib.Core.Bool.{Bool, true, false, cond}
use mathlib.Core.List.{List, [], ◌∷◌, ◌++◌}
use mathlib.Core.Logic.{⊎_elim}
use mathlib.Core.Path.{◌≡◌, refl, sym, ap, ap₂, subst, ◌∙◌}
use lib.ListN.{length, take, drop, length-drop}
use lib.Seq.{length-take-le, take-length, take-add}
use lib.Ieee.{Float}
use Rattle.lists.specs.Lists.{run, joined, placed}
use Rattle.lists.proofs.Lists.{joined_snoc}
use Rattle.rules.specs.Grid.{GridPoint, point_at}
use Rattle.rules.specs.Call.{bad_dimensions, bad_length}
use Rattle.rules.proofs.Indexes.{right-length}
use Rattle.fixtures.specs.Solid.{file_at}
use Rattle.fixtures.specs.Cut.{floats, file_answer, cut, cut_all, cut_answer, cut_grid}
use Rattle.fixtures.specs.Layer.{plane, layer_answer, cut_layer}
use Rattle.fixtures.proofs.Heads.{is-not}
use Rattle.fixtures.proofs.Placing.{placed-append}
use Rattle.fixtures.proofs.Answers.{grid-kept, grid-cut}
use Rattle.fixtures.proofs.Again.{zero_or_not}
use Rattle.fixtures.proofs.OneLayer.{layer-dims, layer-file, layer-kept, layer-cut}

-- the layer z of a grid
abbrev pub layer_of : GridPoint → ℕ → List Float → List Float
layer_of d z grid = take (plane d) (drop (plane d * z) grid)

-- the layers one behind the other, each by its own z
abbrev pub by_layers : (ℕ → List Float → List Float) → GridPoint → List Float → List Float
by_layers h d grid = joined (λ (z : ℕ). h z (layer_of d z grid)) (run d.z)

module _ (d : GridPoint) (grid : List Float) (fit : bad_length d (length grid) ≡ false) where
  long : length grid ≡ plane d * d.z
  long = right-length d (length grid) (is-not fit)

  next : (z : ℕ) → plane d * suc z ≡ plane d * z + plane d
  next z = ap (λ (n : ℕ). plane d * n) (sym (add-one z)) ∙ (mul-add (plane d) z 1 ∙ ap (λ (n : ℕ). plane d * z + n) (mul-one (plane d)))

  within : (n : ℕ) → n ≤ d.z → plane d * n ≤ length grid
  within n h = subst (λ (m : ℕ). plane d * n ≤ m) (sym long) (mul-le-mul_left (plane d) h)

  pub layer-long : (z : ℕ) → z < d.z → length (layer_of d z grid) ≡ plane d
  layer-long z h =
      let top : plane d * suc z ≤ length grid = within (suc z) h in
      length-take-le (plane d) (drop (plane d * z) grid) (omega (arith, top, next z, length-drop (plane d * z) grid))

  -- layers that are each changed number by number, from the place of their first number on, are the grid changed so
  module _ (h : ℕ → List Float → List Float) (g : ℕ → Float → Float) (each : (z : ℕ) → z < d.z → h z (layer_of d z grid) ≡ placed g (plane d * z) (layer_of d z grid)) where
    some : (n : ℕ) → n ≤ d.z → joined (λ (z : ℕ). h z (layer_of d z grid)) (run n) ≡ placed g 0 (take (plane d * n) grid)
    unfolding joined run placed
    some zero k = sym (ap (λ (m : ℕ). placed g 0 (take m grid)) (mul-zero (plane d)))
    some (suc n) k =
        let low : length (take (plane d * n) grid) ≡ plane d * n = length-take-le (plane d * n) grid (within n (omega arith)) in
        joined_snoc (λ (z : ℕ). h z (layer_of d z grid)) (run n) n
        ∙ (ap₂ ◌++◌ (some n (omega arith)) (each n (omega arith))
        ∙ (ap (λ (m : ℕ). placed g 0 (take (plane d * n) grid) ++ placed g m (layer_of d n grid)) (sym (zero-add (length (take (plane d * n) grid)) ∙ low))
        ∙ (sym (placed-append g 0 (take (plane d * n) grid) (layer_of d n grid))
        ∙ (ap (placed g 0) (sym (take-add (plane d * n) (plane d) grid)) ∙ ap (λ (m : ℕ). placed g 0 (take m grid)) (sym (next n))))))

    pub all-layers : by_layers h d grid ≡ placed g 0 grid
    all-layers = some d.z (omega arith) ∙ (ap (λ (m : ℕ). placed g 0 (take m grid)) (sym long) ∙ ap (placed g 0) (take-length grid))

  module _ (f : List ℕ) where
    answered : (b : Bool) → bad_dimensions d ≡ b → (z : ℕ) → z < d.z → layer_answer f d z (length (layer_of d z grid)) ≡ cond b 1 (cond (bad_length d (length grid)) 3 (file_answer f))
    answered true e z h = layer-dims f d z (length (layer_of d z grid)) e
    answered false e z h =
        layer-file f d z (length (layer_of d z grid)) e h (layer-long z h) ∙ sym (ap (λ (b : Bool). cond b 3 (file_answer f)) fit)

    -- each layer is answered as the grid is
    pub layer-answered : (z : ℕ) → z < d.z → layer_answer f d z (length (layer_of d z grid)) ≡ cut_answer f d (length grid)
    unfolding cut_answer
    layer-answered z h = answered (bad_dimensions d) refl z h

    same : (n : ℕ) (l : List Float) → placed (λ (i : ℕ) (x : Float). x) n l ≡ l
    unfolding placed
    same n [] = refl
    same n (x ∷ xs) = ap (λ (l : List Float). x ∷ l) (same (suc n) xs)

    -- and the layers, cut one by one, are the grid cut at once, refused or not
    pub layers-are-the-whole : by_layers (cut_layer f d) d grid ≡ cut_grid f d grid
    unfolding cut_all
    layers-are-the-whole =
        ⊎_elim
        (λ e.
        all-layers (cut_layer f d) (λ i old. cut (file_at f (floats (point_at d i))) old)
        (λ z h. layer-cut f d z (layer_of d z grid) (layer-answered z h ∙ e))
        ∙ sym (grid-cut f d grid e))
        (λ n.
        all-layers (cut_layer f d) (λ i x. x) (λ z h. layer-kept f d z (layer_of d z grid) (layer-answered z h) n ∙ sym (same (plane d * z) (layer_of d z grid)))
        ∙ (same 0 grid ∙ sym (grid-kept f d grid refl n)))
        (zero_or_not (cut_answer f d (length grid)))
