-- One call of each function that tests for a skin without a hole, by the places of its arguments: whatever fits the contract on these numbers answered so. The box has 4, 5 and 6
-- points of a grid of 5, 6 and 8; its points below zero are (2, 1, 3) and (2, 2, 5), which lie from min + 1 to max - 2 on each axis and at the ends of that on all three; the
-- point (0, 0, 0), outside the box, is below zero too. The flags are not read. What is wanted is document 02's request 8 by hand. Computed by the kernel. Assumes nothing.
use Prim.Native.Nat.{ℕ}
use mathlib.Core.Bool.{Bool, true, false}
use mathlib.Core.List.{List, [], ◌∷◌, ◌++◌}
use mathlib.Core.Path.{◌≡◌, ap, subst}
use denote.Ref.{Bor, MutBor}
use lib.IntN.{ℤ, pos, negsuc}
use lib.ListN.{replicate}
use lib.Ieee.{Float, fin}
use Rattle.rules.proofs.Cases as rules
use Rattle.grid.specs.Values.{as_floats}
use Rattle.skin.specs.Enclosed.{inner, enclosed}
use Rattle.skin.specs.Scan.{Tested, answers, judged, layer_enclosed, judged_layer}
use Rattle.bed.proofs.Places.{
  EnclosedCall,
  EnclosedCall16,
  EnclosedCall8,
  EnclosedLayerCall,
  EnclosedLayerCall16,
  EnclosedLayerCall8,
  ExaminedOf,
  LayerExaminedOf,
  is-enclosed-by-place,
  is-enclosed-i16-by-place,
  is-enclosed-i8-by-place,
  is-enclosed-layer-by-place,
  is-enclosed-layer-i16-by-place,
  is-enclosed-layer-i8-by-place,
}

-- what a computed fact opens
opened : Unit {0}
unfolding rules.opened inner enclosed judged layer_enclosed judged_layer
opened = tt

-- dimensions 5, 6, 8; from (1, 0, 2) to (4, 4, z)
abbrev words_to : ℕ → List ℕ
words_to z = 5 ∷ 6 ∷ 8 ∷ 1 ∷ 0 ∷ 2 ∷ 4 ∷ 4 ∷ z ∷ 9 ∷ 0 ∷ 9 ∷ []

-- the grid by a number above zero and one below it, and its layer z 5 with that point below zero
module _ {A : Type 0} (p n : A) where
  abbrev bed : List A
  bed = n ∷ replicate 96 p ++ (n ∷ replicate 64 p) ++ (n ∷ replicate 77 p)

  abbrev layer : List A
  layer = n ∷ replicate 11 p ++ (n ∷ replicate 17 p)

-- 1.5 and -2.5
abbrev p : Float
p = fin false 3 (negsuc 0)

abbrev n : Float
n = fin true 5 (negsuc 0)

abbrev Comes : ℕ → Bool → ℕ → Bool → Type 0
Comes number says wanted yes' = (number ≡ wanted) × (says ≡ yes')

comes : (number wanted : ℕ) (says yes' : Bool) → answers number says ≡ answers wanted yes' → Comes number says wanted yes'
comes number wanted says yes' e = (ap (λ (x : Tested). x.answer) e, ap (λ (x : Tested). x.enclosed) e)

-- ---- bed_is_enclosed, bed_is_enclosed_i16, bed_is_enclosed_i8: distances, words, the yes or no

abbrev Lent : Type 0 → Type 0
Lent A = List A × List ℕ

abbrev lent : {A : Type 0} → List A → List ℕ → Lent A
lent sdf words = (sdf, words)

abbrev given : {A : Type 0} → Bor (List A) × (Bor (List ℕ) × (MutBor Bool × Unit {0})) → Lent A
given (sdf, (words, _)) = (sdf.now, words.now)

-- the contract of a call, of any words
examined-so : (words : List ℕ) (u : EnclosedCall) → given u.args ≡ lent (bed p n) words
    → (let (_, (_, (says, _))) = u.last in ExaminedOf (bed p n) words u.result says)
examined-so words u e =
    let (_, (_, (says, _))) = u.last in
    subst (λ (g : Lent Float). ExaminedOf g.0 g.1 u.result says) e (is-enclosed-by-place u)

pub is-enclosed-called : (u : EnclosedCall) → given u.args ≡ lent (bed p n) (words_to 7) → (let (_, (_, (says, _))) = u.last in Comes u.result says 0 true)
unfolding opened
is-enclosed-called u e = let (_, (_, (says, _))) = u.last in comes u.result 0 says true (examined-so (words_to 7) u e)

-- one step lower, z 5 is max - 1
pub is-enclosed-no-called : (u : EnclosedCall) → given u.args ≡ lent (bed p n) (words_to 6) → (let (_, (_, (says, _))) = u.last in Comes u.result says 0 false)
unfolding opened
is-enclosed-no-called u e = let (_, (_, (says, _))) = u.last in comes u.result 0 says false (examined-so (words_to 6) u e)

-- and at z 8 max is not below its dimension
pub is-enclosed-refused : (u : EnclosedCall) → given u.args ≡ lent (bed p n) (words_to 8) → (let (_, (_, (says, _))) = u.last in Comes u.result says 2 false)
unfolding opened
is-enclosed-refused u e = let (_, (_, (says, _))) = u.last in comes u.result 2 says false (examined-so (words_to 8) u e)

pub is-enclosed-i16-called : (u : EnclosedCall16) → given u.args ≡ lent (bed (pos 300) (negsuc 32767)) (words_to 7)
    → (let (_, (_, (says, _))) = u.last in Comes u.result says 0 true)
unfolding opened
is-enclosed-i16-called u e =
    let (_, (_, (says, _))) = u.last in
    comes u.result 0 says true (subst (λ (g : Lent ℤ). ExaminedOf (as_floats g.0) g.1 u.result says) e (is-enclosed-i16-by-place u))

pub is-enclosed-i8-called : (u : EnclosedCall8) → given u.args ≡ lent (bed (pos 127) (negsuc 127)) (words_to 6)
    → (let (_, (_, (says, _))) = u.last in Comes u.result says 0 false)
unfolding opened
is-enclosed-i8-called u e =
    let (_, (_, (says, _))) = u.last in
    comes u.result 0 says false (subst (λ (g : Lent ℤ). ExaminedOf (as_floats g.0) g.1 u.result says) e (is-enclosed-i8-by-place u))

-- ---- bed_is_enclosed_layer, bed_is_enclosed_layer_i16, bed_is_enclosed_layer_i8: the layer, words, z, the yes or no

abbrev LayerLent : Type 0 → Type 0
LayerLent A = List A × List ℕ × ℕ

abbrev layer_lent : {A : Type 0} → List A → ℕ → LayerLent A
layer_lent l z = (l, words_to 7, z)

abbrev layer_given : {A : Type 0} → Bor (List A) × (Bor (List ℕ) × (ℕ × (MutBor Bool × Unit {0}))) → LayerLent A
layer_given (l, (words, (z, _))) = (l.now, words.now, z)

layer-so : (z : ℕ) (u : EnclosedLayerCall) → layer_given u.args ≡ layer_lent (layer p n) z
    → (let (_, (_, (_, (says, _)))) = u.last in LayerExaminedOf (layer p n) (words_to 7) z u.result says)
layer-so z u e =
    let (_, (_, (_, (says, _)))) = u.last in
    subst (λ (g : LayerLent Float). LayerExaminedOf g.0 g.1 g.2 u.result says) e (is-enclosed-layer-by-place u)

-- z 5 is max - 2
pub is-enclosed-layer-called : (u : EnclosedLayerCall) → layer_given u.args ≡ layer_lent (layer p n) 5
    → (let (_, (_, (_, (says, _)))) = u.last in Comes u.result says 0 true)
unfolding opened
is-enclosed-layer-called u e = let (_, (_, (_, (says, _)))) = u.last in comes u.result 0 says true (layer-so 5 u e)

-- z 1 is below the box
pub is-enclosed-layer-refused : (u : EnclosedLayerCall) → layer_given u.args ≡ layer_lent (layer p n) 1
    → (let (_, (_, (_, (says, _)))) = u.last in Comes u.result says 77 false)
unfolding opened
is-enclosed-layer-refused u e = let (_, (_, (_, (says, _)))) = u.last in comes u.result 77 says false (layer-so 1 u e)

-- z 6 is max - 1
pub is-enclosed-layer-i16-called : (u : EnclosedLayerCall16) → layer_given u.args ≡ layer_lent (layer (pos 300) (negsuc 32767)) 6
    → (let (_, (_, (_, (says, _)))) = u.last in Comes u.result says 0 false)
unfolding opened
is-enclosed-layer-i16-called u e =
    let (_, (_, (_, (says, _)))) = u.last in
    comes u.result 0 says false
    (subst (λ (g : LayerLent ℤ). LayerExaminedOf (as_floats g.0) g.1 g.2 u.result says) e (is-enclosed-layer-i16-by-place u))

-- z 3 is min + 1
pub is-enclosed-layer-i8-called : (u : EnclosedLayerCall8) → layer_given u.args ≡ layer_lent (layer (pos 127) (negsuc 127)) 3
    → (let (_, (_, (_, (says, _)))) = u.last in Comes u.result says 0 true)
unfolding opened
is-enclosed-layer-i8-called u e =
    let (_, (_, (_, (says, _)))) = u.last in
    comes u.result 0 says true
    (subst (λ (g : LayerLent ℤ). LayerExaminedOf (as_floats g.0) g.1 g.2 u.result says) e (is-enclosed-layer-i8-by-place u))
