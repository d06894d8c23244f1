-- One call of each function that gives the level of the bed, by the places of its arguments: whatever fits the contract on these numbers answered 0 and left these lists.
-- The box has 3, 2 and 4 points of a grid of 5, 3 and 7, which outside it holds not-a-numbers or negative numbers, and the lists have room for two levels more. What is wanted
-- was worked out by hand from include/bed.h, as z + a / (a + b) for a distance of -a below one of b. Computed by the kernel. Assumes nothing.
use Prim.Native.Nat.{ℕ}
use mathlib.Core.Bool.{true, false}
use mathlib.Core.List.{List, [], ◌∷◌, ◌++◌}
use mathlib.Core.Path.{◌≡◌, refl, subst}
use denote.Ref.{Bor, MutBor}
use lib.Count.{count_trailing_zeros}
use lib.IntN.{ℤ, pos, negsuc}
use lib.ListN.{replicate}
use lib.Ieee.{Float, nan, fin, add, sub, div, lt, of_int, round, size, units, odd, neg, sum, span, climb}
use Rattle.lists.specs.Lists.{run, up_to, some, joined, placed}
use Rattle.rules.specs.Grid.{Box}
use Rattle.rules.specs.Cell.{fraction}
use Rattle.rules.specs.Faces.{layer_points}
use Rattle.rules.specs.Call.{bad_dimensions, bad_box, bad_length, beyond, bad_layer, bad_distance}
use Rattle.grid.specs.Values.{as_floats}
use Rattle.levels.specs.Column.{level_step, first_level, level_up_to}
use Rattle.levels.specs.Columns.{level_of, layer_level, changed}
use Rattle.levels.specs.Call.{box_from, levels_answer, levels_after, layer_answer, layer_after}
use Rattle.bed.specs.Words12.{low_asked, high_asked}
use Rattle.bed.proofs.Places.{
  LevelsCall,
  LevelsCall16,
  LevelsCall8,
  LevelsLayerCall,
  LevelsLayerCall16,
  LevelsLayerCall8,
  LevelledOf,
  LayerLevelledOf,
  levels-by-place,
  levels-i16-by-place,
  levels-i8-by-place,
  levels-layer-by-place,
  levels-layer-i16-by-place,
  levels-layer-i8-by-place,
}
use Rattle.calls.proofs.Lists.{odds}

-- what a computed fact opens
opened : Unit {0}
unfolding levels_answer levels_after layer_answer layer_after changed placed level_of layer_level level_up_to level_step first_level fraction bad_dimensions bad_box bad_length
    bad_distance bad_layer layer_points beyond some joined up_to run add sub div lt of_int round size units odd neg sum span climb count_trailing_zeros
opened = tt

-- dimensions 5, 3, 7; from (2, 0, 3) to (4, 1, 6); the last three words are not read
abbrev words : List ℕ
words = 5 ∷ 3 ∷ 7 ∷ 2 ∷ 0 ∷ 3 ∷ 4 ∷ 1 ∷ 6 ∷ 97 ∷ 0 ∷ 99 ∷ []

-- the box of these words
abbrev wanted_box : Box
wanted_box = record { low = record { x = 2; y = 0; z = 3 }; high = record { x = 4; y = 1; z = 6 } }

pub box-asked : box_from (low_asked words) (high_asked words) ≡ wanted_box
box-asked = refl

-- n and -n, as they are read
abbrev plus : ℕ → Float
plus n = fin false n (pos 0)

abbrev minus : ℕ → Float
minus n = fin true n (pos 0)

-- what the levels held: 21.0, 23.0, 25.0 and on
abbrev old : List Float
old = odds 10 18

-- a layer with a number for each of the box's points, and o at every other
abbrev layer_of : {A : Type 0} → A → A → A → A → A → A → A → List A
layer_of o a b c d e f = (o ∷ o ∷ a ∷ b ∷ c ∷ []) ++ (o ∷ o ∷ d ∷ e ∷ f ∷ []) ++ (o ∷ o ∷ o ∷ o ∷ o ∷ [])

-- ---- the box's four layers, of floats, and of whole numbers a thousand and twenty times as large

abbrev at3 : List Float
at3 = layer_of nan (minus 1) (plus 1) (plus 1) (minus 3) (minus 1) (plus 2)

abbrev at4 : List Float
at4 = layer_of nan (minus 1) (plus 2) (plus 1) (plus 1) (plus 2) (minus 5)

abbrev at5 : List Float
at5 = layer_of nan (plus 3) (plus 3) (plus 1) (plus 2) (minus 3) (plus 3)

abbrev at6 : List Float
at6 = layer_of nan (plus 5) (plus 4) (minus 2) (plus 3) (plus 5) (minus 0)

abbrev wide4 : List ℤ
wide4 = layer_of (negsuc 6) (negsuc 999) (pos 2000) (pos 1000) (pos 1000) (pos 2000) (negsuc 4999)

abbrev wide5 : List ℤ
wide5 = layer_of (negsuc 6) (pos 3000) (pos 3000) (pos 1000) (pos 2000) (negsuc 2999) (pos 3000)

abbrev wide : List ℤ
wide =
    replicate 45 (negsuc 6) ++ layer_of (negsuc 6) (negsuc 999) (pos 1000) (pos 1000) (negsuc 2999) (negsuc 999) (pos 2000) ++ wide4 ++ wide5
    ++ layer_of (negsuc 6) (pos 5000) (pos 4000) (negsuc 1999) (pos 3000) (pos 5000) (pos 0)

abbrev narrow5 : List ℤ
narrow5 = layer_of (negsuc 6) (pos 60) (pos 60) (pos 20) (pos 40) (negsuc 59) (pos 60)

abbrev narrow6 : List ℤ
narrow6 = layer_of (negsuc 6) (pos 100) (pos 80) (negsuc 39) (pos 60) (pos 100) (pos 0)

abbrev narrow : List ℤ
narrow =
    replicate 45 (negsuc 6) ++ layer_of (negsuc 6) (negsuc 19) (pos 20) (pos 20) (negsuc 59) (negsuc 19) (pos 40)
    ++ layer_of (negsuc 6) (negsuc 19) (pos 40) (pos 20) (pos 20) (pos 40) (negsuc 99) ++ narrow5 ++ narrow6

-- ---- bed_levels, bed_levels_i16, bed_levels_i8: distances, words, levels

abbrev Lent : Type 0 → Type 0
Lent A = List A × List ℕ × List Float

abbrev lent : {A : Type 0} → List A → Lent A
lent sdf = (sdf, words, old)

abbrev given : {A : Type 0} → Bor (List A) × (Bor (List ℕ) × (MutBor (List Float) × Unit {0})) → Lent A
given (sdf, (words', (levels, _))) = (sdf.now, words'.now, levels.now)

-- 4 + 1/4; no point below zero; the top, 6; 3 + 3/4; 5 + 3/8; 4 + 5/8; and what stood past them
abbrev Comes : ℕ → List Float → Type 0
Comes number left =
    (number ≡ 0)
    × (left ≡ fin false 17 (negsuc 1) ∷ minus 1 ∷ fin false 3 (pos 1) ∷ fin false 15 (negsuc 1) ∷ fin false 43 (negsuc 2) ∷ fin false 37 (negsuc 2) ∷ plus 33 ∷ plus 35 ∷ [])

pub levels-called : (u : LevelsCall) → given u.args ≡ lent (replicate 45 nan ++ at3 ++ at4 ++ at5 ++ at6)
    → (let (_, (_, (left, _))) = u.last in Comes u.result left)
unfolding opened
levels-called u e =
    let (_, (_, (left, _))) = u.last in
    subst (λ (g : Lent Float). LevelledOf g.0 g.1 g.2 left u.result) e (levels-by-place u)

pub levels-i16-called : (u : LevelsCall16) → given u.args ≡ lent wide → (let (_, (_, (left, _))) = u.last in Comes u.result left)
unfolding opened
levels-i16-called u e =
    let (_, (_, (left, _))) = u.last in
    subst (λ (g : Lent ℤ). LevelledOf (as_floats g.0) g.1 g.2 left u.result) e (levels-i16-by-place u)

pub levels-i8-called : (u : LevelsCall8) → given u.args ≡ lent narrow → (let (_, (_, (left, _))) = u.last in Comes u.result left)
unfolding opened
levels-i8-called u e =
    let (_, (_, (left, _))) = u.last in
    subst (λ (g : Lent ℤ). LevelledOf (as_floats g.0) g.1 g.2 left u.result) e (levels-i8-by-place u)

-- ---- bed_levels_layer, bed_levels_layer_i16, bed_levels_layer_i8: the layer below, the layer, words, z, levels

abbrev LayerLent : Type 0 → Type 0
LayerLent A = List A × List A × List ℕ × ℕ × List Float

abbrev layer_lent : {A : Type 0} → List A → List A → ℕ → LayerLent A
layer_lent below layer z = (below, layer, words, z, old)

abbrev layer_given : {A : Type 0} → Bor (List A) × (Bor (List A) × (Bor (List ℕ) × (ℕ × (MutBor (List Float) × Unit {0})))) → LayerLent A
layer_given (below, (layer, (words', (z, (levels, _))))) = (below.now, layer.now, words'.now, z, levels.now)

-- the contract of a layer's call, of any distances
layer-says : {below layer : List Float} {z : ℕ} (u : LevelsLayerCall) → layer_given u.args ≡ layer_lent below layer z
    → (let (_, (_, (_, (_, (left, _))))) = u.last in LayerLevelledOf below layer words z (old) left u.result)
layer-says u e =
    let (_, (_, (_, (_, (left, _))))) = u.last in
    subst (λ (g : LayerLent Float). LayerLevelledOf g.0 g.1 g.2 g.3 g.4 left u.result) e (levels-layer-by-place u)

-- z 5: a crossing between 4 and 5 in the first and the last column, a point below zero in the fifth, and no change in the others
abbrev AtFive : ℕ → List Float → Type 0
AtFive number left =
    (number ≡ 0) × (left ≡ fin false 17 (negsuc 1) ∷ plus 23 ∷ plus 25 ∷ plus 27 ∷ plus 5 ∷ fin false 37 (negsuc 2) ∷ plus 33 ∷ plus 35 ∷ [])

pub levels-layer-called : (u : LevelsLayerCall) → layer_given u.args ≡ layer_lent at4 at5 5
    → (let (_, (_, (_, (_, (left, _))))) = u.last in AtFive u.result left)
unfolding opened
levels-layer-called u e = layer-says u e

pub levels-layer-i16-called : (u : LevelsLayerCall16) → layer_given u.args ≡ layer_lent wide4 wide5 5
    → (let (_, (_, (_, (_, (left, _))))) = u.last in AtFive u.result left)
unfolding opened
levels-layer-i16-called u e =
    let (_, (_, (_, (_, (left, _))))) = u.last in
    subst (λ (g : LayerLent ℤ). LayerLevelledOf (as_floats g.0) (as_floats g.1) g.2 g.3 g.4 left u.result) e (levels-layer-i16-by-place u)

-- z 3, the lowest, with no layer below it: what the columns held does not matter
pub levels-layer-lowest-called : (u : LevelsLayerCall) → layer_given u.args ≡ layer_lent [] at3 3
    → (let (_, (_, (_, (_, (left, _))))) = u.last in
    (u.result ≡ 0) × (left ≡ plus 3 ∷ minus 1 ∷ minus 1 ∷ plus 3 ∷ plus 3 ∷ minus 1 ∷ plus 33 ∷ plus 35 ∷ []))
unfolding opened
levels-layer-lowest-called u e = layer-says u e

-- z 7 is above the box, and z 2 below it
pub levels-layer-refused : (u : LevelsLayerCall) → layer_given u.args ≡ layer_lent at5 at6 7
    → (let (_, (_, (_, (_, (left, _))))) = u.last in (u.result ≡ 77) × (left ≡ old))
unfolding opened
levels-layer-refused u e = layer-says u e

pub levels-layer-below-refused : (u : LevelsLayerCall) → layer_given u.args ≡ layer_lent at5 at6 2
    → (let (_, (_, (_, (_, (left, _))))) = u.last in (u.result ≡ 77) × (left ≡ old))
unfolding opened
levels-layer-below-refused u e = layer-says u e

-- z 6, the highest: a point below zero in the third column, and a crossing in the fifth
pub levels-layer-i8-called : (u : LevelsLayerCall8) → layer_given u.args ≡ layer_lent narrow5 narrow6 6
    → (let (_, (_, (_, (_, (left, _))))) = u.last in
    (u.result ≡ 0) × (left ≡ plus 21 ∷ plus 23 ∷ fin false 3 (pos 1) ∷ plus 27 ∷ fin false 43 (negsuc 2) ∷ plus 31 ∷ plus 33 ∷ plus 35 ∷ []))
unfolding opened
levels-layer-i8-called u e =
    let (_, (_, (_, (_, (left, _))))) = u.last in
    subst (λ (g : LayerLent ℤ). LayerLevelledOf (as_floats g.0) (as_floats g.1) g.2 g.3 g.4 left u.result) e (levels-layer-i8-by-place u)
