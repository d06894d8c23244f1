-- One call of each function that closes a bed, by the places of its arguments: whatever fits the contract on these numbers answered 0 and left these lists. The dimensions
-- are 1, 3 and 2, the other nine words, which are not read, are none of them, and every room is longer than it need be. What is wanted was written by hand from
-- include/bed.h: "the old distances at (x + 1, y + 1, z + 1), the wall's value everywhere else". Computed by the kernel. Assumes nothing.
use Prim.Native.Nat.{ℕ}
use mathlib.Core.Bool.{true, false}
use mathlib.Core.List.{List, [], ◌∷◌, ◌++◌}
use mathlib.Core.Path.{◌≡◌, subst}
use denote.Ref.{Bor, MutBor}
use lib.Count.{count_trailing_zeros}
use lib.IntN.{ℤ, pos, negsuc}
use lib.ListN.{length}
use lib.Ieee.{Float, nan, fin, lt, neg, of_int, round, size, units, odd, span, climb}
use Rattle.lists.specs.Lists.{run, up_to, place}
use Rattle.rules.specs.Call.{bad_dimensions, bad_length, beyond}
use Rattle.grid.specs.Values.{as_floats}
use Rattle.closing.specs.Closed.{closed_value, closed_list, closed_layer}
use Rattle.closing.specs.Answers.{close_answer, closed_room, layer_answer, layer_room}
use Rattle.closing.specs.Wall.{deepest, wall_for}
use Rattle.bed.specs.Words12.{dims_asked}
use Rattle.bed.proofs.Asked.{Closed, LayerClosed}
use Rattle.bed.proofs.Places.{
  CloseCall,
  CloseCall-i16,
  CloseCall-i8,
  LayerCall,
  LayerCall-i16,
  LayerCall-i8,
  DeepestCall,
  DeepestCall-i16,
  DeepestCall-i8,
  WallCall,
  close-by-place,
  close-i16-by-place,
  close-i8-by-place,
  close-layer-by-place,
  close-layer-i16-by-place,
  close-layer-i8-by-place,
  deepest-by-place,
  deepest-i16-by-place,
  deepest-i8-by-place,
  wall-for-by-place,
}
use Rattle.calls.proofs.Lists.{odds}

-- what a computed fact opens
opened : Unit {0}
unfolding close_answer closed_room layer_answer layer_room closed_list closed_layer closed_value deepest wall_for bad_dimensions bad_length beyond lt neg run up_to place of_int round
    size units odd span climb count_trailing_zeros
opened = tt

abbrev words : List ℕ
words = 1 ∷ 3 ∷ 2 ∷ 91 ∷ 92 ∷ 93 ∷ 94 ∷ 95 ∷ 96 ∷ 97 ∷ 98 ∷ 99 ∷ []

-- the wall, 12.0
abbrev w : Float
w = fin false 3 (pos 2)

-- ---- the closed bed of 4 by 6 by 5 points, a row a line

abbrev row : Float → List Float
row d = w ∷ d ∷ w ∷ w ∷ []

-- three distances of a layer, or none
abbrev around : Float → Float → Float → List Float
around a b c = row w ++ row a ++ row b ++ row c ++ row w ++ row w

abbrev wall_layer : List Float
wall_layer = around w w w

abbrev bed : Float → Float → Float → Float → Float → Float → List Float
bed a b c d e f = wall_layer ++ around a b c ++ around d e f ++ wall_layer ++ wall_layer

-- ---- bed_close, bed_close_i16, bed_close_i8: distances, words, wall, room

-- those arguments, by their places, of floats or of whole numbers
abbrev Lent : Type 0 → Type 0
Lent A = List A × List ℕ × Float × List Float

abbrev lent : {A : Type 0} → List A → Lent A
lent sdf = (sdf, words, w, odds 0 122)

-- what comes of them: the closed bed, and then what stood past it
abbrev Comes : ℕ → List Float → List Float → Type 0
Comes number left wanted = (number ≡ 0) × (left ≡ wanted ++ odds 120 122)

abbrev given : {A : Type 0} → Bor (List A) × (Bor (List ℕ) × (Float × (MutBor (List Float) × Unit {0}))) → Lent A
given (sdf, (words', (wall, (room, _)))) = (sdf.now, words'.now, wall, room.now)

-- 1, -2, 3, -4, 5 and -6
pub close-called : (u : CloseCall)
    → given u.args ≡ lent (fin false 1 (pos 0) ∷ fin true 1 (pos 1) ∷ fin false 3 (pos 0) ∷ fin true 1 (pos 2) ∷ fin false 5 (pos 0) ∷ fin true 3 (pos 1) ∷ [])
    → (let (_, (_, (_, (left, _)))) = u.last in
    Comes u.result left
    (bed (fin false 1 (pos 0)) (fin true 1 (pos 1)) (fin false 3 (pos 0)) (fin true 1 (pos 2)) (fin false 5 (pos 0)) (fin true 3 (pos 1))))
unfolding opened
close-called u e =
    let (_, (_, (_, (left, _)))) = u.last in
    subst (λ (g : Lent Float). Closed g.0 (length g.0) g.2 g.3 u.result left (dims_asked g.1)) e (close-by-place u)

-- 7, -300, 32767, -32768, 1000 and -9
pub close-i16-called : (u : CloseCall-i16)
    → given u.args ≡ lent (pos 7 ∷ negsuc 299 ∷ pos 32767 ∷ negsuc 32767 ∷ pos 1000 ∷ negsuc 8 ∷ [])
    → (let (_, (_, (_, (left, _)))) = u.last in
    Comes u.result left
    (bed (fin false 7 (pos 0)) (fin true 75 (pos 2)) (fin false 32767 (pos 0)) (fin true 1 (pos 15)) (fin false 125 (pos 3)) (fin true 9 (pos 0))))
unfolding opened
close-i16-called u e =
    let (_, (_, (_, (left, _)))) = u.last in
    subst (λ (g : Lent ℤ). Closed (as_floats g.0) (length g.0) g.2 g.3 u.result left (dims_asked g.1)) e (close-i16-by-place u)

-- 100, -128, 127, -3, 6 and -50
pub close-i8-called : (u : CloseCall-i8)
    → given u.args ≡ lent (pos 100 ∷ negsuc 127 ∷ pos 127 ∷ negsuc 2 ∷ pos 6 ∷ negsuc 49 ∷ [])
    → (let (_, (_, (_, (left, _)))) = u.last in
    Comes u.result left
    (bed (fin false 25 (pos 2)) (fin true 1 (pos 7)) (fin false 127 (pos 0)) (fin true 3 (pos 0)) (fin false 3 (pos 1)) (fin true 25 (pos 1))))
unfolding opened
close-i8-called u e =
    let (_, (_, (_, (left, _)))) = u.last in
    subst (λ (g : Lent ℤ). Closed (as_floats g.0) (length g.0) g.2 g.3 u.result left (dims_asked g.1)) e (close-i8-by-place u)

-- ---- bed_close_layer, bed_close_layer_i16, bed_close_layer_i8: the layer, words, z, wall, room

abbrev LayerLent : Type 0 → Type 0
LayerLent A = List A × List ℕ × ℕ × Float × List Float

abbrev layer_lent : {A : Type 0} → List A → ℕ → LayerLent A
layer_lent layer z = (layer, words, z, w, odds 0 26)

abbrev LayerComes : ℕ → List Float → List Float → Type 0
LayerComes number left wanted = (number ≡ 0) × (left ≡ wanted ++ odds 24 26)

abbrev layer_given : {A : Type 0} → Bor (List A) × (Bor (List ℕ) × (ℕ × (Float × (MutBor (List Float) × Unit {0})))) → LayerLent A
layer_given (layer, (words', (z, (wall, (room, _))))) = (layer.now, words'.now, z, wall, room.now)

-- the contract of a layer's call, of any distances
layer-says : {layer : List Float} {z : ℕ} (u : LayerCall) → layer_given u.args ≡ layer_lent layer z
    → (let (_, (_, (_, (_, (left, _))))) = u.last in LayerClosed layer (length layer) z w (odds 0 26) u.result left (dims_asked words))
layer-says u e =
    let (_, (_, (_, (_, (left, _))))) = u.last in
    subst (λ (g : LayerLent Float). LayerClosed g.0 (length g.0) g.2 g.3 g.4 u.result left (dims_asked g.1)) e (close-layer-by-place u)

-- z 2, the highest that has distances: -4, 5 and -6
pub close-layer-called : (u : LayerCall) → layer_given u.args ≡ layer_lent (fin true 1 (pos 2) ∷ fin false 5 (pos 0) ∷ fin true 3 (pos 1) ∷ []) 2
    → (let (_, (_, (_, (_, (left, _))))) = u.last in LayerComes u.result left (around (fin true 1 (pos 2)) (fin false 5 (pos 0)) (fin true 3 (pos 1))))
unfolding opened
close-layer-called u e = layer-says u e

-- z 4, the last: none
pub close-layer-wall-called : (u : LayerCall) → layer_given u.args ≡ layer_lent [] 4 → (let (_, (_, (_, (_, (left, _))))) = u.last in LayerComes u.result left wall_layer)
unfolding opened
close-layer-wall-called u e = layer-says u e

-- there is no z 5
pub close-layer-refused : (u : LayerCall) → layer_given u.args ≡ layer_lent [] 5 → (let (_, (_, (_, (_, (left, _))))) = u.last in (u.result ≡ 71) × (left ≡ odds 0 26))
unfolding opened
close-layer-refused u e = layer-says u e

-- z 1, the lowest: 7, -300 and 32767
pub close-layer-i16-called : (u : LayerCall-i16) → layer_given u.args ≡ layer_lent (pos 7 ∷ negsuc 299 ∷ pos 32767 ∷ []) 1
    → (let (_, (_, (_, (_, (left, _))))) = u.last in LayerComes u.result left (around (fin false 7 (pos 0)) (fin true 75 (pos 2)) (fin false 32767 (pos 0))))
unfolding opened
close-layer-i16-called u e =
    let (_, (_, (_, (_, (left, _))))) = u.last in
    subst (λ (g : LayerLent ℤ). LayerClosed (as_floats g.0) (length g.0) g.2 g.3 g.4 u.result left (dims_asked g.1)) e (close-layer-i16-by-place u)

-- z 2: -3, 6 and -50
pub close-layer-i8-called : (u : LayerCall-i8) → layer_given u.args ≡ layer_lent (negsuc 2 ∷ pos 6 ∷ negsuc 49 ∷ []) 2
    → (let (_, (_, (_, (_, (left, _))))) = u.last in LayerComes u.result left (around (fin true 3 (pos 0)) (fin false 3 (pos 1)) (fin true 25 (pos 1))))
unfolding opened
close-layer-i8-called u e =
    let (_, (_, (_, (_, (left, _))))) = u.last in
    subst (λ (g : LayerLent ℤ). LayerClosed (as_floats g.0) (length g.0) g.2 g.3 g.4 u.result left (dims_asked g.1)) e (close-layer-i8-by-place u)

-- ---- bed_deepest, bed_deepest_i16, bed_deepest_i8: what was found so far, distances

abbrev Found : Type 0 → Type 0
Found A = Float × List A

abbrev found_so : {A : Type 0} → Float → List A → Found A
found_so found sdf = (found, sdf)

abbrev found_given : {A : Type 0} → Float × (Bor (List A) × Unit {0}) → Found A
found_given (found, (sdf, _)) = (found, sdf.now)

-- 2.5 so far; 9, -7, not-a-number and -3: 7
pub deepest-called : (u : DeepestCall) → found_given u.args ≡ found_so (fin false 5 (negsuc 0)) (fin false 9 (pos 0) ∷ fin true 7 (pos 0) ∷ nan ∷ fin true 3 (pos 0) ∷ [])
    → u.result ≡ fin false 7 (pos 0)
unfolding opened
deepest-called u e = subst (λ (g : Found Float). u.result ≡ deepest g.0 g.1) e (deepest-by-place u)

-- 2.5 so far; 5, -300, 32767 and -299: 300
pub deepest-i16-called : (u : DeepestCall-i16) → found_given u.args ≡ found_so (fin false 5 (negsuc 0)) (pos 5 ∷ negsuc 299 ∷ pos 32767 ∷ negsuc 298 ∷ [])
    → u.result ≡ fin false 75 (pos 2)
unfolding opened
deepest-i16-called u e = subst (λ (g : Found ℤ). u.result ≡ deepest g.0 (as_floats g.1)) e (deepest-i16-by-place u)

-- 2.5 so far; 127, -2, -128 and -127: 128
pub deepest-i8-called : (u : DeepestCall-i8) → found_given u.args ≡ found_so (fin false 5 (negsuc 0)) (pos 127 ∷ negsuc 1 ∷ negsuc 127 ∷ negsuc 126 ∷ [])
    → u.result ≡ fin false 1 (pos 7)
unfolding opened
deepest-i8-called u e = subst (λ (g : Found ℤ). u.result ≡ deepest g.0 (as_floats g.1)) e (deepest-i8-by-place u)

-- ---- bed_wall_for: what was found

-- 300: the least power of two that is at least 2^25 times as much is 2^34
pub wall-for-called : (u : WallCall) → (let (found, _) = u.args in found ≡ fin false 75 (pos 2) → u.result ≡ fin false 1 (pos 34))
unfolding opened
wall-for-called u e = subst (λ (found : Float). u.result ≡ wall_for found) e (wall-for-by-place u)
