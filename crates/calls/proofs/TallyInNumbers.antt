-- One call of each function that counts cells, by the places of its arguments: whatever fits the contract on these numbers answered 0 and left these counts. The box has 3, 2
-- and 4 cells in a grid of 5, 4 and 6 points, which outside it holds not-a-numbers or negative numbers; the max planes of x and z are set and that of y is not. The wanted counts
-- were made by a small program written from document 01, cell by cell and edge by edge. Computed by the kernel. Assumes nothing.
use Prim.Native.Nat.{ℕ, ◌*◌}
use mathlib.Core.Bool.{true, false, cond}
use mathlib.Core.List.{List, [], ◌∷◌, ◌++◌}
use mathlib.Core.Path.{◌≡◌, refl, subst, ◌∙◌}
use denote.Ref.{Bor, MutBor}
use lib.Count.{count_trailing_zeros}
use lib.Dec.{eqb}
use lib.IntN.{ℤ, pos, negsuc}
use lib.ListN.{length, replicate}
use lib.Ieee.{Float, nan, fin, lt, of_int, round, size, units, odd, neg, sum, span, climb}
use Rattle.lists.specs.Lists.{run, up_to, keep, many, some, joined}
use Rattle.rules.specs.Vertices.{row_cells, layer_cells, cells, layer_vertices, vertices}
use Rattle.rules.specs.Faces.{owned, changes, cell_edges, layer_edges, layer_points, points, changing_edges}
use Rattle.rules.specs.Call.{bad_dimensions, bad_box, bad_length, beyond, bad_layer, bad_distance}
use Rattle.rules.proofs.Edges.{index-count}
use Rattle.grid.specs.declared.Block.{Block}
use Rattle.grid.specs.Block.{box_of, flags_of, field_of}
use Rattle.grid.specs.Layers.{layer_dist}
use Rattle.grid.specs.Values.{as_floats}
use Rattle.tally.specs.Cells.{whole_cells}
use Rattle.tally.specs.Call.{counted, nothing, told, tally_answer, tallied, layer_answer, layer_told}
use Rattle.bed.specs.Words12.{block_words}
use Rattle.bed.specs.Tallied.{counts_in}
use Rattle.bed.proofs.Left.{left_as}
use Rattle.bed.proofs.Places.{
  TallyCall,
  TallyCall16,
  TallyCall8,
  TallyLayerCall,
  TallyLayerCall16,
  TallyLayerCall8,
  CountedOf,
  tally-by-place,
  tally-i16-by-place,
  tally-i8-by-place,
  tally-layer-by-place,
  tally-layer-i16-by-place,
  tally-layer-i8-by-place,
}

-- what a computed fact opens
opened : Unit {0}
unfolding tally_answer layer_told layer_answer bad_dimensions bad_box bad_length bad_distance bad_layer layer_points beyond some joined up_to run cells layer_cells row_cells vertices
    layer_vertices keep many changing_edges points owned changes cell_edges layer_edges layer_dist lt of_int round size units odd neg sum span climb count_trailing_zeros
opened = tt

-- dimensions 5, 4, 6; from (1, 0, 1) to (4, 2, 5); a flag is set by any word but 0
abbrev words : List ℕ
words = 5 ∷ 4 ∷ 6 ∷ 1 ∷ 0 ∷ 1 ∷ 4 ∷ 2 ∷ 5 ∷ 7 ∷ 0 ∷ 9 ∷ []

abbrev block : Block
block = block_words words

-- ---- the box's five layers, by rows: o outside the box, p above zero and n below it

module _ {A : Type 0} (o p n : A) where
  abbrev at1 : List A
  at1 = (o ∷ p ∷ p ∷ p ∷ p ∷ []) ++ (o ∷ p ∷ p ∷ p ∷ p ∷ []) ++ (o ∷ p ∷ p ∷ p ∷ p ∷ []) ++ replicate 5 o

  abbrev at2 : List A
  at2 = (o ∷ p ∷ p ∷ p ∷ p ∷ []) ++ (o ∷ p ∷ p ∷ n ∷ p ∷ []) ++ (o ∷ p ∷ p ∷ n ∷ p ∷ []) ++ replicate 5 o

  abbrev at3 : List A
  at3 = (o ∷ p ∷ n ∷ n ∷ n ∷ []) ++ (o ∷ p ∷ n ∷ n ∷ n ∷ []) ++ (o ∷ p ∷ p ∷ n ∷ n ∷ []) ++ replicate 5 o

  abbrev at4 : List A
  at4 = (o ∷ p ∷ n ∷ n ∷ n ∷ []) ++ (o ∷ p ∷ p ∷ n ∷ n ∷ []) ++ (o ∷ p ∷ n ∷ n ∷ n ∷ []) ++ replicate 5 o

  abbrev at5 : List A
  at5 = (o ∷ p ∷ p ∷ n ∷ p ∷ []) ++ (o ∷ p ∷ n ∷ n ∷ n ∷ []) ++ (o ∷ p ∷ n ∷ n ∷ n ∷ []) ++ replicate 5 o

  abbrev bed : List A
  bed = replicate 20 o ++ at1 ++ at2 ++ at3 ++ at4 ++ at5

-- 1.5 and -2.5
abbrev p : Float
p = fin false 3 (negsuc 0)

abbrev n : Float
n = fin true 5 (negsuc 0)

-- ---- the counts of a grid: cells wholly below zero, V, I

module _ (grid : List Float) (whole v faces : ℕ) (accepted : tally_answer grid block ≡ 0) (below : whole_cells (field_of grid block) (box_of block) ≡ whole)
    (through : length (vertices (field_of grid block) (box_of block)) ≡ v) (turns : 6 * changing_edges (field_of grid block) (box_of block) (flags_of block) ≡ faces) where
  told-so : tallied grid block ≡ told 0 (counted whole v faces)
  unfolding tallied
  told-so =
      let i = index-count (field_of grid block) (box_of block) (flags_of block) ∙ turns in
      λ j. told (accepted j) (cond (eqb (accepted j) 0) (counted (below j) (through j) (i j)) nothing)

-- ---- bed_tally, bed_tally_i16, bed_tally_i8: distances, words, counts

abbrev Lent : Type 0 → Type 0
Lent A = List A × List ℕ × List ℕ

abbrev old : List ℕ
old = 41 ∷ 42 ∷ 44 ∷ []

abbrev lent : {A : Type 0} → List A → Lent A
lent sdf = (sdf, words, old)

abbrev given : {A : Type 0} → Bor (List A) × (Bor (List ℕ) × (MutBor (List ℕ) × Unit {0})) → Lent A
given (sdf, (words', (counts, _))) = (sdf.now, words'.now, counts.now)

abbrev Comes : ℕ → List ℕ → ℕ → ℕ → ℕ → Type 0
Comes number left whole v i = (number ≡ 0) × (left ≡ whole ∷ v ∷ i ∷ [])

floats-told : tallied (bed nan p n) block ≡ told 0 (counted 3 19 60)
unfolding opened
floats-told = told-so (bed nan p n) 3 19 60 refl refl refl refl

pub tally-called : (u : TallyCall) → given u.args ≡ lent (bed nan p n) → (let (_, (_, (left, _))) = u.last in Comes u.result left 3 19 60)
tally-called u e =
    let (_, (_, (left, _))) = u.last in
    left_as old floats-told (subst (λ (g : Lent Float). CountedOf (tallied g.0 (block_words g.1)) g.2 left u.result) e (tally-by-place u))

-- 300 and -32768, and -7 outside the box
abbrev wide : List ℤ
wide = bed (negsuc 6) (pos 300) (negsuc 32767)

wide-told : tallied (as_floats wide) block ≡ told 0 (counted 3 19 60)
unfolding opened
wide-told = told-so (as_floats wide) 3 19 60 refl refl refl refl

pub tally-i16-called : (u : TallyCall16) → given u.args ≡ lent wide → (let (_, (_, (left, _))) = u.last in Comes u.result left 3 19 60)
tally-i16-called u e =
    let (_, (_, (left, _))) = u.last in
    left_as old wide-told (subst (λ (g : Lent ℤ). CountedOf (tallied (as_floats g.0) (block_words g.1)) g.2 left u.result) e (tally-i16-by-place u))

-- the signs turned: -128 and 127
abbrev narrow : List ℤ
narrow = bed (negsuc 6) (negsuc 127) (pos 127)

narrow-told : tallied (as_floats narrow) block ≡ told 0 (counted 2 19 60)
unfolding opened
narrow-told = told-so (as_floats narrow) 2 19 60 refl refl refl refl

pub tally-i8-called : (u : TallyCall8) → given u.args ≡ lent narrow → (let (_, (_, (left, _))) = u.last in Comes u.result left 2 19 60)
tally-i8-called u e =
    let (_, (_, (left, _))) = u.last in
    left_as old narrow-told (subst (λ (g : Lent ℤ). CountedOf (tallied (as_floats g.0) (block_words g.1)) g.2 left u.result) e (tally-i8-by-place u))

-- ---- bed_tally_layer, bed_tally_layer_i16, bed_tally_layer_i8: the layer below, the layer, words, z, counts

abbrev LayerLent : Type 0 → Type 0
LayerLent A = List A × List A × List ℕ × ℕ × List ℕ

abbrev layer_lent : {A : Type 0} → List A → List A → ℕ → LayerLent A
layer_lent below layer z = (below, layer, words, z, old)

abbrev layer_given : {A : Type 0} → Bor (List A) × (Bor (List A) × (Bor (List ℕ) × (ℕ × (MutBor (List ℕ) × Unit {0})))) → LayerLent A
layer_given (below, (layer, (words', (z, (counts, _))))) = (below.now, layer.now, words'.now, z, counts.now)

-- the contract of a layer's call, of any distances
layer-says : {below layer : List Float} {z : ℕ} (u : TallyLayerCall) → layer_given u.args ≡ layer_lent below layer z
    → (let (_, (_, (_, (_, (left, _))))) = u.last in CountedOf (layer_told below layer block z (counts_in old)) old left u.result)
layer-says u e =
    let (_, (_, (_, (_, (left, _))))) = u.last in
    subst (λ (g : LayerLent Float). CountedOf (layer_told g.0 g.1 (block_words g.2) g.3 (counts_in g.4)) g.4 left u.result) e (tally-layer-by-place u)

-- z 4: two cells more wholly below zero, four that the surface passes through, two faces
pub tally-layer-called : (u : TallyLayerCall) → layer_given u.args ≡ layer_lent (at3 nan p n) (at4 nan p n) 4
    → (let (_, (_, (_, (_, (left, _))))) = u.last in Comes u.result left 43 46 56)
unfolding opened
tally-layer-called u e = layer-says u e

-- z 1, the lowest: the counts begin again
pub tally-layer-lowest-called : (u : TallyLayerCall) → layer_given u.args ≡ layer_lent [] (at1 nan p n) 1
    → (let (_, (_, (_, (_, (left, _))))) = u.last in Comes u.result left 0 0 0)
unfolding opened
tally-layer-lowest-called u e = layer-says u e

-- z 6 is above the box: the counts stay
pub tally-layer-refused : (u : TallyLayerCall) → layer_given u.args ≡ layer_lent (at4 nan p n) (at5 nan p n) 6
    → (let (_, (_, (_, (_, (left, _))))) = u.last in (u.result ≡ 91) × (left ≡ old))
unfolding opened
tally-layer-refused u e = layer-says u e

-- z 5, the highest: one, five and three
pub tally-layer-i16-called : (u : TallyLayerCall16)
    → layer_given u.args ≡ layer_lent (at4 (negsuc 6) (pos 300) (negsuc 32767)) (at5 (negsuc 6) (pos 300) (negsuc 32767)) 5
    → (let (_, (_, (_, (_, (left, _))))) = u.last in Comes u.result left 42 47 62)
unfolding opened
tally-layer-i16-called u e =
    let (_, (_, (_, (_, (left, _))))) = u.last in
    subst (λ (g : LayerLent ℤ). CountedOf (layer_told (as_floats g.0) (as_floats g.1) (block_words g.2) g.3 (counts_in g.4)) g.4 left u.result) e
    (tally-layer-i16-by-place u)

-- z 2, the signs turned: two, four and one
pub tally-layer-i8-called : (u : TallyLayerCall8)
    → layer_given u.args ≡ layer_lent (at1 (negsuc 6) (negsuc 127) (pos 127)) (at2 (negsuc 6) (negsuc 127) (pos 127)) 2
    → (let (_, (_, (_, (_, (left, _))))) = u.last in Comes u.result left 43 46 50)
unfolding opened
tally-layer-i8-called u e =
    let (_, (_, (_, (_, (left, _))))) = u.last in
    subst (λ (g : LayerLent ℤ). CountedOf (layer_told (as_floats g.0) (as_floats g.1) (block_words g.2) g.3 (counts_in g.4)) g.4 left u.result) e
    (tally-layer-i8-by-place u)
