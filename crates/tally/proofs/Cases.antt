-- The counts on one grid of 5, 4, 5 points with a box of 4, 4, 4 and flags that are not alike, computed by the kernel from the definitions: a bed against three faces of
-- the box, with one cell wholly in the sludge. All points outside the box are not-a-number. Whole and after each layer, with each refusal and their order. The wanted
-- numbers were counted by a plain program that reads document 01, cell by cell and edge by edge, and knows nothing of this repository. Assumes nothing.
use Prim.Native.Nat.{ℕ, ◌*◌}
use mathlib.Core.Bool.{true, false, cond}
use mathlib.Core.List.{List, [], ◌∷◌, ◌++◌}
use mathlib.Core.Path.{◌≡◌, refl, ◌∙◌}
use lib.Dec.{eqb}
use lib.IntN.{pos, negsuc}
use lib.ListN.{length}
use lib.Ieee.{Float, nan, inf, fin, lt, of_int, round, size, units, odd, neg, sum, span, climb}
use lib.Count.{count_trailing_zeros}
use Rattle.lists.specs.Lists.{run, up_to, keep, many, some, joined}
use Rattle.rules.specs.Grid.{Field}
use Rattle.rules.specs.Vertices.{row_cells, layer_cells, cells, layer_vertices, vertices}
use Rattle.rules.specs.Faces.{owned, changes, cell_edges, layer_edges, layer_points, points, changing_edges}
use Rattle.rules.specs.Call.{bad_dimensions, bad_box, bad_length, beyond, bad_layer, bad_distance}
use Rattle.rules.proofs.Edges.{index-count}
use Rattle.grid.specs.declared.Block.{Block}
use Rattle.grid.specs.Block.{box_of, flags_of, field_of}
use Rattle.grid.specs.Layers.{layer_dist}
use Rattle.grid.specs.Values.{as_floats}
use Rattle.tally.specs.declared.Counts.{Counts}
use Rattle.tally.specs.Cells.{whole_cells}
use Rattle.tally.specs.Call.{counted, nothing, told, tally_answer, tallied, layer_answer, layer_told}

-- ---- the grid: a layer's rows of five points, of which the first is outside the box

abbrev p : Float
p = fin false 1 (pos 0)

abbrev n : Float
n = fin true 1 (pos 0)

abbrev row : Float → Float → Float → Float → List Float
row a b c d = nan ∷ a ∷ b ∷ c ∷ d ∷ []

abbrev layer0 : List Float
layer0 = row nan nan nan nan ++ row nan nan nan nan ++ row nan nan nan nan ++ row nan nan nan nan

abbrev layer1 : List Float
layer1 = row p p p p ++ row p p p p ++ row p p p p ++ row p p p p

abbrev layer2 : List Float
layer2 = row p n n n ++ row p n n n ++ row p p p p ++ row p p n p

abbrev layer3 : List Float
layer3 = row p n n n ++ row p n n p ++ row p p p n ++ row p p p p

abbrev top_with : Float → List Float
top_with d = row p p p p ++ row p p p p ++ row p n p p ++ row n p p d

abbrev layer4 : List Float
layer4 = top_with p

abbrev grid_with : List Float → List Float
grid_with top = layer0 ++ layer1 ++ layer2 ++ layer3 ++ top

abbrev bench : List Float
bench = grid_with layer4

abbrev block_to : ℕ → ℕ → ℕ → Block
block_to dz hx hz =
    record {
      dims = record { x = 5; y = 4; z = dz };
      low = record { x = 1; y = 0; z = 1 };
      high = record { x = hx; y = 3; z = hz };
      max_plane = record { x = true; y = false; z = true };
    }

abbrev block : Block
block = block_to 5 4 4

-- ---- the whole grid

abbrev field : Field
field = field_of bench block

accepted : tally_answer bench block ≡ 0
unfolding tally_answer bad_dimensions bad_box bad_length bad_distance bad_layer layer_points beyond some joined up_to run
accepted = refl

one_cell : whole_cells field (box_of block) ≡ 1
unfolding cells layer_cells row_cells joined up_to run many lt
one_cell = refl

vertices-are : length (vertices field (box_of block)) ≡ 24
unfolding vertices layer_vertices layer_cells row_cells joined up_to run keep many lt
vertices-are = refl

faces-are : 6 * changing_edges field (box_of block) (flags_of block) ≡ 78
unfolding changing_edges points layer_points owned changes joined up_to run many lt
faces-are = refl

pub whole-told : tallied bench block ≡ told 0 (counted 1 24 78)
unfolding tallied
whole-told =
    let i = index-count field (box_of block) (flags_of block) ∙ faces-are in
    λ j. told (accepted j) (cond (eqb (accepted j) 0) (counted (one_cell j) (vertices-are j) (i j)) nothing)

-- one case to a condition, with every later one holding too
abbrev bad : List Float
bad = grid_with (top_with nan)

pub whole-answers :
    tally_answer (nan ∷ bad) (block_to 0 0 5) ∷ tally_answer (nan ∷ bad) (block_to 5 0 4) ∷ tally_answer (nan ∷ bad) (block_to 5 4 5) ∷ tally_answer (nan ∷ bad) block
    ∷ tally_answer bad block ∷ tally_answer (grid_with (top_with (fin true 1 (pos 124)))) block ∷ tally_answer (grid_with (top_with (fin true 8388609 (pos 101)))) block
    ∷ tally_answer (grid_with (top_with (inf true))) block ∷ []
    ≡ 1 ∷ 2 ∷ 2 ∷ 3 ∷ 5 ∷ 0 ∷ 5 ∷ 5 ∷ []
unfolding tally_answer bad_dimensions bad_box bad_length bad_distance bad_layer layer_points beyond some joined up_to run
whole-answers = refl

-- a refusal tells no count
pub whole-refused : tallied bad block ≡ told 5 nothing
unfolding tallied tally_answer bad_dimensions bad_box bad_length bad_distance bad_layer layer_points beyond some joined up_to run
whole-refused = refl

-- ---- the same layer by layer: at min z what stands in the counts is not looked at

abbrev old : Counts
old = counted 7 8 9

pub layers-told : layer_told [] layer1 block 1 old ∷ layer_told layer1 layer2 block 2 nothing ∷ layer_told layer2 layer3 block 3 (counted 0 8 12)
    ∷ layer_told layer3 layer4 block 4 (counted 1 15 30) ∷ []
    ≡ told 0 nothing ∷ told 0 (counted 0 8 12) ∷ told 0 (counted 1 15 30) ∷ told 0 (counted 1 24 78) ∷ []
unfolding layer_told layer_answer bad_dimensions bad_box bad_layer layer_points beyond some joined up_to run layer_dist
    layer_vertices layer_edges cell_edges owned changes layer_cells row_cells keep many lt
layers-told = refl

-- one case to a condition, with every later one holding too; then each kind of a wrong length and of a bad distance, and the counts so far at and past their limit
abbrev many' : Counts
many' = counted 1152921504606846976 1152921504606846976 1152921504606846977

pub layer-answers :
    layer_answer (nan ∷ []) (nan ∷ layer4) (block_to 0 0 5) 5 many' ∷ layer_answer (nan ∷ []) (nan ∷ layer4) (block_to 5 0 4) 5 many'
    ∷ layer_answer (nan ∷ []) (nan ∷ layer4) block 5 many' ∷ layer_answer (nan ∷ []) (nan ∷ layer4) block 0 many'
    ∷ layer_answer layer3 (nan ∷ top_with nan) block 4 many' ∷ layer_answer layer3 (top_with nan) block 4 many' ∷ layer_answer layer3 layer4 block 4 many'
    ∷ layer_answer layer3 layer4 block 4 old ∷ layer_answer layer0 layer1 block 1 old ∷ layer_answer [] layer1 block 1 many' ∷ layer_answer [] layer2 block 2 old
    ∷ layer_answer (nan ∷ layer1) layer2 block 2 old ∷ layer_answer (top_with nan) layer2 block 2 old
    ∷ layer_answer layer3 layer4 block 4 (counted 1152921504606846977 0 0) ∷ layer_answer layer3 layer4 block 4 (counted 0 1152921504606846977 0)
    ∷ layer_answer layer3 layer4 block 4 (counted 1152921504606846976 1152921504606846976 1152921504606846976) ∷ []
    ≡ 1 ∷ 2 ∷ 91 ∷ 91 ∷ 3 ∷ 5 ∷ 92 ∷ 0 ∷ 3 ∷ 0 ∷ 3 ∷ 3 ∷ 5 ∷ 92 ∷ 92 ∷ 0 ∷ []
unfolding layer_answer bad_dimensions bad_box bad_layer layer_points beyond some joined up_to run
layer-answers = refl

pub layer-kept : layer_told layer3 (top_with nan) block 4 old ≡ told 5 old
unfolding layer_told layer_answer bad_dimensions bad_box bad_layer layer_points beyond some joined up_to run
layer-kept = refl

-- ---- whole numbers, each the float of the same value: one cell of eight, of which one is 0 or none

abbrev cube : Block
cube =
    record {
      dims = record { x = 2; y = 2; z = 2 };
      low = record { x = 0; y = 0; z = 0 };
      high = record { x = 1; y = 1; z = 1 };
      max_plane = record { x = true; y = true; z = true };
    }

pub cube-whole : whole_cells (field_of (as_floats (negsuc 3 ∷ negsuc 0 ∷ negsuc 1 ∷ negsuc 1 ∷ negsuc 1 ∷ negsuc 1 ∷ negsuc 1 ∷ negsuc 32767 ∷ [])) cube) (box_of cube) ≡ 1
unfolding cells layer_cells row_cells joined up_to run many lt of_int round size units odd neg sum span climb count_trailing_zeros
cube-whole = refl

pub cube-not-whole : whole_cells (field_of (as_floats (negsuc 3 ∷ pos 0 ∷ negsuc 1 ∷ negsuc 1 ∷ negsuc 1 ∷ negsuc 1 ∷ negsuc 1 ∷ negsuc 1 ∷ [])) cube) (box_of cube) ≡ 0
unfolding cells layer_cells row_cells joined up_to run many lt of_int round size units odd neg sum span climb count_trailing_zeros
cube-not-whole = refl
