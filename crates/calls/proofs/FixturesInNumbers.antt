-- One call of each function that cuts fixtures out, by the places of its arguments: whatever fits the contract on these numbers answered 0 and left these lists. A file of
-- one box less another, no two of whose ends are alike, a grid of 3, 2 and 4 points, nine further words that are not read, and layers at different heights. What is wanted was
-- worked out by a small program written from document 02, request 11; the bytes were packed by Python's struct. Computed by the kernel. Assumes nothing.
use Prim.Native.Nat.{ℕ}
use mathlib.Core.List.{List, [], ◌∷◌}
use mathlib.Core.Path.{◌≡◌, subst}
use denote.Ref.{Bor, MutBor}
use lib.Count.{count_trailing_zeros}
use lib.IntN.{ℤ, pos, negsuc}
use lib.ListN.{take}
use lib.Ieee.{Float, add, sub, lt, neg, of_int, round, size, units, odd, sum, span, climb, of_bits, of_fields}
use Rattle.lists.specs.Lists.{placed}
use Rattle.rules.specs.Call.{bad_dimensions, bad_length}
use Rattle.grid.specs.Values.{as_floats}
use Rattle.fixtures.specs.Record as record_of
use Rattle.fixtures.specs.Record.{word_at, unknown_kind, bad_count, rest_zero, bad_group, past, far_point, head_at}
use Rattle.fixtures.specs.Solid.{greater, lesser, box_value, joins, members, solid_at, file_at}
use Rattle.fixtures.specs.Cut.{file_answer, cut_all, cut_answer, cut_grid}
use Rattle.fixtures.specs.Layer.{layer_answer, cut_layer}
use Rattle.fixture_widths.specs.Into.{into_answer, cut_into}
use Rattle.bed.specs.Words12.{dims_asked}
use Rattle.bed.proofs.Asked.{FixturesCut, LayerCut}
use Rattle.bed.proofs.Places.{CutCall, cut-fixtures-by-place}
use Rattle.bed.proofs.FixturePlaces.{
  CutLayerCall,
  CutLayerCall16,
  CutLayerCall8,
  CutIntoOf,
  cut-fixtures-layer-by-place,
  cut-fixtures-layer-i16-by-place,
  cut-fixtures-layer-i8-by-place,
}
use Rattle.calls.proofs.Lists.{floats}

-- what a computed fact opens
opened : Unit {0}
unfolding cut_answer cut_grid cut_all layer_answer cut_layer into_answer cut_into file_answer file_at solid_at members greater lesser box_value joins head_at bad_group
    record_of.bad_box past far_point unknown_kind bad_count rest_zero word_at bad_dimensions bad_length placed add sub lt neg of_int round size units odd sum span climb
    count_trailing_zeros of_bits of_fields
opened = tt

-- a difference of two: from (0.9375, 0.125, -0.0625) to (2.875, 1.25, 2.125), less from (-0.3125, -0.875, -0.25) to (1.75, 1.375, 4.6875)
abbrev file : List ℕ
file =
    4 ∷ 0 ∷ 0 ∷ 0 ∷ 2 ∷ 0 ∷ 0 ∷ 0 ∷ 0 ∷ 0 ∷ 0 ∷ 0 ∷ 0 ∷ 0 ∷ 0 ∷ 0 ∷ 0 ∷ 0 ∷ 0 ∷ 0 ∷ 0 ∷ 0 ∷ 0 ∷ 0 ∷ 0 ∷ 0 ∷ 0 ∷ 0 ∷ 0 ∷ 0 ∷ 0 ∷ 0
    ∷ 1 ∷ 0 ∷ 0 ∷ 0 ∷ 0 ∷ 0 ∷ 112 ∷ 63 ∷ 0 ∷ 0 ∷ 0 ∷ 62 ∷ 0 ∷ 0 ∷ 128 ∷ 189 ∷ 0 ∷ 0 ∷ 56 ∷ 64 ∷ 0 ∷ 0 ∷ 160 ∷ 63 ∷ 0 ∷ 0 ∷ 8 ∷ 64 ∷ 0 ∷ 0 ∷ 0 ∷ 0
    ∷ 1 ∷ 0 ∷ 0 ∷ 0 ∷ 0 ∷ 0 ∷ 160 ∷ 190 ∷ 0 ∷ 0 ∷ 96 ∷ 191 ∷ 0 ∷ 0 ∷ 128 ∷ 190 ∷ 0 ∷ 0 ∷ 224 ∷ 63 ∷ 0 ∷ 0 ∷ 176 ∷ 63 ∷ 0 ∷ 0 ∷ 150 ∷ 64 ∷ 0 ∷ 0 ∷ 0 ∷ 0 ∷ []

abbrev words : List ℕ
words = 3 ∷ 2 ∷ 4 ∷ 91 ∷ 92 ∷ 93 ∷ 94 ∷ 95 ∷ 96 ∷ 97 ∷ 98 ∷ 99 ∷ []

-- ---- bed_cut_fixtures: the file, words, distances; a layer a line

abbrev Lent : Type 0
Lent = List ℕ × List ℕ × List Float

abbrev lent : List Float → Lent
lent sdf = (file, words, sdf)

abbrev given : Bor (List ℕ) × (Bor (List ℕ) × (MutBor (List Float) × Unit {0})) → Lent
given (file', (words', (sdf, _))) = (file'.now, words'.now, sdf.now)

abbrev grid : List ℕ
grid =
    0xBEC00000 ∷ 0xBFA00000 ∷ 0xC0080000 ∷ 0xC0400000 ∷ 0xBF600000 ∷ 0x3F000000
    ∷ 0xC0280000 ∷ 0xBF000000 ∷ 0xBFB00000 ∷ 0xC0100000 ∷ 0xC0480000 ∷ 0xBF800000
    ∷ 0xBFF00000 ∷ 0xC0300000 ∷ 0x40000000 ∷ 0xBFC00000 ∷ 0xC0180000 ∷ 0xC0500000
    ∷ 0xBF900000 ∷ 0xC0000000 ∷ 0xC0380000 ∷ 0xBF400000 ∷ 0xBFD00000 ∷ 0xC0200000 ∷ []

-- 19 points take the negated fixture, and five stay
abbrev grid_left : List ℕ
grid_left =
    0xBEC00000 ∷ 0xBE800000 ∷ 0xBE000000 ∷ 0xBF700000 ∷ 0xBE800000 ∷ 0x3F000000
    ∷ 0xBF700000 ∷ 0xBF000000 ∷ 0xBE000000 ∷ 0xBF700000 ∷ 0xBEC00000 ∷ 0x3E800000
    ∷ 0xBF700000 ∷ 0xBF400000 ∷ 0x40000000 ∷ 0xBF700000 ∷ 0xBEC00000 ∷ 0x3E000000
    ∷ 0xBF700000 ∷ 0xBF600000 ∷ 0xBF600000 ∷ 0xBF400000 ∷ 0xBF600000 ∷ 0xBF600000 ∷ []

pub cut-fixtures-called : (u : CutCall) → given u.args ≡ lent (floats grid) → (let (_, (_, (left, _))) = u.last in (u.result ≡ 0) × (left ≡ floats grid_left))
unfolding opened
cut-fixtures-called u e =
    let (_, (_, (left, _))) = u.last in
    subst (λ (g : Lent). FixturesCut g.0 g.2 u.result left (dims_asked g.1)) e (cut-fixtures-by-place u)

-- ---- bed_cut_fixtures_layer: the file, words, z, the layer

abbrev LayerLent : Type 0
LayerLent = List ℕ × List ℕ × ℕ × List Float

abbrev layer_lent : ℕ → List Float → LayerLent
layer_lent z layer = (file, words, z, layer)

abbrev layer_given : Bor (List ℕ) × (Bor (List ℕ) × (ℕ × (MutBor (List Float) × Unit {0}))) → LayerLent
layer_given (file', (words', (z, (layer, _)))) = (file'.now, words'.now, z, layer.now)

-- the contract of a layer's call, of any distances
layer-says : {z : ℕ} {layer : List Float} (u : CutLayerCall) → layer_given u.args ≡ layer_lent z layer
    → (let (_, (_, (_, (left, _)))) = u.last in LayerCut file z layer u.result left (dims_asked words))
layer-says u e =
    let (_, (_, (_, (left, _)))) = u.last in
    subst (λ (g : LayerLent). LayerCut g.0 g.2 g.3 u.result left (dims_asked g.1)) e (cut-fixtures-layer-by-place u)

-- the grid's layer 3, its highest
pub cut-fixtures-layer-called : (u : CutLayerCall)
    → layer_given u.args ≡ layer_lent 3 (floats (0xBF900000 ∷ 0xC0000000 ∷ 0xC0380000 ∷ 0xBF400000 ∷ 0xBFD00000 ∷ 0xC0200000 ∷ []))
    → (let (_, (_, (_, (left, _)))) = u.last in
    (u.result ≡ 0) × (left ≡ floats (0xBF700000 ∷ 0xBF600000 ∷ 0xBF600000 ∷ 0xBF400000 ∷ 0xBF600000 ∷ 0xBF600000 ∷ [])))
unfolding opened
cut-fixtures-layer-called u e = layer-says u e

-- there is no layer 4
pub cut-fixtures-layer-refused : (u : CutLayerCall) → layer_given u.args ≡ layer_lent 4 (floats (take 6 grid))
    → (let (_, (_, (_, (left, _)))) = u.last in (u.result ≡ 81) × (left ≡ floats (take 6 grid)))
unfolding opened
cut-fixtures-layer-refused u e = layer-says u e

-- ---- bed_cut_fixtures_layer_i16, bed_cut_fixtures_layer_i8: the file, the layer, words, z, and the list that is written, longer by two

abbrev IntoLent : Type 0
IntoLent = List ℕ × List ℤ × List ℕ × ℕ × List Float

-- 1.0 to 8.0
abbrev old : List ℕ
old = 0x3F800000 ∷ 0x40000000 ∷ 0x40400000 ∷ 0x40800000 ∷ 0x40A00000 ∷ 0x40C00000 ∷ 0x40E00000 ∷ 0x41000000 ∷ []

abbrev into_lent : List ℤ → ℕ → IntoLent
into_lent layer z = (file, layer, words, z, floats old)

abbrev into_given : Bor (List ℕ) × (Bor (List ℤ) × (Bor (List ℕ) × (ℕ × (MutBor (List Float) × Unit {0})))) → IntoLent
into_given (file', (layer, (words', (z, (out, _))))) = (file'.now, layer.now, words'.now, z, out.now)

-- layer 2: -300, -1, 5, -32768, -2 and 0
pub cut-fixtures-layer-i16-called : (u : CutLayerCall16)
    → into_given u.args ≡ into_lent (negsuc 299 ∷ negsuc 0 ∷ pos 5 ∷ negsuc 32767 ∷ negsuc 1 ∷ pos 0 ∷ []) 2
    → (let (_, (_, (_, (_, (left, _))))) = u.last in
    (u.result ≡ 0) × (left ≡ floats (0xBF700000 ∷ 0xBF400000 ∷ 0x40A00000 ∷ 0xBF700000 ∷ 0xBEC00000 ∷ 0x3E000000 ∷ 0x40E00000 ∷ 0x41000000 ∷ [])))
unfolding opened
cut-fixtures-layer-i16-called u e =
    let (_, (_, (_, (_, (left, _))))) = u.last in
    subst (λ (g : IntoLent). CutIntoOf g.0 (as_floats g.1) g.2 g.3 g.4 left u.result) e (cut-fixtures-layer-i16-by-place u)

-- layer 1: -128, -1, 127, 1, -50 and -2
pub cut-fixtures-layer-i8-called : (u : CutLayerCall8)
    → into_given u.args ≡ into_lent (negsuc 127 ∷ negsuc 0 ∷ pos 127 ∷ pos 1 ∷ negsuc 49 ∷ negsuc 1 ∷ []) 1
    → (let (_, (_, (_, (_, (left, _))))) = u.last in
    (u.result ≡ 0) × (left ≡ floats (0xBF700000 ∷ 0xBF400000 ∷ 0x42FE0000 ∷ 0x3F800000 ∷ 0xBEC00000 ∷ 0x3E800000 ∷ 0x40E00000 ∷ 0x41000000 ∷ [])))
unfolding opened
cut-fixtures-layer-i8-called u e =
    let (_, (_, (_, (_, (left, _))))) = u.last in
    subst (λ (g : IntoLent). CutIntoOf g.0 (as_floats g.1) g.2 g.3 g.4 left u.result) e (cut-fixtures-layer-i8-by-place u)
