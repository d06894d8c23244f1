-- The contracts of the functions that cut fixtures out of one layer, by the places of their parameters, in the order of include/bed.h: see Places. Assumes nothing.
use Prim.Native.Nat.{ℕ}
use mathlib.Core.List.{List}
use mathlib.Core.Path.{◌≡◌}
use lib.Ieee.{Float}
use lib.ListN.{length}
use Rattle.grid.specs.Block.{point}
use Rattle.grid.specs.Values.{as_floats}
use Rattle.fixtures.specs.Layer.{layer_answer, cut_layer}
use Rattle.fixture_widths.specs.Into.{into_answer, cut_into}
use Rattle.bed.specs.Words12.{dims_asked}
use Rattle.bed.proofs.Places.{Called}
use Rattle.bed.proofs.cut_layers.bed_cut_fixtures_layer.Kinds as layer-kinds
use Rattle.bed.proofs.cut_layers.bed_cut_fixtures_layer.Reads as layer-reads
use Rattle.bed.proofs.cut_layers.bed_cut_fixtures_layer_i16.Kinds as i16-kinds
use Rattle.bed.proofs.cut_layers.bed_cut_fixtures_layer_i16.Reads as i16-reads
use Rattle.bed.proofs.cut_layers.bed_cut_fixtures_layer_i8.Kinds as i8-kinds
use Rattle.bed.proofs.cut_layers.bed_cut_fixtures_layer_i8.Reads as i8-reads

-- ---- bed_cut_fixtures_layer: file, the twelve words, z, layer

abbrev pub CutLayerCall : Type 0
CutLayerCall = Called 3 layer-kinds.ps layer-kinds.r layer-reads.Learnt

pub cut-fixtures-layer-by-place : (u : CutLayerCall)
    → (let (file, (words, (z, (layer, _)))) = u.args in
    let (_, (_, (_, (left, _)))) = u.last in
    let d = point (dims_asked words.now) in
    (u.result ≡ layer_answer file.now d z (length layer.now)) × (left ≡ cut_layer file.now d z layer.now))
cut-fixtures-layer-by-place u = u.fits

-- ---- bed_cut_fixtures_layer_i16, bed_cut_fixtures_layer_i8: file, layer, the twelve words, z, out

abbrev pub CutIntoOf : List ℕ → List Float → List ℕ → ℕ → List Float → List Float → ℕ → Type 0
CutIntoOf file layer words z old left number =
    let d = point (dims_asked words) in
    (number ≡ into_answer file d z (length layer) (length old)) × (left ≡ cut_into file d z layer old)

abbrev pub CutLayerCall16 : Type 0
CutLayerCall16 = Called 4 i16-kinds.ps i16-kinds.r i16-reads.Learnt

pub cut-fixtures-layer-i16-by-place : (u : CutLayerCall16)
    → (let (file, (layer, (words, (z, (out, _))))) = u.args in
    let (_, (_, (_, (_, (left, _))))) = u.last in
    CutIntoOf file.now (as_floats layer.now) words.now z out.now left u.result)
cut-fixtures-layer-i16-by-place u = u.fits

abbrev pub CutLayerCall8 : Type 0
CutLayerCall8 = Called 4 i8-kinds.ps i8-kinds.r i8-reads.Learnt

pub cut-fixtures-layer-i8-by-place : (u : CutLayerCall8)
    → (let (file, (layer, (words, (z, (out, _))))) = u.args in
    let (_, (_, (_, (_, (left, _))))) = u.last in
    CutIntoOf file.now (as_floats layer.now) words.now z out.now left u.result)
cut-fixtures-layer-i8-by-place u = u.fits
