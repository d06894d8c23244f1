-- Document 01, "What a claim has to settle": "Show that two outcomes that fit are equal". For `cut_fixtures` and for the function that C and Rust link one outcome
-- alone fits the contract: the answer, and every number of the grid afterwards, refused calls too. The same of those that cut one layer. Assumes nothing.
use mathlib.Core.Path.{◌∙◌, sym}
use Rattle.promises.proofs.OneOutcome.{OneOutcome}
use Rattle.fixtures.proofs.Numbers.{one-answer}
use Rattle.fixtures.proofs.cut.cut_fixtures.Kinds as cut-fixtures-kinds
use Rattle.fixtures.proofs.cut.cut_fixtures.Reads as cut-fixtures
use Rattle.fixtures.proofs.layer.layer_answer.Kinds as layer-answer-kinds
use Rattle.fixtures.proofs.layer.layer_answer.Reads as layer-answer
use Rattle.fixtures.proofs.layer.cut_fixtures_layer.Kinds as cut-layer-kinds
use Rattle.fixtures.proofs.layer.cut_fixtures_layer.Reads as cut-layer
use Rattle.grid.proofs.Instances.{DistanceType, sixteen-type, eight-type}
use Rattle.fixture_widths.proofs.Numbers.{one-answer as one-answer-into}
use Rattle.fixture_widths.proofs.cut_fixtures_layer.Kinds as cut-into-kinds
use Rattle.fixture_widths.proofs.cut_fixtures_layer.Reads as cut-into
use Rattle.bed.proofs.cut_layers.bed_cut_fixtures_layer.Kinds as bed-cut-layer-kinds
use Rattle.bed.proofs.cut_layers.bed_cut_fixtures_layer.Reads as bed-cut-layer
use Rattle.bed.proofs.cut_layers.bed_cut_fixtures_layer_i16.Kinds as bed-cut-layer-i16-kinds
use Rattle.bed.proofs.cut_layers.bed_cut_fixtures_layer_i16.Reads as bed-cut-layer-i16
use Rattle.bed.proofs.cut_layers.bed_cut_fixtures_layer_i8.Kinds as bed-cut-layer-i8-kinds
use Rattle.bed.proofs.cut_layers.bed_cut_fixtures_layer_i8.Reads as bed-cut-layer-i8
use Rattle.bed.proofs.cut.bed_cut_fixtures.Kinds as bed-cut-fixtures-kinds
use Rattle.bed.proofs.cut.bed_cut_fixtures.Reads as bed-cut-fixtures

pub cut-fixtures-once : OneOutcome 2 cut-fixtures-kinds.ps cut-fixtures-kinds.r cut-fixtures.Learnt
cut-fixtures-once κs a o o' l l' =
    let s = one-answer o.result o'.result (l.0 ∙ sym l'.0) in
    let g = l.1 ∙ sym l'.1 in
    λ i. record { result = s i; last = (tt, (tt, (g i, tt))) }

pub bed-cut-fixtures-once : OneOutcome 3 bed-cut-fixtures-kinds.ps bed-cut-fixtures-kinds.r bed-cut-fixtures.Learnt
bed-cut-fixtures-once κs a o o' l l' =
    let s = l.0 ∙ sym l'.0 in
    let g = l.1 ∙ sym l'.1 in
    λ i. record { result = s i; last = (tt, (tt, (g i, tt))) }

-- ---- one layer

pub layer-answer-once : OneOutcome 1 layer-answer-kinds.ps layer-answer-kinds.r layer-answer.Learnt
layer-answer-once κs a o o' l l' =
    let s = one-answer o.result o'.result (l ∙ sym l') in
    λ i. record { result = s i; last = (tt, (tt, (tt, (tt, tt)))) }

pub cut-fixtures-layer-once : OneOutcome 2 cut-layer-kinds.ps cut-layer-kinds.r cut-layer.Learnt
cut-fixtures-layer-once κs a o o' l l' =
    let s = one-answer o.result o'.result (l.0 ∙ sym l'.0) in
    let g = l.1 ∙ sym l'.1 in
    λ i. record { result = s i; last = (tt, (tt, (tt, (g i, tt)))) }

pub bed-cut-fixtures-layer-once : OneOutcome 3 bed-cut-layer-kinds.ps bed-cut-layer-kinds.r bed-cut-layer.Learnt
bed-cut-fixtures-layer-once κs a o o' l l' =
    let s = l.0 ∙ sym l'.0 in
    let g = l.1 ∙ sym l'.1 in
    λ i. record { result = s i; last = (tt, (tt, (tt, (g i, tt)))) }

-- into floats of another list, from any type of numbers
module _ (D : DistanceType) where
  abbrev pub CutIntoOnce : Type 0
  CutIntoOnce =
      OneOutcome 4 (cut-into-kinds.ps D.type D.laws D.copy) (cut-into-kinds.r D.type D.laws D.copy)
      (cut-into.Learnt D.type D.laws D.copy D.distance D.distance_dict D.clone D.clone_dict)

  pub cut-fixtures-layer-at-once : CutIntoOnce
  cut-fixtures-layer-at-once κs a o o' l l' =
      let s = one-answer-into o.result o'.result (l.0 ∙ sym l'.0) in
      let g = l.1 ∙ sym l'.1 in
      λ i. record { result = s i; last = (tt, (tt, (tt, (tt, (g i, tt))))) }

pub cut-fixtures-layer-i16-once : CutIntoOnce sixteen-type
cut-fixtures-layer-i16-once = cut-fixtures-layer-at-once sixteen-type

pub cut-fixtures-layer-i8-once : CutIntoOnce eight-type
cut-fixtures-layer-i8-once = cut-fixtures-layer-at-once eight-type

pub bed-cut-fixtures-layer-i16-once : OneOutcome 4 bed-cut-layer-i16-kinds.ps bed-cut-layer-i16-kinds.r bed-cut-layer-i16.Learnt
bed-cut-fixtures-layer-i16-once κs a o o' l l' =
    let s = l.0 ∙ sym l'.0 in
    let g = l.1 ∙ sym l'.1 in
    λ i. record { result = s i; last = (tt, (tt, (tt, (tt, (g i, tt))))) }

pub bed-cut-fixtures-layer-i8-once : OneOutcome 4 bed-cut-layer-i8-kinds.ps bed-cut-layer-i8-kinds.r bed-cut-layer-i8.Learnt
bed-cut-fixtures-layer-i8-once κs a o o' l l' =
    let s = l.0 ∙ sym l'.0 in
    let g = l.1 ∙ sym l'.1 in
    λ i. record { result = s i; last = (tt, (tt, (tt, (tt, (g i, tt))))) }
