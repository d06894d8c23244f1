-- Document 01, "What a claim has to settle": "Show that two outcomes that fit are equal", for each public function of request 1: the result, and every
-- list behind a `&mut` afterwards, refused calls too. Assumes nothing.
use mathlib.Core.Path.{◌≡◌, sym, ◌∙◌}
use Rattle.promises.proofs.OneOutcome.{OneOutcome}
use Rattle.layers.proofs.Said.{same-call, same-said, same-start}
use Rattle.judge.proofs.room_answer.Kinds as room-answer-kinds
use Rattle.judge.proofs.room_answer.Reads as room-answer
use Rattle.layers.proofs.State.begin.Kinds as begin-kinds
use Rattle.layers.proofs.State.begin.Reads as begin
use Rattle.layers.proofs.start_answer.Kinds as start-answer-kinds
use Rattle.layers.proofs.start_answer.Reads as start-answer
use Rattle.layers.proofs.State.offer.Kinds as offer-kinds
use Rattle.layers.proofs.State.offer.Reads as offer
use Rattle.layers.proofs.words.ArrayU3215FromState.from.Kinds as words-kinds
use Rattle.layers.proofs.words.ArrayU3215FromState.from.Reads as words
use Rattle.layers.proofs.words.StateFromArrayU3215.from.Kinds as state-kinds
use Rattle.layers.proofs.words.StateFromArrayU3215.from.Reads as state
use Rattle.layers.proofs.words.step.Kinds as step-kinds
use Rattle.layers.proofs.words.step.Reads as step
use Rattle.bed.proofs.layered.bed_layers_start.Kinds as bed-layers-start-kinds
use Rattle.bed.proofs.layered.bed_layers_start.Reads as bed-layers-start
use Rattle.bed.proofs.layered.bed_layers_offer.Kinds as bed-layers-offer-kinds
use Rattle.bed.proofs.layered.bed_layers_offer.Reads as bed-layers-offer

-- ---- of `judge`, which a layer's answer is made with

pub room-answer-once : OneOutcome 0 room-answer-kinds.ps room-answer-kinds.r room-answer.Learnt
room-answer-once κs a o o' l l' = let s = same-call _ _ (l ∙ sym l') in λ i. record { result = s i; last = o.last }

-- ---- the start and an offer

pub begin-once : OneOutcome 0 begin-kinds.ps begin-kinds.r begin.Learnt
begin-once κs a o o' l l' = let s = l ∙ sym l' in λ i. record { result = s i; last = o.last }

pub start-answer-once : OneOutcome 0 start-answer-kinds.ps start-answer-kinds.r start-answer.Learnt
start-answer-once κs a o o' l l' = let s = same-start _ _ _ _ l l' in λ i. record { result = s i; last = o.last }

pub offer-once : OneOutcome 11 offer-kinds.ps offer-kinds.r offer.Learnt
offer-once κs a o o' l l' =
    let s = same-said _ _ (l.0 ∙ sym l'.0) in
    let t = l.1.0 ∙ sym l'.1.0 in
    let b = l.1.1 ∙ sym l'.1.1 in
    λ i.
    let m = (b i).memory in
    let u = (b i).output in
    record {
      result = s i;
      last = (t i, (tt, (m.distances, (m.map, (m.positions, (u.positions, (u.normals, (u.cells, (u.strides, (u.crossings, (u.indices, tt)))))))))));
    }

-- ---- the fifteen numbers of a state

pub words-once : OneOutcome 0 words-kinds.ps words-kinds.r words.Learnt
words-once κs a o o' l l' = let s = l ∙ sym l' in λ i. record { result = s i; last = o.last }

pub state-once : OneOutcome 0 state-kinds.ps state-kinds.r state.Learnt
state-once κs a o o' l l' = let s = l ∙ sym l' in λ i. record { result = s i; last = o.last }

pub step-once : OneOutcome 1 step-kinds.ps step-kinds.r step.Learnt
step-once κs a o o' l l' = let s = l ∙ sym l' in λ i. record { result = tt; last = (s i, (tt, tt)) }

-- ---- for C

pub bed-layers-start-once : OneOutcome 5 bed-layers-start-kinds.ps bed-layers-start-kinds.r bed-layers-start.Learnt
bed-layers-start-once κs a o o' l l' =
    let s = l.0 ∙ sym l'.0 in
    let w : o.last.0 ≡ o'.last.0 = cc in
    λ i. record { result = s i; last = (w i, o.last.1) }

pub bed-layers-offer-once : OneOutcome 13 bed-layers-offer-kinds.ps bed-layers-offer-kinds.r bed-layers-offer.Learnt
bed-layers-offer-once κs a o o' l l' =
    let s = l.0 ∙ sym l'.0 in
    let w = l.1.0 ∙ sym l'.1.0 in
    let b = l.1.1 ∙ sym l'.1.1 in
    λ i.
    let m = (b i).memory in
    let u = (b i).output in
    record {
      result = (s i).number;
      last = (
        w i,
        (
          tt,
          (
            m.distances,
            (m.map, (m.positions, (u.positions, (u.normals, (u.cells, (u.strides, (u.crossings, (u.indices, ((s i).vertices, ((s i).indices, tt)))))))))),
          ),
        ),
      );
    }
