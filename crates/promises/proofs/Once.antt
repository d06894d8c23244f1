-- Document 01, "What a claim has to settle": "Show that two outcomes that fit are equal". For each public function of marks, grid, stores, row_signs, count, judge,
-- layer_estimates, layer_vertices, layer_faces, whole_box, surface_nets and bed
-- one outcome alone fits the contract: the result, and every list behind a `&mut` afterwards, refused calls too. Those of cube stand in
-- its own proofs/Unique, but for some_of_eight, those of functions over any type in OnceOfTypes, those of methods and conversions in OnceOfMethods. Assumes nothing.
use Prim.Native.Nat.{ℕ}
use mathlib.Core.List.{List}
use mathlib.Core.Path.{◌≡◌, ◌∙◌, sym}
use lib.Ieee.{Float}
use contract.Lifetimes.{Lfts}
use borrow.Fn.Kinds.{ParamKind, ResultKind, Dens}
use Rattle.rules.specs.Call.{Buffers}
use Rattle.grid.specs.declared.EachAxis.{EachAxis}
use Rattle.grid.proofs.Faults.{fault-once}
use Rattle.grid.proofs.Instances.{DistanceType, sixteen-type, eight-type}
use Rattle.judge.proofs.Judging.{answer-once}
use Rattle.promises.proofs.OneOutcome.{OneOutcome, Outcome, FitsContract}
use Rattle.grid.proofs.checks.bad_dimension.Kinds as bad-dimension-kinds
use Rattle.grid.proofs.checks.bad_dimension.Reads as bad-dimension
use Rattle.grid.proofs.checks.bad_dimensions.Kinds as bad-dimensions-kinds
use Rattle.grid.proofs.checks.bad_dimensions.Reads as bad-dimensions
use Rattle.grid.proofs.checks.bad_side.Kinds as bad-side-kinds
use Rattle.grid.proofs.checks.bad_side.Reads as bad-side
use Rattle.grid.proofs.checks.bad_box.Kinds as bad-box-kinds
use Rattle.grid.proofs.checks.bad_box.Reads as bad-box
use Rattle.grid.proofs.checks.bad_length.Kinds as bad-length-kinds
use Rattle.grid.proofs.checks.bad_length.Reads as bad-length
use Rattle.grid.proofs.checks.first_fault.Kinds as first-fault-kinds
use Rattle.grid.proofs.checks.first_fault.Reads as first-fault
use Rattle.grid.proofs.values.value_at.Kinds as value-at-kinds
use Rattle.grid.proofs.values.value_at.Reads as value-at
use Rattle.cube.proofs.some_of_eight.Kinds as some-of-eight-kinds
use Rattle.cube.proofs.some_of_eight.Reads as some-of-eight
use Rattle.count.proofs.count_layer.Kinds as count-layer-kinds
use Rattle.count.proofs.count_layer.Reads as count-layer
use Rattle.count.proofs.count_box.Kinds as count-box-kinds
use Rattle.count.proofs.count_box.Reads as count-box
use Rattle.grid.proofs.lent.layers_at.Kinds as layers-at-kinds
use Rattle.grid.proofs.lent.layers_at.Reads as layers-at
use Rattle.grid.proofs.ownership.owns.Kinds as owns-kinds
use Rattle.grid.proofs.ownership.owns.Reads as owns
use Rattle.grid.proofs.ownership.owned_at.Kinds as owned-at-kinds
use Rattle.grid.proofs.ownership.owned_at.Reads as owned_at
use Rattle.grid.proofs.place.linearize.Kinds as linearize-kinds
use Rattle.grid.proofs.place.linearize.Reads as linearize
use Rattle.grid.proofs.scan.either.Kinds as either-kinds
use Rattle.grid.proofs.scan.either.Reads as either
use Rattle.grid.proofs.scan.bad_distance.Kinds as bad-distance-kinds
use Rattle.grid.proofs.scan.bad_distance.Reads as bad-distance
use Rattle.marks.proofs.bits.Kinds as bits-kinds
use Rattle.marks.proofs.bits.Reads as bits
use Rattle.marks.proofs.map_kept.Kinds as map-kept-kinds
use Rattle.marks.proofs.map_kept.Reads as map-kept
use Rattle.marks.proofs.stored.word.Kinds as stored-word-kinds
use Rattle.marks.proofs.stored.word.Reads as stored-word
use Rattle.judge.proofs.Refusal.counts.Kinds as counts-kinds
use Rattle.judge.proofs.Refusal.counts.Reads as counts
use Rattle.judge.proofs.numbers.Kinds as numbers-kinds
use Rattle.judge.proofs.numbers.Reads as numbers
use Rattle.judge.proofs.answer_for.Kinds as answer-for-kinds
use Rattle.judge.proofs.answer_for.Reads as answer-for
use Rattle.grid.proofs.scan.bad_layer.Kinds as bad-layer-kinds
use Rattle.grid.proofs.scan.bad_layer.Reads as bad-layer
use Rattle.grid.proofs.signs.counted.Kinds as counted-kinds
use Rattle.grid.proofs.signs.counted.Reads as counted
use Rattle.grid.proofs.signs.side_negatives.Kinds as side-negatives-kinds
use Rattle.grid.proofs.signs.side_negatives.Reads as side-negatives
use Rattle.grid.proofs.signs.surface_count.Kinds as surface-count-kinds
use Rattle.grid.proofs.signs.surface_count.Reads as surface-count
use Rattle.grid.proofs.corners.side_between.Kinds as side-between-kinds
use Rattle.grid.proofs.corners.side_between.Reads as side-between
use Rattle.stores.proofs.put_vector.Kinds as put-vector-kinds
use Rattle.stores.proofs.put_vector.Reads as put_vector
use Rattle.row_signs.proofs.mixed_code.Kinds as mixed-code-kinds
use Rattle.row_signs.proofs.mixed_code.Reads as mixed-code
use Rattle.row_signs.proofs.one_sign.Kinds as one-sign-kinds
use Rattle.row_signs.proofs.one_sign.Reads as one-sign
use Rattle.row_signs.proofs.read_row.Kinds as read-row-kinds
use Rattle.row_signs.proofs.read_row.Reads as read-row
use Rattle.layer_estimates.proofs.estimate_layer.Kinds as estimate-layer-kinds
use Rattle.layer_estimates.proofs.estimate_layer.Reads as estimate-layer
use Rattle.layer_vertices.proofs.mark_layer.Kinds as mark-layer-kinds
use Rattle.layer_vertices.proofs.mark_layer.Reads as mark-layer
use Rattle.layer_vertices.proofs.clear_layer.Kinds as clear-layer-kinds
use Rattle.layer_vertices.proofs.clear_layer.Reads as clear-layer
use Rattle.layer_faces.proofs.face_layer.Kinds as face-layer-kinds
use Rattle.layer_faces.proofs.face_layer.Reads as face-layer
use Rattle.whole_box.proofs.mesh_box.Kinds as mesh-box-kinds
use Rattle.whole_box.proofs.mesh_box.Reads as mesh-box
use Rattle.surface_nets.proofs.surface_nets.Kinds as surface-nets-kinds
use Rattle.surface_nets.proofs.surface_nets.Reads as surface-nets
use Rattle.bed.proofs.version.bed_version.Kinds as bed-version-kinds
use Rattle.bed.proofs.version.bed_version.Reads as bed-version
use Rattle.bed.proofs.bed_surface_nets.Kinds as bed-surface-nets-kinds
use Rattle.bed.proofs.bed_surface_nets.Reads as bed-surface-nets
use Rattle.bed.proofs.wholes.bed_surface_nets_i16.Kinds as bed-surface-nets-i16-kinds
use Rattle.bed.proofs.wholes.bed_surface_nets_i16.Reads as bed-surface-nets-i16
use Rattle.bed.proofs.wholes.bed_surface_nets_i8.Kinds as bed-surface-nets-i8-kinds
use Rattle.bed.proofs.wholes.bed_surface_nets_i8.Reads as bed-surface-nets-i8
use Rattle.bed.proofs.asking.bed_answer.Kinds as bed-answer-kinds
use Rattle.bed.proofs.asking.bed_answer.Reads as bed-answer
use Rattle.bed.proofs.wholes.bed_answer_i16.Kinds as bed-answer-i16-kinds
use Rattle.bed.proofs.wholes.bed_answer_i16.Reads as bed-answer-i16
use Rattle.bed.proofs.wholes.bed_answer_i8.Kinds as bed-answer-i8-kinds
use Rattle.bed.proofs.wholes.bed_answer_i8.Reads as bed-answer-i8

-- ---- of the call and of the answer alone, for a type of distances

module _ (t : DistanceType) where
  abbrev pub SurfaceNetsOnce : Type 0
  SurfaceNetsOnce =
      OneOutcome 9 (surface-nets-kinds.ps t.type t.laws t.copy) (surface-nets-kinds.r t.type t.laws t.copy)
      (surface-nets.Learnt t.type t.laws t.copy t.distance t.distance_dict t.clone t.clone_dict)

  abbrev pub AnswerForOnce : Type 0
  AnswerForOnce =
      OneOutcome 2 (answer-for-kinds.ps t.type t.laws t.copy) (answer-for-kinds.r t.type t.laws t.copy)
      (answer-for.Learnt t.type t.laws t.copy t.distance t.distance_dict t.clone t.clone_dict)

same-own : {u v : EachAxis} → u.x ≡ v.x → u.y ≡ v.y → u.z ≡ v.z → u ≡ v
same-own p q r = λ i. record { x = p i; y = q i; z = r i }

-- ---- with no lent list

pub bad-dimension-once : OneOutcome 0 bad-dimension-kinds.ps bad-dimension-kinds.r bad-dimension.Learnt
bad-dimension-once κs a o o' l l' = let s = l ∙ sym l' in λ i. record { result = s i; last = o.last }

pub bad-dimensions-once : OneOutcome 0 bad-dimensions-kinds.ps bad-dimensions-kinds.r bad-dimensions.Learnt
bad-dimensions-once κs a o o' l l' = let s = l ∙ sym l' in λ i. record { result = s i; last = o.last }

pub bad-side-once : OneOutcome 0 bad-side-kinds.ps bad-side-kinds.r bad-side.Learnt
bad-side-once κs a o o' l l' = let s = l ∙ sym l' in λ i. record { result = s i; last = o.last }

pub bad-box-once : OneOutcome 0 bad-box-kinds.ps bad-box-kinds.r bad-box.Learnt
bad-box-once κs a o o' l l' = let s = l ∙ sym l' in λ i. record { result = s i; last = o.last }

pub bad-length-once : OneOutcome 0 bad-length-kinds.ps bad-length-kinds.r bad-length.Learnt
bad-length-once κs a o o' l l' = let s = l ∙ sym l' in λ i. record { result = s i; last = o.last }

pub first-fault-once : OneOutcome 0 first-fault-kinds.ps first-fault-kinds.r first-fault.Learnt
first-fault-once κs a o o' l l' = let s = fault-once o.result o'.result (l ∙ sym l') in λ i. record { result = s i; last = o.last }

pub value-at-once : (t : DistanceType) → OneOutcome 2 (value-at-kinds.ps t.type t.laws t.copy) (value-at-kinds.r t.type t.laws t.copy)
    (value-at.Learnt t.type t.laws t.copy t.distance t.distance_dict t.clone t.clone_dict)
value-at-once t κs a o o' l l' = let s = l ∙ sym l' in λ i. record { result = s i; last = o.last }

pub side-between-once : (t : DistanceType) → OneOutcome 3 (side-between-kinds.ps t.type t.laws t.copy) (side-between-kinds.r t.type t.laws t.copy)
    (side-between.Learnt t.type t.laws t.copy t.distance t.distance_dict t.clone t.clone_dict)
side-between-once t κs a o o' l l' = let s = l ∙ sym l' in λ i. record { result = s i; last = o.last }

pub some-of-eight-once : OneOutcome 0 some-of-eight-kinds.ps some-of-eight-kinds.r some-of-eight.Learnt
some-of-eight-once κs a o o' l l' = let s = l ∙ sym l' in λ i. record { result = s i; last = o.last }

pub mixed-code-once : OneOutcome 0 mixed-code-kinds.ps mixed-code-kinds.r mixed-code.Learnt
mixed-code-once κs a o o' l l' = let s = l ∙ sym l' in λ i. record { result = s i; last = o.last }

pub one-sign-once : OneOutcome 0 one-sign-kinds.ps one-sign-kinds.r one-sign.Learnt
one-sign-once κs a o o' l l' = let s = l ∙ sym l' in λ i. record { result = s i; last = o.last }

pub count-layer-once : (t : DistanceType) → OneOutcome 3 (count-layer-kinds.ps t.type t.laws t.copy) (count-layer-kinds.r t.type t.laws t.copy)
    (count-layer.Learnt t.type t.laws t.copy t.distance t.distance_dict t.clone t.clone_dict)
count-layer-once t κs a o o' l l' = let s = l ∙ sym l' in λ i. record { result = s i; last = o.last }

pub count-box-once : (t : DistanceType) → OneOutcome 2 (count-box-kinds.ps t.type t.laws t.copy) (count-box-kinds.r t.type t.laws t.copy)
    (count-box.Learnt t.type t.laws t.copy t.distance t.distance_dict t.clone t.clone_dict)
count-box-once t κs a o o' l l' =
    let b = l.0 ∙ sym l'.0 in
    let t = l.1 ∙ sym l'.1 in
    λ i. record { result = record { bad = b i; vertices = (t i).vertices; indices = (t i).indices }; last = o.last }

pub owns-once : OneOutcome 0 owns-kinds.ps owns-kinds.r owns.Learnt
owns-once κs a o o' l l' = let s = l ∙ sym l' in λ i. record { result = s i; last = o.last }

pub owned-at-once : OneOutcome 0 owned-at-kinds.ps owned-at-kinds.r owned_at.Learnt
owned-at-once κs a o o' l l' = let s = same-own (l.0 ∙ sym l'.0) (l.1.0 ∙ sym l'.1.0) (l.1.1 ∙ sym l'.1.1) in λ i. record { result = s i; last = o.last }

pub linearize-once : OneOutcome 0 linearize-kinds.ps linearize-kinds.r linearize.Learnt
linearize-once κs a o o' l l' = let s = l ∙ sym l' in λ i. record { result = s i; last = o.last }

-- parts of the lent list: what they hold. Where a reference lies in memory is no number of document 01's, and the contract leaves it open
module _ (t : DistanceType) where
  abbrev layers-at-ps : List (ParamKind 2)
  layers-at-ps = layers-at-kinds.ps t.type t.laws t.copy

  abbrev layers-at-r : ResultKind 2
  layers-at-r = layers-at-kinds.r t.type t.laws t.copy

  abbrev LayersFit : (κs : Lfts 2) (a : Dens κs layers-at-ps) → Outcome 2 layers-at-ps layers-at-r κs a → Type 0
  LayersFit = FitsContract 2 layers-at-ps layers-at-r (layers-at.Learnt t.type t.laws t.copy t.distance t.distance_dict t.clone t.clone_dict)

  pub layers-at-once : (κs : Lfts 2) (a : Dens κs layers-at-ps) (o o' : Outcome 2 layers-at-ps layers-at-r κs a) → LayersFit κs a o → LayersFit κs a o'
      → (o.result.0.now ≡ o'.result.0.now) × (o.result.1.now ≡ o'.result.1.now)
  layers-at-once κs a o o' l l' = (l.0 ∙ sym l'.0, l.1.0 ∙ sym l'.1.0)

pub either-once : OneOutcome 0 either-kinds.ps either-kinds.r either.Learnt
either-once κs a o o' l l' = let s = l ∙ sym l' in λ i. record { result = s i; last = o.last }

pub bad-distance-once : (t : DistanceType) → OneOutcome 2 (bad-distance-kinds.ps t.type t.laws t.copy) (bad-distance-kinds.r t.type t.laws t.copy)
    (bad-distance.Learnt t.type t.laws t.copy t.distance t.distance_dict t.clone t.clone_dict)
bad-distance-once t κs a o o' l l' = let s = l ∙ sym l' in λ i. record { result = s i; last = o.last }

pub bad-layer-once : (t : DistanceType) → OneOutcome 2 (bad-layer-kinds.ps t.type t.laws t.copy) (bad-layer-kinds.r t.type t.laws t.copy)
    (bad-layer.Learnt t.type t.laws t.copy t.distance t.distance_dict t.clone t.clone_dict)
bad-layer-once t κs a o o' l l' = let s = l ∙ sym l' in λ i. record { result = s i; last = o.last }

pub counted-once : OneOutcome 0 counted-kinds.ps counted-kinds.r counted.Learnt
counted-once κs a o o' l l' = let s = l.0 ∙ sym l'.0 in λ i. record { result = s i; last = o.last }

pub side-negatives-once : (t : DistanceType) → OneOutcome 3 (side-negatives-kinds.ps t.type t.laws t.copy) (side-negatives-kinds.r t.type t.laws t.copy)
    (side-negatives.Learnt t.type t.laws t.copy t.distance t.distance_dict t.clone t.clone_dict)
side-negatives-once t κs a o o' l l' = let s = l.0 ∙ sym l'.0 in λ i. record { result = s i; last = o.last }

pub surface-count-once : OneOutcome 0 surface-count-kinds.ps surface-count-kinds.r surface-count.Learnt
surface-count-once κs a o o' l l' = let s = l.0 ∙ sym l'.0 in λ i. record { result = s i; last = o.last }

pub answer-for-once : (t : DistanceType) → AnswerForOnce t
answer-for-once t κs a o o' l l' = let s = answer-once o.result o'.result (l ∙ sym l') in λ i. record { result = s i; last = o.last }

-- whole numbers of 16 and of 8 bits
pub answer-for-i16-once : AnswerForOnce sixteen-type
answer-for-i16-once = answer-for-once sixteen-type

pub answer-for-i8-once : AnswerForOnce eight-type
answer-for-i8-once = answer-for-once eight-type

-- the number, V and I of an answer, and those of a refusal
pub numbers-once : OneOutcome 0 numbers-kinds.ps numbers-kinds.r numbers.Learnt
numbers-once κs a o o' l l' =
    let s = l ∙ sym l' in
    λ i. record { result = ((s i).number, record { vertices = (s i).vertices; indices = (s i).indices }); last = o.last }

pub counts-once : OneOutcome 0 counts-kinds.ps counts-kinds.r counts.Learnt
counts-once κs a o o' l l' = let s = l ∙ sym l' in λ i. record { result = s i; last = o.last }

-- ---- the marks of the test programs

pub bits-once : OneOutcome 0 bits-kinds.ps bits-kinds.r bits.Learnt
bits-once κs a o o' l l' = let s = l ∙ sym l' in λ i. record { result = s i; last = o.last }

pub map-kept-once : OneOutcome 1 map-kept-kinds.ps map-kept-kinds.r map-kept.Learnt
map-kept-once κs a o o' l l' = let s = l ∙ sym l' in λ i. record { result = s i; last = o.last }

pub stored-word-once : OneOutcome 1 stored-word-kinds.ps stored-word-kinds.r stored-word.Learnt
stored-word-once κs a o o' l l' = let s = l ∙ sym l' in λ i. record { result = s i; last = o.last }

-- ---- with lent lists

-- a few numbers in a row
pub put-vector-once : OneOutcome 1 put-vector-kinds.ps put-vector-kinds.r put_vector.Learnt
put-vector-once κs a o o' l l' = let s = l ∙ sym l' in λ i. record { result = tt; last = (s i, (tt, (tt, tt))) }

-- a row of points: how many of them are negative, and the list of codes
pub read-row-once : (t : DistanceType) → OneOutcome 4 (read-row-kinds.ps t.type t.laws t.copy) (read-row-kinds.r t.type t.laws t.copy)
    (read-row.Learnt t.type t.laws t.copy t.distance t.distance_dict t.clone t.clone_dict)
read-row-once t κs a o o' l l' =
    let n = l.0 ∙ sym l'.0 in
    let c = l.1 ∙ sym l'.1 in
    λ i. record { result = n i; last = (tt, (tt, (tt, (tt, (c i, (tt, tt)))))) }

-- the vertices of a layer's surface cells: their three lists
pub estimate-layer-once : (t : DistanceType) → OneOutcome 7 (estimate-layer-kinds.ps t.type t.laws t.copy) (estimate-layer-kinds.r t.type t.laws t.copy)
    (estimate-layer.Learnt t.type t.laws t.copy t.distance t.distance_dict t.clone t.clone_dict)
estimate-layer-once t κs a o o' l l' =
    let p = l.0 ∙ sym l'.0 in
    let n = l.1.0 ∙ sym l'.1.0 in
    let x = l.1.1 ∙ sym l'.1.1 in
    λ i. record { result = tt; last = (tt, (tt, (tt, (tt, (tt, (tt, (p i, (n i, (x i, tt))))))))) }

-- a layer's vertices: how many, the five lists, and the layer's part of the map
pub mark-layer-once : (t : DistanceType) → OneOutcome 9 (mark-layer-kinds.ps t.type t.laws t.copy) (mark-layer-kinds.r t.type t.laws t.copy)
    (mark-layer.Learnt t.type t.laws t.copy t.distance t.distance_dict t.clone t.clone_dict)
mark-layer-once t κs a o o' l l' =
    let b = l.0 ∙ sym l'.0 in
    let n = l.1 ∙ sym l'.1 in
    λ i.
    record {
      result = n i;
      last = (tt, (tt, (tt, (tt, (tt, ((b i).positions, ((b i).normals, ((b i).cells, ((b i).strides, ((b i).crossings, ((b i).map, tt)))))))))));
    }

-- the last layer's part of the map
pub clear-layer-once : OneOutcome 1 clear-layer-kinds.ps clear-layer-kinds.r clear-layer.Learnt
clear-layer-once κs a o o' l l' = let s = l ∙ sym l' in λ i. record { result = tt; last = (tt, (s i, tt)) }

-- a layer's faces: how many indices, and the list of them
pub face-layer-once : (t : DistanceType) → OneOutcome 9 (face-layer-kinds.ps t.type t.laws t.copy) (face-layer-kinds.r t.type t.laws t.copy)
    (face-layer.Learnt t.type t.laws t.copy t.distance t.distance_dict t.clone t.clone_dict)
face-layer-once t κs a o o' l l' =
    let b = l.0 ∙ sym l'.0 in
    let n = l.1 ∙ sym l'.1 in
    λ i. record { result = n i; last = (tt, (tt, (tt, (tt, (tt, (tt, (tt, (tt, (tt, (tt, (b i, (tt, tt)))))))))))) }

-- the seven lists as they are left, and what stands behind the parameters after them
abbrev seven : {A : Type 0} → Buffers → A → List Float × (List Float × (List ℕ × (List ℕ × (List ℕ × (List ℕ × (List ℕ × A))))))
seven b rest = (b.positions, (b.normals, (b.cells, (b.strides, (b.crossings, (b.map, (b.indices, rest)))))))

-- the whole box: the seven lists
pub mesh-box-once : (t : DistanceType) → OneOutcome 9 (mesh-box-kinds.ps t.type t.laws t.copy) (mesh-box-kinds.r t.type t.laws t.copy)
    (mesh-box.Learnt t.type t.laws t.copy t.distance t.distance_dict t.clone t.clone_dict)
mesh-box-once t κs a o o' l l' =
    let b = l ∙ sym l' in
    λ i. record { result = tt; last = (tt, (tt, seven (b i) tt)) }

-- document 01's call: the answer with V and I, and the seven lists
pub surface-nets-once : (t : DistanceType) → SurfaceNetsOnce t
surface-nets-once t κs a o o' l l' =
    let s = answer-once o.result o'.result (l.0 ∙ sym l'.0) in
    let b = l.1.0 ∙ sym l'.1.0 in
    λ i. record { result = s i; last = (tt, (tt, (tt, (tt, (tt, seven (b i) tt))))) }

-- whole numbers of 16 and of 8 bits
pub surface-nets-i16-once : SurfaceNetsOnce sixteen-type
surface-nets-i16-once = surface-nets-once sixteen-type

pub surface-nets-i8-once : SurfaceNetsOnce eight-type
surface-nets-i8-once = surface-nets-once eight-type

-- the functions that C and Rust link: the answer number, the seven lists, and V and I behind the last two
pub bed-surface-nets-once : OneOutcome 11 bed-surface-nets-kinds.ps bed-surface-nets-kinds.r bed-surface-nets.Learnt
bed-surface-nets-once κs a o o' l l' =
    let s = l.0 ∙ sym l'.0 in
    let b = l.1.0 ∙ sym l'.1.0 in
    λ i. record { result = (s i).number; last = (tt, (tt, seven (b i) ((s i).vertices, ((s i).indices, tt)))) }

pub bed-surface-nets-i16-once : OneOutcome 11 bed-surface-nets-i16-kinds.ps bed-surface-nets-i16-kinds.r bed-surface-nets-i16.Learnt
bed-surface-nets-i16-once κs a o o' l l' =
    let s = l.0 ∙ sym l'.0 in
    let b = l.1.0 ∙ sym l'.1.0 in
    λ i. record { result = (s i).number; last = (tt, (tt, seven (b i) ((s i).vertices, ((s i).indices, tt)))) }

pub bed-surface-nets-i8-once : OneOutcome 11 bed-surface-nets-i8-kinds.ps bed-surface-nets-i8-kinds.r bed-surface-nets-i8.Learnt
bed-surface-nets-i8-once κs a o o' l l' =
    let s = l.0 ∙ sym l'.0 in
    let b = l.1.0 ∙ sym l'.1.0 in
    λ i. record { result = (s i).number; last = (tt, (tt, seven (b i) ((s i).vertices, ((s i).indices, tt)))) }

-- the version, which nothing is asked for
pub bed-version-once : OneOutcome 0 bed-version-kinds.ps bed-version-kinds.r bed-version.Learnt
bed-version-once κs a o o' l l' = let s = l ∙ sym l' in λ i. record { result = s i; last = o.last }

-- the answer alone: the number, and V and I behind the last two
pub bed-answer-once : OneOutcome 4 bed-answer-kinds.ps bed-answer-kinds.r bed-answer.Learnt
bed-answer-once κs a o o' l l' =
    let s = l ∙ sym l' in
    λ i.
    record {
      result = (s i).number;
      last = (tt, (tt, (tt, (tt, (tt, (tt, (tt, (tt, (tt, ((s i).vertices, ((s i).indices, tt)))))))))));
    }

pub bed-answer-i16-once : OneOutcome 4 bed-answer-i16-kinds.ps bed-answer-i16-kinds.r bed-answer-i16.Learnt
bed-answer-i16-once κs a o o' l l' =
    let s = l ∙ sym l' in
    λ i.
    record {
      result = (s i).number;
      last = (tt, (tt, (tt, (tt, (tt, (tt, (tt, (tt, (tt, ((s i).vertices, ((s i).indices, tt)))))))))));
    }

pub bed-answer-i8-once : OneOutcome 4 bed-answer-i8-kinds.ps bed-answer-i8-kinds.r bed-answer-i8.Learnt
bed-answer-i8-once κs a o o' l l' =
    let s = l ∙ sym l' in
    λ i.
    record {
      result = (s i).number;
      last = (tt, (tt, (tt, (tt, (tt, (tt, (tt, (tt, (tt, ((s i).vertices, ((s i).indices, tt)))))))))));
    }
