-- C and Rust call by place, and a contract goes by name: two parameters of one type that are exchanged in a signature leave every contract true. So
-- the contract of each exported function is said once more by the places of its parameters, in the order of include/bed.h. Assumes nothing.
use Prim.Native.Nat.{ℕ}
use mathlib.Core.Path.{◌≡◌, sym, subst}
use mathlib.Core.Bool.{Bool}
use mathlib.Core.List.{List, [], ◌∷◌}
use lib.Ieee.{Float}
use lib.ListN.{length, drop}
use contract.Lifetimes.{Lfts}
use denote.Triple.Clauses.{Lasts, at_exit}
use borrow.Fn.Kinds.{ParamKind, ResultKind, Out, Dens, res_t, ended_of}
use Rattle.rules.specs.Call.{Room, Answer, answer, room}
use Rattle.grid.specs.Block.{point}
use Rattle.grid.specs.Values.{as_floats}
use Rattle.whole_box.specs.LentLists.{buffers_given}
use Rattle.skin.specs.Scan.{answers, examined, examined_layer}
use Rattle.mesh_file.specs.Mesh.{Mesh, mesh, Held}
use Rattle.mesh_file.specs.Writing.{writing, written}
use Rattle.mesh_file.specs.Reading.{Bytes, read_of, checked, reading_in, filled_in}
use Rattle.mesh_file.specs.Reading.{Read}
use Rattle.mesh_record.specs.Written.{record_answer, record_written}
use Rattle.fixtures.specs.Cut.{cut_answer, cut_grid}
use Rattle.layers.specs.Memory.{memory, lengths, start_answer}
use Rattle.layers.specs.Offer.{output, left, room_in, layer_answer, state_after, leaves}
use Rattle.layers.specs.Words.{state_of, words_on}
use Rattle.volume.specs.Answers.{weighed, weighing}
use Rattle.weigh.specs.Answers.{told, weight}
use Rattle.levels.specs.Call as level-specs
use Rattle.tally.specs.Call as tally-specs
use Rattle.tally.specs.Call.{Told}
use Rattle.bed.specs.Tallied.{counts_in, counts_left}
use Rattle.bed.specs.Words12 as words12
use Rattle.bed.specs.Boundary.{asked, room_asked, said}
use Rattle.bed.specs.Layered.{words_started}
use Rattle.bed.specs.Version.{version}
use Rattle.closing.specs.Answers.{close_answer, closed_room, layer_answer as closed_answer, layer_room}
use Rattle.closing.specs.Wall.{deepest, wall_for}
use Rattle.bed.proofs.bed_surface_nets.Kinds as nets-kinds
use Rattle.bed.proofs.bed_surface_nets.Reads as nets
use Rattle.bed.proofs.wholes.bed_surface_nets_i16.Kinds as nets-i16-kinds
use Rattle.bed.proofs.wholes.bed_surface_nets_i16.Reads as nets-i16
use Rattle.bed.proofs.wholes.bed_surface_nets_i8.Kinds as nets-i8-kinds
use Rattle.bed.proofs.wholes.bed_surface_nets_i8.Reads as nets-i8
use Rattle.bed.proofs.asking.bed_answer.Kinds as ask-kinds
use Rattle.bed.proofs.asking.bed_answer.Reads as ask
use Rattle.bed.proofs.wholes.bed_answer_i16.Kinds as ask-i16-kinds
use Rattle.bed.proofs.wholes.bed_answer_i16.Reads as ask-i16
use Rattle.bed.proofs.wholes.bed_answer_i8.Kinds as ask-i8-kinds
use Rattle.bed.proofs.wholes.bed_answer_i8.Reads as ask-i8
use Rattle.bed.proofs.enclosed.bed_is_enclosed.Kinds as enclosed-kinds
use Rattle.bed.proofs.enclosed.bed_is_enclosed.Reads as enclosed
use Rattle.bed.proofs.enclosed.bed_is_enclosed_i16.Kinds as enclosed-i16-kinds
use Rattle.bed.proofs.enclosed.bed_is_enclosed_i16.Reads as enclosed-i16
use Rattle.bed.proofs.enclosed.bed_is_enclosed_i8.Kinds as enclosed-i8-kinds
use Rattle.bed.proofs.enclosed.bed_is_enclosed_i8.Reads as enclosed-i8
use Rattle.bed.proofs.enclosed.bed_is_enclosed_layer.Kinds as enclosed-layer-kinds
use Rattle.bed.proofs.enclosed.bed_is_enclosed_layer.Reads as enclosed-layer
use Rattle.bed.proofs.enclosed.bed_is_enclosed_layer_i16.Kinds as enclosed-layer-i16-kinds
use Rattle.bed.proofs.enclosed.bed_is_enclosed_layer_i16.Reads as enclosed-layer-i16
use Rattle.bed.proofs.enclosed.bed_is_enclosed_layer_i8.Kinds as enclosed-layer-i8-kinds
use Rattle.bed.proofs.enclosed.bed_is_enclosed_layer_i8.Reads as enclosed-layer-i8
use Rattle.bed.proofs.files.bed_write_mesh.Kinds as write-kinds
use Rattle.bed.proofs.files.bed_write_mesh.Reads as write
use Rattle.bed.proofs.files.bed_write_record.Kinds as record-kinds
use Rattle.bed.proofs.files.bed_write_record.Reads as record-reads
use Rattle.bed.proofs.files.bed_read_mesh.Kinds as read-kinds
use Rattle.bed.proofs.files.bed_read_mesh.Reads as read
use Rattle.bed.proofs.files.bed_check_mesh.Kinds as check-kinds
use Rattle.bed.proofs.files.bed_check_mesh.Reads as check
use Rattle.bed.proofs.cut.bed_cut_fixtures.Kinds as cut-kinds
use Rattle.bed.proofs.cut.bed_cut_fixtures.Reads as cut
use Rattle.bed.proofs.closed.bed_close.Kinds as close-kinds
use Rattle.bed.proofs.closed.bed_close.Reads as close-reads
use Rattle.bed.proofs.closed.bed_close_i16.Kinds as close-i16-kinds
use Rattle.bed.proofs.closed.bed_close_i16.Reads as close-i16-reads
use Rattle.bed.proofs.closed.bed_close_i8.Kinds as close-i8-kinds
use Rattle.bed.proofs.closed.bed_close_i8.Reads as close-i8-reads
use Rattle.bed.proofs.closed.bed_close_layer.Kinds as layer-kinds
use Rattle.bed.proofs.closed.bed_close_layer.Reads as layer-reads
use Rattle.bed.proofs.closed.bed_close_layer_i16.Kinds as layer-i16-kinds
use Rattle.bed.proofs.closed.bed_close_layer_i16.Reads as layer-i16-reads
use Rattle.bed.proofs.closed.bed_close_layer_i8.Kinds as layer-i8-kinds
use Rattle.bed.proofs.closed.bed_close_layer_i8.Reads as layer-i8-reads
use Rattle.bed.proofs.closed.bed_deepest.Kinds as deep-kinds
use Rattle.bed.proofs.closed.bed_deepest.Reads as deep-reads
use Rattle.bed.proofs.closed.bed_deepest_i16.Kinds as deep-i16-kinds
use Rattle.bed.proofs.closed.bed_deepest_i16.Reads as deep-i16-reads
use Rattle.bed.proofs.closed.bed_deepest_i8.Kinds as deep-i8-kinds
use Rattle.bed.proofs.closed.bed_deepest_i8.Reads as deep-i8-reads
use Rattle.bed.proofs.closed.bed_wall_for.Kinds as wall-kinds
use Rattle.bed.proofs.closed.bed_wall_for.Reads as wall-reads
use Rattle.bed.proofs.layered.bed_layers_start.Kinds as start-kinds
use Rattle.bed.proofs.layered.bed_layers_start.Reads as start
use Rattle.bed.proofs.layered.bed_layers_offer.Kinds as offer-kinds
use Rattle.bed.proofs.layered.bed_layers_offer.Reads as offer
use Rattle.bed.proofs.weighing.bed_volume.Kinds as volume-kinds
use Rattle.bed.proofs.weighing.bed_volume.Reads as volume
use Rattle.bed.proofs.weights.bed_weigh.Kinds as weigh-kinds
use Rattle.bed.proofs.weights.bed_weigh.Reads as weigh
use Rattle.bed.proofs.version.bed_version.Kinds as version-kinds
use Rattle.bed.proofs.version.bed_version.Reads as version-reads
use Rattle.bed.proofs.levelled.bed_levels.Kinds as levels-kinds
use Rattle.bed.proofs.levelled.bed_levels.Reads as levels
use Rattle.bed.proofs.levelled.bed_levels_i16.Kinds as levels-i16-kinds
use Rattle.bed.proofs.levelled.bed_levels_i16.Reads as levels-i16
use Rattle.bed.proofs.levelled.bed_levels_i8.Kinds as levels-i8-kinds
use Rattle.bed.proofs.levelled.bed_levels_i8.Reads as levels-i8
use Rattle.bed.proofs.levelled.bed_levels_layer.Kinds as levels-layer-kinds
use Rattle.bed.proofs.levelled.bed_levels_layer.Reads as levels-layer
use Rattle.bed.proofs.levelled.bed_levels_layer_i16.Kinds as levels-layer-i16-kinds
use Rattle.bed.proofs.levelled.bed_levels_layer_i16.Reads as levels-layer-i16
use Rattle.bed.proofs.levelled.bed_levels_layer_i8.Kinds as levels-layer-i8-kinds
use Rattle.bed.proofs.levelled.bed_levels_layer_i8.Reads as levels-layer-i8
use Rattle.witness.specs.Witness.{piece_in, Tells}
use Rattle.witness.proofs.Once.{same_outcome}
use Rattle.bed.proofs.plans.bed_plan_witness.Kinds as witness-kinds
use Rattle.bed.proofs.plans.bed_plan_witness.Reads as witness-reads
use Rattle.bed.proofs.tallied.bed_tally.Kinds as tally-kinds
use Rattle.bed.proofs.tallied.bed_tally.Reads as tally
use Rattle.bed.proofs.tallied.bed_tally_i16.Kinds as tally-i16-kinds
use Rattle.bed.proofs.tallied.bed_tally_i16.Reads as tally-i16
use Rattle.bed.proofs.tallied.bed_tally_i8.Kinds as tally-i8-kinds
use Rattle.bed.proofs.tallied.bed_tally_i8.Reads as tally-i8
use Rattle.bed.proofs.tallied.bed_tally_layer.Kinds as tally-layer-kinds
use Rattle.bed.proofs.tallied.bed_tally_layer.Reads as tally-layer
use Rattle.bed.proofs.tallied.bed_tally_layer_i16.Kinds as tally-layer-i16-kinds
use Rattle.bed.proofs.tallied.bed_tally_layer_i16.Reads as tally-layer-i16
use Rattle.bed.proofs.tallied.bed_tally_layer_i8.Kinds as tally-layer-i8-kinds
use Rattle.bed.proofs.tallied.bed_tally_layer_i8.Reads as tally-layer-i8

-- a call of a function and what it leaves: the result, and behind each `&mut` the value that it has last. `Learnt` of a function's Reads is what a
-- caller learns from the function's own `ensures`, so this is no copy of it.
pub record Called (n : ℕ) (ps : List (ParamKind n)) (r : ResultKind n) (Learnt : Out n ps r) : Type 0 where
  pub lifetimes : Lfts n
  pub args : Dens lifetimes ps
  pub result : (res_t r lifetimes).Denot
  pub last : Lasts (ended_of n ps r) lifetimes args
  pub fits : Learnt lifetimes args result (at_exit (ended_of n ps r) lifetimes args last)

-- ---- bed_surface_nets, bed_surface_nets_i16, bed_surface_nets_i8: sdf, the twelve words, seven lists, V, I

abbrev pub NetsCall : Type 0
NetsCall = Called 11 nets-kinds.ps nets-kinds.r nets.Learnt

abbrev pub NetsCall16 : Type 0
NetsCall16 = Called 11 nets-i16-kinds.ps nets-i16-kinds.r nets-i16.Learnt

abbrev pub NetsCall8 : Type 0
NetsCall8 = Called 11 nets-i8-kinds.ps nets-i8-kinds.r nets-i8.Learnt

-- what the three say of a grid, by the places behind it, which are the same
abbrev pub SaidOf : List Float → (κs : Lfts 11) → Dens κs (drop 1 nets-kinds.ps) → ℕ → ℕ → ℕ → Type 0
SaidOf grid κs places number v i =
    let (words, (positions, (normals, (cells, (strides, (crossings, (map, (indices, _)))))))) = places in
    said number v i ≡ answer (asked grid words.now) (room (buffers_given positions normals cells strides crossings map indices))

pub surface-nets-by-place : (u : NetsCall)
    → (let (sdf, more) = u.args in
    let (_, (_, (_, (_, (_, (_, (_, (_, (_, (v, (i, _))))))))))) = u.last in
    SaidOf sdf.now u.lifetimes more u.result v i)
surface-nets-by-place u = u.fits.0

pub surface-nets-i16-by-place : (u : NetsCall16)
    → (let (sdf, more) = u.args in
    let (_, (_, (_, (_, (_, (_, (_, (_, (_, (v, (i, _))))))))))) = u.last in
    SaidOf (as_floats sdf.now) u.lifetimes more u.result v i)
surface-nets-i16-by-place u = u.fits.0

pub surface-nets-i8-by-place : (u : NetsCall8)
    → (let (sdf, more) = u.args in
    let (_, (_, (_, (_, (_, (_, (_, (_, (_, (v, (i, _))))))))))) = u.last in
    SaidOf (as_floats sdf.now) u.lifetimes more u.result v i)
surface-nets-i8-by-place u = u.fits.0

-- ---- bed_answer: sdf, the twelve words, the lengths of the seven lists, V, I

abbrev pub AskCall : Type 0
AskCall = Called 4 ask-kinds.ps ask-kinds.r ask.Learnt

module _ (u : AskCall) where
  abbrev pub grid_asked : List Float
  grid_asked = let (sdf, _) = u.args in sdf.now

  abbrev pub words_asked : List ℕ
  words_asked = let (_, (words, _)) = u.args in words.now

  abbrev pub lengths_asked : Room
  lengths_asked =
      let (_, (_, (positions, (normals, (cells, (strides, (crossings, (map, (indices, _))))))))) = u.args in
      room_asked positions normals cells strides crossings map indices

  -- the answer number with V and I
  abbrev pub answer_asked : Answer
  answer_asked = let (_, (_, (_, (_, (_, (_, (_, (_, (_, (v, (i, _))))))))))) = u.last in said u.result v i

  pub answer-by-place : answer_asked ≡ answer (asked grid_asked words_asked) lengths_asked
  answer-by-place = u.fits

-- bed_answer_i16, bed_answer_i8: the same, of whole numbers, by the places behind the grid

abbrev pub AskCall16 : Type 0
AskCall16 = Called 4 ask-i16-kinds.ps ask-i16-kinds.r ask-i16.Learnt

abbrev pub AskCall8 : Type 0
AskCall8 = Called 4 ask-i8-kinds.ps ask-i8-kinds.r ask-i8.Learnt

abbrev pub AnsweredOf : List Float → (κs : Lfts 4) → Dens κs (drop 1 ask-kinds.ps) → ℕ → ℕ → ℕ → Type 0
AnsweredOf grid κs places number v i =
    let (words, (positions, (normals, (cells, (strides, (crossings, (map, (indices, _)))))))) = places in
    said number v i ≡ answer (asked grid words.now) (room_asked positions normals cells strides crossings map indices)

pub answer-i16-by-place : (u : AskCall16)
    → (let (sdf, more) = u.args in
    let (_, (_, (_, (_, (_, (_, (_, (_, (_, (v, (i, _))))))))))) = u.last in
    AnsweredOf (as_floats sdf.now) u.lifetimes more u.result v i)
answer-i16-by-place u = u.fits

pub answer-i8-by-place : (u : AskCall8)
    → (let (sdf, more) = u.args in
    let (_, (_, (_, (_, (_, (_, (_, (_, (_, (v, (i, _))))))))))) = u.last in
    AnsweredOf (as_floats sdf.now) u.lifetimes more u.result v i)
answer-i8-by-place u = u.fits

-- ---- bed_is_enclosed, bed_is_enclosed_i16, bed_is_enclosed_i8: sdf, the twelve words, the yes or no

abbrev pub EnclosedCall : Type 0
EnclosedCall = Called 3 enclosed-kinds.ps enclosed-kinds.r enclosed.Learnt

abbrev pub EnclosedCall16 : Type 0
EnclosedCall16 = Called 3 enclosed-i16-kinds.ps enclosed-i16-kinds.r enclosed-i16.Learnt

abbrev pub EnclosedCall8 : Type 0
EnclosedCall8 = Called 3 enclosed-i8-kinds.ps enclosed-i8-kinds.r enclosed-i8.Learnt

abbrev pub ExaminedOf : List Float → List ℕ → ℕ → Bool → Type 0
ExaminedOf grid words number yes' = answers number yes' ≡ examined grid (words12.dims_asked words) (words12.low_asked words) (words12.high_asked words)

pub is-enclosed-by-place : (u : EnclosedCall)
    → (let (sdf, (words, _)) = u.args in let (_, (_, (yes', _))) = u.last in ExaminedOf sdf.now words.now u.result yes')
is-enclosed-by-place u = u.fits

pub is-enclosed-i16-by-place : (u : EnclosedCall16)
    → (let (sdf, (words, _)) = u.args in let (_, (_, (yes', _))) = u.last in ExaminedOf (as_floats sdf.now) words.now u.result yes')
is-enclosed-i16-by-place u = u.fits

pub is-enclosed-i8-by-place : (u : EnclosedCall8)
    → (let (sdf, (words, _)) = u.args in let (_, (_, (yes', _))) = u.last in ExaminedOf (as_floats sdf.now) words.now u.result yes')
is-enclosed-i8-by-place u = u.fits

-- ---- bed_is_enclosed_layer, bed_is_enclosed_layer_i16, bed_is_enclosed_layer_i8: the layer, the twelve words, z, the yes or no

abbrev pub EnclosedLayerCall : Type 0
EnclosedLayerCall = Called 3 enclosed-layer-kinds.ps enclosed-layer-kinds.r enclosed-layer.Learnt

abbrev pub EnclosedLayerCall16 : Type 0
EnclosedLayerCall16 = Called 3 enclosed-layer-i16-kinds.ps enclosed-layer-i16-kinds.r enclosed-layer-i16.Learnt

abbrev pub EnclosedLayerCall8 : Type 0
EnclosedLayerCall8 = Called 3 enclosed-layer-i8-kinds.ps enclosed-layer-i8-kinds.r enclosed-layer-i8.Learnt

abbrev pub LayerExaminedOf : List Float → List ℕ → ℕ → ℕ → Bool → Type 0
LayerExaminedOf layer words z number yes' =
    answers number yes' ≡ examined_layer layer (words12.dims_asked words) (words12.low_asked words) (words12.high_asked words) z

pub is-enclosed-layer-by-place : (u : EnclosedLayerCall)
    → (let (layer, (words, (z, _))) = u.args in let (_, (_, (_, (yes', _)))) = u.last in LayerExaminedOf layer.now words.now z u.result yes')
is-enclosed-layer-by-place u = u.fits

pub is-enclosed-layer-i16-by-place : (u : EnclosedLayerCall16)
    → (let (layer, (words, (z, _))) = u.args in let (_, (_, (_, (yes', _)))) = u.last in LayerExaminedOf (as_floats layer.now) words.now z u.result yes')
is-enclosed-layer-i16-by-place u = u.fits

pub is-enclosed-layer-i8-by-place : (u : EnclosedLayerCall8)
    → (let (layer, (words, (z, _))) = u.args in let (_, (_, (_, (yes', _)))) = u.last in LayerExaminedOf (as_floats layer.now) words.now z u.result yes')
is-enclosed-layer-i8-by-place u = u.fits

-- ---- bed_write_mesh: positions, normals, indices, the file, its number of bytes

abbrev pub WriteCall : Type 0
WriteCall = Called 5 write-kinds.ps write-kinds.r write.Learnt

module _ (u : WriteCall) where
  abbrev pub mesh_given : Mesh
  mesh_given = let (positions, (normals, (indices, _))) = u.args in mesh positions.now normals.now indices.now

  abbrev pub file_lent : List ℕ
  file_lent = let (_, (_, (_, (file, _)))) = u.args in file.now

  abbrev pub file_left : List ℕ
  file_left = let (_, (_, (_, (file, _)))) = u.last in file

  abbrev pub bytes_counted : ℕ
  bytes_counted = let (_, (_, (_, (_, (count, _))))) = u.last in count

  pub write-by-place : (u.result ≡ (writing mesh_given (length file_lent)).answer)
      × ((file_left ≡ written mesh_given file_lent)
      × ((bytes_counted ≡ (writing mesh_given (length file_lent)).bytes)
      × Held mesh_given))
  write-by-place = u.fits

-- ---- bed_write_record: the file, the place in it, seven words

abbrev pub RecordCall : Type 0
RecordCall = Called 1 record-kinds.ps record-kinds.r record-reads.Learnt

module _ (u : RecordCall) where
  abbrev pub room_lent : List ℕ
  room_lent = let (file, _) = u.args in file.now

  abbrev pub place_given : ℕ
  place_given = let (_, (at, _)) = u.args in at

  abbrev pub words_given : List ℕ
  words_given = let (_, (_, (kind, (a, (b, (c, (d, (e, (f, _))))))))) = u.args in kind ∷ a ∷ b ∷ c ∷ d ∷ e ∷ f ∷ []

  abbrev pub room_left : List ℕ
  room_left = let (file, _) = u.last in file

  pub record-by-place : (u.result ≡ record_answer place_given room_lent) × (room_left ≡ record_written words_given place_given room_lent)
  record-by-place = u.fits

-- ---- bed_read_mesh: the file, positions, normals, indices, the two counts

abbrev pub ReadCall : Type 0
ReadCall = Called 6 read-kinds.ps read-kinds.r read.Learnt

module _ (u : ReadCall) where
  abbrev pub file_read : List ℕ
  file_read = let (file, _) = u.args in file.now

  abbrev pub lists_lent : Mesh
  lists_lent = let (_, (positions, (normals, (indices, _)))) = u.args in mesh positions.now normals.now indices.now

  abbrev pub lists_left : Mesh
  lists_left = let (_, (positions, (normals, (indices, _)))) = u.last in mesh positions normals indices

  abbrev pub vertices_counted : ℕ
  vertices_counted = let (_, (_, (_, (_, (v, _))))) = u.last in v

  abbrev pub triangles_counted : ℕ
  triangles_counted = let (_, (_, (_, (_, (_, (t, _)))))) = u.last in t

  pub read-by-place : (u.result ≡ (reading_in (read_of file_read) lists_lent).answer)
      × ((lists_left ≡ filled_in file_read (read_of file_read) lists_lent)
      × ((vertices_counted ≡ (reading_in (read_of file_read) lists_lent).vertices)
      × ((triangles_counted ≡ (reading_in (read_of file_read) lists_lent).triangles)
      × Bytes file_read)))
  read-by-place = u.fits

-- ---- bed_check_mesh: the file, the two counts

abbrev pub CheckCall : Type 0
CheckCall = Called 3 check-kinds.ps check-kinds.r check.Learnt

module _ (u : CheckCall) where
  abbrev pub file_checked : List ℕ
  file_checked = let (file, _) = u.args in file.now

  -- the answer with the two counts
  abbrev pub counts_checked : Read
  counts_checked = let (_, (v, (t, _))) = u.last in record { answer = u.result; vertices = v; triangles = t }

  pub check-by-place : (u.result ≡ (checked (read_of file_checked)).answer)
      × ((counts_checked.vertices ≡ (checked (read_of file_checked)).vertices)
      × ((counts_checked.triangles ≡ (checked (read_of file_checked)).triangles)
      × Bytes file_checked))
  check-by-place = u.fits

-- ---- bed_cut_fixtures: the file, the twelve words, the grid

abbrev pub CutCall : Type 0
CutCall = Called 3 cut-kinds.ps cut-kinds.r cut.Learnt

pub cut-fixtures-by-place : (u : CutCall)
    → (let (file, (words, (sdf, _))) = u.args in
    let (_, (_, (left, _))) = u.last in
    let d = point (words12.dims_asked words.now) in
    (u.result ≡ cut_answer file.now d (length sdf.now)) × (left ≡ cut_grid file.now d sdf.now))
cut-fixtures-by-place u = u.fits

-- ---- bed_layers_start: the state, the twelve words, the three lists of kept memory

abbrev pub StartCall : Type 0
StartCall = Called 5 start-kinds.ps start-kinds.r start.Learnt

pub layers-start-by-place : (u : StartCall)
    → (let (layers, (words, (distances, (map, (positions, _))))) = u.args in
    let (layers', _) = u.last in
    let k = words12.block_words words.now in
    (u.result ≡ start_answer k (lengths (memory distances.now map.now positions.now))) × (layers' ≡ words_started u.result k layers.now))
layers-start-by-place u = u.fits

-- ---- bed_layers_offer: the state, the layer, the three lists of kept memory, six lists for output, V, I

abbrev pub OfferCall : Type 0
OfferCall = Called 13 offer-kinds.ps offer-kinds.r offer.Learnt

pub layers-offer-by-place : (u : OfferCall)
    → (let (layers, (layer, (kd, (km, (kp, (positions, (normals, (cells, (strides, (crossings, (indices, _))))))))))) = u.args in
    let (layers', (_, (kd', (km', (kp', (positions', (normals', (cells', (strides', (crossings', (indices', (v, (i, _))))))))))))) = u.last in
    let s = state_of layers.now in
    let m = memory kd.now km.now kp.now in
    let o = output positions.now normals.now cells.now strides.now crossings.now indices.now in
    (said u.result v i ≡ layer_answer s layer.now m (room_in m o)) × ((layers' ≡ words_on layers.now (state_after s layer.now m o))
    × (left (memory kd' km' kp') (output positions' normals' cells' strides' crossings' indices') ≡ leaves s layer.now m o)))
layers-offer-by-place u = u.fits

-- ---- bed_close: the grid, the twelve words, the wall, the room

abbrev pub CloseCall : Type 0
CloseCall = Called 3 close-kinds.ps close-kinds.r close-reads.Learnt

pub close-by-place : (u : CloseCall)
    → (let (sdf, (words, (wall, (closed, _)))) = u.args in
    let (_, (_, (_, (left, _)))) = u.last in
    let d = point (words12.dims_asked words.now) in
    (u.result ≡ close_answer d (length sdf.now) wall (length closed.now)) × (left ≡ closed_room d wall sdf.now closed.now))
close-by-place u = u.fits

abbrev pub CloseCall-i16 : Type 0
CloseCall-i16 = Called 3 close-i16-kinds.ps close-i16-kinds.r close-i16-reads.Learnt

pub close-i16-by-place : (u : CloseCall-i16)
    → (let (sdf, (words, (wall, (closed, _)))) = u.args in
    let (_, (_, (_, (left, _)))) = u.last in
    let d = point (words12.dims_asked words.now) in
    (u.result ≡ close_answer d (length sdf.now) wall (length closed.now)) × (left ≡ closed_room d wall (as_floats sdf.now) closed.now))
close-i16-by-place u = u.fits

abbrev pub CloseCall-i8 : Type 0
CloseCall-i8 = Called 3 close-i8-kinds.ps close-i8-kinds.r close-i8-reads.Learnt

pub close-i8-by-place : (u : CloseCall-i8)
    → (let (sdf, (words, (wall, (closed, _)))) = u.args in
    let (_, (_, (_, (left, _)))) = u.last in
    let d = point (words12.dims_asked words.now) in
    (u.result ≡ close_answer d (length sdf.now) wall (length closed.now)) × (left ≡ closed_room d wall (as_floats sdf.now) closed.now))
close-i8-by-place u = u.fits

-- ---- bed_close_layer: the layer, the twelve words, z, the wall, the room

abbrev pub LayerCall : Type 0
LayerCall = Called 3 layer-kinds.ps layer-kinds.r layer-reads.Learnt

pub close-layer-by-place : (u : LayerCall)
    → (let (layer, (words, (z, (wall, (closed, _))))) = u.args in
    let (_, (_, (_, (_, (left, _))))) = u.last in
    let d = point (words12.dims_asked words.now) in
    (u.result ≡ closed_answer d z (length layer.now) wall (length closed.now)) × (left ≡ layer_room d wall z layer.now closed.now))
close-layer-by-place u = u.fits

abbrev pub LayerCall-i16 : Type 0
LayerCall-i16 = Called 3 layer-i16-kinds.ps layer-i16-kinds.r layer-i16-reads.Learnt

pub close-layer-i16-by-place : (u : LayerCall-i16)
    → (let (layer, (words, (z, (wall, (closed, _))))) = u.args in
    let (_, (_, (_, (_, (left, _))))) = u.last in
    let d = point (words12.dims_asked words.now) in
    (u.result ≡ closed_answer d z (length layer.now) wall (length closed.now)) × (left ≡ layer_room d wall z (as_floats layer.now) closed.now))
close-layer-i16-by-place u = u.fits

abbrev pub LayerCall-i8 : Type 0
LayerCall-i8 = Called 3 layer-i8-kinds.ps layer-i8-kinds.r layer-i8-reads.Learnt

pub close-layer-i8-by-place : (u : LayerCall-i8)
    → (let (layer, (words, (z, (wall, (closed, _))))) = u.args in
    let (_, (_, (_, (_, (left, _))))) = u.last in
    let d = point (words12.dims_asked words.now) in
    (u.result ≡ closed_answer d z (length layer.now) wall (length closed.now)) × (left ≡ layer_room d wall z (as_floats layer.now) closed.now))
close-layer-i8-by-place u = u.fits

-- ---- bed_version: nothing

abbrev pub VersionCall : Type 0
VersionCall = Called 0 version-kinds.ps version-kinds.r version-reads.Learnt

pub version-by-place : (u : VersionCall) → u.result ≡ version
version-by-place u = u.fits

-- ---- bed_deepest: what was found so far, the list; bed_wall_for: what was found

abbrev pub DeepestCall : Type 0
DeepestCall = Called 1 deep-kinds.ps deep-kinds.r deep-reads.Learnt

pub deepest-by-place : (u : DeepestCall) → (let (found, (sdf, _)) = u.args in u.result ≡ deepest found sdf.now)
deepest-by-place u = u.fits

abbrev pub DeepestCall-i16 : Type 0
DeepestCall-i16 = Called 1 deep-i16-kinds.ps deep-i16-kinds.r deep-i16-reads.Learnt

pub deepest-i16-by-place : (u : DeepestCall-i16) → (let (found, (sdf, _)) = u.args in u.result ≡ deepest found (as_floats sdf.now))
deepest-i16-by-place u = u.fits

abbrev pub DeepestCall-i8 : Type 0
DeepestCall-i8 = Called 1 deep-i8-kinds.ps deep-i8-kinds.r deep-i8-reads.Learnt

pub deepest-i8-by-place : (u : DeepestCall-i8) → (let (found, (sdf, _)) = u.args in u.result ≡ deepest found (as_floats sdf.now))
deepest-i8-by-place u = u.fits

abbrev pub WallCall : Type 0
WallCall = Called 0 wall-kinds.ps wall-kinds.r wall-reads.Learnt

pub wall-for-by-place : (u : WallCall) → (let (found, _) = u.args in u.result ≡ wall_for found)
wall-for-by-place u = u.fits

-- ---- bed_volume: positions, indices, six times the volume

abbrev pub VolumeCall : Type 0
VolumeCall = Called 3 volume-kinds.ps volume-kinds.r volume.Learnt

pub volume-by-place : (u : VolumeCall)
    → (let (positions, (indices, _)) = u.args in
    let (_, (_, (sixfold, _))) = u.last in
    weighed u.result sixfold ≡ weighing positions.now indices.now)
volume-by-place u = u.fits

-- ---- bed_weigh: positions, the number of the first vertex, indices, the low and the high word of the sum, the shadow

abbrev pub WeighCall : Type 0
WeighCall = Called 5 weigh-kinds.ps weigh-kinds.r weigh.Learnt

pub weigh-by-place : (u : WeighCall)
    → (let (positions, (first, (indices, _))) = u.args in
    let (_, (_, (_, (low, (high, (shadow, _)))))) = u.last in
    told u.result low high shadow ≡ weight positions.now first indices.now)
weigh-by-place u = u.fits

-- ---- bed_levels, bed_levels_i16, bed_levels_i8: sdf, the twelve words, the levels

abbrev pub LevelsCall : Type 0
LevelsCall = Called 3 levels-kinds.ps levels-kinds.r levels.Learnt

abbrev pub LevelsCall16 : Type 0
LevelsCall16 = Called 3 levels-i16-kinds.ps levels-i16-kinds.r levels-i16.Learnt

abbrev pub LevelsCall8 : Type 0
LevelsCall8 = Called 3 levels-i8-kinds.ps levels-i8-kinds.r levels-i8.Learnt

-- what the three say of a grid, the words, the list before and after, and the answer
abbrev pub LevelledOf : List Float → List ℕ → List Float → List Float → ℕ → Type 0
LevelledOf grid words old left' number =
    let d = point (words12.dims_asked words) in
    let b = level-specs.box_from (words12.low_asked words) (words12.high_asked words) in
    (number ≡ level-specs.levels_answer grid d b (length old)) × (left' ≡ level-specs.levels_after grid d b old)

pub levels-by-place : (u : LevelsCall)
    → (let (sdf, (words, (out, _))) = u.args in let (_, (_, (left', _))) = u.last in LevelledOf sdf.now words.now out.now left' u.result)
levels-by-place u = (u.fits.0, u.fits.1.0)

pub levels-i16-by-place : (u : LevelsCall16)
    → (let (sdf, (words, (out, _))) = u.args in let (_, (_, (left', _))) = u.last in LevelledOf (as_floats sdf.now) words.now out.now left' u.result)
levels-i16-by-place u = u.fits

pub levels-i8-by-place : (u : LevelsCall8)
    → (let (sdf, (words, (out, _))) = u.args in let (_, (_, (left', _))) = u.last in LevelledOf (as_floats sdf.now) words.now out.now left' u.result)
levels-i8-by-place u = u.fits

-- ---- bed_levels_layer, bed_levels_layer_i16, bed_levels_layer_i8: the layer below, the layer, the twelve words, z, the levels

abbrev pub LevelsLayerCall : Type 0
LevelsLayerCall = Called 4 levels-layer-kinds.ps levels-layer-kinds.r levels-layer.Learnt

abbrev pub LevelsLayerCall16 : Type 0
LevelsLayerCall16 = Called 4 levels-layer-i16-kinds.ps levels-layer-i16-kinds.r levels-layer-i16.Learnt

abbrev pub LevelsLayerCall8 : Type 0
LevelsLayerCall8 = Called 4 levels-layer-i8-kinds.ps levels-layer-i8-kinds.r levels-layer-i8.Learnt

abbrev pub LayerLevelledOf : List Float → List Float → List ℕ → ℕ → List Float → List Float → ℕ → Type 0
LayerLevelledOf below layer words z old left' number =
    let d = point (words12.dims_asked words) in
    let b = level-specs.box_from (words12.low_asked words) (words12.high_asked words) in
    (number ≡ level-specs.layer_answer below layer d b z (length old)) × (left' ≡ level-specs.layer_after below layer d b z old)

pub levels-layer-by-place : (u : LevelsLayerCall)
    → (let (below, (layer, (words, (z, (out, _))))) = u.args in
    let (_, (_, (_, (_, (left', _))))) = u.last in
    LayerLevelledOf below.now layer.now words.now z out.now left' u.result)
levels-layer-by-place u = u.fits

pub levels-layer-i16-by-place : (u : LevelsLayerCall16)
    → (let (below, (layer, (words, (z, (out, _))))) = u.args in
    let (_, (_, (_, (_, (left', _))))) = u.last in
    LayerLevelledOf (as_floats below.now) (as_floats layer.now) words.now z out.now left' u.result)
levels-layer-i16-by-place u = u.fits

pub levels-layer-i8-by-place : (u : LevelsLayerCall8)
    → (let (below, (layer, (words, (z, (out, _))))) = u.args in
    let (_, (_, (_, (_, (left', _))))) = u.last in
    LayerLevelledOf (as_floats below.now) (as_floats layer.now) words.now z out.now left' u.result)
levels-layer-i8-by-place u = u.fits

-- ---- bed_plan_witness: the blocks' words, the whole's twelve, the edge

abbrev pub WitnessCall : Type 0
WitnessCall = Called 3 witness-kinds.ps witness-kinds.r witness-reads.Learnt

pub plan-witness-by-place : (u : WitnessCall)
    → (let (blocks, (whole, (edge, _))) = u.args in let (_, (_, (left', _))) = u.last in Tells blocks.now (piece_in whole.now 0) u.result edge.now left')
plan-witness-by-place u = u.fits

-- what a call tells, by its three lists before, its answer and the edge afterwards
abbrev pub EdgeTold : List ℕ → List ℕ → List ℕ → ℕ → List ℕ → Type 0
EdgeTold blocks whole old number left' = Tells blocks (piece_in whole 0) number old left'

same-told : {blocks blocks' whole whole' old old' : List ℕ} {n n' : ℕ} {l l' : List ℕ} → blocks ≡ blocks' → whole ≡ whole' → old ≡ old'
    → EdgeTold blocks whole old n l → EdgeTold blocks' whole' old' n' l' → (n ≡ n') × (l ≡ l')
same-told {blocks = blocks} {blocks' = blocks'} {whole = whole} {whole' = whole'} {old = old} {n' = n'} {l' = l'} eb ew eo t t' =
    same_outcome blocks (piece_in whole 0) t
    (subst (λ (b : List ℕ). EdgeTold b whole old n' l') (sym eb)
    (subst (λ (w : List ℕ). EdgeTold blocks' w old n' l') (sym ew) (subst (λ (o : List ℕ). EdgeTold blocks' whole' o n' l') (sym eo) t')))

-- two calls on the same lists end alike: the answer, and the edge afterwards
pub plan-witness-once : (u v : WitnessCall)
    → (let (blocks, (whole, (edge, _))) = u.args in
    let (blocks', (whole', (edge', _))) = v.args in
    let (_, (_, (left', _))) = u.last in
    let (_, (_, (left'', _))) = v.last in
    blocks.now ≡ blocks'.now → whole.now ≡ whole'.now → edge.now ≡ edge'.now → (u.result ≡ v.result) × (left' ≡ left''))
plan-witness-once u v eb ew ee = same-told eb ew ee u.fits v.fits

-- ---- bed_tally, bed_tally_i16, bed_tally_i8: sdf, the twelve words, the three counts

abbrev pub TallyCall : Type 0
TallyCall = Called 3 tally-kinds.ps tally-kinds.r tally.Learnt

abbrev pub TallyCall16 : Type 0
TallyCall16 = Called 3 tally-i16-kinds.ps tally-i16-kinds.r tally-i16.Learnt

abbrev pub TallyCall8 : Type 0
TallyCall8 = Called 3 tally-i8-kinds.ps tally-i8-kinds.r tally-i8.Learnt

-- what is told, by the counts before and after, and the answer
abbrev pub CountedOf : Told → List ℕ → List ℕ → ℕ → Type 0
CountedOf t old left' number = (number ≡ t.answer) × (left' ≡ counts_left t old)

pub tally-by-place : (u : TallyCall)
    → (let (sdf, (words, (counts, _))) = u.args in
    let (_, (_, (left', _))) = u.last in
    CountedOf (tally-specs.tallied sdf.now (words12.block_words words.now)) counts.now left' u.result)
tally-by-place u = u.fits

pub tally-i16-by-place : (u : TallyCall16)
    → (let (sdf, (words, (counts, _))) = u.args in
    let (_, (_, (left', _))) = u.last in
    CountedOf (tally-specs.tallied (as_floats sdf.now) (words12.block_words words.now)) counts.now left' u.result)
tally-i16-by-place u = u.fits

pub tally-i8-by-place : (u : TallyCall8)
    → (let (sdf, (words, (counts, _))) = u.args in
    let (_, (_, (left', _))) = u.last in
    CountedOf (tally-specs.tallied (as_floats sdf.now) (words12.block_words words.now)) counts.now left' u.result)
tally-i8-by-place u = u.fits

-- ---- bed_tally_layer, bed_tally_layer_i16, bed_tally_layer_i8: the layer below, the layer, the twelve words, z, the three counts

abbrev pub TallyLayerCall : Type 0
TallyLayerCall = Called 4 tally-layer-kinds.ps tally-layer-kinds.r tally-layer.Learnt

abbrev pub TallyLayerCall16 : Type 0
TallyLayerCall16 = Called 4 tally-layer-i16-kinds.ps tally-layer-i16-kinds.r tally-layer-i16.Learnt

abbrev pub TallyLayerCall8 : Type 0
TallyLayerCall8 = Called 4 tally-layer-i8-kinds.ps tally-layer-i8-kinds.r tally-layer-i8.Learnt

pub tally-layer-by-place : (u : TallyLayerCall)
    → (let (below, (layer, (words, (z, (counts, _))))) = u.args in
    let (_, (_, (_, (_, (left', _))))) = u.last in
    CountedOf (tally-specs.layer_told below.now layer.now (words12.block_words words.now) z (counts_in counts.now)) counts.now left' u.result)
tally-layer-by-place u = u.fits

pub tally-layer-i16-by-place : (u : TallyLayerCall16)
    → (let (below, (layer, (words, (z, (counts, _))))) = u.args in
    let (_, (_, (_, (_, (left', _))))) = u.last in
    CountedOf (tally-specs.layer_told (as_floats below.now) (as_floats layer.now) (words12.block_words words.now) z (counts_in counts.now)) counts.now left' u.result)
tally-layer-i16-by-place u = u.fits

pub tally-layer-i8-by-place : (u : TallyLayerCall8)
    → (let (below, (layer, (words, (z, (counts, _))))) = u.args in
    let (_, (_, (_, (_, (left', _))))) = u.last in
    CountedOf (tally-specs.layer_told (as_floats below.now) (as_floats layer.now) (words12.block_words words.now) z (counts_in counts.now)) counts.now left' u.result)
tally-layer-i8-by-place u = u.fits
