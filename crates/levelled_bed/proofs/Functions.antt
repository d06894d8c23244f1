-- The calls of crate levels, those of the mesher, and the functions for C, as the calls that the theorems speak of. An outcome of a function that fits its contract
-- is one of `Called`; `Learnt` of a function's Reads is what a caller learns from the function's own `ensures`. Assumes nothing.
use Prim.Native.Nat.{ℕ, ◌≤◌}
use mathlib.Core.List.{List}
use mathlib.Core.Path.{◌≡◌}
use lib.Ieee.{Float}
use Rattle.lists.specs.Floats.{Binary32}
use Rattle.grid.specs.Block.{point}
use Rattle.grid.specs.Values.{as_floats}
use Rattle.grid.proofs.Widths.{wholes-fit}
use Rattle.grid.proofs.Instances.{DistanceType, float-type, sixteen-type, eight-type}
use Rattle.judge.specs.AsRules.{answer_of}
use Rattle.whole_box.specs.LentLists.{buffers, buffers_given}
use Rattle.surface_nets.specs.AsRules.{call_made}
use Rattle.levels.specs.Answers.{answer_of as level_answer}
use Rattle.levels.specs.Call.{box_from}
use Rattle.levels.proofs.Once.{answer-once}
use Rattle.bed.specs.Boundary.{asked, said}
use Rattle.bed.specs.Words12.{dims_asked, low_asked, high_asked}
use Rattle.bed.proofs.Places.{
  Called,
  LevelsCall,
  LevelsCall16,
  LevelsCall8,
  LevelledOf,
  levels-by-place,
  levels-i16-by-place,
  levels-i8-by-place,
  LevelsLayerCall,
  LevelsLayerCall16,
  LevelsLayerCall8,
  LayerLevelledOf,
  levels-layer-by-place,
  levels-layer-i16-by-place,
  levels-layer-i8-by-place,
  NetsCall,
  NetsCall16,
  NetsCall8,
}
use Rattle.levelled_bed.proofs.Mesh.{Meshed}
use Rattle.levelled_bed.proofs.Calls.{Whole, Offer, SameWhole, whole-once, SameOffer, offer-once, last_of, InTurn, all-in-turn}
use Rattle.levels.proofs.levels.Kinds as levels-kinds
use Rattle.levels.proofs.levels.Reads as levels
use Rattle.levels.proofs.levels_layer.Kinds as levels-layer-kinds
use Rattle.levels.proofs.levels_layer.Reads as levels-layer
use Rattle.surface_nets.proofs.surface_nets.Kinds as mesh-kinds
use Rattle.surface_nets.proofs.surface_nets.Reads as mesh

-- ---- whole grids: levels, at any type of distances

module _ (t : DistanceType) where
  abbrev pub LevelsOf : Type 0
  LevelsOf =
      Called 3 (levels-kinds.ps t.type t.laws t.copy) (levels-kinds.r t.type t.laws t.copy)
      (levels.Learnt t.type t.laws t.copy t.distance t.distance_dict t.clone t.clone_dict)

  abbrev pub whole_of : LevelsOf → Whole
  whole_of u =
      let (sdf, (dims, (low, (high, (out, _))))) = u.args in
      let (_, (_, (_, (_, (left', _))))) = u.last in
      record {
        sdf = t.distance.floats sdf.now;
        dims = point dims;
        box = box_from low high;
        entry = out.now;
        exit = left';
        answer = level_answer u.result;
        said = u.fits.0;
        left = u.fits.1.0;
        numbers = t.fit sdf.now u.fits.1.1;
      }

-- of floats, and of whole numbers of 16 and of 8 bits

abbrev pub LevelsRun : Type 0
LevelsRun = LevelsOf float-type

abbrev pub whole_run : LevelsRun → Whole
whole_run = whole_of float-type

abbrev pub LevelsRun16 : Type 0
LevelsRun16 = LevelsOf sixteen-type

abbrev pub whole_run16 : LevelsRun16 → Whole
whole_run16 = whole_of sixteen-type

abbrev pub LevelsRun8 : Type 0
LevelsRun8 = LevelsOf eight-type

abbrev pub whole_run8 : LevelsRun8 → Whole
whole_run8 = whole_of eight-type

-- bed_levels, bed_levels_i16, bed_levels_i8: what each says by place, as the whole call that it says it of

abbrev words_whole : (sdf : List Float) (words : List ℕ) (old left' : List Float) (number : ℕ) → LevelledOf sdf words old left' number → Binary32 sdf → Whole
words_whole sdf words old left' number said numbers =
    record {
      sdf = sdf;
      dims = point (dims_asked words);
      box = box_from (low_asked words) (high_asked words);
      entry = old;
      exit = left';
      answer = number;
      said = said.0;
      left = said.1;
      numbers = numbers;
    }

abbrev pub whole_call : LevelsCall → Whole
whole_call u =
    let (sdf, (words, (out, _))) = u.args in
    let (_, (_, (left', _))) = u.last in
    words_whole sdf.now words.now out.now left' u.result (levels-by-place u) u.fits.1.1

abbrev pub whole_call16 : LevelsCall16 → Whole
whole_call16 u =
    let (sdf, (words, (out, _))) = u.args in
    let (_, (_, (left', _))) = u.last in
    words_whole (as_floats sdf.now) words.now out.now left' u.result (levels-i16-by-place u) (wholes-fit sdf.now)

abbrev pub whole_call8 : LevelsCall8 → Whole
whole_call8 u =
    let (sdf, (words, (out, _))) = u.args in
    let (_, (_, (left', _))) = u.last in
    words_whole (as_floats sdf.now) words.now out.now left' u.result (levels-i8-by-place u) (wholes-fit sdf.now)

-- ---- one layer: levels_layer, at any type of distances

module _ (t : DistanceType) where
  abbrev pub LayerOf : Type 0
  LayerOf =
      Called 4 (levels-layer-kinds.ps t.type t.laws t.copy) (levels-layer-kinds.r t.type t.laws t.copy)
      (levels-layer.Learnt t.type t.laws t.copy t.distance t.distance_dict t.clone t.clone_dict)

  abbrev pub offer_of : LayerOf → Offer
  offer_of u =
      let (below, (layer, (dims, (low, (high, (z, (out, _))))))) = u.args in
      let (_, (_, (_, (_, (_, (_, (left', _))))))) = u.last in
      record {
        below = t.distance.floats below.now;
        layer = t.distance.floats layer.now;
        dims = point dims;
        box = box_from low high;
        z = z;
        entry = out.now;
        exit = left';
        answer = level_answer u.result;
        said = u.fits.0;
        left = u.fits.1;
      }

-- of floats, and of whole numbers of 16 and of 8 bits

abbrev pub LayerRun : Type 0
LayerRun = LayerOf float-type

abbrev pub offer_run : LayerRun → Offer
offer_run = offer_of float-type

abbrev pub LayerRun16 : Type 0
LayerRun16 = LayerOf sixteen-type

abbrev pub offer_run16 : LayerRun16 → Offer
offer_run16 = offer_of sixteen-type

abbrev pub LayerRun8 : Type 0
LayerRun8 = LayerOf eight-type

abbrev pub offer_run8 : LayerRun8 → Offer
offer_run8 = offer_of eight-type

-- bed_levels_layer, bed_levels_layer_i16, bed_levels_layer_i8

abbrev words_offer : (below layer : List Float) (words : List ℕ) (z : ℕ) (old left' : List Float) (number : ℕ) → LayerLevelledOf below layer words z old left' number → Offer
words_offer below layer words z old left' number said =
    record {
      below = below;
      layer = layer;
      dims = point (dims_asked words);
      box = box_from (low_asked words) (high_asked words);
      z = z;
      entry = old;
      exit = left';
      answer = number;
      said = said.0;
      left = said.1;
    }

abbrev pub offer_call : LevelsLayerCall → Offer
offer_call u =
    let (below, (layer, (words, (z, (out, _))))) = u.args in
    let (_, (_, (_, (_, (left', _))))) = u.last in
    words_offer below.now layer.now words.now z out.now left' u.result (levels-layer-by-place u)

abbrev pub offer_call16 : LevelsLayerCall16 → Offer
offer_call16 u =
    let (below, (layer, (words, (z, (out, _))))) = u.args in
    let (_, (_, (_, (_, (left', _))))) = u.last in
    words_offer (as_floats below.now) (as_floats layer.now) words.now z out.now left' u.result (levels-layer-i16-by-place u)

abbrev pub offer_call8 : LevelsLayerCall8 → Offer
offer_call8 u =
    let (below, (layer, (words, (z, (out, _))))) = u.args in
    let (_, (_, (_, (_, (left', _))))) = u.last in
    words_offer (as_floats below.now) (as_floats layer.now) words.now z out.now left' u.result (levels-layer-i8-by-place u)

-- ---- a mesh: surface_nets, at any type of distances

module _ (t : DistanceType) where
  abbrev pub MeshOf : Type 0
  MeshOf =
      Called 9 (mesh-kinds.ps t.type t.laws t.copy) (mesh-kinds.r t.type t.laws t.copy)
      (mesh.Learnt t.type t.laws t.copy t.distance t.distance_dict t.clone t.clone_dict)

  abbrev pub MeshedOf : MeshOf → Type 0
  MeshedOf u =
      let (sdf, (dims, (low, (high, (plane, (positions, (normals, (cells, (strides, (crossings, (map, (indices, _)))))))))))) = u.args in
      let (_, (_, (_, (_, (_, (positions', (normals', (cells', (strides', (crossings', (map', (indices', _)))))))))))) = u.last in
      Meshed (call_made (t.distance.floats sdf.now) dims low high plane) (answer_of u.result)
      (buffers_given positions normals cells strides crossings map indices) (buffers positions' normals' cells' strides' crossings' map' indices')

  pub meshed_of : (u : MeshOf) → (answer_of u.result).number ≡ 0 → MeshedOf u
  meshed_of u done = record { said = u.fits.0; left = u.fits.1.0; done = done }

-- of floats, and of whole numbers of 16 and of 8 bits

abbrev pub MeshRun : Type 0
MeshRun = MeshOf float-type

pub mesh_run : (u : MeshRun) → (answer_of u.result).number ≡ 0 → MeshedOf float-type u
mesh_run = meshed_of float-type

abbrev pub MeshRun16 : Type 0
MeshRun16 = MeshOf sixteen-type

pub mesh_run16 : (u : MeshRun16) → (answer_of u.result).number ≡ 0 → MeshedOf sixteen-type u
mesh_run16 = meshed_of sixteen-type

abbrev pub MeshRun8 : Type 0
MeshRun8 = MeshOf eight-type

pub mesh_run8 : (u : MeshRun8) → (answer_of u.result).number ≡ 0 → MeshedOf eight-type u
mesh_run8 = meshed_of eight-type

-- bed_surface_nets, bed_surface_nets_i16, bed_surface_nets_i8

pub mesh_call : (u : NetsCall) → u.result ≡ 0
    → (let (sdf, (words, (positions, (normals, (cells, (strides, (crossings, (map, (indices, _))))))))) = u.args in
    let (_, (_, (positions', (normals', (cells', (strides', (crossings', (map', (indices', (v, (i, _))))))))))) = u.last in
    Meshed (asked sdf.now words.now) (said u.result v i)
    (buffers_given positions normals cells strides crossings map indices) (buffers positions' normals' cells' strides' crossings' map' indices'))
mesh_call u done = record { said = u.fits.0; left = u.fits.1.0; done = done }

pub mesh_call16 : (u : NetsCall16) → u.result ≡ 0
    → (let (sdf, (words, (positions, (normals, (cells, (strides, (crossings, (map, (indices, _))))))))) = u.args in
    let (_, (_, (positions', (normals', (cells', (strides', (crossings', (map', (indices', (v, (i, _))))))))))) = u.last in
    Meshed (asked (as_floats sdf.now) words.now) (said u.result v i)
    (buffers_given positions normals cells strides crossings map indices) (buffers positions' normals' cells' strides' crossings' map' indices'))
mesh_call16 u done = record { said = u.fits.0; left = u.fits.1.0; done = done }

pub mesh_call8 : (u : NetsCall8) → u.result ≡ 0
    → (let (sdf, (words, (positions, (normals, (cells, (strides, (crossings, (map, (indices, _))))))))) = u.args in
    let (_, (_, (positions', (normals', (cells', (strides', (crossings', (map', (indices', (v, (i, _))))))))))) = u.last in
    Meshed (asked (as_floats sdf.now) words.now) (said u.result v i)
    (buffers_given positions normals cells strides crossings map indices) (buffers positions' normals' cells' strides' crossings' map' indices'))
mesh_call8 u done = record { said = u.fits.0; left = u.fits.1.0; done = done }

-- ---- one outcome for the same input: the result itself, and the levels

module _ (t t' : DistanceType) where
  pub levels-alike : (u : LevelsOf t) (v : LevelsOf t') → SameWhole (whole_of t u) (whole_of t' v)
      → (u.result ≡ v.result) × ((whole_of t u).exit ≡ (whole_of t' v).exit)
  levels-alike u v s = let e = whole-once (whole_of t u) (whole_of t' v) s in (answer-once u.result v.result e.0, e.1)

  pub levels-layer-alike : (u : LayerOf t) (v : LayerOf t') → SameOffer (offer_of t u) (offer_of t' v)
      → (u.result ≡ v.result) × ((offer_of t u).exit ≡ (offer_of t' v).exit)
  levels-layer-alike u v s = let e = offer-once (offer_of t u) (offer_of t' v) s in (answer-once u.result v.result e.0, e.1)

-- ---- the layers' theorem for each type: all layers of a grid in turn leave the whole call's levels

module _ (t : DistanceType) (u : LevelsOf t) (o : ℕ → LayerOf t) (turn : InTurn (whole_of t u) (λ n. offer_of t (o n))) where
  pub in-turn-of : level_answer u.result ≡ 0
      → ((n : ℕ) → n ≤ last_of (whole_of t u).box → level_answer (o n).result ≡ 0) × ((offer_of t (o (last_of (whole_of t u).box))).exit ≡ (whole_of t u).exit)
  in-turn-of done = all-in-turn (whole_of t u) done (λ n. offer_of t (o n)) turn

pub levels-in-turn : (u : LevelsRun) (o : ℕ → LayerRun) → InTurn (whole_run u) (λ n. offer_run (o n)) → level_answer u.result ≡ 0
    → ((n : ℕ) → n ≤ last_of (whole_run u).box → level_answer (o n).result ≡ 0) × ((offer_run (o (last_of (whole_run u).box))).exit ≡ (whole_run u).exit)
levels-in-turn = in-turn-of float-type

pub levels-i16-in-turn : (u : LevelsRun16) (o : ℕ → LayerRun16) → InTurn (whole_run16 u) (λ n. offer_run16 (o n)) → level_answer u.result ≡ 0
    → ((n : ℕ) → n ≤ last_of (whole_run16 u).box → level_answer (o n).result ≡ 0) × ((offer_run16 (o (last_of (whole_run16 u).box))).exit ≡ (whole_run16 u).exit)
levels-i16-in-turn = in-turn-of sixteen-type

pub levels-i8-in-turn : (u : LevelsRun8) (o : ℕ → LayerRun8) → InTurn (whole_run8 u) (λ n. offer_run8 (o n)) → level_answer u.result ≡ 0
    → ((n : ℕ) → n ≤ last_of (whole_run8 u).box → level_answer (o n).result ≡ 0) × ((offer_run8 (o (last_of (whole_run8 u).box))).exit ≡ (whole_run8 u).exit)
levels-i8-in-turn = in-turn-of eight-type

pub bed-levels-in-turn : (u : LevelsCall) (o : ℕ → LevelsLayerCall) → InTurn (whole_call u) (λ n. offer_call (o n)) → u.result ≡ 0
    → ((n : ℕ) → n ≤ last_of (whole_call u).box → (o n).result ≡ 0) × ((offer_call (o (last_of (whole_call u).box))).exit ≡ (whole_call u).exit)
bed-levels-in-turn u o t done = all-in-turn (whole_call u) done (λ n. offer_call (o n)) t

pub bed-levels-i16-in-turn : (u : LevelsCall16) (o : ℕ → LevelsLayerCall16) → InTurn (whole_call16 u) (λ n. offer_call16 (o n)) → u.result ≡ 0
    → ((n : ℕ) → n ≤ last_of (whole_call16 u).box → (o n).result ≡ 0) × ((offer_call16 (o (last_of (whole_call16 u).box))).exit ≡ (whole_call16 u).exit)
bed-levels-i16-in-turn u o t done = all-in-turn (whole_call16 u) done (λ n. offer_call16 (o n)) t

pub bed-levels-i8-in-turn : (u : LevelsCall8) (o : ℕ → LevelsLayerCall8) → InTurn (whole_call8 u) (λ n. offer_call8 (o n)) → u.result ≡ 0
    → ((n : ℕ) → n ≤ last_of (whole_call8 u).box → (o n).result ≡ 0) × ((offer_call8 (o (last_of (whole_call8 u).box))).exit ≡ (whole_call8 u).exit)
bed-levels-i8-in-turn u o t done = all-in-turn (whole_call8 u) done (λ n. offer_call8 (o n)) t
