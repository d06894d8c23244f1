-- The theorems for the functions: tally and tally_layer, of floats and of whole numbers of 16 and 8 bits, and the functions for C. An outcome of a function that fits its contract is one of
-- `Called`; `Learnt` of a function's Reads is what a caller learns from the function's own `ensures`. Assumes nothing.
use Prim.Native.Nat.{ℕ, suc, ◌+◌, ◌≤◌}
use mathlib.Core.Bool.{Bool, true, false, cond}
use mathlib.Core.List.{List, [], ◌∷◌}
use mathlib.Core.Path.{◌≡◌, refl, sym, ap, ◌∙◌}
use borrow.Author.Tests.{eq-eqb}
use lib.Dec.{eqb}
use lib.Ieee.{Float}
use Rattle.std.specs.Prelude.{Result, Ok, Err}
use Rattle.grid.specs.declared.Block.{Block}
use Rattle.grid.specs.Block.{point, box_of, call_of}
use Rattle.grid.specs.Values.{as_floats}
use Rattle.grid.proofs.Instances.{DistanceType, float-type, sixteen-type, eight-type}
use Rattle.surface_nets.specs.AsRules.{block_of}
use Rattle.skin.specs.Scan.{answers}
use Rattle.weigh.specs.Answers.{sum_in}
use Rattle.bed.specs.Words12.{dims_asked, low_asked, high_asked, block_words}
use Rattle.bed.specs.Tallied.{counts_in, counts_left}
use Rattle.bed.proofs.Places.{
  Called,
  TallyCall,
  TallyCall16,
  TallyCall8,
  CountedOf,
  TallyLayerCall,
  TallyLayerCall16,
  TallyLayerCall8,
  tally-layer-by-place,
  tally-layer-i16-by-place,
  tally-layer-i8-by-place,
  EnclosedCall,
  EnclosedCall16,
  EnclosedCall8,
}
use Rattle.promises.specs.Served.{Served, Done}
use Rattle.promises.proofs.Runs.{BedRun, bed_served, bed_grid, bed_dims, bed_low, bed_high, bed_plane}
use Rattle.promises.proofs.WholeRuns.{
  BedSixteenRun,
  bed_sixteen_served,
  bed_sixteen_numbers,
  bed_sixteen_dims,
  bed_sixteen_low,
  bed_sixteen_high,
  bed_sixteen_plane,
  BedEightRun,
  bed_eight_served,
  bed_eight_numbers,
  bed_eight_dims,
  bed_eight_low,
  bed_eight_high,
  bed_eight_plane,
}
use Rattle.closed_mesh.proofs.Outcome.{Input, input}
use Rattle.closed_mesh.proofs.Calls.{moved}
use Rattle.weighed_mesh.specs.Told.{weight_of}
use Rattle.weighed_bed.proofs.Outcomes.{BedWeigh, bed_told}
use Rattle.weighed_bed.proofs.Fits.{OwnMesh}
use Rattle.levelled_bed.specs.Layers.{layer_at, below_nth}
use Rattle.tally.specs.declared.Counts.{Counts}
use Rattle.tally.specs.declared.refusal.Refusal.{Refusal}
use Rattle.tally.specs.Answers.{answer_of}
use Rattle.tally.specs.Call.{Told, told_of, nothing, tallied, taken, layer_answer, layer_told}
use Rattle.tally.proofs.Once.{answer-once}
use Rattle.tally.proofs.tally.Kinds as tally-kinds
use Rattle.tally.proofs.tally.Reads as tally
use Rattle.tally.proofs.tally_layer.Kinds as tally-layer-kinds
use Rattle.tally.proofs.tally_layer.Reads as tally-layer
use Rattle.tallied_bed.specs.Calls.{Whole, Offer, last_of, InTurn}
use Rattle.tallied_bed.specs.Between.{Between}
use Rattle.tallied_bed.proofs.Once.{SameWhole, whole-once, SameOffer, offer-once}
use Rattle.tallied_bed.proofs.Layered.{each-answered, last-tells}
use Rattle.tallied_bed.proofs.Bounds.{Same, sum-between, weight-between}

-- the number of what is told is the result's, whatever counts stand beside a refusal
answer-told : (kept : Counts) (r : Result Counts Refusal) → (told_of kept r).answer ≡ answer_of r
answer-told kept (Ok c) = refl
answer-told kept (Err e) = refl

-- ---- tally and tally_layer, at any type of distances

module _ (t : DistanceType) where
  abbrev pub TallyOf : Type 0
  TallyOf =
      Called 2 (tally-kinds.ps t.type t.laws t.copy) (tally-kinds.r t.type t.laws t.copy)
      (tally.Learnt t.type t.laws t.copy t.distance t.distance_dict t.clone t.clone_dict)

  -- on a refusal nothing is counted
  abbrev pub whole_of : TallyOf → Whole
  whole_of u = let (sdf, (k, _)) = u.args in record { sdf = t.distance.floats sdf.now; block = k; says = told_of nothing u.result; said = u.fits }

  abbrev pub LayerOf : Type 0
  LayerOf =
      Called 3 (tally-layer-kinds.ps t.type t.laws t.copy) (tally-layer-kinds.r t.type t.laws t.copy)
      (tally-layer.Learnt t.type t.laws t.copy t.distance t.distance_dict t.clone t.clone_dict)

  -- and a refused layer leaves the counts so far
  abbrev pub offer_of : LayerOf → Offer
  offer_of u =
      let (below, (layer, (k, (z, (c, _))))) = u.args in
      record {
        below = t.distance.floats below.now;
        layer = t.distance.floats layer.now;
        block = k;
        z = z;
        sofar = c;
        says = told_of c u.result;
        said = u.fits;
      }

  -- all layers of a grid in turn are answered 0, and the last tells what the whole call tells
  pub in-turn-of : (u : TallyOf) (o : ℕ → LayerOf) → InTurn (whole_of u) (λ n. offer_of (o n)) → answer_of u.result ≡ 0
      → ((n : ℕ) → n ≤ last_of (whole_of u).block → answer_of (o n).result ≡ 0) × ((o (last_of (whole_of u).block)).result ≡ u.result)
  in-turn-of u o turn done =
      let w = whole_of u in
      let offers : ℕ → Offer = λ n. offer_of (o n) in
      let last = o (last_of w.block) in
      let answered : w.says.answer ≡ 0 = answer-told nothing u.result ∙ done in (
        λ n h. sym (answer-told (offers n).sofar (o n).result) ∙ each-answered w answered offers turn n h,
        answer-once (offer_of last).sofar nothing last.result u.result (last-tells w answered offers turn),
      )

-- ---- one outcome for the same input: the result itself

module _ (t t' : DistanceType) where
  pub tally-alike : (u : TallyOf t) (v : TallyOf t') → SameWhole (whole_of t u) (whole_of t' v) → u.result ≡ v.result
  tally-alike u v s = answer-once nothing nothing u.result v.result (whole-once (whole_of t u) (whole_of t' v) s)

  pub tally-layer-alike : (u : LayerOf t) (v : LayerOf t') → SameOffer (offer_of t u) (offer_of t' v) → u.result ≡ v.result
  tally-layer-alike u v s =
      answer-once (offer_of t u).sofar (offer_of t' v).sofar u.result v.result (offer-once (offer_of t u) (offer_of t' v) s)

-- ---- of floats, and of whole numbers of 16 and of 8 bits

abbrev pub TallyRun : Type 0
TallyRun = TallyOf float-type

abbrev pub whole_run : TallyRun → Whole
whole_run = whole_of float-type

abbrev pub LayerRun : Type 0
LayerRun = LayerOf float-type

abbrev pub offer_run : LayerRun → Offer
offer_run = offer_of float-type

pub tally-in-turn : (u : TallyRun) (o : ℕ → LayerRun) → InTurn (whole_run u) (λ n. offer_run (o n)) → answer_of u.result ≡ 0
    → ((n : ℕ) → n ≤ last_of (whole_run u).block → answer_of (o n).result ≡ 0) × ((o (last_of (whole_run u).block)).result ≡ u.result)
tally-in-turn = in-turn-of float-type

abbrev pub TallyRun16 : Type 0
TallyRun16 = TallyOf sixteen-type

abbrev pub whole_run16 : TallyRun16 → Whole
whole_run16 = whole_of sixteen-type

abbrev pub LayerRun16 : Type 0
LayerRun16 = LayerOf sixteen-type

abbrev pub offer_run16 : LayerRun16 → Offer
offer_run16 = offer_of sixteen-type

pub tally-i16-in-turn : (u : TallyRun16) (o : ℕ → LayerRun16) → InTurn (whole_run16 u) (λ n. offer_run16 (o n)) → answer_of u.result ≡ 0
    → ((n : ℕ) → n ≤ last_of (whole_run16 u).block → answer_of (o n).result ≡ 0) × ((o (last_of (whole_run16 u).block)).result ≡ u.result)
tally-i16-in-turn = in-turn-of sixteen-type

abbrev pub TallyRun8 : Type 0
TallyRun8 = TallyOf eight-type

abbrev pub whole_run8 : TallyRun8 → Whole
whole_run8 = whole_of eight-type

abbrev pub LayerRun8 : Type 0
LayerRun8 = LayerOf eight-type

abbrev pub offer_run8 : LayerRun8 → Offer
offer_run8 = offer_of eight-type

pub tally-i8-in-turn : (u : TallyRun8) (o : ℕ → LayerRun8) → InTurn (whole_run8 u) (λ n. offer_run8 (o n)) → answer_of u.result ≡ 0
    → ((n : ℕ) → n ≤ last_of (whole_run8 u).block → answer_of (o n).result ≡ 0) × ((o (last_of (whole_run8 u).block)).result ≡ u.result)
tally-i8-in-turn = in-turn-of eight-type

-- ---- for C: the counts stand in three words, and a refusal leaves them

-- what stands in the words afterwards
words-hold : {number : ℕ} {t : Told} {left' : List ℕ} (old : List ℕ) → number ≡ t.answer → left' ≡ counts_left t old → number ≡ 0 → counts_in left' ≡ t.counts
words-hold {t = t} old e l z =
    ap counts_in (l ∙ ap (λ (b : Bool). cond b (t.counts.whole ∷ t.counts.vertices ∷ t.counts.indices ∷ []) old) (eq-eqb t.answer 0 (sym e ∙ z)))

abbrev whole_told : List Float → Block → Whole
whole_told sdf k = record { sdf = sdf; block = k; says = tallied sdf k; said = refl }

abbrev pub whole_call : TallyCall → Whole
whole_call u = let (sdf, (words, _)) = u.args in whole_told sdf.now (block_words words.now)

abbrev pub whole_call16 : TallyCall16 → Whole
whole_call16 u = let (sdf, (words, _)) = u.args in whole_told (as_floats sdf.now) (block_words words.now)

abbrev pub whole_call8 : TallyCall8 → Whole
whole_call8 u = let (sdf, (words, _)) = u.args in whole_told (as_floats sdf.now) (block_words words.now)

-- the three words afterwards
abbrev pub words_left : TallyCall → List ℕ
words_left u = let (_, (_, (left', _))) = u.last in left'

abbrev pub words_left16 : TallyCall16 → List ℕ
words_left16 u = let (_, (_, (left', _))) = u.last in left'

abbrev pub words_left8 : TallyCall8 → List ℕ
words_left8 u = let (_, (_, (left', _))) = u.last in left'

-- ---- the bounds: bed_tally, bed_is_enclosed, bed_surface_nets and bed_weigh on the same bed, of floats and of whole numbers

-- what bed_is_enclosed was asked, and answered
abbrev pub test_asked : EnclosedCall → Input
test_asked t =
    let (sdf, (words, _)) = t.args in
    input sdf.now (dims_asked words.now) (low_asked words.now) (high_asked words.now)

abbrev pub test_asked16 : EnclosedCall16 → Input
test_asked16 t =
    let (sdf, (words, _)) = t.args in
    input (as_floats sdf.now) (dims_asked words.now) (low_asked words.now) (high_asked words.now)

abbrev pub test_asked8 : EnclosedCall8 → Input
test_asked8 t =
    let (sdf, (words, _)) = t.args in
    input (as_floats sdf.now) (dims_asked words.now) (low_asked words.now) (high_asked words.now)

-- answer 0 and yes
abbrev pub Yes : EnclosedCall → Type 0
Yes t = let (_, (_, (yes', _))) = t.last in answers t.result yes' ≡ answers 0 true

abbrev pub Yes16 : EnclosedCall16 → Type 0
Yes16 t = let (_, (_, (yes', _))) = t.last in answers t.result yes' ≡ answers 0 true

abbrev pub Yes8 : EnclosedCall8 → Type 0
Yes8 t = let (_, (_, (yes', _))) = t.last in answers t.result yes' ≡ answers 0 true

-- the count's grid and block
pub record Asked : Type 0 where
  pub sdf : List Float
  pub block : Block

abbrev pub asked : Whole → Asked
asked w = record { sdf = w.sdf; block = w.block }

abbrev pub mesh_asked : List Float → Block → Asked
mesh_asked sdf k = record { sdf = sdf; block = k }

-- the sum over the mesh, and what the weighing adds up, are between the counts that stand in the words
words-between : (w : Whole) (u : Served) → Same w u → (left' : List ℕ) → counts_in left' ≡ w.says.counts
    → Between (counts_in left') (weight_of u) × ((v : BedWeigh) → OwnMesh u (bed_told v) → Between (counts_in left') (sum_in (bed_told v).says))
words-between w u s left' e = (rw e (sum-between w u s), λ v o. rw e (weight-between w u s (bed_told v) o))

pub bed-tally-bounds : (c : TallyCall) (t : EnclosedCall) (u : BedRun) → asked (whole_call c) ≡ mesh_asked (bed_grid u) (block_of (bed_dims u) (bed_low u) (bed_high u) (bed_plane u))
    → test_asked t ≡ input (bed_grid u) (bed_dims u) (bed_low u) (bed_high u) → c.result ≡ 0 → Yes t → Done (bed_served u)
    → Between (counts_in (words_left c)) (weight_of (bed_served u)) × ((w : BedWeigh) → OwnMesh (bed_served u) (bed_told w) → Between (counts_in (words_left c)) (sum_in (bed_told w).says))
bed-tally-bounds c t u same test' counted' yes' done =
    words-between (whole_call c) (bed_served u)
    (record {
      counted-all = sym c.fits.0 ∙ counted';
      meshed = done;
      call = λ i. call_of (sym same i).sdf (sym same i).block;
      told = moved test' t.fits yes';
    })
    (words_left c) (words-hold c.args.1.1.0.now c.fits.0 c.fits.1 counted')

pub bed-tally-i16-bounds : (c : TallyCall16) (t : EnclosedCall16) (u : BedSixteenRun)
    → asked (whole_call16 c) ≡ mesh_asked (as_floats (bed_sixteen_numbers u)) (block_of (bed_sixteen_dims u) (bed_sixteen_low u) (bed_sixteen_high u) (bed_sixteen_plane u))
    → test_asked16 t ≡ input (as_floats (bed_sixteen_numbers u)) (bed_sixteen_dims u) (bed_sixteen_low u) (bed_sixteen_high u) → c.result ≡ 0 → Yes16 t → Done (bed_sixteen_served u)
    → Between (counts_in (words_left16 c)) (weight_of (bed_sixteen_served u))
    × ((w : BedWeigh) → OwnMesh (bed_sixteen_served u) (bed_told w) → Between (counts_in (words_left16 c)) (sum_in (bed_told w).says))
bed-tally-i16-bounds c t u same test' counted' yes' done =
    words-between (whole_call16 c) (bed_sixteen_served u)
    (record {
      counted-all = sym c.fits.0 ∙ counted';
      meshed = done;
      call = λ i. call_of (sym same i).sdf (sym same i).block;
      told = moved test' t.fits yes';
    })
    (words_left16 c) (words-hold c.args.1.1.0.now c.fits.0 c.fits.1 counted')

pub bed-tally-i8-bounds : (c : TallyCall8) (t : EnclosedCall8) (u : BedEightRun)
    → asked (whole_call8 c) ≡ mesh_asked (as_floats (bed_eight_numbers u)) (block_of (bed_eight_dims u) (bed_eight_low u) (bed_eight_high u) (bed_eight_plane u))
    → test_asked8 t ≡ input (as_floats (bed_eight_numbers u)) (bed_eight_dims u) (bed_eight_low u) (bed_eight_high u) → c.result ≡ 0 → Yes8 t → Done (bed_eight_served u)
    → Between (counts_in (words_left8 c)) (weight_of (bed_eight_served u))
    × ((w : BedWeigh) → OwnMesh (bed_eight_served u) (bed_told w) → Between (counts_in (words_left8 c)) (sum_in (bed_told w).says))
bed-tally-i8-bounds c t u same test' counted' yes' done =
    words-between (whole_call8 c) (bed_eight_served u)
    (record {
      counted-all = sym c.fits.0 ∙ counted';
      meshed = done;
      call = λ i. call_of (sym same i).sdf (sym same i).block;
      told = moved test' t.fits yes';
    })
    (words_left8 c) (words-hold c.args.1.1.0.now c.fits.0 c.fits.1 counted')

-- ---- the layers for C: each call's words are those that the call before it left

module _ (below layer : List Float) (k : Block) (z : ℕ) (old : List ℕ) where
  -- what the words hold after a call, whatever it answers
  pub words-after : counts_in (counts_left (layer_told below layer k z (counts_in old)) old) ≡ (layer_told below layer k z (counts_in old)).counts
  unfolding layer_told
  words-after = go (eqb (layer_answer below layer k z (counts_in old)) 0)
    where
      go : (b : Bool)
          → (let c = cond b (taken below layer k z (counts_in old)) (counts_in old) in counts_in (cond b (c.whole ∷ c.vertices ∷ c.indices ∷ []) old))
          ≡ cond b (taken below layer k z (counts_in old)) (counts_in old)
      go true = refl
      go false = refl

abbrev offer_told : List Float → List Float → Block → ℕ → List ℕ → Offer
offer_told below layer k z old =
    record { below = below; layer = layer; block = k; z = z; sofar = counts_in old; says = layer_told below layer k z (counts_in old); said = refl }

-- a call with a layer for C: its arguments, the words before and after, and its answer
pub record WordsOffer : Type 0 where
  pub below : List Float
  pub layer : List Float
  pub block : Block
  pub z : ℕ
  pub before : List ℕ
  pub after : List ℕ
  pub answer : ℕ
  pub answered : answer ≡ (layer_told below layer block z (counts_in before)).answer
  pub left : after ≡ counts_left (layer_told below layer block z (counts_in before)) before

abbrev words_offer : (below layer : List Float) (k : Block) (z : ℕ) (old left' : List ℕ) (number : ℕ)
    → CountedOf (layer_told below layer k z (counts_in old)) old left' number → WordsOffer
words_offer below layer k z old left' number said =
    record { below = below; layer = layer; block = k; z = z; before = old; after = left'; answer = number; answered = said.0; left = said.1 }

abbrev pub offer_call : TallyLayerCall → WordsOffer
offer_call u =
    let (below, (layer, (words, (z, (counts, _))))) = u.args in
    let (_, (_, (_, (_, (left', _))))) = u.last in
    words_offer below.now layer.now (block_words words.now) z counts.now left' u.result (tally-layer-by-place u)

abbrev pub offer_call16 : TallyLayerCall16 → WordsOffer
offer_call16 u =
    let (below, (layer, (words, (z, (counts, _))))) = u.args in
    let (_, (_, (_, (_, (left', _))))) = u.last in
    words_offer (as_floats below.now) (as_floats layer.now) (block_words words.now) z counts.now left' u.result (tally-layer-i16-by-place u)

abbrev pub offer_call8 : TallyLayerCall8 → WordsOffer
offer_call8 u =
    let (below, (layer, (words, (z, (counts, _))))) = u.args in
    let (_, (_, (_, (_, (left', _))))) = u.last in
    words_offer (as_floats below.now) (as_floats layer.now) (block_words words.now) z counts.now left' u.result (tally-layer-i8-by-place u)

-- the n-th call has the n-th layer of the grid and the one below it, and the words as the call before it left them
pub record CallsInTurn (w : Whole) (o : ℕ → WordsOffer) : Type 0 where
  pub below : (n : ℕ) → n ≤ last_of w.block → (o n).below ≡ below_nth w.sdf (point w.block.dims) (box_of w.block) n
  pub layer : (n : ℕ) → n ≤ last_of w.block → (o n).layer ≡ layer_at w.sdf (point w.block.dims) (w.block.low.z + n)
  pub block : (n : ℕ) → n ≤ last_of w.block → (o n).block ≡ w.block
  pub z : (n : ℕ) → n ≤ last_of w.block → (o n).z ≡ w.block.low.z + n
  pub next : (n : ℕ) → suc n ≤ last_of w.block → (o (suc n)).before ≡ (o n).after

-- then each is answered 0, and the last leaves the whole call's counts
pub calls-in-turn : (w : Whole) → w.says.answer ≡ 0 → (o : ℕ → WordsOffer) → CallsInTurn w o
    → ((n : ℕ) → n ≤ last_of w.block → (o n).answer ≡ 0) × (counts_in (o (last_of w.block)).after ≡ w.says.counts)
calls-in-turn w counted' o t = (
  λ n h. (o n).answered ∙ each-answered w counted' offers turn n h,
  after (last_of w.block) ∙ ap (λ (s : Told). s.counts) (last-tells w counted' offers turn),
)
  where
    offers : ℕ → Offer
    offers n = offer_told (o n).below (o n).layer (o n).block (o n).z (o n).before

    after : (n : ℕ) → counts_in (o n).after ≡ (offers n).says.counts
    after n = ap counts_in (o n).left ∙ words-after (o n).below (o n).layer (o n).block (o n).z (o n).before

    turn : InTurn w offers
    turn = record { below = t.below; layer = t.layer; block = t.block; z = t.z; next = λ n h. ap counts_in (t.next n h) ∙ after n }

-- and the words of a whole call hold them
words-in-turn : (w : Whole) (o : ℕ → WordsOffer) → CallsInTurn w o → (old : List ℕ) {number : ℕ} {left' : List ℕ} → number ≡ w.says.answer
    → left' ≡ counts_left w.says old → number ≡ 0
    → ((n : ℕ) → n ≤ last_of w.block → (o n).answer ≡ 0) × (counts_in (o (last_of w.block)).after ≡ counts_in left')
words-in-turn w o t old e l z = let all = calls-in-turn w (sym e ∙ z) o t in (all.0, all.1 ∙ sym (words-hold old e l z))

pub bed-tally-in-turn : (c : TallyCall) (o : ℕ → TallyLayerCall) → CallsInTurn (whole_call c) (λ n. offer_call (o n)) → c.result ≡ 0
    → ((n : ℕ) → n ≤ last_of (whole_call c).block → (o n).result ≡ 0)
    × (counts_in (offer_call (o (last_of (whole_call c).block))).after ≡ counts_in (words_left c))
bed-tally-in-turn c o t done =
    words-in-turn (whole_call c) (λ n. offer_call (o n)) t c.args.1.1.0.now c.fits.0 c.fits.1 done

pub bed-tally-i16-in-turn : (c : TallyCall16) (o : ℕ → TallyLayerCall16) → CallsInTurn (whole_call16 c) (λ n. offer_call16 (o n)) → c.result ≡ 0
    → ((n : ℕ) → n ≤ last_of (whole_call16 c).block → (o n).result ≡ 0)
    × (counts_in (offer_call16 (o (last_of (whole_call16 c).block))).after ≡ counts_in (words_left16 c))
bed-tally-i16-in-turn c o t done =
    words-in-turn (whole_call16 c) (λ n. offer_call16 (o n)) t c.args.1.1.0.now c.fits.0 c.fits.1 done

pub bed-tally-i8-in-turn : (c : TallyCall8) (o : ℕ → TallyLayerCall8) → CallsInTurn (whole_call8 c) (λ n. offer_call8 (o n)) → c.result ≡ 0
    → ((n : ℕ) → n ≤ last_of (whole_call8 c).block → (o n).result ≡ 0)
    × (counts_in (offer_call8 (o (last_of (whole_call8 c).block))).after ≡ counts_in (words_left8 c))
bed-tally-i8-in-turn c o t done =
    words-in-turn (whole_call8 c) (λ n. offer_call8 (o n)) t c.args.1.1.0.now c.fits.0 c.fits.1 done
