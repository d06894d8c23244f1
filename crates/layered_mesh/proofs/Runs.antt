-- The calls of `State::offer`, and of bed_layers_offer, with an outcome that fits the contract: each is an offer with what came of it. So the theorems over offers are
-- theorems over the generated contracts. Last, all layers of a grid offered in turn by calls, of either: each is answered 0, and what came out is the whole call's mesh.
-- Assumes nothing.
use Prim.Native.Nat.{ℕ, suc, ◌+◌, ◌<◌}
use mathlib.Core.List.{List}
use mathlib.Core.Path.{◌≡◌, ap, ◌∙◌}
use lib.Ieee.{Float}
use lib.ListN.{length}
use contract.Lifetimes.{Lfts}
use borrow.Fn.Kinds.{Dens}
use Rattle.rules.specs.Call.{Buffers, answers, answer, room, afterwards}
use Rattle.grid.specs.declared.Block.{Block}
use Rattle.grid.specs.Block.{call_of}
use Rattle.layers.specs.Answer.{answer_of}
use Rattle.layers.specs.Memory.{Memory, memory, lengths, start_answer}
use Rattle.layers.specs.Offer.{begun, output, left}
use Rattle.layers.specs.Words.{state_of, words_of}
use Rattle.layers.proofs.State.offer.Kinds as offer-kinds
use Rattle.layers.proofs.State.offer.Reads as offer
use Rattle.bed.specs.Boundary.{said}
use Rattle.bed.proofs.Places.{OfferCall}
use Rattle.promises.proofs.OneOutcome.{Outcome, FitsContract}
use Rattle.layered_mesh.specs.Fed.{Offered, first_of, map_apart, layer_of, vertices_with, indices_with, points_in_z}
use Rattle.layered_mesh.proofs.Words.{words-read, offered-for-c}
use Rattle.layered_mesh.proofs.Taken.{AsLong, InTurn, out_at, all-taken, all-out}

-- ---- State::offer

-- arguments, an outcome, and that it fits the contract
pub record Run : Type 0 where
  pub lifetimes : Lfts 11
  pub args : Dens lifetimes offer-kinds.ps
  pub outcome : Outcome 11 offer-kinds.ps offer-kinds.r lifetimes args
  pub fits : FitsContract 11 offer-kinds.ps offer-kinds.r offer.Learnt lifetimes args outcome

abbrev pub offered : Run → Offered
offered u =
    let (s, (layer, (distances, (map, (kept, (positions, (normals, (cells, (strides, (crossings, (indices, _))))))))))) = u.args in
    let (s', (_, (distances', (map', (kept', (positions', (normals', (cells', (strides', (crossings', (indices', _))))))))))) = u.outcome.last in
    record {
      state = s.now;
      layer = layer.now;
      memory = memory distances.now map.now kept.now;
      lent = output positions.now normals.now cells.now strides.now crossings.now indices.now;
      says = answer_of u.outcome.result;
      next = s';
      after = left (memory distances' map' kept') (output positions' normals' cells' strides' crossings' indices');
      answered = u.fits.0;
      moved = u.fits.1.0;
      left = u.fits.1.1;
    }

-- ---- bed_layers_offer

-- the fifteen numbers of the state, before and after
abbrev pub words_before : OfferCall → List ℕ
words_before u = u.args.0.now

abbrev pub words_after : OfferCall → List ℕ
words_after u = u.last.0

abbrev pub bed_offered : (u : OfferCall) → length (words_before u) ≡ 15 → Offered
bed_offered u long =
    let (_, (layer, (distances, (map, (kept, (positions, (normals, (cells, (strides, (crossings, (indices, _))))))))))) = u.args in
    let (_, (_, (distances', (map', (kept', (positions', (normals', (cells', (strides', (crossings', (indices', (v, (i, _))))))))))))) = u.last in
    offered-for-c (words_before u) (words_after u) long layer.now (memory distances.now map.now kept.now)
    (output positions.now normals.now cells.now strides.now crossings.now indices.now) (said u.result v i)
    (left (memory distances' map' kept') (output positions' normals' cells' strides' crossings' indices')) u.fits.0 u.fits.1.0 u.fits.1.1

-- ---- all layers in turn, beside an accepted whole call

module _ (sdf : List Float) (k : Block) (t : Buffers) (done : (answer (call_of sdf k) (room t)).number ≡ 0) (m : Memory) where
  -- by calls of `offer`
  module _ (runs : ℕ → Run) (in-turn : InTurn sdf k t done m (λ n. offered (runs n))) where
    pub offers-taken : (n : ℕ) → n < points_in_z k → answer_of (runs n).outcome.result ≡ answers 0 (length (vertices_with sdf k n)) (length (indices_with sdf k n))
    offers-taken = all-taken sdf k t done m (λ n. offered (runs n)) in-turn

    pub offers-out : out_at sdf k t done m (λ n. offered (runs n)) in-turn (points_in_z k)
        ≡ first_of (answer (call_of sdf k) (room t)).vertices (answer (call_of sdf k) (room t)).indices (map_apart (afterwards (call_of sdf k) t))
    offers-out = all-out sdf k t done m (λ n. offered (runs n)) in-turn

  -- by calls for C: the first with the fifteen numbers that bed_layers_start leaves, each other with those that the call before it left
  pub record BedInTurn (runs : ℕ → OfferCall) : Type 0 where
    pub fifteen : (n : ℕ) → length (words_before (runs n)) ≡ 15
    pub began : start_answer k (lengths m) ≡ 0
    pub first-words : words_before (runs 0) ≡ words_of (begun k)
    pub first-memory : (bed_offered (runs 0) (fifteen 0)).memory ≡ m
    pub next-words : (n : ℕ) → suc n < points_in_z k → words_before (runs (suc n)) ≡ words_after (runs n)
    pub next-memory : (n : ℕ) → suc n < points_in_z k → (bed_offered (runs (suc n)) (fifteen (suc n))).memory ≡ (bed_offered (runs n) (fifteen n)).after.memory
    pub layer : (n : ℕ) → n < points_in_z k → (bed_offered (runs n) (fifteen n)).layer ≡ layer_of sdf k (k.low.z + n)
    pub long : (n : ℕ) → n < points_in_z k → AsLong (bed_offered (runs n) (fifteen n)).lent t

  module _ (runs : ℕ → OfferCall) (in-turn : BedInTurn runs) where
    abbrev pub bed_offers : ℕ → Offered
    bed_offers n = bed_offered (runs n) (in-turn.fifteen n)

    pub bed-in-turn : InTurn sdf k t done m bed_offers
    bed-in-turn =
        record {
          began = in-turn.began;
          first-state = ap state_of in-turn.first-words ∙ words-read (begun k);
          first-memory = in-turn.first-memory;
          next-state = λ n h. ap state_of (in-turn.next-words n h);
          next-memory = in-turn.next-memory;
          layer = in-turn.layer;
          long = in-turn.long;
        }

    pub bed-offers-taken : (n : ℕ) → n < points_in_z k → (bed_offers n).says ≡ answers 0 (length (vertices_with sdf k n)) (length (indices_with sdf k n))
    bed-offers-taken = all-taken sdf k t done m bed_offers bed-in-turn

    pub bed-offers-out : out_at sdf k t done m bed_offers bed-in-turn (points_in_z k)
        ≡ first_of (answer (call_of sdf k) (room t)).vertices (answer (call_of sdf k) (room t)).indices (map_apart (afterwards (call_of sdf k) t))
    bed-offers-out = all-out sdf k t done m bed_offers bed-in-turn
