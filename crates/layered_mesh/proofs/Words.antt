-- The fifteen numbers that C keeps of a state are that state: after a start, after an offer, and after a refusal, which changes none of them. So the calls
-- for C make the runs that the theorem is about. Assumes nothing.
use Prim.Native.Nat.{ℕ, ◌<◌}
use native.Mathlib.Omega.{arith}
use mathlib.Core.Bool.{Bool, true, false, not, cond}
use mathlib.Core.List.{List}
use mathlib.Core.Path.{◌≡◌, refl, sym, ap, ◌∙◌}
use lib.Dec.{eqb}
use lib.ListN.{length, set, length-set}
use lib.Seq.{set-get_or, get_or-set_same, get_or-set_other}
use lib.Ieee.{Float}
use Rattle.lists.specs.Lists.{one}
use Rattle.rules.specs.Call.{Answer}
use Rattle.grid.specs.declared.Block.{Block}
use Rattle.layers.specs.declared.State.{State}
use Rattle.layers.specs.Memory.{Memory}
use Rattle.layers.specs.Offer.{Output, Left, room_in, is_taken, advanced, new_first, new_vertices, layer_answer, state_after, leaves}
use Rattle.layers.specs.Words.{word_at, flag_at, block_of, state_of, words_of, words_on}
use Rattle.layers.proofs.Left.{refused-state}
use Rattle.layered_mesh.specs.Fed.{Offered}

-- ---- a state's numbers

flag-back : (t : Bool) → not (eqb (one t) 0) ≡ t
flag-back true = refl
flag-back false = refl

pub words-read : (s : State) → state_of (words_of s) ≡ s
words-read s =
    let k = s.block in
    let m = k.max_plane in
    λ j.
    record {
      block =
          record {
            dims = k.dims;
            low = k.low;
            high = k.high;
            max_plane = record { x = flag-back m.x j; y = flag-back m.y j; z = flag-back m.z j };
          };
      taken = s.taken;
      next = s.next;
      first = s.first;
    }

-- ---- a state of the same block

module _ (w : List ℕ) (long : length w ≡ 15) (s : State) where
  -- a number before the last three
  apart : (i : ℕ) → i < 12 → word_at (words_on w s) i ≡ word_at w i
  apart i h =
      let a = set w 12 s.taken in
      let b = set a 13 s.next in
      get_or-set_other b 14 i s.first 0 (λ e. omega arith) ∙ get_or-set_other a 13 i s.next 0 (λ e. omega arith) ∙ get_or-set_other w 12 i s.taken 0 (λ e. omega arith)

  last-three : (word_at (words_on w s) 12 ≡ s.taken) × ((word_at (words_on w s) 13 ≡ s.next) × (word_at (words_on w s) 14 ≡ s.first))
  last-three =
      let a = set w 12 s.taken in
      let b = set a 13 s.next in
      let la = length-set w 12 s.taken in
      let lb = length-set a 13 s.next in (
        get_or-set_other b 14 12 s.first 0 (λ e. omega arith) ∙ get_or-set_other a 13 12 s.next 0 (λ e. omega arith) ∙ get_or-set_same w 12 s.taken 0 (omega arith),
        (get_or-set_other b 14 13 s.first 0 (λ e. omega arith) ∙ get_or-set_same a 13 s.next 0 (omega arith), get_or-set_same b 14 s.first 0 (omega arith)),
      )

  block-stays : block_of (words_on w s) ≡ block_of w
  block-stays =
      let flag : (i : ℕ) → i < 12 → flag_at (words_on w s) i ≡ flag_at w i = λ i h. ap (λ (n : ℕ). not (eqb n 0)) (apart i h) in
      λ j.
      record {
        dims = record { x = apart 0 (omega arith) j; y = apart 1 (omega arith) j; z = apart 2 (omega arith) j };
        low = record { x = apart 3 (omega arith) j; y = apart 4 (omega arith) j; z = apart 5 (omega arith) j };
        high = record { x = apart 6 (omega arith) j; y = apart 7 (omega arith) j; z = apart 8 (omega arith) j };
        max_plane = record { x = flag 9 (omega arith) j; y = flag 10 (omega arith) j; z = flag 11 (omega arith) j };
      }

  pub words-on : s.block ≡ block_of w → state_of (words_on w s) ≡ s
  words-on e =
      let t = last-three in
      (λ j. record { block = block-stays j; taken = t.0 j; next = t.1.0 j; first = t.1.1 j })
      ∙ ap (λ (k : Block). record { block = k; taken = s.taken; next = s.next; first = s.first }) (sym e)

-- a state's own numbers change none
pub words-keep : (w : List ℕ) → words_on w (state_of w) ≡ w
words-keep w =
    let a = set-get_or w 12 0 in
    ap (λ (l : List ℕ). set (set l 13 (word_at w 13)) 14 (word_at w 14)) a ∙ ap (λ (l : List ℕ). set l 14 (word_at w 14)) (set-get_or w 13 0) ∙ set-get_or w 14 0

-- ---- an offer for C

pub block-after : (s : State) (layer : List Float) (m : Memory) (o : Output) → (state_after s layer m o).block ≡ s.block
unfolding state_after
block-after s layer m o = go (is_taken s layer m o)
  where
    go : (t : Bool) → (cond t (advanced s (new_first s layer m.distances) (length (new_vertices s layer m.distances))) s).block ≡ s.block
    go true = refl
    go false = refl

-- a refusal leaves every one of the fifteen numbers
pub refused-words : (w : List ℕ) (layer : List Float) (m : Memory) (o : Output) → ((layer_answer (state_of w) layer m (room_in m o)).number ≡ 0 → ⊥)
    → words_on w (state_after (state_of w) layer m o) ≡ w
refused-words w layer m o h = ap (words_on w) (refused-state (state_of w) layer m o h) ∙ words-keep w

-- what the contract of bed_layers_offer says of fifteen numbers is an offer to the state that they are, and leaves the numbers of the next state
abbrev pub offered-for-c : (w w' : List ℕ) → length w ≡ 15 → (layer : List Float) (m : Memory) (o : Output) (a : Answer) (l : Left)
    → a ≡ layer_answer (state_of w) layer m (room_in m o) → w' ≡ words_on w (state_after (state_of w) layer m o) → l ≡ leaves (state_of w) layer m o → Offered
offered-for-c w w' long layer m o a l ea ew el =
    record {
      state = state_of w;
      layer = layer;
      memory = m;
      lent = o;
      says = a;
      next = state_of w';
      after = l;
      answered = ea;
      moved = ap state_of ew ∙ words-on w long (state_after (state_of w) layer m o) (block-after (state_of w) layer m o);
      left = el;
    }
