-- The theorems for calls as the contracts have them: a call on a whole grid, a call with one layer, layers one after the other, and one outcome for the same
-- input. Functions, beside this, says which functions make such calls. Assumes nothing.
use Prim.Native.Nat.{ℕ, zero, suc, ◌+◌, ◌-◌, ◌≤◌}
use native.Mathlib.Nat.{le_refl}
use native.Mathlib.Omega.{arith}
use mathlib.Core.Bool.{false}
use mathlib.Core.List.{List}
use mathlib.Core.Path.{◌≡◌, refl, sym, ap, ◌∙◌}
use lib.ListN.{length}
use lib.Ieee.{Float}
use Rattle.lists.specs.Floats.{Binary32}
use Rattle.rules.specs.Grid.{GridPoint, Box}
use Rattle.rules.specs.Call.{bad_length}
use Rattle.levels.specs.Columns.{columns}
use Rattle.levels.specs.Call.{levels_answer, levels_after, layer_answer, layer_after}
use Rattle.levels.proofs.Changed.{changed-length}
use Rattle.levels.proofs.Answering.{Accepted, levels-accepted}
use Rattle.levelled_bed.specs.Layers.{layer_at, below_nth, after_layers}
use Rattle.levelled_bed.proofs.Told.{Levelled}
use Rattle.levelled_bed.proofs.Layered.{layer-accepted, levels_to, after-layers, layers-are-whole}
use Rattle.levelled_bed.proofs.Accepting.{whole-accepted, layer-length-kept}

-- ---- a call on a whole grid, and a call with one layer: what went in, what came back, and what the contract says of it

pub record Whole : Type 0 where
  pub sdf : List Float
  pub dims : GridPoint
  pub box : Box
  pub entry : List Float
  pub exit : List Float
  pub answer : ℕ
  pub said : answer ≡ levels_answer sdf dims box (length entry)
  pub left : exit ≡ levels_after sdf dims box entry
  pub numbers : Binary32 sdf

pub record Offer : Type 0 where
  pub below : List Float
  pub layer : List Float
  pub dims : GridPoint
  pub box : Box
  pub z : ℕ
  pub entry : List Float
  pub exit : List Float
  pub answer : ℕ
  pub said : answer ≡ layer_answer below layer dims box z (length entry)
  pub left : exit ≡ layer_after below layer dims box z entry

-- an answered call
pub whole-levelled : (w : Whole) → w.answer ≡ 0 → Levelled w.sdf w.dims w.box w.entry w.exit
whole-levelled w e = record { done = sym w.said ∙ e; left = w.left; numbers = w.numbers }

-- ---- one outcome for the same input

pub record SameWhole (w w' : Whole) : Type 0 where
  pub sdf : w.sdf ≡ w'.sdf
  pub dims : w.dims ≡ w'.dims
  pub box : w.box ≡ w'.box
  pub entry : w.entry ≡ w'.entry

pub whole-once : (w w' : Whole) → SameWhole w w' → (w.answer ≡ w'.answer) × (w.exit ≡ w'.exit)
whole-once w w' s = (
  w.said ∙ ((λ i. levels_answer (s.sdf i) (s.dims i) (s.box i) (length (s.entry i))) ∙ sym w'.said),
  w.left ∙ ((λ i. levels_after (s.sdf i) (s.dims i) (s.box i) (s.entry i)) ∙ sym w'.left),
)

pub record SameOffer (o o' : Offer) : Type 0 where
  pub below : o.below ≡ o'.below
  pub layer : o.layer ≡ o'.layer
  pub dims : o.dims ≡ o'.dims
  pub box : o.box ≡ o'.box
  pub z : o.z ≡ o'.z
  pub entry : o.entry ≡ o'.entry

pub offer-once : (o o' : Offer) → SameOffer o o' → (o.answer ≡ o'.answer) × (o.exit ≡ o'.exit)
offer-once o o' s = (
  o.said ∙ ((λ i. layer_answer (s.below i) (s.layer i) (s.dims i) (s.box i) (s.z i) (length (s.entry i))) ∙ sym o'.said),
  o.left ∙ ((λ i. layer_after (s.below i) (s.layer i) (s.dims i) (s.box i) (s.z i) (s.entry i)) ∙ sym o'.left),
)

-- ---- layers one after the other

-- how many layers the box has above its lowest
abbrev pub last_of : Box → ℕ
last_of b = b.high.z - b.low.z

-- the n-th call has the n-th layer of the grid and the one below it, and the list that the call before it left
pub record InTurn (w : Whole) (o : ℕ → Offer) : Type 0 where
  pub below : (n : ℕ) → n ≤ last_of w.box → (o n).below ≡ below_nth w.sdf w.dims w.box n
  pub layer : (n : ℕ) → n ≤ last_of w.box → (o n).layer ≡ layer_at w.sdf w.dims (w.box.low.z + n)
  pub dims : (n : ℕ) → n ≤ last_of w.box → (o n).dims ≡ w.dims
  pub box : (n : ℕ) → n ≤ last_of w.box → (o n).box ≡ w.box
  pub z : (n : ℕ) → n ≤ last_of w.box → (o n).z ≡ w.box.low.z + n
  pub first : (o 0).entry ≡ w.entry
  pub next : (n : ℕ) → suc n ≤ last_of w.box → (o (suc n)).entry ≡ (o n).exit

module _ (w : Whole) (done : w.answer ≡ 0) (o : ℕ → Offer) (t : InTurn w o) where
  abbrev after : ℕ → List Float
  after n = after_layers w.sdf w.dims w.box n w.entry

  accepted : Accepted w.sdf w.dims w.box (length w.entry)
  accepted = levels-accepted w.sdf w.dims w.box (length w.entry) (sym w.said ∙ done)

  as_long : (n : ℕ) → n ≤ last_of w.box → length (after n) ≡ length w.entry
  unfolding after_layers
  as_long zero h = refl
  as_long (suc n) h =
      let under : n ≤ last_of w.box = omega arith in
      ap length (after-layers w.sdf w.dims w.box accepted n under w.entry refl)
      ∙ changed-length (levels_to w.sdf w.dims w.box accepted n) 0 (columns w.box) w.entry

  answered : (n : ℕ) (h : n ≤ last_of w.box) → (o n).entry ≡ after n → (o n).answer ≡ 0
  answered n h e =
      (o n).said
      ∙ ((λ i. layer_answer (t.below n h i) (t.layer n h i) (t.dims n h i) (t.box n h i) (t.z n h i) (length (e i)))
      ∙ (ap (layer_answer (below_nth w.sdf w.dims w.box n) (layer_at w.sdf w.dims (w.box.low.z + n)) w.dims w.box (w.box.low.z + n)) (as_long n h)
      ∙ layer-accepted w.sdf w.dims w.box accepted n h))

  leaves : (n : ℕ) (h : n ≤ last_of w.box) → (o n).entry ≡ after n → (o n).exit ≡ after (suc n)
  unfolding after_layers
  leaves n h e = (o n).left ∙ (λ i. layer_after (t.below n h i) (t.layer n h i) (t.dims n h i) (t.box n h i) (t.z n h i) (e i))

  enters : (n : ℕ) → n ≤ last_of w.box → (o n).entry ≡ after n
  unfolding after_layers
  enters zero h = t.first
  enters (suc n) h = let under : n ≤ last_of w.box = omega arith in t.next n h ∙ leaves n under (enters n under)

  -- each layer is answered 0
  pub each-answered : (n : ℕ) → n ≤ last_of w.box → (o n).answer ≡ 0
  each-answered n h = answered n h (enters n h)

  -- and what the last one leaves is what the whole call leaves
  pub last-leaves : (o (last_of w.box)).exit ≡ w.exit
  last-leaves =
      leaves (last_of w.box) (le_refl _) (enters (last_of w.box) (le_refl _))
      ∙ (layers-are-whole w.sdf w.dims w.box w.entry (sym w.said ∙ done) accepted ∙ sym w.left)

  pub all-in-turn : ((n : ℕ) → n ≤ last_of w.box → (o n).answer ≡ 0) × ((o (last_of w.box)).exit ≡ w.exit)
  all-in-turn = (each-answered, last-leaves)

-- the other way round: each layer answered 0, and a grid of the right length
module _ (w : Whole) (fits : bad_length w.dims (length w.sdf) ≡ false) (o : ℕ → Offer) (t : InTurn w o) (each : (n : ℕ) → n ≤ last_of w.box → (o n).answer ≡ 0) where
  long : (n : ℕ) → n ≤ last_of w.box → length (o n).entry ≡ length w.entry
  long zero h = ap length t.first
  long (suc n) h =
      let under : n ≤ last_of w.box = omega arith in
      ap length (t.next n h)
      ∙ (ap length (o n).left ∙ (layer-length-kept (o n).below (o n).layer (o n).dims (o n).box (o n).z (o n).entry ∙ long n under))

  pub whole-answered : w.answer ≡ 0
  whole-answered =
      w.said
      ∙ whole-accepted w.sdf w.dims w.box (length w.entry) fits
      (λ n h.
      (λ i. layer_answer (sym (t.below n h) i) (sym (t.layer n h) i) (sym (t.dims n h) i) (sym (t.box n h) i) (sym (t.z n h) i) (sym (long n h) i))
      ∙ (sym (o n).said ∙ each n h))
