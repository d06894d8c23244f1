-- "Show that two outcomes that fit are equal": the answer, the result with it, and the words afterwards; and that the answer goes with that of the check of
-- the plan: an edge is told exactly if it says no, and none exactly if it says yes; and whose the edge is. Assumes nothing.
use Prim.Native.Nat.{ℕ, ◌%◌, ◌≤◌, ◌<◌}
use native.Mathlib.Omega.{arith}
use mathlib.Core.Bool.{Bool, true, false, not, cond}
use mathlib.Core.List.{List, [], ◌∷◌}
use mathlib.Core.Logic.{◌⊎◌, inl, inr}
use mathlib.Core.Path.{◌≡◌, refl, sym, ap, ◌∙◌}
use borrow.Author.Tests.{eq-eqb}
use lib.Dec.{T}
use lib.ListN.{length, get_or}
use Rattle.std.specs.Prelude.{Result, Ok, Err}
use Rattle.lists.specs.Lists.{one, up_to}
use Rattle.lists.proofs.Tests.{less-or-not}
use Rattle.lists.proofs.Lists.{All, none, more, all_keep, length-keep, many-map}
use Rattle.lists.proofs.Runs.{up_to-each}
use Rattle.rules.specs.Grid.{GridPoint, Axis, axis_x, axis_y, axis_z}
use Rattle.rules.specs.Faces.{Edge, edge, owned}
use Rattle.rules.specs.Cutting.{Piece, Plan}
use Rattle.plan.specs.declared.refusal.Refusal.TheVariants.{TooMany, BadBox}
use Rattle.plan.specs.Plan.{plan_answer, Checks}
use Rattle.plan.proofs.Once.{same-refusal as same-why, some-number}
use Rattle.witness.specs.declared.words.NoEdge.{NoEdge}
use Rattle.witness.specs.declared.words.NoEdge.TheVariants.{NotInTwelves, Refused, Planned}
use Rattle.witness.specs.Witness.{piece_in, count_in, pieces_in, owners, Before}
use Rattle.witness.specs.Witness.{FirstWrong, refusal, reason_number, outcome_number, no_block, edge_words, Tells, refused, holds, told}

-- ---- of two edges one comes first

abbrev Apart : Edge → Edge → Type 0
Apart e f = (Before e f ⊎ Before f e) ⊎ (e ≡ f)

points-apart : (a : Axis) (p q : GridPoint) → Apart (edge a p) (edge a q)
points-apart a p q = by-z (less-or-not p.z q.z) (less-or-not q.z p.z)
  where
    by-x : p.z ≡ q.z → p.y ≡ q.y → (p.x < q.x) ⊎ (q.x ≤ p.x) → (q.x < p.x) ⊎ (p.x ≤ q.x) → Apart (edge a p) (edge a q)
    by-x ez ey (inl h) k = inl (inl (inr (refl, inr (ez, inr (ey, h)))))
    by-x ez ey (inr h) (inl k) = inl (inr (inr (refl, inr (sym ez, inr (sym ey, k)))))
    by-x ez ey (inr h) (inr k) = let ex : p.x ≡ q.x = omega arith in inr (λ i. edge a (record { x = ex i; y = ey i; z = ez i }))

    by-y : p.z ≡ q.z → (p.y < q.y) ⊎ (q.y ≤ p.y) → (q.y < p.y) ⊎ (p.y ≤ q.y) → Apart (edge a p) (edge a q)
    by-y ez (inl h) k = inl (inl (inr (refl, inr (ez, inl h))))
    by-y ez (inr h) (inl k) = inl (inr (inr (refl, inr (sym ez, inl k))))
    by-y ez (inr h) (inr k) = by-x ez (omega arith) (less-or-not p.x q.x) (less-or-not q.x p.x)

    by-z : (p.z < q.z) ⊎ (q.z ≤ p.z) → (q.z < p.z) ⊎ (p.z ≤ q.z) → Apart (edge a p) (edge a q)
    by-z (inl h) k = inl (inl (inr (refl, inl h)))
    by-z (inr h) (inl k) = inl (inr (inr (refl, inl k)))
    by-z (inr h) (inr k) = by-y (omega arith) (less-or-not p.y q.y) (less-or-not q.y p.y)

edges-apart : (e f : Edge) → Apart e f
edges-apart e f = go e.axis f.axis
  where
    go : (a b : Axis) → Apart (edge a e.from) (edge b f.from)
    go axis_x axis_x = points-apart axis_x e.from f.from
    go axis_y axis_y = points-apart axis_y e.from f.from
    go axis_z axis_z = points-apart axis_z e.from f.from
    go axis_x axis_y = inl (inl (inl (omega arith)))
    go axis_x axis_z = inl (inl (inl (omega arith)))
    go axis_y axis_z = inl (inl (inl (omega arith)))
    go axis_y axis_x = inl (inr (inl (omega arith)))
    go axis_z axis_x = inl (inr (inl (omega arith)))
    go axis_z axis_y = inl (inr (inl (omega arith)))

pub first-once : (blocks : ℕ → Piece) (n : ℕ) (whole : Piece) (e f : Edge) → FirstWrong blocks n whole e → FirstWrong blocks n whole f → e ≡ f
first-once blocks n whole e f u v = go (edges-apart e f)
  where
    go : Apart e f → e ≡ f
    go (inl (inl h)) = absurd (u.wrong (v.first e h))
    go (inl (inr h)) = absurd (v.wrong (u.first f h))
    go (inr h) = h

-- ---- whose the edge is, by the two numbers that are told

module _ (blocks : ℕ → Piece) (n : ℕ) (whole : Piece) (e : Edge) where
  abbrev owned_by : Piece → Bool
  owned_by q = owned q.box q.flags e

  abbrev Owner : ℕ → Type 0
  Owner i = (i < n) × T (owned_by (blocks i))

  -- no block, and the whole; one block, and not the whole; or two blocks at least
  abbrev pub Whose : ℕ → ℕ → Type 0
  Whose first second =
      ((first ≡ no_block) × (second ≡ no_block) × T (owned_by whole)) ⊎ ((Owner first × (second ≡ no_block) × T (not (owned_by whole))) ⊎ (Owner first × Owner second))

  owners-own : All Owner (owners blocks n whole e)
  owners-own = all_keep (λ (i : ℕ). owned_by (blocks i)) (up_to-each 0 n (λ i _ h t. (h, t)))

  pub whose : FirstWrong blocks n whole e → Whose (get_or (owners blocks n whole e) 0 no_block) (get_or (owners blocks n whole e) 1 no_block)
  whose u = go (owners blocks n whole e) owners-own u.wrong
    where
      owns : (t : Bool) → (0 ≡ one t → ⊥) → T t
      owns true h = tt
      owns false h = h refl

      owns_not : (t : Bool) → (1 ≡ one t → ⊥) → T (not t)
      owns_not true h = h refl
      owns_not false h = tt

      go : (os : List ℕ) → All Owner os → (length os ≡ one (owned_by whole) → ⊥) → Whose (get_or os 0 no_block) (get_or os 1 no_block)
      go [] none h = inl (refl, refl, owns (owned_by whole) h)
      go (a ∷ []) (more p q) h = inr (inl (p, refl, owns_not (owned_by whole) h))
      go (a ∷ b ∷ os) (more p (more q r)) h = inr (inr (p, q))

-- ---- a result that gives nothing, by its number

same-reason : (p q : NoEdge) → reason_number p ≡ reason_number q → p ≡ q
same-reason NotInTwelves NotInTwelves h = refl
same-reason NotInTwelves (Refused TooMany) h = absurd (omega (arith, h))
same-reason NotInTwelves (Refused BadBox) h = absurd (omega (arith, h))
same-reason NotInTwelves Planned h = absurd (omega (arith, h))
same-reason (Refused TooMany) NotInTwelves h = absurd (omega (arith, h))
same-reason (Refused BadBox) NotInTwelves h = absurd (omega (arith, h))
same-reason (Refused e) (Refused f) h = ap Refused (same-why e f h)
same-reason (Refused TooMany) Planned h = absurd (omega (arith, h))
same-reason (Refused BadBox) Planned h = absurd (omega (arith, h))
same-reason Planned NotInTwelves h = absurd (omega (arith, h))
same-reason Planned (Refused TooMany) h = absurd (omega (arith, h))
same-reason Planned (Refused BadBox) h = absurd (omega (arith, h))
same-reason Planned Planned h = refl

some-reason : (p : NoEdge) → reason_number p ≡ 0 → ⊥
some-reason NotInTwelves h = omega (arith, h)
some-reason (Refused why) h = some-number why h
some-reason Planned h = omega (arith, h)

pub one-answer : (r s : Result (Unit {0}) NoEdge) → outcome_number r ≡ outcome_number s → r ≡ s
one-answer (Ok u) (Ok v) h = refl
one-answer (Ok u) (Err q) h = absurd (some-reason q (sym h))
one-answer (Err p) (Ok v) h = absurd (some-reason p h)
one-answer (Err p) (Err q) h = ap Err (same-reason p q h)

module _ (words : List ℕ) (whole : Piece) where
  abbrev FirstOf : Edge → Type 0
  FirstOf e = FirstWrong (piece_in words) (count_in words) whole e

  -- a plan has no wrong edge
  plan-right : Plan (pieces_in words) whole → (e : Edge) → FirstOf e → ⊥
  plan-right h e u =
      u.wrong
      (length-keep (λ (i : ℕ). owned (piece_in words i).box (piece_in words i).flags e) (up_to 0 (count_in words))
      ∙ sym (many-map (λ (q : Piece). owned q.box q.flags e) (piece_in words) (up_to 0 (count_in words))) ∙ h e)

  abbrev told_of : Edge → List ℕ
  told_of e = edge_words e (owners (piece_in words) (count_in words) whole e)

  pub same_outcome : {a a' : ℕ} {old new new' : List ℕ} → Tells words whole a old new → Tells words whole a' old new' → (a ≡ a') × (new ≡ new')
  same_outcome (refused n e k) (refused n' e' k') = (e ∙ sym e', k ∙ sym k')
  same_outcome (refused n e k) (holds z e' h k') = absurd (n z)
  same_outcome (refused n e k) (told z e' f u k') = absurd (n z)
  same_outcome (holds z e h k) (refused n e' k') = absurd (n z)
  same_outcome (holds z e h k) (holds z' e' h' k') = (e ∙ sym e', k ∙ sym k')
  same_outcome (holds z e h k) (told z' e' f u k') = absurd (plan-right h f u)
  same_outcome (told z e f u k) (refused n e' k') = absurd (n z)
  same_outcome (told z e f u k) (holds z' e' h k') = absurd (plan-right h f u)
  same_outcome (told z e f u k) (told z' e' f' u' k') =
      (e ∙ sym e', k ∙ ap told_of (first-once (piece_in words) (count_in words) whole f f' u u') ∙ sym k')

  -- and so the result, which is read from its number
  pub same_result : (r s : Result (Unit {0}) NoEdge) {old new new' : List ℕ} → Tells words whole (outcome_number r) old new → Tells words whole (outcome_number s) old new'
      → (r ≡ s) × (new ≡ new')
  same_result r s t u = let e = same_outcome t u in (one-answer r s e.0, e.1)

  -- ---- with the check of the same plan

  module _ (twelves : length words % 12 ≡ 0) {n : ℕ} {yes' : Bool} (checks : Checks (pieces_in words) whole n yes') where
    same-refusal : refusal words whole ≡ n
    unfolding refusal
    same-refusal = ap (λ (t : Bool). cond t (plan_answer (pieces_in words) whole) 40) (eq-eqb (length words % 12) 0 twelves) ∙ sym checks.number

    -- refused alike
    pub refused-alike : {a : ℕ} {old new : List ℕ} → Tells words whole a old new → (n ≡ 0 → ⊥) → (a ≡ n) × (new ≡ old)
    refused-alike (refused m e k) z = (e ∙ same-refusal, k)
    refused-alike (holds m e h k) z = absurd (z (sym same-refusal ∙ m))
    refused-alike (told m e f u k) z = absurd (z (sym same-refusal ∙ m))

    -- a yes: none is told
    pub yes-none : {a : ℕ} {old new : List ℕ} → Tells words whole a old new → T yes' → (a ≡ 43) × (new ≡ old)
    yes-none (refused m e k) t = absurd (m (same-refusal ∙ (checks.yes t).0))
    yes-none (holds m e h k) t = (e, k)
    yes-none (told m e f u k) t = absurd (plan-right (checks.yes t).1 f u)

    -- a no: the first wrong edge is told
    pub no-told : {a : ℕ} {old new : List ℕ} → Tells words whole a old new → n ≡ 0 → (T yes' → ⊥) → (a ≡ 0) × (e : Edge) × FirstOf e × (new ≡ told_of e)
    no-told (refused m e k) z t = absurd (m (same-refusal ∙ z))
    no-told (holds m e h k) z t = absurd (t (checks.sure z h))
    no-told (told m e f u k) z t = (e, f, u, k)
