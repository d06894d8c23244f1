-- The refusals as the code tries them, and what they leave: blocks that 42 does not refuse. Assumes nothing.
use Rattle.std.proofs.Common.{◌≡◌, ℕ, ◌<◌, ◌≤◌, Bool, true, false, not, ◌||◌, cond, T, List, [], ◌∷◌, map, length, arith, refl, sym, ap, subst, ◌∙◌}
use Rattle.std.specs.Prelude.{All, ◌⊎◌}
use mathlib.Core.Bool.{or-true}
use mathlib.Core.Logic.{inl, inr}
use Rattle.std.specs.List.{list_any}
use borrow.Author.Tests.{lt-ltb, le-ltb}
use lib.ListN.{length-map}
use Rattle.lists.specs.Lists.{some}
use Rattle.lists.proofs.Tests.{less-or-not, nor-left, nor-right}
use Rattle.plan.proofs.Places.{none-places}
use Rattle.plan.specs.declared.Block.{Block}
use Rattle.plan.specs.Plan.{piece, bad_piece, bad_block, plan_answer}

module _ {A : Type 0} (as_block : A → Block) (l : List A) (w : Block) where
  abbrev pub number : ℕ
  number = plan_answer (map (λ a. piece (as_block a)) l) (piece w)

  abbrev bad : A → Bool
  bad a = bad_block (as_block a)

  length-pieces : length (map (λ a. piece (as_block a)) l) ≡ length l
  length-pieces = length-map l (λ a. piece (as_block a))

  some-bad : (l : List A) → some bad_piece (map (λ a. piece (as_block a)) l) ≡ list_any bad l
  unfolding some
  some-bad [] = refl
  some-bad (a ∷ l) = ap (λ t. bad a || t) (some-bad l)

  pub number-41 : 200 < length l → 41 ≡ number
  unfolding plan_answer
  number-41 h = sym (rw (length-pieces, lt-ltb 200 (length l) h) refl)

  number-few : length l ≤ 200 → cond (bad_block w || list_any bad l) 42 0 ≡ number
  unfolding plan_answer
  number-few h = sym (rw (length-pieces, le-ltb 200 (length l) h, some-bad l) refl)

  number-full : length l ≤ 200 → (bad_block w || list_any bad l) ≡ true → 42 ≡ number
  number-full h e = sym (λ i. cond (e i) 42 0) ∙ number-few h

  pub number-42 : length l ≤ 200 → (bad_block w ≡ true) ⊎ (list_any bad l ≡ true) → 42 ≡ number
  number-42 h t = number-full h (either t)
    where
      either : (bad_block w ≡ true) ⊎ (list_any bad l ≡ true) → (bad_block w || list_any bad l) ≡ true
      either (inl e) = ap (λ c. c || list_any bad l) e
      either (inr e) = ap (λ c. bad_block w || c) e ∙ or-true (bad_block w)

  pub number-0 : length l ≤ 200 → bad_block w ≡ false → list_any bad l ≡ false → 0 ≡ number
  number-0 h e f = sym (λ i. cond (e i || f i) 42 0) ∙ number-few h

  abbrev AllGood : Type 0
  AllGood = (length l ≤ 200) × All (λ a. T (not (bad a))) l

  pub number-good : 0 ≡ number → AllGood × T (not (bad_block w))
  number-good e = go (less-or-not 200 (length l))
    where
      fine : length l ≤ 200 → (t : Bool) → (bad_block w || list_any bad l) ≡ t → AllGood × T (not (bad_block w))
      fine h true f = absurd (omega (arith, e, number-full h f))
      fine h false f =
          let n : T (not (bad_block w || list_any bad l)) = subst (λ t. T (not t)) (sym f) tt in
          ((h, λ k d. none-places bad d l (nor-right (bad_block w) (list_any bad l) n) k), nor-left (bad_block w) (list_any bad l) n)

      go : (200 < length l) ⊎ (length l ≤ 200) → AllGood × T (not (bad_block w))
      go (inl h) = absurd (omega (arith, e, number-41 h))
      go (inr h) = fine h (bad_block w || list_any bad l) refl
