-- The answers: what one tells of the call, and what each failed test says. Assumes nothing.
use Prim.Native.Nat.{ℕ, ◌/◌, ◌%◌, ◌≤◌}
use mathlib.Core.Bool.{Bool, true, false, not, ◌||◌, cond, true≢false}
use mathlib.Core.List.{List}
use mathlib.Core.Path.{◌≡◌, refl, sym, ap, ◌∙◌}
use borrow.Author.Tests.{eqb-true, ltb-false}
use lib.Dec.{eqb}
use lib.IntN.{ℤ}
use lib.ListN.{length}
use lib.Ieee.{Float}
use Rattle.lists.proofs.Either.{or_right}
use Rattle.std.specs.Prelude.{Result, Ok, Err}
use Rattle.volume.specs.declared.Refusal.{Refusal}
use Rattle.volume.specs.declared.Refusal.TheVariants.{NotThrees, TooMany, Outside, NoVertex}
use Rattle.volume.specs.Answers.{Weighed, not_threes, too_many, told_by}

-- 61, by the lengths of the positions and the indices
abbrev pub bad_threes : List Float → List ℕ → Bool
bad_threes p i = not_threes (length p) || not_threes (length i)

-- ---- what a call gives is told by its numbers alone

abbrev outcome : Weighed → Result ℤ Refusal
outcome w =
    cond (eqb w.answer 0) (Ok w.volume) (cond (eqb w.answer 61) (Err NotThrees) (cond (eqb w.answer 62) (Err TooMany) (cond (eqb w.answer 63) (Err Outside) (Err NoVertex))))

outcome-back : (r : Result ℤ Refusal) → outcome (told_by r) ≡ r
outcome-back (Ok v) = refl
outcome-back (Err NotThrees) = refl
outcome-back (Err TooMany) = refl
outcome-back (Err Outside) = refl
outcome-back (Err NoVertex) = refl

pub told-once : (r s : Result ℤ Refusal) → told_by r ≡ told_by s → r ≡ s
told-once r s e = sym (outcome-back r) ∙ ap outcome e ∙ outcome-back s

-- ---- what failed tests say

not-no : (t : Bool) → not t ≡ false → t ≡ true
not-no true e = refl
not-no false e = absurd (true≢false e)

pub in-threes : (p : List Float) (i : List ℕ) → bad_threes p i ≡ false → length i % 3 ≡ 0
in-threes p i e = eqb-true (length i % 3) 0 (not-no (eqb (length i % 3) 0) (or_right (not_threes (length p)) (not_threes (length i)) e))

pub few-enough : (i : List ℕ) → too_many (length i) ≡ false → length i / 3 ≤ 16384
few-enough i e = ltb-false 16384 (length i / 3) e
