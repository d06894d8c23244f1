-- "Show that two outcomes that fit are equal": an answer with its yes or no that fits a list of blocks and a whole is the only one, and so is the result that
-- they are read from; a result that gives nothing is read from its number alone. Assumes nothing.
use Prim.Native.Nat.{ℕ}
use mathlib.Core.Bool.{Bool}
use mathlib.Core.List.{List}
use mathlib.Core.Path.{◌≡◌, refl, sym, ap, ◌∙◌}
use native.Mathlib.Omega.{arith}
use Rattle.std.specs.Prelude.{Result, Ok, Err}
use Rattle.rules.specs.Cutting.{Piece}
use Rattle.lists.proofs.Tests.{same_test}
use Rattle.plan.specs.declared.refusal.Refusal.{Refusal}
use Rattle.plan.specs.declared.refusal.Refusal.TheVariants.{TooMany, BadBox}
use Rattle.plan.specs.Plan.{Checks, refusal_number, answer_number, is_yes}

-- ---- a refusal is read from its number, and so is a result that gives nothing

pub same-refusal : (e f : Refusal) → refusal_number e ≡ refusal_number f → e ≡ f
same-refusal TooMany TooMany h = refl
same-refusal TooMany BadBox h = absurd (omega (arith, h))
same-refusal BadBox TooMany h = absurd (omega (arith, h))
same-refusal BadBox BadBox h = refl

pub some-number : (e : Refusal) → refusal_number e ≡ 0 → ⊥
some-number TooMany h = omega (arith, h)
some-number BadBox h = omega (arith, h)

pub one-answer : (r s : Result (Unit {0}) Refusal) → answer_number r ≡ answer_number s → r ≡ s
one-answer (Ok u) (Ok v) h = refl
one-answer (Ok u) (Err f) h = absurd (some-number f (sym h))
one-answer (Err e) (Ok v) h = absurd (some-number e h)
one-answer (Err e) (Err f) h = ap Err (same-refusal e f h)

-- ---- an answer with its yes or no

module _ (ps : List Piece) (w : Piece) where
  pub same_answer : {a a' : ℕ} {h h' : Bool} → Checks ps w a h → Checks ps w a' h' → a ≡ a'
  same_answer c c' = c.number ∙ sym c'.number

  pub same-holds : {a a' : ℕ} {h h' : Bool} → Checks ps w a h → Checks ps w a' h' → h ≡ h'
  same-holds {h = h} {h' = h'} c c' =
      same_test h h' (λ t. c'.sure (sym (same_answer c c') ∙ (c.yes t).0) (c.yes t).1) (λ t. c.sure (same_answer c c' ∙ (c'.yes t).0) (c'.yes t).1)

  read_alike : (r s : Result Bool Refusal) → answer_number r ≡ answer_number s → is_yes r ≡ is_yes s → r ≡ s
  read_alike (Ok a) (Ok b) h k = ap Ok k
  read_alike (Ok a) (Err f) h k = absurd (some-number f (sym h))
  read_alike (Err e) (Ok b) h k = absurd (some-number e h)
  read_alike (Err e) (Err f) h k = ap Err (same-refusal e f h)

  pub same_result : (r s : Result Bool Refusal) → Checks ps w (answer_number r) (is_yes r) → Checks ps w (answer_number s) (is_yes s) → r ≡ s
  same_result r s c d = read_alike r s (same_answer c d) (same-holds c d)
