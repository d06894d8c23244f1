-- Each answer has a number of its own: no refusal has 0, and the number says which answer it is. Assumes nothing.
use Rattle.std.proofs.Common.{Result, Ok, Err, ◌≡◌, ℕ, cond, eqb, refl, sym, ap, ◌∙◌, arith}
use Rattle.closing.specs.declared.refusal.Refusal.{Refusal}
use Rattle.closing.specs.declared.refusal.Refusal.TheVariants.{Dimensions, Length, Height, Wall, ClosedDimensions, Room}
use Rattle.closing.specs.Refused.{number_of, answer_of}

pub refusal-some : {n : ℕ} (r : Refusal) → number_of r ≡ n → n ≡ 0 → ⊥
refusal-some Dimensions e z = omega arith
refusal-some Length e z = omega arith
refusal-some Height e z = omega arith
refusal-some Wall e z = omega arith
refusal-some ClosedDimensions e z = omega arith
refusal-some Room e z = omega arith

abbrev refusal_with : ℕ → Refusal
refusal_with n =
    cond (eqb n 1) Dimensions (cond (eqb n 3) Length (cond (eqb n 71) Height (cond (eqb n 72) Wall (cond (eqb n 73) ClosedDimensions Room))))

with-number : (r : Refusal) → refusal_with (number_of r) ≡ r
with-number Dimensions = refl
with-number Length = refl
with-number Height = refl
with-number Wall = refl
with-number ClosedDimensions = refl
with-number Room = refl

-- two answers that give nothing and have one number are one
pub one-answer : (a b : Result (Unit {0}) Refusal) → answer_of a ≡ answer_of b → a ≡ b
one-answer (Ok u) (Ok v) h = refl
one-answer (Ok u) (Err e) h = absurd (refusal-some e (sym h) refl)
one-answer (Err d) (Ok v) h = absurd (refusal-some d h refl)
one-answer (Err d) (Err e) h = ap Err (sym (with-number d) ∙ (ap refusal_with h ∙ with-number e))
