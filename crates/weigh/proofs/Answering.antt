-- The answers: what one tells of the call, and what each failed test says. Assumes nothing.
use Rattle.std.proofs.Common.{◌≡◌, ℕ, ◌+◌, ◌-◌, ◌*◌, ◌/◌, ◌^◌, ◌<◌, ◌≤◌, false, cond, eqb, ltb, leb, List, length, sym, refl, ap, ◌∙◌, arith, ltb-false, leb-false}
use Rattle.lists.proofs.Either.{or_left, or_right}
use Rattle.std.specs.Prelude.{Result, Ok, Err}
use Rattle.weigh.specs.declared.Weight.{Weight}
use Rattle.weigh.specs.declared.Refusal.{Refusal}
use Rattle.weigh.specs.declared.Refusal.TheVariants.{NotThrees, Beyond, NoVertex, TooMany, Wide}
use Rattle.weigh.specs.Answers.{Answer, no_vertex, too_many, told_by}

-- ---- what a call gives is told by its numbers alone

abbrev outcome : Answer → Result Weight Refusal
outcome a =
    cond (eqb a.answer 0) (Ok (record { low = a.low; high = a.high; shadow = a.shadow }))
    (cond (eqb a.answer 61) (Err NotThrees)
    (cond (eqb a.answer 63) (Err Beyond) (cond (eqb a.answer 64) (Err NoVertex) (cond (eqb a.answer 75) (Err TooMany) (Err Wide)))))

outcome-back : (r : Result Weight Refusal) → outcome (told_by r) ≡ r
outcome-back (Ok w) = refl
outcome-back (Err NotThrees) = refl
outcome-back (Err Beyond) = refl
outcome-back (Err NoVertex) = refl
outcome-back (Err TooMany) = refl
outcome-back (Err Wide) = refl

pub told-once : (r s : Result Weight Refusal) → told_by r ≡ told_by s → r ≡ s
told-once r s e = sym (outcome-back r) ∙ ap outcome e ∙ outcome-back s

-- ---- what failed tests say

pub few-enough : (i : List ℕ) → too_many (length i) ≡ false → length i / 3 ≤ 2 ^ 33
few-enough i e = ltb-false (2 ^ 33) (length i / 3) e

-- an index that is not without its vertex
pub has_vertex : (first n v : ℕ) → no_vertex first (n / 3) v ≡ false → (first ≤ v) × (3 * (v - first) + 3 ≤ n)
has_vertex first n v e =
    let h : first ≤ v = ltb-false v first (or_left (ltb v first) (leb (first + n / 3) v) e) in
    let k : v < first + n / 3 = leb-false (first + n / 3) v (or_right (ltb v first) (leb (first + n / 3) v) e) in
    (h, omega arith)
