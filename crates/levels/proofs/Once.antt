-- Each answer has a number of its own: two results that say the same number are the same. Assumes nothing.
use Rattle.std.proofs.Common.{Result, Ok, Err, ◌≡◌, ℕ, cond, eqb, refl, sym, ap, ◌∙◌}
use Rattle.grid.specs.declared.checks.Fault.TheVariants.{Dimensions, Box as BoxFault, Length}
use Rattle.levels.specs.declared.answers.Refusal.{Refusal}
use Rattle.levels.specs.declared.answers.Refusal.TheVariants.{Grid, Distance, Outside, Room}
use Rattle.levels.specs.Answers.{answer_of}

-- the result that says a number
result_of : ℕ → Result (Unit {0}) Refusal
result_of n =
    cond (eqb n 0) (Ok tt)
    (cond (eqb n 1) (Err (Grid Dimensions))
    (cond (eqb n 2) (Err (Grid BoxFault))
    (cond (eqb n 3) (Err (Grid Length))
    (cond (eqb n 5) (Err Distance)
    (cond (eqb n 77) (Err Outside)
    (Err Room))))))

result-back : (r : Result (Unit {0}) Refusal) → result_of (answer_of r) ≡ r
unfolding result_of
result-back (Ok u) = refl
result-back (Err (Grid Dimensions)) = refl
result-back (Err (Grid BoxFault)) = refl
result-back (Err (Grid Length)) = refl
result-back (Err Distance) = refl
result-back (Err Outside) = refl
result-back (Err Room) = refl

pub answer-once : (r s : Result (Unit {0}) Refusal) → answer_of r ≡ answer_of s → r ≡ s
answer-once r s e = sym (result-back r) ∙ (ap result_of e ∙ result-back s)
