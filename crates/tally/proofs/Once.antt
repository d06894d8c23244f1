-- Each answer has a number of its own: two results that tell the same number and the same counts are the same. Assumes nothing.
use Rattle.std.proofs.Common.{Result, Ok, Err, ◌≡◌, cond, eqb, refl, sym, ap, ◌∙◌}
use Rattle.grid.specs.declared.checks.Fault.TheVariants.{Dimensions, Box as BoxFault, Length}
use Rattle.tally.specs.declared.Counts.{Counts}
use Rattle.tally.specs.declared.refusal.Refusal.{Refusal}
use Rattle.tally.specs.declared.refusal.Refusal.TheVariants.{Grid, Distance, Outside, TooMany}
use Rattle.tally.specs.Call.{Told, told_of}

-- the result that tells it
result_of : Told → Result Counts Refusal
result_of t =
    cond (eqb t.answer 0) (Ok t.counts)
    (cond (eqb t.answer 1) (Err (Grid Dimensions))
    (cond (eqb t.answer 2) (Err (Grid BoxFault))
    (cond (eqb t.answer 3) (Err (Grid Length))
    (cond (eqb t.answer 5) (Err Distance)
    (cond (eqb t.answer 91) (Err Outside)
    (Err TooMany))))))

result-back : (kept : Counts) (r : Result Counts Refusal) → result_of (told_of kept r) ≡ r
unfolding result_of
result-back kept (Ok c) = refl
result-back kept (Err (Grid Dimensions)) = refl
result-back kept (Err (Grid BoxFault)) = refl
result-back kept (Err (Grid Length)) = refl
result-back kept (Err Distance) = refl
result-back kept (Err Outside) = refl
result-back kept (Err TooMany) = refl

-- whatever counts stood beside them
pub answer-once : (kept kept' : Counts) (r s : Result Counts Refusal) → told_of kept r ≡ told_of kept' s → r ≡ s
answer-once kept kept' r s e = sym (result-back kept r) ∙ (ap result_of e ∙ result-back kept' s)
