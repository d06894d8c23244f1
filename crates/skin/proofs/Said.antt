-- The reading of an answer loses nothing: two that say the same are the same. Assumes nothing.
use mathlib.Core.Bool.{Bool, cond}
use mathlib.Core.Path.{◌≡◌, refl, sym, ap, ◌∙◌}
use lib.Dec.{eqb}
use Rattle.std.specs.Prelude.{Result, Ok, Err}
use Rattle.grid.specs.declared.checks.Fault.TheVariants.{Dimensions, Box, Length}
use Rattle.skin.specs.declared.Refusal.{Refusal}
use Rattle.skin.specs.declared.Refusal.TheVariants.{Grid, Outside}
use Rattle.skin.specs.Scan.{Tested}
use Rattle.skin.specs.Answer.{answer_of}

abbrev unsaid : Tested → Result Bool Refusal
unsaid t =
    cond (eqb t.answer 0) (Ok t.enclosed)
    (cond (eqb t.answer 1) (Err (Grid Dimensions))
    (cond (eqb t.answer 2) (Err (Grid Box))
    (cond (eqb t.answer 3) (Err (Grid Length))
    (Err Outside))))

unsaid-is : (r : Result Bool Refusal) → unsaid (answer_of r) ≡ r
unsaid-is (Ok yes') = refl
unsaid-is (Err (Grid Dimensions)) = refl
unsaid-is (Err (Grid Box)) = refl
unsaid-is (Err (Grid Length)) = refl
unsaid-is (Err Outside) = refl

pub same-said : (r s : Result Bool Refusal) → answer_of r ≡ answer_of s → r ≡ s
same-said r s e = sym (unsaid-is r) ∙ ap unsaid e ∙ unsaid-is s
