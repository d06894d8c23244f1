-- What the code of request 8 says, as the definitions have it: a refusal by its number, and the outcome with the number. Definitions only. Assumes nothing.
use Rattle.std.specs.Prelude.{ℕ, Bool, false, Result, Ok, Err}
use Rattle.grid.specs.Faults.{number_of as fault_number}
use Rattle.skin.specs.declared.Refusal.{Refusal}
use Rattle.skin.specs.declared.Refusal.TheVariants.{Grid, Outside}
use Rattle.skin.specs.Scan.{Tested, answers}

abbrev pub number_of : Refusal → ℕ
number_of (Grid f) = fault_number f
number_of Outside = 77

abbrev pub answer_of : Result Bool Refusal → Tested
answer_of (Ok yes') = answers 0 yes'
answer_of (Err (Grid f)) = answers (fault_number f) false
answer_of (Err Outside) = answers 77 false
