-- The answers as their numbers. Definitions only. Assumes nothing.
use Rattle.std.specs.Prelude.{ℕ, Result, Ok, Err}
use Rattle.grid.specs.Faults.{number_of as fault_number}
use Rattle.levels.specs.declared.answers.Refusal.{Refusal}
use Rattle.levels.specs.declared.answers.Refusal.TheVariants.{Grid, Distance, Outside, Room}

abbrev pub number_of : Refusal → ℕ
number_of (Grid f) = fault_number f
number_of Distance = 5
number_of Outside = 77
number_of Room = 78

abbrev pub answer_of : {A : Type 0} → Result A Refusal → ℕ
answer_of (Ok _) = 0
answer_of (Err r) = number_of r
