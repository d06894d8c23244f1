-- The answers as their numbers, and what the levels' refusals mean here. Definitions only. Assumes nothing.
use Rattle.std.specs.Prelude.{ℕ, Result, Ok, Err}
use Rattle.grid.specs.Faults.{number_of as fault_number}
use Rattle.levels.specs.declared.answers.Refusal.{Refusal as LevelsRefusal}
use Rattle.levels.specs.declared.answers.Refusal.TheVariants.{Grid as LevelsGrid, Distance as LevelsDistance, Outside as LevelsOutside, Room}
use Rattle.tally.specs.declared.refusal.Refusal.{Refusal}
use Rattle.tally.specs.declared.refusal.Refusal.TheVariants.{Grid, Distance, Outside, TooMany}

abbrev pub number_of : Refusal → ℕ
number_of (Grid f) = fault_number f
number_of Distance = 5
number_of Outside = 91
number_of TooMany = 92

abbrev pub answer_of : {A : Type 0} → Result A Refusal → ℕ
answer_of (Ok _) = 0
answer_of (Err r) = number_of r

-- the levels' answer with no room for a level: 78 says that nothing else is wrong
abbrev pub unless_room : Result (Unit {0}) LevelsRefusal → Result (Unit {0}) Refusal
unless_room (Ok u) = Ok u
unless_room (Err (LevelsGrid f)) = Err (Grid f)
unless_room (Err LevelsDistance) = Err Distance
unless_room (Err LevelsOutside) = Err Outside
unless_room (Err Room) = Ok tt
