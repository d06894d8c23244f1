-- The answer of a call that closes, as the definitions have it: 0, or the documents' number of a refusal. Definitions only. Assumes nothing.
use Rattle.std.specs.Prelude.{ℕ, Result, Ok, Err}
use Rattle.closing.specs.declared.refusal.Refusal.{Refusal}
use Rattle.closing.specs.declared.refusal.Refusal.TheVariants.{Dimensions, Length, Height, Wall, ClosedDimensions, Room}

abbrev pub number_of : Refusal → ℕ
number_of Dimensions = 1
number_of Length = 3
number_of Height = 71
number_of Wall = 72
number_of ClosedDimensions = 73
number_of Room = 74

abbrev pub answer_of : {A : Type 0} → Result A Refusal → ℕ
answer_of (Ok _) = 0
answer_of (Err r) = number_of r
