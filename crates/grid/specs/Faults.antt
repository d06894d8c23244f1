-- Conditions 1 to 3 of document 01, which speak of dimensions, box and the grid's length alone, tried in their order. Every call that reads a grid
-- begins with them. Definitions only. Assumes nothing.
use Rattle.std.specs.Prelude.{ℕ, cond, Result, Ok, Err}
use Rattle.rules.specs.Grid.{GridPoint, Box}
use Rattle.rules.specs.Call.{bad_dimensions, bad_box, bad_length}
use Rattle.grid.specs.declared.checks.Fault.{Fault}
use Rattle.grid.specs.declared.checks.Fault.TheVariants.{Dimensions, Box as BoxFault, Length}

-- the number of the first that holds, and 0 where none does
unfoldable pub first_fault : GridPoint → Box → ℕ → ℕ
first_fault d b size = cond (bad_dimensions d) 1 (cond (bad_box d b) 2 (cond (bad_length d size) 3 0))

-- the same as the code says it
abbrev pub number_of : Fault → ℕ
number_of Dimensions = 1
number_of BoxFault = 2
number_of Length = 3

abbrev pub fault_of : {A : Type 0} → Result A Fault → ℕ
fault_of (Ok _) = 0
fault_of (Err f) = number_of f
