-- The answer of a call, as the definitions have it: 0, or document 02's number of a refusal. Definitions only. Assumes nothing.
use Rattle.std.specs.Prelude.{ℕ, Result, Ok, Err}
use Rattle.fixtures.specs.Refusal.{number}
use Rattle.fixture_widths.specs.declared.Refusal.{Refusal}
use Rattle.fixture_widths.specs.declared.Refusal.TheVariants.{Layer, Room}

abbrev pub number_of : Refusal → ℕ
number_of (Layer r) = number r
number_of Room = 82

abbrev pub answer_of : {A : Type 0} → Result A Refusal → ℕ
answer_of (Ok _) = 0
answer_of (Err r) = number_of r
