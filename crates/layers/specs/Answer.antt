-- What the code of request 1 says, as the definitions have it: a refusal by its number, and a layer's V and I. Definitions only. Assumes nothing.
use Rattle.std.specs.Prelude.{ℕ, Result, Ok, Err}
use Rattle.rules.specs.Call.{Answer, answers}
use Rattle.count.specs.declared.Tally.{Tally}
use Rattle.judge.specs.AsRules.{number_of as call_number, answer_of as call_answer}
use Rattle.layers.specs.declared.Refusal.{Refusal}
use Rattle.layers.specs.declared.Refusal.TheVariants.{Call, Full}

abbrev pub number_of : Refusal → ℕ
number_of (Call r) = call_number r
number_of Full = 8

-- the start's answer
abbrev pub start_number : {A : Type 0} → Result A Refusal → ℕ
start_number (Ok _) = 0
start_number (Err r) = number_of r

-- a layer's
abbrev pub answer_of : Result Tally Refusal → Answer
answer_of (Ok t) = answers 0 t.vertices t.indices
answer_of (Err (Call r)) = call_answer (Err r)
answer_of (Err Full) = answers 8 0 0
