-- Three counts as three words of 64 bits, which include/bed.h calls a `bed_counts`: the cells wholly in the sludge, V and I. Definitions only. Assumes nothing.
use Rattle.std.specs.Prelude.{ℕ, cond, List, [], ◌∷◌, eqb, get_or}
use Rattle.tally.specs.declared.Counts.{Counts}
use Rattle.tally.specs.Call.{Told}

abbrev pub counts_in : List ℕ → Counts
counts_in words = record { whole = get_or words 0 0; vertices = get_or words 1 0; indices = get_or words 2 0 }

-- "a refusal leaves them"
abbrev pub counts_left : Told → List ℕ → List ℕ
counts_left t old = cond (eqb t.answer 0) (t.counts.whole ∷ t.counts.vertices ∷ t.counts.indices ∷ []) old
