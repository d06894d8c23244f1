-- What an answer with its counts leaves, said of another that is the same. Assumes nothing.
use Prim.Native.Nat.{ℕ}
use mathlib.Core.List.{List}
use mathlib.Core.Path.{◌≡◌, ap, ◌∙◌}
use Rattle.tally.specs.Call.{Told}
use Rattle.bed.specs.Tallied.{counts_left}

pub left_as : {t u : Told} {r : ℕ} {left' : List ℕ} (old : List ℕ) → t ≡ u → (r ≡ t.answer) × (left' ≡ counts_left t old) → (r ≡ u.answer) × (left' ≡ counts_left u old)
left_as old e p = (p.0 ∙ ap (λ (t : Told). t.answer) e, p.1 ∙ ap (λ (t : Told). counts_left t old) e)
