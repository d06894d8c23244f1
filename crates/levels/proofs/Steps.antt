-- One point more on a column, as the code tests it, and as the lowest point is taken: with itself for the point below it. Assumes nothing.
use Rattle.std.proofs.Common.{◌≡◌, ℕ, ◌-◌, Bool, true, false, cond, refl, ◌∙◌, ap₂}
use lib.Ieee.{Float}
use Rattle.rules.specs.Cell.{◌⊕◌, float, negative, fraction}
use Rattle.levels.specs.Column.{no_level, level_step, first_level}

abbrev pub Step : Float → Float → Float → Float → Float → Float
Step top under lower upper old = cond (negative upper) top (cond (negative lower) (under ⊕ fraction lower upper) old)

module _ (top under lower upper old : Float) {r : Bool} (e : r ≡ negative upper) where
  pub step-top : r ≡ true → top ≡ Step top under lower upper old
  step-top h = rw (← e, h)

  module _ (h : r ≡ false) {s : Bool} (d : s ≡ negative lower) where
    pub step-under : s ≡ true → under ⊕ fraction lower upper ≡ Step top under lower upper old
    step-under k = rw (← e, h, ← d, k)

    pub step-old : s ≡ false → old ≡ Step top under lower upper old
    step-old k = rw (← e, h, ← d, k)

pub step_is : {top under r : Float} {m : ℕ} (z : ℕ) (lower upper old : Float) → top ≡ float z → under ≡ float m → m ≡ z - 1 → r ≡ Step top under lower upper old
    → r ≡ level_step z lower upper old
unfolding level_step
step_is z lower upper old e d n h = h ∙ rw (e, d, n)

-- as a loop has it: with what its reads and its casts answered
pub read_step : {top under lower upper low high r : Float} {m : ℕ} (z : ℕ) (old : Float) → lower ≡ low → upper ≡ high → top ≡ float z → under ≡ float m → m ≡ z - 1
    → r ≡ Step top under lower upper old → r ≡ level_step z low high old
read_step {lower = lower} {upper = upper} z old p q e d n h = step_is z lower upper old e d n h ∙ ap₂ (λ (x y : Float). level_step z x y old) p q

pub lowest-is : (z : ℕ) (here : Float) → level_step z here here no_level ≡ first_level z here
unfolding level_step first_level
lowest-is z here = go (negative here)
  where
    go : (t : Bool) → cond t (float z) (cond t (float (z - 1) ⊕ fraction here here) no_level) ≡ cond t (float z) no_level
    go true = refl
    go false = refl
