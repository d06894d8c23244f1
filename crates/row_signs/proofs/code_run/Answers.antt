-- The invariant: the first j places are counted, and their codes stand in the list; the count is at most twice j, so that it fits 32 bits. Assumes nothing.
use Prim.Native.Nat.{ℕ, ◌<◌, ◌+◌, ◌*◌, ◌^◌}
use mathlib.Core.List.{List}
use mathlib.Core.Path.{◌≡◌, refl, ap, ap₂, ◌∙◌}
use native.Mathlib.Omega.{arith}
use lib.Ieee.{Float}
use lib.ListN.{length, set}
use lib.Seq.{sets}
use Rattle.lists.specs.Lists.{one}
use Rattle.rules.specs.Cell.{negative}
use Rattle.grid.proofs.Places.{grid-counted}
use Rattle.row_signs.specs.Signs.{negative_at, negatives_run}
use Rattle.row_signs.specs.Codes.{code_at, codes_run}
use Rattle.row_signs.proofs.Runs.{none-counted, one_more}
use Rattle.row_signs.proofs.Stores.{stores-none, stores-grow}
use Rattle.row_signs.proofs.code_run.Given.{Over}
use Rattle.row_signs.proofs.code_run.Goals as goal
use Rattle.row_signs.proofs.code_run.Goals.{After-counted-high, After-counted-low, Start}

abbrev lower_of : (g : Over) → Start g → List Float
lower_of g c = let a = c.args in g.D.Distance.floats a.lower.now

abbrev upper_of : (g : Over) → Start g → List Float
upper_of g c = let a = c.args in g.D.Distance.floats a.upper.now

short : (g : Over) (c : Start g) → (length (lower_of g c) < 2 ^ 64) × (length (upper_of g c) < 2 ^ 64)
short g c =
    let a = c.args in (
      grid-counted g.met.D.Distance.floats_are a.lower.now (omega arith),
      grid-counted g.met.D.Distance.floats_are a.upper.now (omega arith),
    )

abbrev lower_of-2 : (g : Over) → After-counted-low g → List Float
lower_of-2 g c = let a = c.args in g.D.Distance.floats a.lower.now

-- ---- what a turn reads
low-is : (g : Over) (c : After-counted-low g) → c.counted-low.result ≡ one (negative_at (lower_of-2 g c) c.args.at c.loop-j.j)
low-is g c = c.counted-low.ensures.value ∙ ap one (c.negative.ensures ∙ ap negative c.value_at.ensures)

abbrev upper_of-2 : (g : Over) → After-counted-high g → List Float
upper_of-2 g c = let a = c.args in g.D.Distance.floats a.upper.now

high_is : (g : Over) (c : After-counted-high g) → c.counted-high.result ≡ one (negative_at (upper_of-2 g c) c.args.at c.loop-j.j)
high_is g c = c.counted-high.ensures.value ∙ ap one (c.negative-in-loop-j.ensures ∙ ap negative c.value_at-in-loop-j.ensures)

-- ---- the needs
pub loop-j-init : goal.loop-j-init
loop-j-init g c =
    let a = c.args in (
      omega arith,
      omega arith,
      ap₂ ◌+◌ (none-counted (negative_at (lower_of g (goal.at.loop-j-init g c).Start) a.at)) (none-counted (negative_at (upper_of g (goal.at.loop-j-init g c).Start) a.at)),
      stores-none (code_at (lower_of g (goal.at.loop-j-init g c).Start) (upper_of g (goal.at.loop-j-init g c).Start) a.at) a.codes.now a.from,
    )

pub overflow_add-at : goal.overflow_add-at
overflow_add-at g c = let h = short g (goal.at.overflow_add-at g c).Start in omega arith

pub overflow_add-at-in-loop-j : goal.overflow_add-at-in-loop-j
overflow_add-at-in-loop-j g c = let h = short g (goal.at.overflow_add-at-in-loop-j g c).Start in omega arith

pub loop-j-preserved : goal.loop-j-preserved
loop-j-preserved g c =
    let a = c.args in
    let w = c.loop-j in
    let low = low-is g (goal.at.loop-j-preserved g c).After-counted-low in
    let high = high_is g c in
    let below = one_more (negative_at (lower_of g (goal.at.loop-j-preserved g c).Start) a.at) w.j refl low refl in
    let above = one_more (negative_at (upper_of g (goal.at.loop-j-preserved g c).Start) a.at) w.j refl high refl in (
      omega (arith, c.loop-j-test.true),
      omega (arith, w.invariant.1, c.counted-low.ensures.upper_bound, c.counted-high.ensures.upper_bound),
      omega (arith, w.invariant.2, below, above),
      ap₂ (λ (t : List ℕ) (v : ℕ). set t (a.from + w.j) v) w.invariant.3 (ap₂ (λ (x y : ℕ). x + 8 * y) low high)
          ∙ stores-grow (code_at (lower_of g (goal.at.loop-j-preserved g c).Start) (upper_of g (goal.at.loop-j-preserved g c).Start) a.at) a.codes.now a.from w.j,
    )

pub returns-clause-codes_after : goal.returns-clause-codes_after
returns-clause-codes_after g c =
    let a = c.args in
    let w = c.loop-j in
    let end : w.j ≡ a.n = omega arith in w.invariant.3 ∙ ap (λ (m : ℕ). sets a.codes.now a.from (codes_run (lower_of g (goal.at.returns-clause-codes_after g c).Start) (upper_of g (goal.at.returns-clause-codes_after g c).Start) a.at m)) end

pub returns-clause-value : goal.returns-clause-value
returns-clause-value g c =
    let a = c.args in
    let w = c.loop-j in
    let end : w.j ≡ a.n = omega arith in w.invariant.2 ∙ ap (λ (m : ℕ). negatives_run (lower_of g (goal.at.returns-clause-value g c).Start) a.at m + negatives_run (upper_of g (goal.at.returns-clause-value g c).Start) a.at m) end
