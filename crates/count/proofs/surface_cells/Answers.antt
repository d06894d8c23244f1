-- The invariant: the count is that of the first j cells, and what is carried is the negatives of the lower side of the j-th. Assumes nothing.
use Prim.Native.Nat.{ℕ, ◌<◌, ◌^◌}
use native.Mathlib.Nat.{add-zero, add_assoc}
use mathlib.Core.List.{List}
use mathlib.Core.Path.{refl, sym, ap, ◌∙◌}
use native.Mathlib.Omega.{arith}
use lib.Ieee.{Float}
use lib.ListN.{length}
use Rattle.grid.specs.Corners.{side_between}
use Rattle.grid.specs.Signs.{side_negatives, surface_at}
use Rattle.row_signs.proofs.Runs.{none-counted, one_more}
use Rattle.grid.proofs.Places.{grid-counted}
use Rattle.grid.proofs.Sides.{surface-by-sides}
use Rattle.count.proofs.surface_cells.Given.{Over}
use Rattle.count.proofs.surface_cells.Goals as goal
use Rattle.count.proofs.surface_cells.Goals.{Start}

abbrev lower_of : (g : Over) → Start g → List Float
lower_of g c = let a = c.args in g.D.Distance.floats a.lower.now

abbrev upper_of : (g : Over) → Start g → List Float
upper_of g c = let a = c.args in g.D.Distance.floats a.upper.now

short : (g : Over) (c : Start g) → length (lower_of g c) < 2 ^ 64
short g c = let a = c.args in grid-counted g.met.D.Distance.floats_are a.lower.now (omega arith)

pub loop-j-init : goal.loop-j-init
loop-j-init g c =
    let a = c.args in (
      omega arith,
      omega arith,
      c.side_negatives-low.ensures.upper_bound,
      c.side_negatives-low.ensures.value ∙ ap (λ (i : ℕ). side_negatives (side_between (lower_of g (goal.at.loop-j-init g c).Start) (upper_of g (goal.at.loop-j-init g c).Start) i a.row)) (sym (add-zero a.at)),
      none-counted (surface_at (lower_of g (goal.at.loop-j-init g c).Start) (upper_of g (goal.at.loop-j-init g c).Start) a.at a.row),
    )

pub overflow_add-at : goal.overflow_add-at
overflow_add-at g c = let h = short g (goal.at.overflow_add-at g c).Start in omega arith

pub overflow_add-at-in-loop-j : goal.overflow_add-at-in-loop-j
overflow_add-at-in-loop-j g c = let h = short g (goal.at.overflow_add-at-in-loop-j g c).Start in omega arith

pub loop-j-preserved : goal.loop-j-preserved
loop-j-preserved g c =
    let a = c.args in
    let w = c.loop-j in
    let high = c.side_negatives-high.ensures in
    let more = surface-by-sides (lower_of g (goal.at.loop-j-preserved g c).Start) (upper_of g (goal.at.loop-j-preserved g c).Start) a.at a.row w.j w.invariant.3 high.value c.surface_count-count.ensures.value in (
      omega arith,
      omega arith,
      high.upper_bound,
      high.value ∙ ap (λ (i : ℕ). side_negatives (side_between (lower_of g (goal.at.loop-j-preserved g c).Start) (upper_of g (goal.at.loop-j-preserved g c).Start) i a.row)) (add_assoc a.at w.j 1),
      one_more (surface_at (lower_of g (goal.at.loop-j-preserved g c).Start) (upper_of g (goal.at.loop-j-preserved g c).Start) a.at a.row) w.j w.invariant.4 more refl,
    )
