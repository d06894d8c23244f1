-- The invariant: the row's part of the map is what the first j cells leave, and what is carried is the negatives of the lower side of the j-th. Assumes nothing.
use Prim.Native.Nat.{ℕ}
use native.Mathlib.Nat.{add-zero, add_assoc}
use mathlib.Core.List.{List}
use mathlib.Core.Path.{◌≡◌, sym, ap, ◌∙◌}
use native.Mathlib.Omega.{arith}
use lib.Ieee.{Float}
use lib.Seq.{sets}
use Rattle.grid.specs.Corners.{side_between}
use Rattle.grid.specs.Signs.{side_negatives}
use Rattle.layer_vertices.specs.Cells.{classes, class_of}
use Rattle.layer_vertices.proofs.Rows.{classed-none, classed-more}
use borrow.Author.Rules.{rules}
use Rattle.layer_vertices.proofs.class_row.Given.{Over}
use Rattle.layer_vertices.proofs.class_row.Goals as goal
use Rattle.layer_vertices.proofs.class_row.Goals.{Start}

-- the two layers of distances
abbrev lower_of : (g : Over) → Start g → List Float
lower_of g c = let a = c.args in g.D.Distance.floats a.lower.now

abbrev upper_of : (g : Over) → Start g → List Float
upper_of g c = let a = c.args in g.D.Distance.floats a.upper.now

pub loop-j-init : goal.loop-j-init
loop-j-init g c =
    let a = c.args in (
      omega arith,
      c.side_negatives-low.ensures.upper_bound,
      c.side_negatives-low.ensures.value ∙ ap (λ (i : ℕ). side_negatives (side_between (lower_of g (goal.at.loop-j-init g c).Start) (upper_of g (goal.at.loop-j-init g c).Start) i a.row)) (sym (add-zero a.at)),
      classed-none (lower_of g (goal.at.loop-j-init g c).Start) (upper_of g (goal.at.loop-j-init g c).Start) a.at a.row a.map.now,
    )

pub overflow_add-low : goal.overflow_add-low
overflow_add-low g c = search rules

pub loop-j-preserved : goal.loop-j-preserved
loop-j-preserved g c =
    let a = c.args in
    let w = c.loop-j in (
      omega arith,
      c.side_negatives-high.ensures.upper_bound,
      c.side_negatives-high.ensures.value ∙ ap (λ (i : ℕ). side_negatives (side_between (lower_of g (goal.at.loop-j-preserved g c).Start) (upper_of g (goal.at.loop-j-preserved g c).Start) i a.row)) (add_assoc a.at w.j 1),
      classed-more (lower_of g (goal.at.loop-j-preserved g c).Start) (upper_of g (goal.at.loop-j-preserved g c).Start) a.at a.row w.j a.map.now w.invariant.3 w.invariant.2 c.side_negatives-high.ensures.value
          (c.class_entry.ensures ∙ ap class_of c.some_of_eight.ensures),
    )

pub returns : goal.returns
returns g c =
    let a = c.args in
    let w = c.loop-j in
    let end : w.j ≡ a.n = omega arith in
    w.invariant.3 ∙ ap (λ (m : ℕ). sets a.map.now a.at (classes (lower_of g (goal.at.returns g c).Start) (upper_of g (goal.at.returns g c).Start) a.at a.row m)) end
