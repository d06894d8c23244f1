-- A row that is short enough leaves its codes; of a longer one the points are counted alone. Assumes nothing.
use Prim.Native.Nat.{◌+◌}
use mathlib.Core.Bool.{Bool, cond}
use mathlib.Core.List.{List}
use mathlib.Core.Path.{◌≡◌, sym, ap, ap₂, ◌∙◌}
use lib.Dec.{leb}
use lib.Ieee.{Float}
use lib.Seq.{sets}
use borrow.Author.Tests.{le-leb, lt-leb}
use Rattle.row_signs.specs.Signs.{row_start, row_points, row_negatives}
use Rattle.row_signs.specs.Codes.{codes_run, row_kept}
use Rattle.grid.proofs.Places.{part-of-grid}
use Rattle.row_signs.proofs.Runs.{negatives-part}
use Rattle.row_signs.proofs.read_row.Given.{Over}
use Rattle.row_signs.proofs.read_row.Goals as goal
use Rattle.row_signs.proofs.read_row.Goals.{Start}

abbrev lower_of : (g : Over) → Start g → List Float
lower_of g c = let a = c.args in g.D.Distance.floats a.lower.now

abbrev upper_of : (g : Over) → Start g → List Float
upper_of g c = let a = c.args in g.D.Distance.floats a.upper.now

-- what is kept, by the test of the row's length
kept-as : (g : Over) (c : Start g) → {t : Bool} → leb (row_points c.args.k) 1024 ≡ t → let a = c.args in
    row_kept (lower_of g c) (upper_of g c) a.k a.y a.from a.codes.now
    ≡ cond t (sets a.codes.now a.from (codes_run (lower_of g c) (upper_of g c) (row_start a.k a.y) (row_points a.k))) a.codes.now
unfolding row_kept
kept-as g c e =
    let a = c.args in
    ap (λ (t : Bool). cond t (sets a.codes.now a.from (codes_run (lower_of g c) (upper_of g c) (row_start a.k a.y) (row_points a.k))) a.codes.now) e

pub returns-then-points-le1024-clause-value : goal.returns-then-points-le1024-clause-value
unfolding row_negatives
returns-then-points-le1024-clause-value g c = c.code_run-both.ensures.value

pub returns-then-points-le1024-clause-codes_after : goal.returns-then-points-le1024-clause-codes_after
returns-then-points-le1024-clause-codes_after g c =
    c.code_run-both.ensures.codes_after
    ∙ sym (kept-as g (goal.at.returns-then-points-le1024-clause-codes_after g c).Start (le-leb (row_points c.args.k) 1024 c.if-points-le1024.true))

pub returns-clause-codes_after : goal.returns-clause-codes_after
unfolding row_negatives
returns-clause-codes_after g c =
    sym (kept-as g (goal.at.returns-clause-codes_after g c).Start (lt-leb (row_points c.args.k) 1024 c.if-points-le1024.false))

pub returns-clause-value : goal.returns-clause-value
unfolding row_negatives
returns-clause-value g c =
    let a = c.args in
    let are = g.met.D.Distance.floats_are in
    let at = row_start a.k a.y in
    let end = at + row_points a.k in
    ap₂ ◌+◌
    (c.negatives-below.ensures ∙ negatives-part (g.D.Distance.floats a.lower.now) _ at (row_points a.k) c.requires.k_in_bounds (part-of-grid are a.lower.now at end))
    (c.negatives-above.ensures ∙ negatives-part (g.D.Distance.floats a.upper.now) _ at (row_points a.k) c.requires.k_in_bounds_2 (part-of-grid are a.upper.now at end))
