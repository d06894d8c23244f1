-- `grid::checks::first_fault` meets its contract: each way out by the tests that led there. Assumes nothing.
use mathlib.Core.Bool.{true, false}
use mathlib.Core.Path.{◌≡◌, sym, ◌∙◌}
use Rattle.rules.specs.Call.{bad_dimensions, bad_box, bad_length}
use Rattle.grid.specs.Block.{point, box_of}
use Rattle.grid.specs.Faults.{first_fault}
use Rattle.grid.proofs.checks.first_fault.Goals as goal
use Rattle.grid.proofs.checks.first_fault.Goals.{After-bad_box, After-bad_length-arg-1, Else-bad_dimensions, Else-bad_length}

dims-good : (c : Else-bad_dimensions) → bad_dimensions (point c.args.k.dims) ≡ false
dims-good c = sym c.bad_dimensions.ensures ∙ c.if-bad_dimensions.false

dims-good-2 : (c : After-bad_box) → bad_dimensions (point c.args.k.dims) ≡ false
dims-good-2 c = sym c.bad_dimensions.ensures ∙ c.if-bad_dimensions.false

box-good : (c : After-bad_length-arg-1) → let k = c.args.k in bad_box (point k.dims) (box_of k) ≡ false
box-good c = sym c.bad_box.ensures ∙ c.if-bad_box.false

length-good : (c : Else-bad_length) → bad_length (point c.args.k.dims) c.args.length ≡ false
length-good c = sym c.bad_length.ensures ∙ c.if-bad_length.false

pub returns-then-bad_dimensions : goal.returns-then-bad_dimensions
unfolding first_fault
returns-then-bad_dimensions c =
    let k = c.args.k in
    let bad : bad_dimensions (point k.dims) ≡ true = sym c.bad_dimensions.ensures ∙ c.if-bad_dimensions.true in
    simp (bad)

pub returns-then-bad_box : goal.returns-then-bad_box
unfolding first_fault
returns-then-bad_box c =
    let k = c.args.k in
    let bad : bad_box (point k.dims) (box_of k) ≡ true = sym c.bad_box.ensures ∙ c.if-bad_box.true in
    simp (dims-good (goal.at.returns-then-bad_box c).Else-bad_dimensions, bad)

pub returns-then-bad_length : goal.returns-then-bad_length
unfolding first_fault
returns-then-bad_length c =
    let a = c.args in
    let bad : bad_length (point a.k.dims) a.length ≡ true = sym c.bad_length.ensures ∙ c.if-bad_length.true in
    simp (dims-good-2 (goal.at.returns-then-bad_length c).After-bad_box, box-good (goal.at.returns-then-bad_length c).After-bad_length-arg-1, bad)

pub returns : goal.returns
unfolding first_fault
returns c =
    simp (dims-good-2 (goal.at.returns c).After-bad_box, box-good (goal.at.returns c).After-bad_length-arg-1, length-good c)
