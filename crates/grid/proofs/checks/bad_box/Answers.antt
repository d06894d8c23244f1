-- Each axis in turn. Assumes nothing.
use mathlib.Core.Path.{sym, ◌∙◌}
use Rattle.rules.specs.Call.{bad_side, bad_box}
use Rattle.grid.proofs.Tests.{first_of, second-of, third_of}
use Rattle.grid.proofs.checks.bad_box.Goals as goal

pub returns-then-bad_side : goal.returns-then-bad_side
unfolding bad_box
returns-then-bad_side c =
    let k = c.args.k in
    first_of (bad_side k.dims.y k.low.y k.high.y) (bad_side k.dims.z k.low.z k.high.z) (sym c.bad_side.ensures ∙ c.if-bad_side.true)

pub returns-then-bad_side-2 : goal.returns-then-bad_side-2
unfolding bad_box
returns-then-bad_side-2 c =
    let k = c.args.k in
    second-of (bad_side k.dims.z k.low.z k.high.z) (sym c.bad_side.ensures ∙ c.if-bad_side.false)
    (sym c.bad_side-2.ensures ∙ c.if-bad_side-2.true)

pub returns : goal.returns
unfolding bad_box
returns c =
    let k = c.args.k in
    c.bad_side-3.ensures ∙ third_of (bad_side k.dims.z k.low.z k.high.z)
    (sym c.bad_side.ensures ∙ c.if-bad_side.false) (sym c.bad_side-2.ensures ∙ c.if-bad_side-2.false)
