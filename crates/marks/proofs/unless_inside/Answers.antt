-- `marks::unless_inside` meets its contract, by its one test (Cells). Assumes nothing.
use Rattle.std.proofs.Common.{sym, ◌∙◌}
use Rattle.grid.specs.Block.{point, box_of}
use Rattle.marks.proofs.Cells.{blank-inside, mark-outside}
use Rattle.marks.proofs.unless_inside.Goals as goal

pub returns-then-is_inside : goal.returns-then-is_inside
returns-then-is_inside c =
    let a = c.args in
    blank-inside (point a.k.dims) (box_of a.k) a.index a.mark (sym c.is_inside.ensures ∙ c.if-is_inside.true)

pub returns : goal.returns
returns c =
    let a = c.args in
    mark-outside (point a.k.dims) (box_of a.k) a.index a.mark (sym c.is_inside.ensures ∙ c.if-is_inside.false)
