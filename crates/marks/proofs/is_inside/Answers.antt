-- `marks::is_inside` meets its contract, test by test (Cells). Assumes nothing.
use Rattle.std.proofs.Common.{sym, ◌∙◌, inl, inr}
use Rattle.grid.specs.Block.{point, box_of}
use Rattle.marks.specs.Marks.{reaching}
use Rattle.marks.specs.Reach.{further}
use Rattle.marks.proofs.Cells.{zero-x, zero-y}
use Rattle.marks.proofs.is_inside.Goals as goal

pub returns-then-x-eq0 : goal.returns-then-x-eq0
returns-then-x-eq0 c =
    let a = c.args in
    let dims = point a.k.dims in
    let b = reaching (further a.reach) (box_of a.k) in
    elim c.then-x-eq0.either [
      | inl e ↦ zero-x dims b a.index (sym c.from-x.ensures ∙ e)
      | inr e ↦ zero-y dims b a.index (sym c.from-y.ensures ∙ e.1)
    ]
