-- `marks::fill` meets its contract: its loop fills the list (Filling). Assumes nothing.
use Rattle.marks.proofs.Filling.{Filled}
use Rattle.marks.proofs.fill.Given as goal

abbrev pub invariant-loop-x : goal.invariant-loop-x
invariant-loop-x g l = Filled g.M.Mark.next l.fn.first l.initial.list l.mark l.x-index l.list
