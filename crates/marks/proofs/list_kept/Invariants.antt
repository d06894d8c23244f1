-- `marks::list_kept` meets its contract: its loop passes the places that are kept (Kept). Assumes nothing.
use Rattle.std.proofs.Common.{eqb, ltb}
use Rattle.marks.proofs.Kept.{Passed}
use Rattle.marks.proofs.list_kept.Given as goal

abbrev pub invariant-loop-j : goal.invariant-loop-j
invariant-loop-j g l = Passed (λ i x m. eqb (g.M.Mark.bits x) (g.M.Mark.bits m)) (λ k. ltb k l.from) g.M.Mark.next l.fn.first l.list l.mark l.j
