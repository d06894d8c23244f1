-- `marks::stored::begins_with` meets its contract: its loop passes the places that hold their stored number (Begins). Assumes nothing.
use Rattle.std.proofs.Common.{sym, ◌∙◌}
use Rattle.marks.proofs.Begins.{begins-none, begins-more, begins-not}
use Rattle.marks.proofs.stored.begins_with.Goals as goal

pub loop-j-init : goal.loop-j-init
loop-j-init g c = λ other. begins-none _

pub returns-then-not-holds : goal.returns-then-not-holds
returns-then-not-holds g c = λ other. begins-not _ _ _ c.loop-j-test.true (sym (c.holds.ensures other) ∙ c.if-not-holds.true)

pub loop-j-preserved : goal.loop-j-preserved
loop-j-preserved g c = λ other. begins-more _ (c.loop-j.invariant other) (sym (c.holds.ensures other) ∙ c.if-not-holds.false)
