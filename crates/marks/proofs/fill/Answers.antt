-- `marks::fill` meets its contract: its loop fills the list (Filling). Assumes nothing.
use Rattle.std.proofs.Common.{rules}
use Rattle.marks.proofs.Filling.{fill_more, fill-all}
use Rattle.marks.proofs.fill.Goals as goal

pub loop-x-preserved : goal.loop-x-preserved
loop-x-preserved g c = fill_more _ c.loop-x.invariant (search rules) c.next-mark.ensures

pub returns : goal.returns
returns g c = fill-all _ c.loop-x.invariant (search rules)
