-- `levels::rising::step` meets its contract: at each return the tests that led there say which level it is. Assumes nothing.
use Rattle.rules.specs.Cell.{fraction}
use Rattle.levels.proofs.Steps.{step-under}
use Rattle.levels.proofs.rising.step.Goals as goal

pub returns-then-negative-2 : goal.returns-then-negative-2
unfolding fraction
returns-then-negative-2 c =
    let a = c.args in
    step-under a.top a.under a.lower a.upper a.old c.negative.ensures c.if-negative.false c.negative-2.ensures c.if-negative-2.true
