-- Nothing is refused, and then the tests decide. Assumes nothing.
use Rattle.std.proofs.Common.{T, refl, sym, subst}
use Rattle.plan.proofs.Refused.{number-good}
use Rattle.plan.proofs.Decided.{tests-plan, plan-tests}
use Rattle.plan.proofs.check_plan.Goals as goal

pub covers_once-requires-clause-blocks : goal.covers_once-requires-clause-blocks
covers_once-requires-clause-blocks c = (number-good (λ b. b) c.args.blocks.now c.args.whole c.in_ok-accept.ensures).0

pub covers_once-requires-clause-whole : goal.covers_once-requires-clause-whole
covers_once-requires-clause-whole c = (number-good (λ b. b) c.args.blocks.now c.args.whole c.in_ok-accept.ensures).1

pub returns : goal.returns
returns c =
    let e = c.covers_once.ensures in
    record {
      number = c.in_ok-accept.ensures;
      yes = λ t. (refl, tests-plan c.args.blocks.now c.args.whole (subst T e t));
      sure = λ z h. subst T (sym e) (plan-tests c.args.blocks.now c.args.whole h);
    }
