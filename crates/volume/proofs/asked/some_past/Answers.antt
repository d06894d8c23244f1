-- `volume::asked::some_past` meets its contract, part by part. Assumes nothing.
use Rattle.std.proofs.Common.{rules, ◌∙◌}
use Rattle.volume.specs.Steps.{is_past}
use Rattle.volume.proofs.Searching.{some_in_part, some_after, none_left}
use Rattle.volume.proofs.asked.some_past.Goals as goal

pub loop-part-init : goal.loop-part-init
loop-part-init c = (search rules, tt, search rules, search rules)

pub returns-then-past_in : goal.returns-then-past_in
returns-then-past_in c =
    some_in_part (is_past c.args.most) _ _ _ c.in-Some.ensures.steps.1.0 c.if-past_in.ensures ∙ c.loop-part.invariant.3

pub loop-part-preserved : goal.loop-part-preserved
loop-part-preserved c = (
  search rules,
  tt,
  c.in-Some.ensures.steps.0 ∙ c.loop-part.invariant.2,
  some_after (is_past c.args.most) _ _ _ c.in-Some.ensures.steps.1.0 c.if-past_in.ensures ∙ c.loop-part.invariant.3,
)

pub returns : goal.returns
returns c = none_left (is_past c.args.most) _ c.in-None.ensures.steps.1.0 ∙ c.loop-part.invariant.3
