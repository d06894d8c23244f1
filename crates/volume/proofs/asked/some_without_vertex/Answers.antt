-- `volume::asked::some_without_vertex` meets its contract, part by part. Assumes nothing.
use Rattle.std.proofs.Common.{rules, ◌∙◌}
use Rattle.volume.specs.Answers.{not_from}
use Rattle.volume.proofs.Searching.{some_in_part, some_after, none_left}
use Rattle.volume.proofs.asked.some_without_vertex.Goals as goal

pub loop-part-init : goal.loop-part-init
loop-part-init c = (search rules, tt, search rules, search rules)

pub returns-then-without_vertex_in : goal.returns-then-without_vertex_in
returns-then-without_vertex_in c =
    some_in_part (not_from c.args.first c.args.end) _ _ _ c.in-Some.ensures.steps.1.0 c.if-without_vertex_in.ensures ∙ c.loop-part.invariant.3

pub loop-part-preserved : goal.loop-part-preserved
loop-part-preserved c = (
  search rules,
  tt,
  c.in-Some.ensures.steps.0 ∙ c.loop-part.invariant.2,
  some_after (not_from c.args.first c.args.end) _ _ _ c.in-Some.ensures.steps.1.0 c.if-without_vertex_in.ensures ∙ c.loop-part.invariant.3,
)

pub returns : goal.returns
returns c = none_left (not_from c.args.first c.args.end) _ c.in-None.ensures.steps.1.0 ∙ c.loop-part.invariant.3
