-- By the tests in their order. Assumes nothing.
use Rattle.std.proofs.Common.{sym, ◌∙◌}
use mathlib.Core.Logic.{inl, inr}
use Rattle.plan.proofs.Refused.{number-41, number-42, number-0}
use Rattle.plan.proofs.refusal.accept.Goals as goal
use Rattle.plan.proofs.refusal.accept.Goals.{then-bad_block-via-then-bad_block, then-bad_block-via-else-bad_block+then-some_bad}

pub returns-then-blocks-gt200 : goal.returns-then-blocks-gt200
returns-then-blocks-gt200 g c = number-41 g.B.AsBlock.block_of c.args.blocks.now c.args.whole c.if-blocks-gt200.true

pub returns-then-bad_block : goal.returns-then-bad_block
returns-then-bad_block g c =
    let few = number-42 g.B.AsBlock.block_of c.args.blocks.now c.args.whole c.if-blocks-gt200.false in
    elim c.then-bad_block.branch [
      | then-bad_block-via-then-bad_block w ↦ few (inl (sym c.bad_block.ensures ∙ w.if-bad_block.true))
      | then-bad_block-via-else-bad_block+then-some_bad w ↦ few (inr (sym w.some_bad.ensures ∙ w.if-some_bad.true))
    ]

pub returns : goal.returns
returns g c =
    number-0 g.B.AsBlock.block_of c.args.blocks.now c.args.whole c.if-blocks-gt200.false (sym c.bad_block.ensures ∙ c.if-bad_block.false)
    (sym c.some_bad.ensures ∙ c.if-some_bad.false)
