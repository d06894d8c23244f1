-- The invariant: what is seen past the first i blocks. Assumes nothing.
use Rattle.std.proofs.Common.{ap, ◌∙◌}
use Rattle.witness.specs.Steps.{axis_of, region_of, blocks_on}
use Rattle.witness.proofs.Tested.{look_none, look-more}
use Rattle.witness.proofs.look.look.Goals as goal

pub loop-i-init : goal.loop-i-init
loop-i-init c = look_none (blocks_on c.args.axis c.args.blocks.now) c.first_look-l.result c.args.p

pub loop-i-preserved : goal.loop-i-preserved
loop-i-preserved c =
    look-more (blocks_on c.args.axis c.args.blocks.now) c.first_look-l.result c.args.p c.loop-i.i c.loop-i.invariant
    (c.region_on.ensures ∙ ap (region_of (axis_of c.args.axis)) c.block.ensures) c.looked-l.ensures
