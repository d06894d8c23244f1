-- Each block's sizes are added to the sums of those before it. Assumes nothing.
use Rattle.std.proofs.Common.{◌+◌, ◌*◌, ◌^◌, ◌∙◌, sym, subst, arith}
use Rattle.std.proofs.lemmas.List.Sums.{fold_more}
use mathlib.Core.Path.{ap₂}
use Rattle.plan.specs.Size.{MostAll, added_all}
use Rattle.plan.specs.Tests.{no_sums, with_sizes}
use Rattle.plan.proofs.cover.sums_of.Goals as goal

pub add_all-sums-requires : goal.add_all-sums-requires
add_all-sums-requires c = (omega (arith, c.loop-b.invariant.1, c.requires.0, c.loop-b-test.true), c.sizes_of_block.ensures.most)

pub loop-b-preserved : goal.loop-b-preserved
loop-b-preserved c =
    let e = c.add_all-sums.ensures ∙ ap₂ added_all c.loop-b.invariant.0 c.sizes_of_block.ensures.sizes in (
      e ∙ sym (fold_more with_sizes no_sums c.args.blocks.now c.loop-b.b-index _ c.loop-b-test.true),
      subst (MostAll ((c.loop-b.b-index + 1) * 2 ^ 48)) (sym c.add_all-sums.ensures) (omega (arith, c.loop-b.invariant.1, c.sizes_of_block.ensures.most)),
    )
