-- A block that 42 does not refuse has no side above 2^24. Assumes nothing.
use Rattle.std.proofs.Common.{◌^◌, ◌∙◌, sym, ap, subst}
use Rattle.plan.specs.Size.{SmallAll, MostAll, sizes_of}
use Rattle.plan.proofs.Sums.{good-small, sizes-most}
use Rattle.plan.proofs.cover.sizes_of_block.Goals as goal

pub sizes-requires : goal.sizes-requires
sizes-requires c = subst SmallAll (sym c.owned_by.ensures) (good-small c.args.b c.requires)

pub returns-clause-most : goal.returns-clause-most
returns-clause-most c =
    subst (MostAll (2 ^ 48)) (sym (c.sizes.ensures ∙ ap sizes_of c.owned_by.ensures)) (sizes-most _ (good-small c.args.b c.requires))
