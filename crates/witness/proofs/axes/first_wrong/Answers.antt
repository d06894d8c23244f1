-- By the three searches in their order. Assumes nothing.
use Rattle.std.proofs.Common.{length}
use Rattle.witness.specs.Steps.{block_at}
use Rattle.witness.proofs.Named.{named-x, named-y, named-z}
use Rattle.witness.proofs.axes.first_wrong.Goals as goal

pub returns-in-Some : goal.returns-in-Some
returns-in-Some c = let a = c.args in named-x (block_at a.blocks.now) (length a.blocks.now) a.whole c.in-Some.wrong c.in-Some.ensures

pub returns-in-Some-search : goal.returns-in-Some-search
returns-in-Some-search c =
    let a = c.args in
    named-y (block_at a.blocks.now) (length a.blocks.now) a.whole c.in-Some-search.wrong c.in_default.ensures c.in-Some-search.ensures

pub returns : goal.returns
returns c =
    let a = c.args in
    named-z (block_at a.blocks.now) (length a.blocks.now) a.whole c.search-3.result c.in_default.ensures c.in_default-search.ensures c.search-3.ensures
