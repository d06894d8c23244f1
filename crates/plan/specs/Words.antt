-- What the code says of itself: a block by its twelve words, dimensions, which are not read, min, max and the max plane's flags, of which any word
-- but 0 is set. Definitions only. Assumes nothing.
use Rattle.std.specs.Prelude.{ℕ, not, List, eqb, get_or}
use Rattle.plan.specs.declared.Block.{Block}
use Rattle.plan.specs.Plan.{block}

abbrev pub block_of : List ℕ → Block
block_of words =
    block (get_or words 3 0) (get_or words 4 0) (get_or words 5 0) (get_or words 6 0) (get_or words 7 0) (get_or words 8 0)
    (not (eqb (get_or words 9 0) 0)) (not (eqb (get_or words 10 0) 0)) (not (eqb (get_or words 11 0) 0))
