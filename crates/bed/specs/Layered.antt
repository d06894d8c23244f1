-- The numbers of a state after a start: "a refused start leaves it". Definitions only. Assumes nothing.
use Rattle.std.specs.Prelude.{ℕ, cond, List, eqb}
use Rattle.grid.specs.declared.Block.{Block}
use Rattle.layers.specs.Offer.{begun}
use Rattle.layers.specs.Words.{words_of}

abbrev pub words_started : ℕ → Block → List ℕ → List ℕ
words_started answer k old = cond (eqb answer 0) (words_of (begun k)) old
