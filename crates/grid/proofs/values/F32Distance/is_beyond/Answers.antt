-- By the comparisons with the cap and its negation. Assumes nothing.
use lib.Ieee.{of_bits, neg}
use Rattle.grid.proofs.Beyond.{beyond-cap}
use Rattle.grid.proofs.values.F32Distance.is_beyond.Goals as goal

pub returns : goal.returns
unfolding of_bits neg
returns c = beyond-cap c.args.self
