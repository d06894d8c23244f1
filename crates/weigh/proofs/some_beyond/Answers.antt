-- `weigh::some_beyond` meets its contract: the comparisons with 2^24 are the definition's test. Assumes nothing.
use mathlib.Core.Path.{◌∙◌}
use lib.Ieee.{of_bits}
use Rattle.volume.proofs.Coordinate.{permitted-16777216}
use Rattle.volume.proofs.Searching.{some_alike}
use Rattle.weigh.proofs.some_beyond.Goals as goal

pub returns : goal.returns
unfolding of_bits
returns c = c.some_past.ensures ∙ some_alike _ _ permitted-16777216 c.args.positions.now
