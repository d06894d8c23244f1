-- `volume::some_outside` meets its contract: the comparisons with 128 are the definition's test. Assumes nothing.
use mathlib.Core.Path.{◌∙◌}
use lib.Ieee.{of_bits}
use Rattle.volume.proofs.Coordinate.{permitted-128}
use Rattle.volume.proofs.Searching.{some_alike}
use Rattle.volume.proofs.some_outside.Goals as goal

pub returns : goal.returns
unfolding of_bits
returns c = c.some_past.ensures ∙ some_alike _ _ permitted-128 c.args.positions.now
