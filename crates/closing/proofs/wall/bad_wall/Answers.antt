-- By the comparisons with zero and the cap. Assumes nothing.
use lib.Ieee.{of_bits}
use Rattle.closing.proofs.Walls.{bad-wall-is}
use Rattle.closing.proofs.wall.bad_wall.Goals as goal

pub returns : goal.returns
unfolding of_bits
returns c = bad-wall-is c.args.wall
