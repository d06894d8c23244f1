-- 0 / 0 is not-a-number. Assumes nothing.
use Rattle.std.proofs.Common.{refl}
use lib.Ieee.{div, of_bits}
use Rattle.layer_faces.proofs.no_position.Goals as goal

pub returns : goal.returns
unfolding div of_bits
returns c = refl
