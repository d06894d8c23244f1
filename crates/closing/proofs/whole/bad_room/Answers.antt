-- The product of dimensions within condition 1 fits. Assumes nothing.
use native.Mathlib.Omega.{arith}
use Rattle.grid.specs.Block.{point}
use Rattle.grid.proofs.Bounds.{few}
use Rattle.closing.proofs.whole.bad_room.Goals as goal

pub overflow_mul-result-2 : goal.overflow_mul-result-2
overflow_mul-result-2 c = omega (arith, few (point c.args.d) c.requires)
