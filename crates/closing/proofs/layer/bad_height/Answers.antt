-- A dimension within condition 1 is small. Assumes nothing.
use native.Mathlib.Omega.{arith}
use Rattle.rules.proofs.Indexes.{small}
use Rattle.grid.specs.Block.{point}
use Rattle.closing.proofs.layer.bad_height.Goals as goal

pub overflow_add-result : goal.overflow_add-result
overflow_add-result c = omega (arith, (small (point c.args.d) c.requires).z)
