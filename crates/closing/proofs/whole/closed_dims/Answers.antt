-- Dimensions within condition 1 are small. Assumes nothing.
use native.Mathlib.Omega.{arith}
use Rattle.rules.proofs.Indexes.{Small, small}
use Rattle.grid.specs.Block.{point}
use Rattle.closing.proofs.whole.closed_dims.Goals as goal
use Rattle.closing.proofs.whole.closed_dims.Goals.{Start}

few : (c : Start) → Small (point c.args.d)
few c = small (point c.args.d) c.requires

pub overflow_add-result : goal.overflow_add-result
overflow_add-result c = omega (arith, (few (goal.at.overflow_add-result c).Start).x)

pub overflow_add-result-2 : goal.overflow_add-result-2
overflow_add-result-2 c = omega (arith, (few (goal.at.overflow_add-result-2 c).Start).y)

pub overflow_add-result-3 : goal.overflow_add-result-3
overflow_add-result-3 c = omega (arith, (few (goal.at.overflow_add-result-3 c).Start).z)
