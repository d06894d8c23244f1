-- A weight between two numbers that three counts make: a cells wholly in the sludge, V and I. From a, less a sixth of a cell for each face, to a + V and a sixth of a
-- cell for each face. A face has six indices, so all is said 36 times: 36·a - I ≤ 36·volume ≤ 36·(a + V) + I. Definitions only. Assumes nothing.
use Rattle.std.specs.Prelude.{◌+◌, ◌*◌, ℤ, pos, ◌+ℤ◌, ◌*ℤ◌, ◌≤ℤ◌}
use Rattle.tally.specs.declared.Counts.{Counts}
use Rattle.bounded_mesh.specs.Bounded.{sixfold_cells}

pub record Between (c : Counts) (weight : ℤ) : Type 0 where
  pub low : pos (sixfold_cells (36 * c.whole)) ≤ℤ (pos 36 *ℤ weight +ℤ pos (sixfold_cells c.indices))
  pub high : (pos 36 *ℤ weight) ≤ℤ pos (sixfold_cells (36 * (c.whole + c.vertices) + c.indices))
