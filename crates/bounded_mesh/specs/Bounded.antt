-- The volume of a mesh between two numbers that are counted from the distances alone. Definitions only. Assumes nothing.
use Rattle.std.specs.Prelude.{ℕ, ◌+◌, ◌*◌, ◌^◌, ℤ, pos, ◌+ℤ◌, ◌*ℤ◌, ◌≤ℤ◌}
use Rattle.promises.specs.Served.{Served}
use Rattle.tally.specs.Cells.{whole_cells}

-- so many cells in the unit of document 02, request 14: six times the volume, in cubed steps of 1/256
abbrev pub sixfold_cells : ℕ → ℕ
sixfold_cells n = 6 * 256 ^ 3 * n

-- the cells that lie wholly in the sludge
abbrev pub whole_of : Served → ℕ
whole_of u = whole_cells u.call.grid u.call.box

-- a weight from the cells that lie wholly in the sludge, to those and all that the surface passes through, give or take a sixth of a cell for each face. A
-- face has six indices, so all is said 36 times.
pub record Bounded (u : Served) (weight : ℤ) : Type 0 where
  pub low : pos (sixfold_cells (36 * whole_of u)) ≤ℤ (pos 36 *ℤ weight +ℤ pos (sixfold_cells u.says.indices))
  pub high : (pos 36 *ℤ weight) ≤ℤ pos (sixfold_cells (36 * (whole_of u + u.says.vertices) + u.says.indices))
