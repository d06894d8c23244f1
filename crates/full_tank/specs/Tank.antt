-- A full tank, and what it weighs. Definitions only. Assumes nothing.
use Rattle.std.specs.Prelude.{ℕ, ◌-◌, ◌*◌, ◌<◌, List, T, Float, length, get_or}
use Rattle.std.specs.Float.{nan}
use Rattle.rules.specs.Grid.{GridPoint}
use Rattle.rules.specs.Cell.{negative}
use Rattle.bounded_mesh.specs.Bounded.{sixfold_cells}

-- every distance is below zero
abbrev pub Full : List Float → Type 0
Full sdf = (i : ℕ) → i < length sdf → T (negative (get_or sdf i nan))

-- the cells between the outermost points of a grid of dimensions X, Y, Z: (X - 1)·(Y - 1)·(Z - 1)
abbrev pub cells_between : GridPoint → ℕ
cells_between d = (d.x - 1) * (d.y - 1) * (d.z - 1)

-- their weight in the unit of document 02, request 14
abbrev pub full_weight : GridPoint → ℕ
full_weight d = sixfold_cells (cells_between d)
