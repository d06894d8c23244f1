-- How far the places of a box reach: its cells up to max, its points one further. Definitions only. Assumes nothing.
use Rattle.std.specs.Prelude.{ℕ}
use Rattle.marks.specs.declared.Reach.{Reach}
use Rattle.marks.specs.declared.Reach.TheVariants.{Cells, Points}

abbrev pub further : Reach → ℕ
further Cells = 0
further Points = 1
