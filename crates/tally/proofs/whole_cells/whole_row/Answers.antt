-- The row's run lies in the two layers, and counts what the row's cells count. Assumes nothing.
use Prim.Native.Nat.{◌+◌, ◌*◌}
use mathlib.Core.List.{List}
use mathlib.Core.Path.{refl, sym, ◌∙◌}
use lib.Ieee.{Float}
use Rattle.grid.proofs.Walks.{cell-spans}
use Rattle.grid.proofs.Layers.{somewhere}
use Rattle.grid.proofs.LayerWalks.{Row}
use Rattle.count.proofs.Rows.{Reach, reach}
use Rattle.tally.proofs.Rows.{row-whole}
use Rattle.tally.proofs.whole_cells.whole_row.Given.{Over}
use Rattle.tally.proofs.whole_cells.whole_row.Goals as goal
use Rattle.tally.proofs.whole_cells.whole_row.Goals.{Start}

abbrev lower_of : (g : Over) → Start g → List Float
lower_of g c = let a = c.args in g.D.Distance.floats a.lower.now

abbrev upper_of : (g : Over) → Start g → List Float
upper_of g c = let a = c.args in g.D.Distance.floats a.upper.now

row : (g : Over) (c : Start g) → Row (lower_of g c) (upper_of g c) c.args.k c.args.y c.args.z
row g c = record { layers = c.requires.in_layers; along-y = c.requires.y_le_y }

there : (g : Over) (c : Start g) → let a = c.args in Reach (lower_of g c) (upper_of g c) a.k a.y a.z (a.k.low.x + a.k.dims.x * a.y)
there g c = reach (row g c) refl

pub overflow_sub-n : goal.overflow_sub-n
overflow_sub-n g c = (cell-spans (somewhere c.requires.in_layers)).x.ordered

pub whole_run-count-requires-clause-row_in_bounds : goal.whole_run-count-requires-clause-row_in_bounds
whole_run-count-requires-clause-row_in_bounds g c = let r = there g (goal.at.whole_run-count-requires-clause-row_in_bounds g c).Start in (r.in-lower, r.in-upper)

pub whole_run-count-requires-clause-n_bound : goal.whole_run-count-requires-clause-n_bound
whole_run-count-requires-clause-n_bound g c = let r = there g (goal.at.whole_run-count-requires-clause-n_bound g c).Start in r.long

pub returns : goal.returns
returns g c =
    c.whole_run-count.ensures ∙ sym (row-whole (lower_of g (goal.at.returns g c).Start) (upper_of g (goal.at.returns g c).Start) c.args.k c.requires.in_layers c.requires.y_le_y refl)
