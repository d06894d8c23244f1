-- The invariant: the counts are those of the cells before the row y, and what is carried is the negatives of the row y of points and, in a half of the
-- list, its codes. Assumes nothing.
use mathlib.Core.Path.{◌≡◌}
use Rattle.grid.specs.Block.{box_of}
use Rattle.grid.specs.Layers.{two_layers}
use Rattle.grid.specs.Order.{layer_to}
use Rattle.grid.proofs.Walks.{Counting}
use Rattle.row_signs.specs.Signs.{row_negatives}
use Rattle.row_signs.proofs.Turns.{Holds}
use Rattle.count.proofs.Tallies.{Counts}
use Rattle.count.proofs.count_short.Given as goal

abbrev pub invariant-loop-y : goal.invariant-loop-y
invariant-loop-y g l =
    let lo = g.D.Distance.floats l.lower in
    let u = g.D.Distance.floats l.upper in
    Counting l.from l.end l.y × Counts (two_layers lo u l.k l.z) l.k (layer_to (box_of l.k) l.z l.y) l.vertices l.indices × (l.near ≡ row_negatives lo u l.k l.y) × Holds lo u l.k l.y l.here l.codes
