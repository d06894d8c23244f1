-- The invariant: the counts are those of the cells before the row y, and what is carried is the negatives of the row y of points. Assumes nothing.
use mathlib.Core.Path.{◌≡◌}
use lib.ListN.{length}
use Rattle.grid.specs.Block.{box_of}
use Rattle.grid.specs.Layers.{two_layers}
use Rattle.grid.specs.Order.{layer_to}
use Rattle.grid.proofs.Walks.{Counting}
use Rattle.row_signs.specs.Signs.{row_negatives}
use Rattle.count.proofs.Tallies.{Counts}
use Rattle.count.proofs.count_long.Given as goal

abbrev pub invariant-loop-y : goal.invariant-loop-y
invariant-loop-y g l =
    let lo = g.D.Distance.floats l.lower in
    let u = g.D.Distance.floats l.upper in
    Counting l.from l.end l.y × Counts (two_layers lo u l.k l.z) l.k (layer_to (box_of l.k) l.z l.y) l.vertices l.indices × (l.near_row ≡ row_negatives lo u l.k l.y) × (length l.codes ≡ 1024)
