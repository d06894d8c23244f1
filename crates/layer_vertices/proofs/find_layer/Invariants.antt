-- The invariant: the lists are what the rows before y leave, and the row y of points is kept, with the number of its negatives; after the last row of
-- cells and the one behind it, the lists are what the rules say of the layer. Assumes nothing.
use Prim.Native.Nat.{◌-◌}
use mathlib.Core.Path.{◌≡◌}
use Rattle.grid.specs.Block.{point, box_of}
use Rattle.grid.specs.Layers.{two_layers}
use Rattle.grid.specs.Order.{layer_to}
use Rattle.grid.proofs.Walks.{Counting}
use Rattle.row_signs.specs.Signs.{row_negatives}
use Rattle.row_signs.proofs.Turns.{Holds}
use Rattle.layer_vertices.specs.Cells.{finds, points_of, has_vertex, Passes}
use Rattle.layer_vertices.proofs.find_layer.Given as goal

abbrev pub invariant-loop-y : goal.invariant-loop-y
invariant-loop-y g l = let lower = g.D.Distance.floats l.lower in
    let upper = g.D.Distance.floats l.upper in
    Counting l.from l.end l.y
    × Passes (point l.k.dims) (has_vertex (two_layers lower upper l.k l.z) (box_of l.k)) l.initial.state (finds l.initial.cells l.initial.strides l.initial.map) (layer_to (points_of (box_of l.k)) l.z l.y) l.state (finds l.cells l.strides l.map)
    × (l.near ≡ row_negatives lower upper l.k l.y)
    × Holds lower upper l.k l.y l.here l.codes

abbrev pub decreases-loop-y : goal.decreases-loop-y
decreases-loop-y g l = l.end - l.y
