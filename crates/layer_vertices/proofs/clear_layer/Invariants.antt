-- The invariant: the part is what the rows before y leave; after the last, each point of the box in the layer is cleared. Assumes nothing.
use Prim.Native.Nat.{◌-◌}
use mathlib.Core.Path.{◌≡◌}
use Rattle.grid.specs.Block.{point, box_of}
use Rattle.grid.specs.Order.{layer_to}
use Rattle.grid.proofs.Walks.{Counting}
use Rattle.layer_vertices.specs.Cells.{points_of, cleared}
use Rattle.layer_vertices.proofs.clear_layer.Given as goal

abbrev pub invariant-loop-y : goal.invariant-loop-y
invariant-loop-y l = Counting l.from l.end l.y × (l.map ≡ cleared (point l.k.dims) (layer_to (points_of (box_of l.k)) l.k.high.z l.y) l.initial.map)

abbrev pub decreases-loop-y : goal.decreases-loop-y
decreases-loop-y l = l.end - l.y
