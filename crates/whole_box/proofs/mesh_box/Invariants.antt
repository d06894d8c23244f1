-- The invariant: the lists are what the layers before z leave; after the last layer of cells and the layer of points behind it, that is what the
-- documents say. Assumes nothing.
use Prim.Native.Nat.{◌-◌}
use Rattle.grid.specs.Block.{call_of}
use Rattle.grid.proofs.Walks.{Counting}
use Rattle.whole_box.specs.LentLists.{buffers}
use Rattle.whole_box.specs.Layers.{Written}
use Rattle.whole_box.proofs.mesh_box.Given as goal

abbrev pub invariant-loop-z : goal.invariant-loop-z
invariant-loop-z g l = Counting l.from l.end l.z × Written (call_of (g.D.Distance.floats l.sdf) l.k) l.z (buffers l.initial.positions l.initial.normals l.initial.cells l.initial.strides l.initial.crossings l.initial.map l.initial.indices) l.state
    (buffers l.positions l.normals l.cells l.strides l.crossings l.map l.indices)

abbrev pub decreases-loop-z : goal.decreases-loop-z
decreases-loop-z g l = l.end - l.z
