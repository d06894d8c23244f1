-- The invariant: the flag says whether a layer before z has a stray point. Assumes nothing.
use Prim.Native.Nat.{ℕ}
use Rattle.grid.specs.Block.{box_of, field_of}
use Rattle.grid.proofs.Walks.{Scanned}
use Rattle.skin.specs.Scan.{stray_layer}
use Rattle.skin.proofs.scan.stray_box.Given as goal

abbrev pub invariant-loop-z : goal.invariant-loop-z
invariant-loop-z g l = Scanned (λ (at : ℕ). stray_layer (field_of (g.D.Distance.floats l.sdf) l.k) (box_of l.k) (box_of l.k) at at) l.from l.end l.z l.stray
