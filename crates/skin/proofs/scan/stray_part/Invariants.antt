-- The invariant: the flag says whether a point of the part before x is stray. Assumes nothing.
use Prim.Native.Nat.{ℕ}
use Rattle.grid.specs.Block.{box_of, field_of}
use Rattle.grid.proofs.Walks.{Scanned}
use Rattle.skin.specs.Scan.{stray_at}
use Rattle.skin.proofs.scan.stray_part.Given as goal

abbrev pub invariant-loop-x : goal.invariant-loop-x
invariant-loop-x g l = Scanned
    (λ (x' : ℕ). stray_at (field_of (g.D.Distance.floats l.sdf) l.f) (box_of l.k) (record { x = x'; y = l.y; z = l.place }) (record { x = x'; y = l.y; z = l.z }))
    l.from l.end l.x l.stray
