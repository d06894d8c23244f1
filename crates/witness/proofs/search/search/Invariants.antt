-- The invariant: what is seen from the point, and that every edge before it is right. Assumes nothing.
use Rattle.std.proofs.Common.{◌≡◌, length}
use Rattle.witness.specs.Steps.{blocks_on, first_look, look_to, Near}
use Rattle.witness.proofs.Walk.{BeforeRight, left}
use Rattle.witness.proofs.search.search.Given as goal

abbrev pub invariant-loop-l : goal.invariant-loop-l
invariant-loop-l l =
    (l.l ≡ look_to (blocks_on l.axis l.blocks) (first_look l.w l.p) l.p (length l.blocks))
    × Near l.p × BeforeRight (blocks_on l.axis l.blocks) (length l.blocks) l.w l.p

abbrev pub decreases-loop-l : goal.decreases-loop-l
decreases-loop-l l = left l.p
