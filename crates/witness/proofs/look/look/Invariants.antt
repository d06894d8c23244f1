-- The invariant: what is seen past the first i blocks. Assumes nothing.
use Rattle.std.proofs.Common.{◌≡◌}
use Rattle.witness.specs.Steps.{blocks_on, look_to}
use Rattle.witness.proofs.look.look.Given as goal

abbrev pub invariant-loop-i : goal.invariant-loop-i
invariant-loop-i l = l.l ≡ look_to (blocks_on l.axis l.blocks) l.initial.l l.p l.i
