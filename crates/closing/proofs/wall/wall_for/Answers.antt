-- The invariant: after k turns the two powers of two are those of k, or of the place that was found. Assumes nothing.
use mathlib.Core.Path.{◌≡◌, ◌∙◌}
use native.Mathlib.Omega.{arith}
use lib.Ieee.{of_bits, nan_bits}
use Rattle.closing.proofs.Walls.{begun, turn_up, turn_on, turned-all, no-wall-needed}
use Rattle.closing.proofs.wall.wall_for.Goals as goal
use Rattle.closing.proofs.wall.wall_for.Goals.{then-depth-deepest, else-depth-deepest}

pub returns-then-not-deepest : goal.returns-then-not-deepest
unfolding of_bits
returns-then-not-deepest c = no-wall-needed c.args.deepest (c.if-not-deepest.true)

pub float_from_bits-depth : goal.float_from_bits-depth
unfolding nan_bits
float_from_bits-depth c = tt

pub float_from_bits-wall : goal.float_from_bits-wall
unfolding nan_bits
float_from_bits-wall c = tt

pub loop-k-init : goal.loop-k-init
unfolding of_bits
loop-k-init c = let e = begun c.args.deepest in (omega arith, e.0, e.1)

pub loop-k-preserved : goal.loop-k-preserved
loop-k-preserved c =
    let f = c.args.deepest in
    elim c.if-depth-deepest.branch [
      | then-depth-deepest w ↦ let u = turn_up f c.loop-k._k (omega arith) c.loop-k.invariant.1 c.loop-k.invariant.2 w.if-depth-deepest.true in (omega arith, w.depth-is ∙ u.0, w.wall-is ∙ u.1)
      | else-depth-deepest w ↦ let u = turn_on f c.loop-k._k c.loop-k.invariant.1 c.loop-k.invariant.2 w.if-depth-deepest.false in (omega arith, w.depth-is ∙ u.0, w.wall-is ∙ u.1)
    ]

pub returns : goal.returns
unfolding of_bits
returns c =
    let e : c.loop-k._k ≡ 248 = omega arith in
    turned-all c.args.deepest e (c.if-not-deepest.false) c.loop-k.invariant.2
