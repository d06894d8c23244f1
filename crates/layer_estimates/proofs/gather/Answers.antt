-- The invariant: the lanes before j hold the corner values of their cells. A turn stores the eight of the lane j, by a law of lanes. Assumes nothing.
use Prim.Native.Nat.{ℕ, ◌+◌}
use native.Mathlib.Omega.{arith}
use mathlib.Core.List.{List}
use mathlib.Core.Path.{refl, ap, ap₂, ◌∙◌}
use lib.Ieee.{Float}
use lib.ListN.{length, length-set}
use Rattle.rules.specs.Cutting.{point_in}
use Rattle.grid.specs.Corners.{eight_of}
use Rattle.grid.proofs.Places.{grid-counted}
use Rattle.layer_estimates.specs.Estimates.{eight_at, corners_of}
use Rattle.layer_estimates.proofs.Lanes.{eight-more}
use Rattle.layer_estimates.proofs.Numbers.{OfTurn, of-turn, OfSides, of-sides}
use Rattle.layer_estimates.proofs.gather.Given.{Over}
use Rattle.layer_estimates.proofs.gather.Goals as goal
use Rattle.layer_estimates.proofs.gather.Goals.{In-loop-j, Start}

-- the two layers of distances
abbrev lower_of : (g : Over) → In-loop-j g → List Float
lower_of g c = let a = c.args in g.D.Distance.floats a.lower.now

abbrev upper_of : (g : Over) → In-loop-j g → List Float
upper_of g c = let a = c.args in g.D.Distance.floats a.upper.now

sides : (g : Over) (c : In-loop-j g) → let p = point_in c.args.cells.now (c.args.from + c.loop-j.j) in
    OfSides p.x c.args.row p.y (length (lower_of g c)) (length (upper_of g c))
sides g c =
    let a = c.args in
    of-sides (c.requires.batch.reads c.loop-j.j c.loop-j-test.true)
    (grid-counted g.met.D.Distance.floats_are a.lower.now (omega arith))

turn : (g : Over) (c : In-loop-j g) → OfTurn c.loop-j.j c.args.n
turn g c = of-turn c.loop-j-test.true c.requires.batch.few

-- the two layers of distances
abbrev lower_of-2 : (g : Over) → Start g → List Float
lower_of-2 g c = let a = c.args in g.D.Distance.floats a.lower.now

abbrev upper_of-2 : (g : Over) → Start g → List Float
upper_of-2 g c = let a = c.args in g.D.Distance.floats a.upper.now

pub overflow_mul-at : goal.overflow_mul-at
overflow_mul-at g c = (sides g (goal.at.overflow_mul-at g c).In-loop-j).row-start

pub overflow_add-at-in-loop-j : goal.overflow_add-at-in-loop-j
overflow_add-at-in-loop-j g c = (sides g (goal.at.overflow_add-at-in-loop-j g c).In-loop-j).low

pub overflow_add-at-in-loop-j-2 : goal.overflow_add-at-in-loop-j-2
overflow_add-at-in-loop-j-2 g c = (sides g (goal.at.overflow_add-at-in-loop-j-2 g c).In-loop-j).high

pub loop-j-preserved : goal.loop-j-preserved
loop-j-preserved g c =
    let a = c.args in
    let w = c.loop-j in
    let low = c.side_between-low in
    let high = c.side_between-high in
    let e = c.put_corners.ensures in (
      (turn g (goal.at.loop-j-preserved g c).In-loop-j).taken,
      (
        ap length e ∙ simp length-set w.invariant.1.0,
        record {
          each =
              λ j h.
              ap (λ (l : List Float). eight_at l j) e
              ∙ eight-more (λ (j : ℕ). corners_of (lower_of-2 g (goal.at.loop-j-preserved g c).Start) (upper_of-2 g (goal.at.loop-j-preserved g c).Start) a.row (point_in a.cells.now (a.from + j))) w.corners w.j
              (eight_of low.result high.result) w.invariant.1.0 (turn g (goal.at.loop-j-preserved g c).In-loop-j).lane refl w.invariant.1.1.each (ap₂ eight_of low.ensures high.ensures) j h;
        },
      ),
    )
