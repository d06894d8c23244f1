-- The invariant: the lanes before j hold what is worked out of theirs. A turn stores the results of the lane j, each list by a law of lanes.
-- Assumes nothing.
use Prim.Native.Nat.{ℕ, ◌<◌}
use native.Mathlib.Nat.{le_refl}
use native.Mathlib.Omega.{arith}
use mathlib.Core.List.{List}
use mathlib.Core.Path.{ap, ◌∙◌}
use lib.Ieee.{Float}
use lib.ListN.{length, length-set}
use Rattle.rules.specs.Cell.{centroid, normal, crossings}
use Rattle.cube.specs.AsRules.{vector}
use Rattle.layer_estimates.specs.Estimates.{eight_at, vector_at}
use Rattle.layer_estimates.proofs.Lanes.{vector-more, number_more}
use Rattle.layer_estimates.proofs.Numbers.{OfTurn, of-turn}
use Rattle.layer_estimates.proofs.solve.Goals as goal
use Rattle.layer_estimates.proofs.solve.Goals.{In-loop-j}

turn : (c : In-loop-j) → OfTurn c.loop-j.j 32
turn c = let h : c.loop-j.j < 32 = omega (arith, c.loop-j-test.true) in of-turn h (le_refl 32)

pub loop-j-preserved : goal.loop-j-preserved
loop-j-preserved c =
    let corners = c.args.corners.now in
    let w = c.loop-j in
    let i = w.invariant.1 in
    let known = i.1.1.1.each in
    let d = c.corners_at-d.ensures in
    let average = c.centroid_of_edge_intersections-average in
    let s = vector average.result.point in
    let g = c.sdf_gradient in
    let p = c.put_lane.ensures in
    let q = c.put_lane-in-loop-j.ensures in
    let near = (turn (goal.at.loop-j-preserved c).In-loop-j).lane in (
      (turn (goal.at.loop-j-preserved c).In-loop-j).taken,
      (
        ap length p ∙ simp length-set i.0,
        (
          ap length q ∙ simp length-set i.1.0,
          (
            length-set w.counts w.j average.result.crossings ∙ i.1.1.0,
            record {
              each =
                  λ j h.
                  record {
                    average =
                        ap (λ (l : List Float). vector_at l j) p
                        ∙ vector-more (λ (j : ℕ). centroid (eight_at corners j)) w.centroids w.j s i.0 near (λ j h. (known j h).average)
                        (average.ensures.point_value ∙ ap centroid d) j h;
                    gradient =
                        ap (λ (l : List Float). vector_at l j) q
                        ∙ vector-more (λ (j : ℕ). normal (eight_at corners j) (centroid (eight_at corners j))) w.gradients w.j (vector g.result) i.1.0 near
                        (λ j h. (known j h).gradient)
                        (g.ensures ∙ ap (λ (l : List Float). normal l s) d ∙ ap (normal (eight_at corners w.j)) (average.ensures.point_value ∙ ap centroid d)) j h;
                    count =
                        number_more (λ (j : ℕ). crossings (eight_at corners j)) w.counts w.j average.result.crossings i.1.1.0 near
                        (λ j h. (known j h).count) (average.ensures.crossings_value ∙ ap crossings d) j h;
                  };
            },
          ),
        ),
      ),
    )
