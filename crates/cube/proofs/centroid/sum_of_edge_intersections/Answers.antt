-- `cube::centroid::sum_of_edge_intersections` meets its contract. The invariant: the sum and the count are those of the edges passed.
-- Assumes nothing.
use Rattle.std.proofs.Common.{◌≡◌, ◌<◌, true, false, sym, refl, ap, ◌∙◌, add-zero, arith}
use lib.Ieee.{of_bits}
use Rattle.lists.specs.Lists.{many, keep}
use Rattle.rules.specs.Cell.{plus, cube_edge, cube_edges, crosses, crossing_point, zero_vector, summed, crossing_points, crossings}
use Rattle.cube.specs.AsRules.{vector, edge_at}
use Rattle.cube.proofs.Taking.{many-turn, sum-turn}
use Rattle.cube.proofs.Answer.{not-crossed, crossed}
use Rattle.cube.proofs.centroid.sum_of_edge_intersections.Invariants.{count_to, sum_to}
use Rattle.cube.proofs.centroid.sum_of_edge_intersections.Goals as goal
use Rattle.cube.proofs.centroid.sum_of_edge_intersections.Goals.{in-Some, in_default}

pub loop-e-init : goal.loop-e-init
unfolding many keep summed of_bits
loop-e-init c = record { few = omega arith; sum_is = refl; count_is = refl }

pub loop-e-preserved : goal.loop-e-preserved
loop-e-preserved c =
    let d = c.args.d.now in
    let e = c.loop-e.e in
    let h : e < 12 = omega arith in
    let inv = c.loop-e.invariant in
    let from = c.first_end-a.ensures.0 in
    let to = c.second_end-b.ensures.0 in
    let found = c.estimate_surface_edge_intersection.result in
    let told = c.estimate_surface_edge_intersection.ensures in
    elim c.match-estimate_surface_edge_intersection.branch [
      | in-Some w ↦
          let at = crossed d (edge_at e) found from to told w.in-Some.f w.in-Some.is in
          record {
            few = omega arith;
            sum_is =
                sum-turn (crosses d) (cube_edge 0 0) (crossing_point d) zero_vector cube_edges e true h inv.sum_is at.0
                (ap vector w.sum-is ∙ (w.add-sum.ensures ∙ ap (plus (vector c.loop-e.sum)) (w.point_between.ensures ∙ at.1)));
            count_is = many-turn (crosses d) (cube_edge 0 0) cube_edges e true h inv.count_is at.0 w.count-is;
          }
      | in_default w ↦
          let none = not-crossed d (edge_at e) found from to told w.in_default.not-Some in
          record {
            few = omega arith;
            sum_is = sum-turn (crosses d) (cube_edge 0 0) (crossing_point d) zero_vector cube_edges e false h inv.sum_is none (ap vector w.sum-is);
            count_is = many-turn (crosses d) (cube_edge 0 0) cube_edges e false h inv.count_is none (w.count-is ∙ sym (add-zero _));
          }
    ]

pub returns-clause-sum_value : goal.returns-clause-sum_value
unfolding crossing_points crossings
returns-clause-sum_value c =
    let done : c.loop-e.e ≡ 12 = omega arith in c.loop-e.invariant.sum_is ∙ ap (sum_to c.args.d.now) done

pub returns-clause-count_value : goal.returns-clause-count_value
unfolding crossing_points crossings
returns-clause-count_value c =
    let done : c.loop-e.e ≡ 12 = omega arith in c.loop-e.invariant.count_is ∙ ap (count_to c.args.d.now) done
