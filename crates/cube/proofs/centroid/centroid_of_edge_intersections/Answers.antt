-- `cube::centroid::centroid_of_edge_intersections` meets its contract: the sum, divided by the count as a float, and the count, which is that of some of
-- the twelve edges and fits a byte. Assumes nothing.
use Rattle.std.proofs.Common.{ap, ◌∙◌, ap₂, arith}
use Rattle.rules.specs.Cell.{float, cube_edges, crosses, divided, crossings, centroid}
use Rattle.lists.proofs.Lists.{many-most}
use Rattle.cube.proofs.centroid.centroid_of_edge_intersections.Goals as goal

pub overflow_cast-number : goal.overflow_cast-number
unfolding crossings
overflow_cast-number c =
    let sums = c.sum_of_edge_intersections-c.ensures in omega (arith, sums.count_value, many-most (crosses c.args.d.now) cube_edges)

pub returns-clause-point_value : goal.returns-clause-point_value
unfolding centroid
returns-clause-point_value c =
    let sums = c.sum_of_edge_intersections-c.ensures in
    c.div-point.ensures ∙ ap₂ divided sums.sum_value (c.nearest_u32_to_f32.ensures ∙ ap float sums.count_value)
