-- The corner values gathered, what is worked out of them, and the vertices put: those of the batch's cells. Assumes nothing.
use mathlib.Core.List.{List}
use mathlib.Core.Path.{ap, ◌∙◌}
use Rattle.rules.specs.Cutting.{Vertex}
use Rattle.layer_estimates.specs.Estimates.{lists, written}
use Rattle.layer_estimates.proofs.Reading.{vertices-at}
use Rattle.layer_estimates.proofs.estimate_some.Goals as goal

pub returns : goal.returns
returns g c =
    let a = c.args in
    c.put.ensures
    ∙ ap (λ (vs : List Vertex). written a.place vs (lists a.positions.now a.normals.now a.crossings.now))
    (vertices-at c.requires.batch.few c.gather.ensures c.solve.ensures)
