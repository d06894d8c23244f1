-- `levels::answers::bad_points` meets its contract: the layer is a grid of its own, one layer high. Assumes nothing.
use Rattle.std.proofs.Common.{List, ◌∙◌}
use lib.Ieee.{Float}
use Rattle.levels.proofs.Answering.{flat-inside, flat-points}
use Rattle.levels.proofs.answers.bad_points.Given.{Over}
use Rattle.levels.proofs.answers.bad_points.Goals as goal
use Rattle.levels.proofs.answers.bad_points.Goals.{Start}

abbrev layer-of : (g : Over) → Start g → List Float
layer-of g c = let a = c.args in g.D.Distance.floats a.layer.now

pub bad_layer-requires-clause-inside : goal.bad_layer-requires-clause-inside
bad_layer-requires-clause-inside g c = flat-inside c.args.k (layer-of g (goal.at.bad_layer-requires-clause-inside g c).Start) c.requires

pub returns : goal.returns
returns g c = c.bad_layer.ensures ∙ flat-points c.args.k (layer-of g (goal.at.returns g c).Start)
