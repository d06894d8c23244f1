-- The layer is a grid of its own, one layer high. Assumes nothing.
use mathlib.Core.Path.{◌∙◌}
use Rattle.layers.proofs.Judging.{flat-inside, flat-points}
use Rattle.layers.proofs.answers.bad_points.Goals as goal

pub bad_distance-requires : goal.bad_distance-requires
bad_distance-requires c = flat-inside c.args.k c.args.layer.now c.requires

pub returns : goal.returns
returns c = c.bad_distance.ensures ∙ flat-points c.args.k c.args.layer.now
