-- The parts of the grid that are lent are the layer's two, and what they count is what the layer counts in the whole grid. Assumes nothing.
use Rattle.grid.proofs.Parts.{layers-lent}
use Rattle.count.proofs.Tallies.{part-tally}
use Rattle.count.proofs.count_part.Goals as goal

pub count_layer-requires : goal.count_layer-requires
count_layer-requires g c =
    let e = c.layers_at.ensures in
    layers-lent _ c.args.k c.requires.inside c.args.z c.requires.z_le_z e.lower e.upper

pub returns : goal.returns
returns g c =
    let e = c.layers_at.ensures in
    part-tally _ c.args.k c.requires.inside c.args.z c.requires.z_le_z e.lower e.upper c.count_layer.ensures
