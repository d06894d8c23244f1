-- The parts of the grid that are lent are the layer's two, and what they count is what the layer counts in the whole grid. Assumes nothing.
use Rattle.grid.proofs.Parts.{layers-lent}
use Rattle.tally.proofs.Boxes.{part-whole}
use Rattle.tally.proofs.whole_cells.whole_part.Goals as goal

pub whole_layer-requires : goal.whole_layer-requires
whole_layer-requires g c =
    let e = c.layers_at.ensures in
    layers-lent _ c.args.k c.requires.inside c.args.z c.requires.z_le_z e.lower e.upper

pub returns : goal.returns
returns g c =
    let e = c.layers_at.ensures in
    part-whole _ c.args.k c.requires.inside c.args.z c.requires.z_le_z e.lower e.upper c.whole_layer.ensures
