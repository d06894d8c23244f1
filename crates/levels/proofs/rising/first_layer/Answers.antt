-- `levels::rising::first_layer` meets its contract: none so far, and then as if the layer stood on itself. Assumes nothing.
use Rattle.levels.proofs.Layers.{lowest-layer}
use Rattle.levels.proofs.rising.first_layer.Goals as goal

pub returns : goal.returns
returns g c =
    let a = c.args in
    lowest-layer a.k (g.D.Distance.floats a.upper.now) a.b a.z a.out.now c.column_count-n.ensures
    c.clear.ensures c.rise_layer.ensures
