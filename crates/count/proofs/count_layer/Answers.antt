-- Both ways count the layer. Assumes nothing.
use Rattle.grid.proofs.Walks.{cell-spans}
use Rattle.grid.proofs.Layers.{somewhere}
use Rattle.count.proofs.count_layer.Goals as goal

pub overflow_sub-points : goal.overflow_sub-points
overflow_sub-points g c = (cell-spans (somewhere c.requires)).x.ordered
