-- The half holds the layer, and its half of the map no vertex. Assumes nothing.
use Rattle.layers.proofs.Brought.{part-lent, cleared-put, layer-put}
use Rattle.layers.proofs.keeping.keep_layer.Goals as goal

pub clear_layer-requires : goal.clear_layer-requires
clear_layer-requires c = part-lent c.requires.ready c.args.map.now c.requires.block_in_bounds c.half-at.ensures

pub returns-clause-distances_after : goal.returns-clause-distances_after
returns-clause-distances_after c = layer-put c.requires.ready c.half-at.ensures c.copy.ensures

pub returns-clause-map_after : goal.returns-clause-map_after
returns-clause-map_after c = cleared-put c.requires.ready c.args.map.now c.requires.block_in_bounds c.half-at.ensures c.clear_layer.ensures
