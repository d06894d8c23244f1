-- The half of the map is lent and put back. Assumes nothing.
use mathlib.Core.Path.{◌≡◌}
use Rattle.layers.specs.Memory.{half_of}
use Rattle.layers.specs.Offer.{before}
use Rattle.layers.proofs.Cells.{kept_read, two-layers}
use Rattle.layers.proofs.Brought.{room_of, lower-layers, map-corner, vertices-lent, count-lent, marked-put}
use Rattle.layers.proofs.bringing.mark_kept.Goals as goal
use Rattle.layers.proofs.bringing.mark_kept.Goals.{After-half_of-lower}

lower-is : (c : After-half_of-lower) → let a = c.args in c.half_of-lower.result.now ≡ half_of a.s.block (before a.s) a.distances.now
lower-is c = let a = c.args in kept_read a.s.block (before a.s) a.distances.now c.requires.ready.offered.long c.half_of-lower.ensures

pub half_of-lower-requires : goal.half_of-lower-requires
half_of-lower-requires c = let r = c.requires.ready in two-layers r r.kept

pub mark_layer-requires-clause-high_in_bounds : goal.mark_layer-requires-clause-high_in_bounds
mark_layer-requires-clause-high_in_bounds c =
    let p = c.requires in
    let l = lower-is (goal.at.mark_layer-requires-clause-high_in_bounds c).After-half_of-lower in map-corner p.ready p.taken_nonzero l c.half-at.ensures c.args.map.now p.block_in_bounds

pub mark_layer-requires-clause-in_layers : goal.mark_layer-requires-clause-in_layers
mark_layer-requires-clause-in_layers c =
    let p = c.requires in
    let l = lower-is (goal.at.mark_layer-requires-clause-in_layers c).After-half_of-lower in lower-layers p.ready p.taken_nonzero l

pub mark_layer-requires-clause-room : goal.mark_layer-requires-clause-room
mark_layer-requires-clause-room c =
    let p = c.requires in
    let l = lower-is (goal.at.mark_layer-requires-clause-room c).After-half_of-lower in room_of (vertices-lent p.ready p.taken_nonzero l) p.room

pub returns-clause-value : goal.returns-clause-value
returns-clause-value c =
    let a = c.args in
    let p = c.requires in
    let l = lower-is (goal.at.returns-clause-value c).After-half_of-lower in count-lent p.ready p.taken_nonzero l c.mark_layer.ensures.value

pub returns-clause-map_value : goal.returns-clause-map_value
returns-clause-map_value c =
    let a = c.args in
    let p = c.requires in
    let l = lower-is (goal.at.returns-clause-map_value c).After-half_of-lower in marked-put p.ready p.taken_nonzero l c.half-at.ensures a.positions.now a.normals.now a.cells.now a.strides.now a.crossings.now a.map.now
    p.number_value p.block_in_bounds c.mark_layer.ensures.map_value
