-- The halves are lent, and the vertices of the layer. Assumes nothing.
use mathlib.Core.Path.{◌≡◌}
use Rattle.layers.specs.Memory.{half_of}
use Rattle.layers.specs.Offer.{before}
use Rattle.layers.proofs.Cells.{kept_read, two-layers}
use Rattle.layers.proofs.Brought.{lower-layers, standing-lent, edges_fit, faces-put}
use Rattle.layers.proofs.bringing.face_kept.Goals as goal
use Rattle.layers.proofs.bringing.face_kept.Goals.{After-half_of-lower, After-half_of-here, After-half_of-below}

lower-is : (c : After-half_of-lower) → let a = c.args in c.half_of-lower.result.now ≡ half_of a.s.block (before a.s) a.distances.now
lower-is c = let a = c.args in kept_read a.s.block (before a.s) a.distances.now c.requires.ready.offered.long c.half_of-lower.ensures

here-is : (c : After-half_of-here) → let a = c.args in c.half_of-here.result.now ≡ half_of a.s.block (before a.s) a.map.now
here-is c = let a = c.args in kept_read a.s.block (before a.s) a.map.now c.requires.ready.offered.long c.half_of-here.ensures

below-is : (c : After-half_of-below) → let a = c.args in c.half_of-below.result.now ≡ half_of a.s.block a.s.taken a.map.now
below-is c = let a = c.args in kept_read a.s.block a.s.taken a.map.now c.requires.ready.offered.long c.half_of-below.ensures

pub half_of-lower-requires : goal.half_of-lower-requires
half_of-lower-requires c = let r = c.requires.ready in two-layers r r.kept

pub half_of-here-requires : goal.half_of-here-requires
half_of-here-requires c = two-layers c.requires.ready c.requires.block_in_bounds

pub half_of-below-requires : goal.half_of-below-requires
half_of-below-requires c = two-layers c.requires.ready c.requires.block_in_bounds

pub face_layer-requires-clause-in_layers : goal.face_layer-requires-clause-in_layers
face_layer-requires-clause-in_layers c =
    let p = c.requires in
    let l = lower-is (goal.at.face_layer-requires-clause-in_layers c).After-half_of-lower in lower-layers p.ready p.taken_nonzero l

pub face_layer-requires-clause-standing : goal.face_layer-requires-clause-standing
face_layer-requires-clause-standing c =
    let p = c.requires in
    let l = lower-is (goal.at.face_layer-requires-clause-standing c).After-half_of-lower in standing-lent p.ready p.taken_nonzero l c.args.map.now (here-is (goal.at.face_layer-requires-clause-standing c).After-half_of-here) p.standing

pub face_layer-requires-clause-z_in_bounds : goal.face_layer-requires-clause-z_in_bounds
face_layer-requires-clause-z_in_bounds c =
    let p = c.requires in
    let l = lower-is (goal.at.face_layer-requires-clause-z_in_bounds c).After-half_of-lower in edges_fit p.ready p.taken_nonzero l p.s_in_bounds

pub returns : goal.returns
returns c =
    let a = c.args in
    let p = c.requires in
    faces-put p.ready p.taken_nonzero (lower-is (goal.at.returns c).After-half_of-lower) a.map.now (below-is (goal.at.returns c).After-half_of-below) a.first.here a.first.below a.kept.now a.indices.now
    c.face_layer.ensures.indices_after
