-- The parts that are lent are the layer's, and what comes back is the layer in the whole lists. Assumes nothing.
use Prim.Native.Nat.{ℕ, ◌+◌, ◌*◌}
use mathlib.Core.List.{List}
use lib.Ieee.{Float}
use lib.ListN.{length}
use Rattle.grid.proofs.Parts.{corner-lent}
use Rattle.grid.proofs.Places.{Range}
use Rattle.whole_box.proofs.Lent.{Lends, layer-range, lent-layers, count_same, room-lent, marked-back}
use Rattle.whole_box.proofs.Ranges.{from-fits, to-fits, from-fours}
use Rattle.whole_box.proofs.mark_part.Given.{Over}
use Rattle.whole_box.proofs.mark_part.Goals as goal
use Rattle.whole_box.proofs.mark_part.Goals.{After-layers_at, Start}

abbrev first_of : (g : Over) → Start g → ℕ
first_of g c = let k = c.args.k in k.dims.x * k.dims.y * c.args.z

abbrev last_of : (g : Over) → Start g → ℕ
last_of g c = let k = c.args.k in first_of g c + k.dims.x * k.dims.y

-- ---- where the layer begins and ends
abbrev grid-of : (g : Over) → Start g → List Float
grid-of g c = let a = c.args in g.D.Distance.floats a.sdf.now

-- the layer's part of the map
lent : (g : Over) (c : Start g) → Range (first_of g c) (last_of g c) (length c.args.map.now)
lent g c =
    let a = c.args in
    layer-range (grid-of g c) a.k c.requires.inside a.z c.requires.z_le_z a.map.now c.requires.map_in_bounds

-- ---- where the layer begins and ends
abbrev grid-of-2 : (g : Over) → After-layers_at g → List Float
grid-of-2 g c = let a = c.args in g.D.Distance.floats a.sdf.now

parts : (g : Over) (c : After-layers_at g) → let a = c.args in
    Lends (grid-of-2 g c) a.k a.z (g.D.Distance.floats c.layers_at.result.0.now) (g.D.Distance.floats c.layers_at.result.1.now)
parts g c = record { lower_is = c.layers_at.ensures.lower; upper_is = c.layers_at.ensures.upper }

pub overflow_mul-start : goal.overflow_mul-start
overflow_mul-start g c = from-fits (lent g (goal.at.overflow_mul-start g c).Start)

pub overflow_add-end : goal.overflow_add-end
overflow_add-end g c = to-fits (lent g (goal.at.overflow_add-end g c).Start)

pub offset_bounds-map-start : goal.offset_bounds-map-start
offset_bounds-map-start g c = from-fours (lent g (goal.at.offset_bounds-map-start g c).Start)

pub mark_layer-requires-clause-in_layers : goal.mark_layer-requires-clause-in_layers
mark_layer-requires-clause-in_layers g c =
    let a = c.args in
    let i = c.requires.inside in
    let zs = c.requires.z_le_z in
    let t = parts g (goal.at.mark_layer-requires-clause-in_layers g c).After-layers_at in lent-layers (grid-of g (goal.at.mark_layer-requires-clause-in_layers g c).Start) a.k i a.z zs t

pub mark_layer-requires-clause-high_in_bounds : goal.mark_layer-requires-clause-high_in_bounds
mark_layer-requires-clause-high_in_bounds g c =
    let a = c.args in
    let i = c.requires.inside in
    let zs = c.requires.z_le_z in
    let t = parts g (goal.at.mark_layer-requires-clause-high_in_bounds g c).After-layers_at in corner-lent (grid-of g (goal.at.mark_layer-requires-clause-high_in_bounds g c).Start) a.k i a.z zs a.map.now c.requires.map_in_bounds

pub mark_layer-requires-clause-room : goal.mark_layer-requires-clause-room
mark_layer-requires-clause-room g c =
    let a = c.args in
    let i = c.requires.inside in
    let zs = c.requires.z_le_z in
    let t = parts g (goal.at.mark_layer-requires-clause-room g c).After-layers_at in room-lent (grid-of g (goal.at.mark_layer-requires-clause-room g c).Start) a.k i a.z zs t c.requires.room

pub returns-clause-map_value : goal.returns-clause-map_value
returns-clause-map_value g c =
    let a = c.args in
    let i = c.requires.inside in
    let zs = c.requires.z_le_z in marked-back (grid-of g (goal.at.returns-clause-map_value g c).Start) a.k i a.z zs (parts g (goal.at.returns-clause-map_value g c).After-layers_at) a.first a.positions.now a.normals.now a.cells.now a.strides.now a.crossings.now a.map.now
    c.requires.map_in_bounds c.mark_layer.ensures.map_value

pub returns-clause-value : goal.returns-clause-value
returns-clause-value g c =
    let a = c.args in
    let i = c.requires.inside in
    let zs = c.requires.z_le_z in count_same (grid-of g (goal.at.returns-clause-value g c).Start) a.k i a.z zs (parts g (goal.at.returns-clause-value g c).After-layers_at) c.mark_layer.ensures.value

pub slice_bounds-mark_layer-end : goal.slice_bounds-mark_layer-end
slice_bounds-mark_layer-end g c = (lent g (goal.at.slice_bounds-mark_layer-end g c).Start).within
