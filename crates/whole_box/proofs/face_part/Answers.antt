-- The parts that are lent hold the layer's vertices and those below, so that the indices are the rules'. Assumes nothing.
use Prim.Native.Nat.{ℕ, ◌+◌, ◌*◌}
use mathlib.Core.List.{List}
use native.Mathlib.Omega.{arith}
use lib.Ieee.{Float}
use lib.ListN.{length}
use Rattle.grid.specs.Block.{box_of, flags_of, field_of}
use Rattle.whole_box.specs.Layers.{Stands}
use Rattle.grid.proofs.Places.{Range}
use Rattle.whole_box.proofs.Lent.{Lends, layer-range, lent-layers}
use Rattle.whole_box.proofs.Looks.{standing, below-long, faces-put, edges-count, count-put}
use Rattle.whole_box.proofs.Layer.{below-first, first-few}
use Rattle.whole_box.proofs.Ranges.{from-fits, to-fits, before-it, lendable, Numbers, below_word, first_word, below-fits, cells-lent, positions-lent, below-lent, room_of}
use Rattle.whole_box.proofs.face_part.Given.{Over}
use Rattle.whole_box.proofs.face_part.Goals as goal
use Rattle.whole_box.proofs.face_part.Goals.{After-layers_at, After-part_below-under, Start}

abbrev first_of : (g : Over) → Start g → ℕ
first_of g c = let k = c.args.k in k.dims.x * k.dims.y * c.args.z

abbrev last_of : (g : Over) → Start g → ℕ
last_of g c = let k = c.args.k in first_of g c + k.dims.x * k.dims.y

-- ---- where the layer begins and ends
abbrev grid-of : (g : Over) → Start g → List Float
grid-of g c = let a = c.args in g.D.Distance.floats a.sdf.now

-- the layer's part of the map
lent : (g : Over) (c : Start g) → Range (first_of g c) (last_of g c) (length c.args.map.now)
lent g c =
    let a = c.args in
    layer-range (grid-of g c) a.k c.requires.inside a.z c.requires.z_le_z a.map.now c.requires.map_in_bounds

abbrev first_of-2 : (g : Over) → After-part_below-under g → ℕ
first_of-2 g c = let k = c.args.k in k.dims.x * k.dims.y * c.args.z

abbrev last_of-2 : (g : Over) → After-part_below-under g → ℕ
last_of-2 g c = let k = c.args.k in first_of-2 g c + k.dims.x * k.dims.y

-- ---- where the layer begins and ends
abbrev grid-of-2 : (g : Over) → After-part_below-under g → List Float
grid-of-2 g c = let a = c.args in g.D.Distance.floats a.sdf.now

-- the layer's part of the map
lent-2 : (g : Over) (c : After-part_below-under g) → Range (first_of-2 g c) (last_of-2 g c) (length c.args.map.now)
lent-2 g c =
    let a = c.args in
    layer-range (grid-of-2 g c) a.k c.requires.inside a.z c.requires.z_le_z a.map.now c.requires.map_in_bounds

-- and that of the layer below
under : (g : Over) (c : After-part_below-under g) → Range c.part_below-under.result (first_of-2 g c) (length c.args.map.now)
under g c = before-it (lent-2 g c) c.part_below-under.ensures.1

-- ---- what stands, and the numbers that the code works out
stood : (g : Over) (c : Start g) → let a = c.args in
    Stands (field_of (grid-of g c) a.k) (box_of a.k) a.z a.made.vertices a.made.below a.cells.now a.map.now a.positions.now
stood g c = c.requires.stands

numbers : (g : Over) (c : Start g) → let a = c.args in Numbers a.made.vertices a.made.below a.count (length a.cells.now) (length a.positions.now)
numbers g c =
    let a = c.args in
    let S = stood g c in
    let n = c.requires.count_value in
    let f = first-few (grid-of g c) a.k c.requires.inside a.z c.requires.z_le_z in
    let u = below-first (field_of (grid-of g c) a.k) (box_of a.k) (flags_of a.k) a.z in
    record {
      few = omega (arith, f, n, S.here);
      back = omega (arith, u, S.here, S.before);
      cells_hold = omega (arith, n, S.cells_hold);
      positions_hold = omega (arith, n, S.positions_hold);
    }

-- ---- where the layer begins and ends
abbrev grid-of-3 : (g : Over) → After-layers_at g → List Float
grid-of-3 g c = let a = c.args in g.D.Distance.floats a.sdf.now

parts : (g : Over) (c : After-layers_at g) → let a = c.args in
    Lends (grid-of-3 g c) a.k a.z (g.D.Distance.floats c.layers_at.result.0.now) (g.D.Distance.floats c.layers_at.result.1.now)
parts g c = record { lower_is = c.layers_at.ensures.lower; upper_is = c.layers_at.ensures.upper }

pub overflow_mul-start : goal.overflow_mul-start
overflow_mul-start g c = from-fits (lent g (goal.at.overflow_mul-start g c).Start)

pub overflow_add-end : goal.overflow_add-end
overflow_add-end g c = to-fits (lent g (goal.at.overflow_add-end g c).Start)

pub part-own-requires : goal.part-own-requires
part-own-requires g c = lendable (lent g (goal.at.part-own-requires g c).Start)

pub part-beneath-requires : goal.part-beneath-requires
part-beneath-requires g c = lendable (under g (goal.at.part-beneath-requires g c).After-part_below-under)

pub overflow_mul-below : goal.overflow_mul-below
overflow_mul-below g c = below-fits (numbers g (goal.at.overflow_mul-below g c).Start)

pub overflow_cast-number : goal.overflow_cast-number
overflow_cast-number g c = first_word (numbers g (goal.at.overflow_cast-number g c).Start)

pub overflow_cast-number_below : goal.overflow_cast-number_below
overflow_cast-number_below g c = below_word (numbers g (goal.at.overflow_cast-number_below g c).Start)

pub part-requires : goal.part-requires
part-requires g c = cells-lent (numbers g (goal.at.part-requires g c).Start)

pub part-requires-2 : goal.part-requires-2
part-requires-2 g c = positions-lent (numbers g (goal.at.part-requires-2 g c).Start)

pub part-requires-3 : goal.part-requires-3
part-requires-3 g c = below-lent (numbers g (goal.at.part-requires-3 g c).Start)

pub face_layer-requires-clause-z_in_bounds : goal.face_layer-requires-clause-z_in_bounds
face_layer-requires-clause-z_in_bounds g c =
    let a = c.args in
    let i = c.requires.inside in
    let zs = c.requires.z_le_z in
    let t = parts g (goal.at.face_layer-requires-clause-z_in_bounds g c).After-layers_at in room_of a.made.indices c.requires.z_in_bounds
    (edges-count (grid-of g (goal.at.face_layer-requires-clause-z_in_bounds g c).Start) a.k i a.z zs t a.made.vertices a.made.below a.cells.now a.map.now a.positions.now (stood g (goal.at.face_layer-requires-clause-z_in_bounds g c).Start) c.requires.map_in_bounds)

pub face_layer-requires-clause-in_layers : goal.face_layer-requires-clause-in_layers
face_layer-requires-clause-in_layers g c =
    let a = c.args in
    let i = c.requires.inside in
    let zs = c.requires.z_le_z in
    let t = parts g (goal.at.face_layer-requires-clause-in_layers g c).After-layers_at in lent-layers (grid-of g (goal.at.face_layer-requires-clause-in_layers g c).Start) a.k i a.z zs t

pub face_layer-requires-clause-standing : goal.face_layer-requires-clause-standing
face_layer-requires-clause-standing g c =
    let a = c.args in
    let i = c.requires.inside in
    let zs = c.requires.z_le_z in
    let t = parts g (goal.at.face_layer-requires-clause-standing g c).After-layers_at in standing (grid-of g (goal.at.face_layer-requires-clause-standing g c).Start) a.k i a.z zs t a.made.vertices a.made.below a.cells.now a.map.now a.positions.now (stood g (goal.at.face_layer-requires-clause-standing g c).Start) c.requires.map_in_bounds
    a.count c.requires.count_value c.part.ensures c.part-own.ensures c.part-2.ensures

pub face_layer-requires-clause-high_in_bounds : goal.face_layer-requires-clause-high_in_bounds
face_layer-requires-clause-high_in_bounds g c =
    let a = c.args in
    let i = c.requires.inside in
    let zs = c.requires.z_le_z in
    let t = parts g (goal.at.face_layer-requires-clause-high_in_bounds g c).After-layers_at in below-long (grid-of g (goal.at.face_layer-requires-clause-high_in_bounds g c).Start) a.k i a.z zs t a.made.vertices a.made.below a.cells.now a.map.now a.positions.now (stood g (goal.at.face_layer-requires-clause-high_in_bounds g c).Start) c.requires.map_in_bounds
    c.part_below-under.result c.part_below-under.ensures.0 c.part-beneath.ensures

pub returns-clause-indices_after : goal.returns-clause-indices_after
returns-clause-indices_after g c =
    let a = c.args in
    let i = c.requires.inside in
    let zs = c.requires.z_le_z in
    let t = parts g (goal.at.returns-clause-indices_after g c).After-layers_at in faces-put (grid-of g (goal.at.returns-clause-indices_after g c).Start) a.k i a.z zs t a.made.vertices a.made.below a.cells.now a.map.now a.positions.now (stood g (goal.at.returns-clause-indices_after g c).Start) c.requires.map_in_bounds
    c.part_below-under.result c.part_below-under.ensures.0 a.indices.now a.made.indices c.part-beneath.ensures c.part-3.ensures
    c.face_layer.ensures.indices_after

pub returns-clause-value : goal.returns-clause-value
returns-clause-value g c =
    let a = c.args in
    let i = c.requires.inside in
    let zs = c.requires.z_le_z in
    let t = parts g (goal.at.returns-clause-value g c).After-layers_at in count-put (grid-of g (goal.at.returns-clause-value g c).Start) a.k i a.z zs t a.made.vertices a.made.below a.cells.now a.map.now a.positions.now (stood g (goal.at.returns-clause-value g c).Start) c.requires.map_in_bounds
    c.face_layer.ensures.value
