-- The row is classed, its last point cleared, and what is numbered then is what passing the row's points leaves. Assumes nothing.
use Prim.Native.Nat.{◌+◌, ◌-◌, ◌*◌, ◌<◌}
use mathlib.Core.List.{List}
use mathlib.Core.Path.{refl}
use native.Mathlib.Omega.{arith}
use lib.Ieee.{Float}
use lib.ListN.{length}
use Rattle.grid.proofs.Layers.{layers-fit}
use Rattle.grid.proofs.LayerWalks.{Row}
use Rattle.layer_vertices.proofs.Finding.{Reach, reach, classed-length, row-asks, row-found}
use Rattle.layer_vertices.proofs.find_row.Given.{Over}
use Rattle.layer_vertices.proofs.find_row.Goals as goal
use Rattle.layer_vertices.proofs.find_row.Goals.{Start}

-- ---- the two layers of distances
abbrev lower_of : (g : Over) → Start g → List Float
lower_of g c = let a = c.args in g.D.Distance.floats a.lower.now

abbrev upper_of : (g : Over) → Start g → List Float
upper_of g c = let a = c.args in g.D.Distance.floats a.upper.now

-- ---- the row, and where it ends
row : (g : Over) (c : Start g) → Row (lower_of g c) (upper_of g c) c.args.k c.args.y c.args.z
row g c = record { layers = c.requires.in_layers; along-y = c.requires.y_le_y }

there : (g : Over) (c : Start g) → let k = c.args.k in Reach (lower_of g c) (upper_of g c) k (k.low.x + k.dims.x * c.args.y) (k.high.x - k.low.x)
there g c = reach (row g c) refl refl

within : (g : Over) (c : Start g) → let k = c.args.k in k.low.x + k.dims.x * c.args.y + (k.high.x - k.low.x) < length c.args.map.now
within g c = omega (arith, (there g c).in-part, c.requires.high_in_bounds)

-- ---- the needs
pub overflow_sub-n : goal.overflow_sub-n
overflow_sub-n g c = (layers-fit c.requires.in_layers).x.0

pub class_points-requires-clause-x_in_bounds : goal.class_points-requires-clause-x_in_bounds
class_points-requires-clause-x_in_bounds g c =
    let r = there g (goal.at.class_points-requires-clause-x_in_bounds g c).Start in (r.in-lower, r.in-upper)

pub class_points-requires-clause-x_le_x : goal.class_points-requires-clause-x_le_x
class_points-requires-clause-x_le_x g c =
    ((layers-fit c.requires.in_layers).x.0, omega (arith, within g (goal.at.class_points-requires-clause-x_le_x g c).Start))

pub bounds-map-last : goal.bounds-map-last
bounds-map-last g c =
    omega (arith, within g (goal.at.bounds-map-last g c).Start, classed-length (row g (goal.at.bounds-map-last g c).Start) refl refl c.args.map.now c.class_points.ensures (within g (goal.at.bounds-map-last g c).Start))

pub number_row-requires : goal.number_row-requires
number_row-requires g c =
    row-asks (row g (goal.at.number_row-requires g c).Start) refl refl c.args.map.now c.class_points.ensures (within g (goal.at.number_row-requires g c).Start) c.requires.room_to_find

pub returns : goal.returns
returns g c =
    row-found (row g (goal.at.returns g c).Start) refl refl c.args.map.now c.class_points.ensures (within g (goal.at.returns g c).Start) c.number_row.ensures
