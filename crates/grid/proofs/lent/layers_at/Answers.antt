-- The layer ends in the grid, and what is lent of a list means the same part of what the list means. Assumes nothing.
use Prim.Native.Nat.{◌+◌, ◌*◌, ◌≤◌}
use native.Mathlib.Omega.{arith}
use lib.ListN.{length}
use Rattle.grid.proofs.Parts.{layer-end, layer-few}
use Rattle.grid.proofs.Places.{as-long, part-of-grid, rest-of-grid}
use Rattle.grid.proofs.lent.layers_at.Given.{Over}
use Rattle.grid.proofs.lent.layers_at.Goals as goal
use Rattle.grid.proofs.lent.layers_at.Goals.{Start}

-- where the layer ends
ends : (g : Over) (c : Start g) → let k = c.args.k in let last = k.dims.x * k.dims.y * c.args.z + k.dims.x * k.dims.y in (last ≤ length c.args.sdf.now) × (last ≤ 1073741824)
ends g c =
    let a = c.args in
    let r = c.requires in
    let end = layer-end _ a.k r.inside a.z r.z_le_z in
    (omega (arith, end, as-long g.met.D.Distance.floats_are a.sdf.now), layer-few _ a.k r.inside a.z r.z_le_z)

pub overflow_mul-start : goal.overflow_mul-start
overflow_mul-start g c = let e = ends g (goal.at.overflow_mul-start g c).Start in omega arith

pub overflow_add-end : goal.overflow_add-end
overflow_add-end g c = let e = ends g (goal.at.overflow_add-end g c).Start in omega arith

pub offset_bounds-sdf-start : goal.offset_bounds-sdf-start
offset_bounds-sdf-start g c = let e = ends g (goal.at.offset_bounds-sdf-start g c).Start in omega arith

pub slice_bounds-result-end : goal.slice_bounds-result-end
slice_bounds-result-end g c = let e = ends g (goal.at.slice_bounds-result-end g c).Start in omega arith

pub returns-clause-lower : goal.returns-clause-lower
returns-clause-lower g c =
    let a = c.args in
    let k = a.k in
    part-of-grid g.met.D.Distance.floats_are a.sdf.now (k.dims.x * k.dims.y * a.z) (k.dims.x * k.dims.y * a.z + k.dims.x * k.dims.y)

pub returns-clause-upper : goal.returns-clause-upper
returns-clause-upper g c =
    let a = c.args in
    let k = a.k in
    rest-of-grid g.met.D.Distance.floats_are a.sdf.now (k.dims.x * k.dims.y * a.z + k.dims.x * k.dims.y)
