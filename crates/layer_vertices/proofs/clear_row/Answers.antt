-- The row's part of the map is filled, and it lies inside the map. Assumes nothing.
use Prim.Native.Nat.{ℕ, ◌+◌, ◌-◌, ◌*◌, ◌≤◌, ◌<◌}
use native.Mathlib.Nat.{le_refl}
use native.Mathlib.Omega.{arith}
use mathlib.Core.Path.{ap, ◌∙◌}
use lib.ListN.{length, replicate}
use Rattle.rules.specs.Vertices.{null_vertex}
use Rattle.grid.proofs.Walks.{end_fits}
use Rattle.layer_vertices.proofs.Clearing.{part-spans, part-place, part_long, part-filled}
use Rattle.layer_vertices.proofs.clear_row.Goals as goal
use Rattle.layer_vertices.proofs.clear_row.Goals.{Start}

ends : (c : Start) → let k = c.args.k in let at = k.low.x + k.dims.x * c.args.y in let n = k.high.x + 1 - k.low.x in
    at + n ≤ length c.args.map.now
ends c =
    let i = c.requires.in_part in
    let s = (part-spans i).x.ordered in
    let h : c.args.y ≤ c.args.k.high.y = omega (arith, c.requires.y_le_y) in
    let k = c.args.k in
    let p : k.high.x + k.dims.x * c.args.y < length c.args.map.now = part-place i (le_refl k.high.x) h in
    omega (arith, s, p)

-- ---- the needs
pub overflow_add-end : goal.overflow_add-end
overflow_add-end c = end_fits (part-spans c.requires.in_part).x

pub overflow_sub-n : goal.overflow_sub-n
overflow_sub-n c = (part-spans c.requires.in_part).x.ordered

pub slice_bounds-fill-end : goal.slice_bounds-fill-end
slice_bounds-fill-end c = omega (arith, ends (goal.at.slice_bounds-fill-end c).Start)

pub returns : goal.returns
returns c =
    let k = c.args.k in
    let l = c.args.map.now in
    let at = k.low.x + k.dims.x * c.args.y in
    let n = k.high.x + 1 - k.low.x in
    let h = ends (goal.at.returns c).Start in
    part-filled l c.fill.new.self at n null_vertex (c.fill.ensures.after (λ y e. e) ∙ ap (λ (m : ℕ). replicate m null_vertex) (part_long l at n h)) h
