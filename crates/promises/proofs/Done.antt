-- What a call's answer says: on 0 the call was accepted, V and I are the counts of the definition, V is at most 2^30 and the lists are written; on 1
-- to 7 nothing is changed. Assumes nothing.
use Prim.Native.Nat.{ℕ, ◌-◌, ◌*◌, ◌^◌, ◌≤◌, ◌<◌}
use native.Mathlib.Nat.{le_trans, le_of_eq, mul-le-mul}
use native.Mathlib.Omega.{arith}
use mathlib.Core.Path.{◌≡◌, sym, ap, ◌∙◌}
use lib.ListN.{length}
use Rattle.rules.specs.Grid.{Box, Field}
use Rattle.rules.specs.Vertices.{surface_cell, cells, vertices}
use Rattle.rules.specs.Call.{Answer, room, answer, vertex_count, index_count, written}
use Rattle.lists.proofs.Lists.{many-most}
use Rattle.rules.proofs.Counting.{cell-count}
use Rattle.rules.proofs.Indexes.{BoxFits, box-fits}
use Rattle.rules.proofs.Locality.{when-done, when-refused}
use Rattle.rules.proofs.Accepted.{Accepted, done-accepted, done-counted}
use Rattle.grid.proofs.Bounds.{few}
use Rattle.grid.proofs.Order.{box-ends, box-length}
use Rattle.promises.specs.Served.{Served, Done}

-- "0 | done": conditions 1 to 5 do not hold
pub done-answer : (u : Served) → Done u → (answer u.call (room u.before)).number ≡ 0
done-answer u d = sym (ap (λ (a : Answer). a.number) u.answered) ∙ d

pub done-accepts : (u : Served) → Done u → Accepted u.call.grid u.call.size (room u.before).map u.call.box
done-accepts u d = done-accepted u.call (room u.before) (done-answer u d)

-- "counts written"
pub done-counts : (u : Served) → Done u → (u.says.vertices ≡ vertex_count u.call) × (u.says.indices ≡ index_count u.call)
done-counts u d = rw u.answered (done-counted u.call (room u.before) (done-answer u d))

-- an accepted box has no more cells than the grid may have points, by condition 1
few-vertices : (g : Field) (size entries : ℕ) (b : Box) → Accepted g size entries b → length (vertices g b) ≤ 2 ^ 30
few-vertices g size entries b a =
    let f : BoxFits g.dims b = box-fits g.dims b a.box in
    let x : b.high.x - b.low.x ≤ g.dims.x = omega arith in
    let y : b.high.y - b.low.y ≤ g.dims.y = omega arith in
    let z : b.high.z - b.low.z ≤ g.dims.z = omega arith in
    let all : length (cells b) ≤ g.dims.x * g.dims.y * g.dims.z =
    le_trans (le_of_eq (ap length (sym (box-ends b)) ∙ box-length b b.high.z)) (mul-le-mul (mul-le-mul x y) z) in
    omega (arith, all, few g.dims a.dims, cell-count g b, many-most (surface_cell g) (cells b))

pub done-few : (u : Served) → Done u → u.says.vertices ≤ 2 ^ 30
done-few u d =
    let few = few-vertices u.call.grid u.call.size (room u.before).map u.call.box (done-accepts u d) in
    rw (done-counts u d).0 few

pub done-writes : (u : Served) → Done u → u.after ≡ written u.call u.before
done-writes u d = u.left ∙ when-done u.call u.before (done-answer u d)

-- "Answers 1 to 7 change nothing."
pub refused-keeps : (u : Served) → 0 < u.says.number → u.after ≡ u.before
refused-keeps u h = u.left ∙ when-refused u.call u.before (rw (← u.answered) h)
