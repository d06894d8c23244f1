-- The invariant: the flag says whether a row before y has a distance beyond the cap. Assumes nothing.
use Prim.Native.Nat.{ℕ, ◌+◌, ◌-◌, ◌≤◌}
use native.Mathlib.Omega.{arith}
use mathlib.Core.List.{List}
use mathlib.Core.Path.{◌≡◌, refl, ap, ◌∙◌}
use lib.Ieee.{Float}
use lib.ListN.{length, take, drop}
use Rattle.lists.specs.Lists.{some}
use Rattle.rules.specs.Call.{beyond}
use Rattle.grid.specs.Inside.{bad_run}
use Rattle.grid.proofs.Places.{as-long, part-of-grid}
use Rattle.grid.proofs.Runs.{layer-is, part-run}
use Rattle.grid.proofs.Rows.{row-start, row-end}
use Rattle.grid.proofs.Walks.{Turn, turn, through, end_fits, scan-begun, scan-more, scan-ended, PointSpans, point-spans}
use Rattle.grid.proofs.scan.bad_layer.Given.{Over}
use Rattle.grid.proofs.scan.bad_layer.Goals as goal
use Rattle.grid.proofs.scan.bad_layer.Goals.{After-linearize-arg-1, After-linearize-at, Start}

abbrev grid-of : (g : Over) → Start g → List Float
grid-of g c = let a = c.args in g.D.Distance.floats a.sdf.now

spans : (g : Over) (c : Start g) → PointSpans c.args.k
spans g c = point-spans c.requires.inside

spans-2 : (g : Over) (c : After-linearize-arg-1 g) → PointSpans c.args.k
spans-2 g c = point-spans c.requires.inside

-- the row of a turn
here : (g : Over) (c : After-linearize-arg-1 g) → let k = c.args.k in Turn k.low.y (k.high.y + 1) c.loop-y.y
here g c = turn (spans-2 g c).y c.loop-y.invariant.count c.loop-y-test.true

-- ---- the needs
pub overflow_add-end : goal.overflow_add-end
overflow_add-end g c = end_fits (spans g (goal.at.overflow_add-end g c).Start).y

pub overflow_add-n : goal.overflow_add-n
overflow_add-n g c = end_fits (spans g (goal.at.overflow_add-n g c).Start).x

pub overflow_sub-n : goal.overflow_sub-n
overflow_sub-n g c = (spans g (goal.at.overflow_sub-n g c).Start).x.ordered

pub loop-y-init : goal.loop-y-init
loop-y-init g c = scan-begun (spans g (goal.at.loop-y-init g c).Start).y

pub linearize-at-requires : goal.linearize-at-requires
linearize-at-requires g c = row-start c.requires.inside (through (here g c)) c.requires.z_le_z

-- the row's part ends in the list
held : (g : Over) (c : After-linearize-at g) → let k = c.args.k in c.linearize-at.result + (k.high.x + 1 - k.low.x) ≤ length c.args.sdf.now
held g c =
    let sdf = c.args.sdf.now in
    let here = turn (point-spans c.requires.inside).y c.loop-y.invariant.count c.loop-y-test.true in
    let ends = row-end c.requires.inside (through here) c.requires.z_le_z in
    omega (arith, ends, c.linearize-at.ensures, as-long g.met.D.Distance.floats_are sdf)

pub overflow_add-at : goal.overflow_add-at
overflow_add-at g c = let h = held g (goal.at.overflow_add-at g c).After-linearize-at in omega arith

pub offset_bounds-sdf-at : goal.offset_bounds-sdf-at
offset_bounds-sdf-at g c = let h = held g (goal.at.offset_bounds-sdf-at g c).After-linearize-at in omega arith

pub slice_bounds-bad_row-end : goal.slice_bounds-bad_row-end
slice_bounds-bad_row-end g c = let h = held g (goal.at.slice_bounds-bad_row-end g c).After-linearize-at in omega arith

pub loop-y-preserved : goal.loop-y-preserved
loop-y-preserved g c =
    let are = g.met.D.Distance.floats_are in
    let sdf = c.args.sdf.now in
    let grid = g.D.Distance.floats sdf in
    let at = c.linearize-at.result in
    let n = c.args.k.high.x + 1 - c.args.k.low.x in
    let here = turn (point-spans c.requires.inside).y c.loop-y.invariant.count c.loop-y-test.true in
    let ends = row-end c.requires.inside (through here) c.requires.z_le_z in
    let long : at + n - at ≡ n = omega arith in
    let asked =
    c.bad_row-bad.ensures ∙ ap (some beyond) (part-of-grid are sdf at (at + n)) ∙ ap (λ (m : ℕ). some beyond (take m (drop at grid))) long
    ∙ part-run grid at n (omega (arith, ends, c.linearize-at.ensures)) ∙ ap (λ (i : ℕ). bad_run grid i n) c.linearize-at.ensures in
    scan-more c.loop-y.invariant here asked refl

pub returns : goal.returns
returns g c =
    scan-ended c.loop-y.invariant c.loop-y-test.false ∙ layer-is (grid-of g (goal.at.returns g c).Start) c.args.k c.args.z
