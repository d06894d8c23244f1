-- The invariant: the flag says whether a layer of points up to z has a distance beyond the cap, and the counts are those of the cells before the layer z.
-- Assumes nothing.
use Prim.Native.Nat.{◌+◌}
use native.Mathlib.Omega.{arith}
use mathlib.Core.List.{List}
use mathlib.Core.Path.{◌∙◌}
use lib.Ieee.{Float}
use Rattle.grid.specs.Block.{box_of, field_of}
use Rattle.grid.specs.Order.{box_to}
use Rattle.grid.proofs.Runs.{box-is}
use Rattle.grid.proofs.Walks.{ahead-begun, ahead_more, ahead-ended, cell-spans, AtLayer, at-layer, box-done}
use Rattle.grid.proofs.Order.{box-begins}
use Rattle.count.proofs.Tallies.{counts-none, counts_all, Step, step}
use Rattle.count.proofs.count_box.Given.{Over}
use Rattle.count.proofs.count_box.Goals as goal
use Rattle.count.proofs.count_box.Goals.{After-count_part-one, In-loop-z, Start}

abbrev grid-of : (g : Over) → After-count_part-one g → List Float
grid-of g c = let a = c.args in g.D.Distance.floats a.sdf.now

-- the layer of a turn, and what it adds
here : (g : Over) (c : After-count_part-one g) → let a = c.args in AtLayer a.k c.loop-z.z
here g c = at-layer c.requires c.loop-z.invariant.0.count c.loop-z-test.true

more : (g : Over) (c : After-count_part-one g) → let a = c.args in let w = c.loop-z in let r = c.count_part-one.result in
    Step (field_of (grid-of g c) a.k) a.k (box_to (box_of a.k) (w.z + 1)) w.vertices w.indices r.vertices r.indices
more g c = let h = here g c in step c.loop-z.invariant.1 (record { same = c.count_part-one.ensures }) h.grows h.short

-- the layer of a turn, and what it adds
here-2 : (g : Over) (c : In-loop-z g) → let a = c.args in AtLayer a.k c.loop-z.z
here-2 g c = at-layer c.requires c.loop-z.invariant.0.count c.loop-z-test.true

abbrev grid-of-2 : (g : Over) → Start g → List Float
grid-of-2 g c = let a = c.args in g.D.Distance.floats a.sdf.now

pub bad_layer-bad-requires-clause-z_le_z : goal.bad_layer-bad-requires-clause-z_le_z
bad_layer-bad-requires-clause-z_le_z g c = let z = (cell-spans c.requires).z in omega arith

pub loop-z-init : goal.loop-z-init
loop-z-init g c =
    (ahead-begun (cell-spans c.requires).z c.bad_layer-bad.ensures, counts-none (box-begins (box_of c.args.k)))

pub overflow_add-vertices : goal.overflow_add-vertices
overflow_add-vertices g c = (more g (goal.at.overflow_add-vertices g c).After-count_part-one).vertices-fit

pub overflow_add-indices : goal.overflow_add-indices
overflow_add-indices g c = (more g (goal.at.overflow_add-indices g c).After-count_part-one).indices-fit

pub loop-z-preserved : goal.loop-z-preserved
loop-z-preserved g c =
    (ahead_more c.loop-z.invariant.0 (here-2 g (goal.at.loop-z-preserved g c).In-loop-z).turn c.bad_layer.ensures c.either-bad.ensures, (more g (goal.at.loop-z-preserved g c).After-count_part-one).counts)

pub returns-clause-bad_value : goal.returns-clause-bad_value
returns-clause-bad_value g c =
    let k = c.args.k in
    let w = c.loop-z in
    let bad = ahead-ended w.invariant.0 c.loop-z-test.false ∙ box-is (grid-of-2 g (goal.at.returns-clause-bad_value g c).Start) k in bad

pub returns-clause-result_value : goal.returns-clause-result_value
returns-clause-result_value g c =
    let k = c.args.k in
    let w = c.loop-z in
    counts_all w.invariant.1 (box-done k w.invariant.0.count c.loop-z-test.false)
