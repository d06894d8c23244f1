-- The invariant: the count is that of the cells before the layer z. Assumes nothing.
use Prim.Native.Nat.{◌+◌}
use mathlib.Core.Bool.{Bool}
use mathlib.Core.List.{List}
use mathlib.Core.Path.{ap, ◌∙◌}
use lib.Ieee.{Float}
use Rattle.lists.specs.Lists.{many}
use Rattle.rules.specs.Grid.{GridPoint}
use Rattle.rules.specs.Vertices.{layer_cells}
use Rattle.grid.specs.Block.{box_of, field_of}
use Rattle.grid.specs.Order.{box_to}
use Rattle.grid.proofs.Walks.{begun, cell-spans, AtLayer, at-layer, box-done}
use Rattle.grid.proofs.Order.{box-begins}
use Rattle.tally.specs.Cells.{all_negative}
use Rattle.tally.proofs.Boxes.{none_yet, More, more}
use Rattle.tally.proofs.whole_cells.whole_box.Given.{Over}
use Rattle.tally.proofs.whole_cells.whole_box.Goals as goal
use Rattle.tally.proofs.whole_cells.whole_box.Goals.{After-whole_part-one, In-loop-z, Start}

abbrev grid-of : (g : Over) → Start g → List Float
grid-of g c = let a = c.args in g.D.Distance.floats a.sdf.now

-- the test that is counted
abbrev test_of : (g : Over) → Start g → GridPoint → Bool
test_of g c = all_negative (field_of (grid-of g c) c.args.k)

abbrev grid-of-2 : (g : Over) → After-whole_part-one g → List Float
grid-of-2 g c = let a = c.args in g.D.Distance.floats a.sdf.now

-- the test that is counted
abbrev test_of-2 : (g : Over) → After-whole_part-one g → GridPoint → Bool
test_of-2 g c = all_negative (field_of (grid-of-2 g c) c.args.k)

-- the layer of a turn, and what it adds
here : (g : Over) (c : After-whole_part-one g) → AtLayer c.args.k c.loop-z.z
here g c = at-layer c.requires c.loop-z.invariant.0 c.loop-z-test.true

adds : (g : Over) (c : After-whole_part-one g) → More (test_of-2 g c) (box_to (box_of c.args.k) (c.loop-z.z + 1)) c.loop-z.count c.whole_part-one.result
adds g c =
    let k = c.args.k in
    let h = here g c in
    more (box_to (box_of k) c.loop-z.z) (layer_cells (box_of k) c.loop-z.z) c.loop-z.invariant.1 c.whole_part-one.ensures h.grows h.short

-- the layer of a turn, and what it adds
here-2 : (g : Over) (c : In-loop-z g) → AtLayer c.args.k c.loop-z.z
here-2 g c = at-layer c.requires c.loop-z.invariant.0 c.loop-z-test.true

pub loop-z-init : goal.loop-z-init
loop-z-init g c =
    (begun (cell-spans c.requires).z, none_yet (test_of g (goal.at.loop-z-init g c).Start) (box-begins (box_of c.args.k)))

pub overflow_add-count : goal.overflow_add-count
overflow_add-count g c = (adds g c).fits

pub loop-z-preserved : goal.loop-z-preserved
loop-z-preserved g c = ((here-2 g (goal.at.loop-z-preserved g c).In-loop-z).turn.next, (adds g c).same)

pub returns : goal.returns
returns g c =
    let w = c.loop-z in
    w.invariant.1 ∙ ap (many (test_of g (goal.at.returns g c).Start)) (box-done c.args.k w.invariant.0 c.loop-z-test.false)
