-- The invariant: the count is that of the cells before the row y. Assumes nothing.
use Prim.Native.Nat.{◌+◌}
use mathlib.Core.Bool.{Bool}
use mathlib.Core.List.{List}
use mathlib.Core.Path.{ap, ◌∙◌}
use lib.Ieee.{Float}
use Rattle.lists.specs.Lists.{many}
use Rattle.rules.specs.Grid.{GridPoint}
use Rattle.rules.specs.Vertices.{row_cells}
use Rattle.grid.specs.Block.{box_of}
use Rattle.grid.specs.Layers.{two_layers}
use Rattle.grid.specs.Order.{layer_to}
use Rattle.grid.proofs.Walks.{AtRow, layer-done}
use Rattle.grid.proofs.Order.{layer-begins}
use Rattle.grid.proofs.LayerWalks.{row_of, layer-begun}
use Rattle.tally.specs.Cells.{all_negative}
use Rattle.tally.proofs.Boxes.{none_yet, More, more}
use Rattle.tally.proofs.whole_cells.whole_layer.Given.{Over}
use Rattle.tally.proofs.whole_cells.whole_layer.Goals as goal
use Rattle.tally.proofs.whole_cells.whole_layer.Goals.{After-whole_row-one, In-loop-y, Start}

abbrev lower_of : (g : Over) → Start g → List Float
lower_of g c = let a = c.args in g.D.Distance.floats a.lower.now

abbrev upper_of : (g : Over) → Start g → List Float
upper_of g c = let a = c.args in g.D.Distance.floats a.upper.now

-- the test that is counted
abbrev test_of : (g : Over) → Start g → GridPoint → Bool
test_of g c = all_negative (two_layers (lower_of g c) (upper_of g c) c.args.k c.args.z)

abbrev lower_of-2 : (g : Over) → After-whole_row-one g → List Float
lower_of-2 g c = let a = c.args in g.D.Distance.floats a.lower.now

abbrev upper_of-2 : (g : Over) → After-whole_row-one g → List Float
upper_of-2 g c = let a = c.args in g.D.Distance.floats a.upper.now

-- the test that is counted
abbrev test_of-2 : (g : Over) → After-whole_row-one g → GridPoint → Bool
test_of-2 g c = all_negative (two_layers (lower_of-2 g c) (upper_of-2 g c) c.args.k c.args.z)

-- the row of a turn, and what it adds
here : (g : Over) (c : After-whole_row-one g) → let a = c.args in AtRow a.k a.z c.loop-y.y
here g c = row_of c.requires c.loop-y.invariant.0 c.loop-y-test.true

adds : (g : Over) (c : After-whole_row-one g) → let a = c.args in
    More (test_of-2 g c) (layer_to (box_of a.k) a.z (c.loop-y.y + 1)) c.loop-y.count c.whole_row-one.result
adds g c =
    let a = c.args in
    let h = here g c in
    more (layer_to (box_of a.k) a.z c.loop-y.y) (row_cells (box_of a.k) a.z c.loop-y.y) c.loop-y.invariant.1 c.whole_row-one.ensures h.grows h.short

-- the row of a turn, and what it adds
here-2 : (g : Over) (c : In-loop-y g) → let a = c.args in AtRow a.k a.z c.loop-y.y
here-2 g c = row_of c.requires c.loop-y.invariant.0 c.loop-y-test.true

pub loop-y-init : goal.loop-y-init
loop-y-init g c =
    (layer-begun c.requires, none_yet (test_of g (goal.at.loop-y-init g c).Start) (layer-begins (box_of c.args.k) c.args.z))

pub overflow_add-count : goal.overflow_add-count
overflow_add-count g c = (adds g c).fits

pub loop-y-preserved : goal.loop-y-preserved
loop-y-preserved g c = ((here-2 g (goal.at.loop-y-preserved g c).In-loop-y).turn.next, (adds g c).same)

pub returns : goal.returns
returns g c =
    let a = c.args in
    let w = c.loop-y in
    w.invariant.1 ∙ ap (many (test_of g (goal.at.returns g c).Start)) (layer-done a.k a.z w.invariant.0 c.loop-y-test.false)
