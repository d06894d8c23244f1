-- The invariant: the counts are those of the cells before the row y, and what is carried is the negatives of the row y of points. Assumes nothing.
use Prim.Native.Nat.{◌+◌}
use native.Mathlib.Omega.{arith}
use mathlib.Core.List.{List}
use mathlib.Core.Path.{◌∙◌}
use lib.Ieee.{Float}
use Rattle.grid.specs.Block.{box_of}
use Rattle.grid.specs.Layers.{two_layers}
use Rattle.grid.specs.Order.{layer_to}
use Rattle.grid.proofs.Walks.{AtRow, layer-done}
use Rattle.grid.proofs.Order.{layer-begins}
use Rattle.grid.proofs.LayerWalks.{row_of, layer-begun}
use Rattle.row_signs.proofs.OneSign.{points-lent, cells-few}
use Rattle.row_signs.proofs.Keeping.{Reads, kept-length}
use Rattle.count.proofs.Tallies.{counts-none, counts_all, Step, step}
use Rattle.count.proofs.count_long.Given.{Over}
use Rattle.count.proofs.count_long.Goals as goal
use Rattle.count.proofs.count_long.Goals.{After-count_where_mixed-one, In-loop-y, Start}

abbrev lower_of : (g : Over) → Start g → List Float
lower_of g c = let a = c.args in g.D.Distance.floats a.lower.now

abbrev upper_of : (g : Over) → Start g → List Float
upper_of g c = let a = c.args in g.D.Distance.floats a.upper.now

-- the row of a turn, and what it adds
here : (g : Over) (c : In-loop-y g) → let a = c.args in AtRow a.k a.z c.loop-y.y
here g c = row_of c.requires c.loop-y.invariant.0 c.loop-y-test.true

abbrev lower_of-2 : (g : Over) → After-count_where_mixed-one g → List Float
lower_of-2 g c = let a = c.args in g.D.Distance.floats a.lower.now

abbrev upper_of-2 : (g : Over) → After-count_where_mixed-one g → List Float
upper_of-2 g c = let a = c.args in g.D.Distance.floats a.upper.now

-- the row of a turn, and what it adds
here-2 : (g : Over) (c : After-count_where_mixed-one g) → let a = c.args in AtRow a.k a.z c.loop-y.y
here-2 g c = row_of c.requires c.loop-y.invariant.0 c.loop-y-test.true

more : (g : Over) (c : After-count_where_mixed-one g) → let a = c.args in let w = c.loop-y in
    let r = c.count_where_mixed-one.result in
    Step (two_layers (lower_of-2 g c) (upper_of-2 g c) a.k a.z) a.k (layer_to (box_of a.k) a.z (w.y + 1)) w.vertices w.indices r.vertices r.indices
more g c =
    let h = here-2 g c in
    step c.loop-y.invariant.1 (record { same = c.count_where_mixed-one.ensures }) h.grows h.short

pub read_row-near_row-requires-clause-x_le_x : goal.read_row-near_row-requires-clause-x_le_x
read_row-near_row-requires-clause-x_le_x g c = let p = points-lent c.requires (layer-begun c.requires).high in p.0

pub read_row-near_row-requires-clause-k_in_bounds : goal.read_row-near_row-requires-clause-k_in_bounds
read_row-near_row-requires-clause-k_in_bounds g c = let p = points-lent c.requires (layer-begun c.requires).high in p.1.0

pub read_row-near_row-requires-clause-k_in_bounds_2 : goal.read_row-near_row-requires-clause-k_in_bounds_2
read_row-near_row-requires-clause-k_in_bounds_2 g c = let p = points-lent c.requires (layer-begun c.requires).high in p.1.1

pub loop-y-init : goal.loop-y-init
loop-y-init g c =
    let a = c.args in
    let reads : Reads (lower_of g (goal.at.loop-y-init g c).Start) (upper_of g (goal.at.loop-y-init g c).Start) a.k a.k.low.y 0 _ _ = record { same = c.read_row-near_row.ensures.codes_after } in
    (layer-begun c.requires, counts-none (layer-begins (box_of a.k) a.z), c.read_row-near_row.ensures.value, kept-length reads ∙ omega arith)

pub read_row-far_row-requires-clause-x_le_x : goal.read_row-far_row-requires-clause-x_le_x
read_row-far_row-requires-clause-x_le_x g c =
    let p = points-lent c.requires (here g (goal.at.read_row-far_row-requires-clause-x_le_x g c).In-loop-y).turn.next.high in p.0

pub read_row-far_row-requires-clause-k_in_bounds : goal.read_row-far_row-requires-clause-k_in_bounds
read_row-far_row-requires-clause-k_in_bounds g c = let p = points-lent c.requires (here g (goal.at.read_row-far_row-requires-clause-k_in_bounds g c).In-loop-y).turn.next.high in p.1.0

pub read_row-far_row-requires-clause-k_in_bounds_2 : goal.read_row-far_row-requires-clause-k_in_bounds_2
read_row-far_row-requires-clause-k_in_bounds_2 g c = let p = points-lent c.requires (here g (goal.at.read_row-far_row-requires-clause-k_in_bounds_2 g c).In-loop-y).turn.next.high in p.1.1

pub overflow_add-near_row : goal.overflow_add-near_row
overflow_add-near_row g c = cells-few c.requires c.loop-y.y c.loop-y.invariant.2 c.read_row-far_row.ensures.value

pub overflow_add-vertices : goal.overflow_add-vertices
overflow_add-vertices g c = (more g (goal.at.overflow_add-vertices g c).After-count_where_mixed-one).vertices-fit

pub overflow_add-indices : goal.overflow_add-indices
overflow_add-indices g c = (more g (goal.at.overflow_add-indices g c).After-count_where_mixed-one).indices-fit

pub loop-y-preserved : goal.loop-y-preserved
loop-y-preserved g c =
    let reads : Reads (lower_of g (goal.at.loop-y-preserved g c).Start) (upper_of g (goal.at.loop-y-preserved g c).Start) c.args.k (c.loop-y.y + 1) 0 _ _ = record { same = c.read_row-far_row.ensures.codes_after } in
    ((here g (goal.at.loop-y-preserved g c).In-loop-y).turn.next, (more g (goal.at.loop-y-preserved g c).After-count_where_mixed-one).counts, c.read_row-far_row.ensures.value, kept-length reads ∙ c.loop-y.invariant.3)

pub returns : goal.returns
returns g c =
    let a = c.args in
    let w = c.loop-y in
    counts_all w.invariant.1 (layer-done a.k a.z w.invariant.0 c.loop-y-test.false)
