-- The invariant: the counts are those of the cells before the row y, and what is carried is the negatives of the row y of points and, in a half of the
-- list, its codes. Assumes nothing.
use Prim.Native.Nat.{ℕ, ◌+◌}
use native.Mathlib.Omega.{arith}
use mathlib.Core.List.{List}
use mathlib.Core.Path.{◌≡◌, ap₂, ◌∙◌}
use lib.Ieee.{Float}
use Rattle.grid.specs.Block.{box_of}
use Rattle.grid.specs.Layers.{two_layers}
use Rattle.grid.specs.Order.{layer_to}
use Rattle.grid.proofs.Walks.{cell-spans, AtRow, layer-done}
use Rattle.grid.proofs.Order.{layer-begins}
use Rattle.grid.proofs.Layers.{somewhere}
use Rattle.grid.proofs.LayerWalks.{Row, row_of, layer-begun}
use Rattle.row_signs.specs.Signs.{cells_negatives}
use Rattle.row_signs.proofs.OneSign.{points-lent, cells-few}
use Rattle.row_signs.proofs.Keeping.{kept_small}
use Rattle.row_signs.proofs.Turns.{Turn, begun, turned}
use Rattle.count.proofs.Kept.{kept-where-mixed}
use Rattle.count.proofs.Tallies.{counts-none, counts_all, Step, step}
use Rattle.count.proofs.count_short.Given.{Over}
use Rattle.count.proofs.count_short.Goals as goal
use Rattle.count.proofs.count_short.Goals.{After-kept_where_mixed-one, After-read_row-far, In-loop-y}

-- the row of a turn, what is kept then, and what it adds
here : (g : Over) (c : In-loop-y g) → let a = c.args in AtRow a.k a.z c.loop-y.y
here g c = row_of c.requires.in_layers c.loop-y.invariant.0 c.loop-y-test.true

abbrev lower_of : (g : Over) → After-read_row-far g → List Float
lower_of g c = let a = c.args in g.D.Distance.floats a.lower.now

abbrev upper_of : (g : Over) → After-read_row-far g → List Float
upper_of g c = let a = c.args in g.D.Distance.floats a.upper.now

abbrev codes-of : (g : Over) → After-read_row-far g → List ℕ
codes-of g c = c.read_row-far.new.codes

both : (g : Over) (c : After-read_row-far g) → Turn (lower_of g c) (upper_of g c) c.args.k c.loop-y.y c.loop-y.here (codes-of g c)
both g c = turned c.loop-y.invariant.3 c.read_row-far.ensures.codes_after

abbrev lower_of-2 : (g : Over) → After-kept_where_mixed-one g → List Float
lower_of-2 g c = let a = c.args in g.D.Distance.floats a.lower.now

abbrev upper_of-2 : (g : Over) → After-kept_where_mixed-one g → List Float
upper_of-2 g c = let a = c.args in g.D.Distance.floats a.upper.now

-- the row of a turn, what is kept then, and what it adds
here-2 : (g : Over) (c : After-kept_where_mixed-one g) → let a = c.args in AtRow a.k a.z c.loop-y.y
here-2 g c = row_of c.requires.in_layers c.loop-y.invariant.0 c.loop-y-test.true

abbrev codes-of-2 : (g : Over) → After-kept_where_mixed-one g → List ℕ
codes-of-2 g c = c.read_row-far.new.codes

both-2 : (g : Over) (c : After-kept_where_mixed-one g) → Turn (lower_of-2 g c) (upper_of-2 g c) c.args.k c.loop-y.y c.loop-y.here (codes-of-2 g c)
both-2 g c = turned c.loop-y.invariant.3 c.read_row-far.ensures.codes_after

row : (g : Over) (c : After-kept_where_mixed-one g) → Row (lower_of-2 g c) (upper_of-2 g c) c.args.k c.loop-y.y c.args.z
row g c = record { layers = c.requires.in_layers; along-y = (here-2 g c).turn.here }

cells : (g : Over) (c : After-kept_where_mixed-one g) → c.loop-y.near + c.read_row-far.result ≡ cells_negatives (lower_of-2 g c) (upper_of-2 g c) c.args.k c.loop-y.y
cells g c = ap₂ ◌+◌ c.loop-y.invariant.2 c.read_row-far.ensures.value

more : (g : Over) (c : After-kept_where_mixed-one g) → let a = c.args in let w = c.loop-y in
    let r = c.kept_where_mixed-one.result in
    Step (two_layers (lower_of-2 g c) (upper_of-2 g c) a.k a.z) a.k (layer_to (box_of a.k) a.z (w.y + 1)) w.vertices w.indices r.vertices r.indices
more g c =
    let h = here-2 g c in
    let b = both-2 g c in
    let same = c.kept_where_mixed-one.ensures ∙ kept-where-mixed c.requires.k_bound b.near b.next.kept (row g c) (cells g c) in
    step c.loop-y.invariant.1 (record { same = same }) h.grows h.short

pub read_row-near-requires-clause-k_in_bounds : goal.read_row-near-requires-clause-k_in_bounds
read_row-near-requires-clause-k_in_bounds g c = let p = points-lent c.requires.in_layers (layer-begun c.requires.in_layers).high in p.1.0

pub read_row-near-requires-clause-x_le_x : goal.read_row-near-requires-clause-x_le_x
read_row-near-requires-clause-x_le_x g c = let p = points-lent c.requires.in_layers (layer-begun c.requires.in_layers).high in p.0

pub read_row-near-requires-clause-k_in_bounds_2 : goal.read_row-near-requires-clause-k_in_bounds_2
read_row-near-requires-clause-k_in_bounds_2 g c = let p = points-lent c.requires.in_layers (layer-begun c.requires.in_layers).high in p.1.1

pub loop-y-init : goal.loop-y-init
loop-y-init g c =
    let a = c.args in (
      layer-begun c.requires.in_layers,
      counts-none (layer-begins (box_of a.k) a.z),
      c.read_row-near.ensures.value,
      begun (record { same = c.read_row-near.ensures.codes_after }) (omega arith),
    )

pub read_row-far-requires-clause-x_le_x : goal.read_row-far-requires-clause-x_le_x
read_row-far-requires-clause-x_le_x g c =
    let p = points-lent c.requires.in_layers (here g (goal.at.read_row-far-requires-clause-x_le_x g c).In-loop-y).turn.next.high in p.0

pub read_row-far-requires-clause-k_in_bounds : goal.read_row-far-requires-clause-k_in_bounds
read_row-far-requires-clause-k_in_bounds g c =
    let p = points-lent c.requires.in_layers (here g (goal.at.read_row-far-requires-clause-k_in_bounds g c).In-loop-y).turn.next.high in p.1.0

pub read_row-far-requires-clause-k_in_bounds_2 : goal.read_row-far-requires-clause-k_in_bounds_2
read_row-far-requires-clause-k_in_bounds_2 g c =
    let p = points-lent c.requires.in_layers (here g (goal.at.read_row-far-requires-clause-k_in_bounds_2 g c).In-loop-y).turn.next.high in p.1.1

pub overflow_add-near : goal.overflow_add-near
overflow_add-near g c = cells-few c.requires.in_layers c.loop-y.y c.loop-y.invariant.2 c.read_row-far.ensures.value

pub kept_where_mixed-one-requires-clause-x_le_x : goal.kept_where_mixed-one-requires-clause-x_le_x
kept_where_mixed-one-requires-clause-x_le_x g c =
    ((cell-spans (somewhere c.requires.in_layers)).x.ordered, ((here g (goal.at.kept_where_mixed-one-requires-clause-x_le_x g c).In-loop-y).turn.here.1, c.requires.in_layers.here.1))

pub kept_where_mixed-one-requires-clause-small_from : goal.kept_where_mixed-one-requires-clause-small_from
kept_where_mixed-one-requires-clause-small_from g c =
    let b = both g (goal.at.kept_where_mixed-one-requires-clause-small_from g c).After-read_row-far in
    let short = c.requires.k_bound in (kept_small short b.near_fits b.near, kept_small short b.far-fits b.next.kept)

pub overflow_add-vertices : goal.overflow_add-vertices
overflow_add-vertices g c = (more g (goal.at.overflow_add-vertices g c).After-kept_where_mixed-one).vertices-fit

pub overflow_add-indices : goal.overflow_add-indices
overflow_add-indices g c = (more g (goal.at.overflow_add-indices g c).After-kept_where_mixed-one).indices-fit

pub loop-y-preserved : goal.loop-y-preserved
loop-y-preserved g c =
    ((here g (goal.at.loop-y-preserved g c).In-loop-y).turn.next, (more g (goal.at.loop-y-preserved g c).After-kept_where_mixed-one).counts, c.read_row-far.ensures.value, (both g (goal.at.loop-y-preserved g c).After-read_row-far).next)

pub returns : goal.returns
returns g c =
    let a = c.args in
    let w = c.loop-y in
    counts_all w.invariant.1 (layer-done a.k a.z w.invariant.0 c.loop-y-test.false)
