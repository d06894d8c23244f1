-- The invariant: the lists are what the rows before y leave, and the row y of points is kept, with the number of its negatives; after the last row of
-- cells and the one behind it, the lists are what the rules say of the layer. Assumes nothing.
use Prim.Native.Nat.{ℕ}
use mathlib.Core.List.{List, ◌++◌}
use mathlib.Core.Path.{refl, sym, ap, ◌∙◌}
use native.Mathlib.Omega.{arith}
use lib.Ieee.{Float}
use Rattle.rules.specs.Grid.{Field}
use Rattle.rules.specs.Vertices.{row_cells}
use Rattle.grid.specs.Block.{point, box_of}
use Rattle.grid.specs.Layers.{two_layers}
use Rattle.grid.specs.Order.{layer_to}
use Rattle.grid.proofs.Order.{layer-begins, layer-grows}
use Rattle.grid.proofs.Walks.{AtRow, ended}
use Rattle.grid.proofs.Layers.{layers-fit}
use Rattle.grid.proofs.LayerWalks.{row_of, layer-begun}
use Rattle.row_signs.proofs.OneSign.{points-lent, cells-few}
use Rattle.row_signs.proofs.Turns.{Turn, begun, turned}
use Rattle.layer_vertices.specs.declared.Next.{Next}
use Rattle.layer_vertices.specs.Cells.{points_of}
use Rattle.layer_vertices.proofs.Points.{layer-closes, side-y}
use Rattle.layer_vertices.proofs.Clearing.{row-blank}
use Rattle.layer_vertices.proofs.Passing.{passes_none, passes-more, passes-cleared, passes-room, layer-finds, layer-passed}
use Rattle.layer_vertices.proofs.find_layer.Given.{Over}
use Rattle.layer_vertices.proofs.find_layer.Goals as goal
use Rattle.layer_vertices.proofs.find_layer.Goals.{After-read_row-far, In-loop-y, Start}

here : (g : Over) (c : In-loop-y g) → AtRow c.args.k c.args.z c.loop-y.y
here g c = row_of c.requires.in_layers c.loop-y.invariant.0 c.loop-y-test.true

-- the two layers of distances, and the field that they are
abbrev lower_of : (g : Over) → After-read_row-far g → List Float
lower_of g c = let a = c.args in g.D.Distance.floats a.lower.now

abbrev upper_of : (g : Over) → After-read_row-far g → List Float
upper_of g c = let a = c.args in g.D.Distance.floats a.upper.now

abbrev codes-of : (g : Over) → After-read_row-far g → List ℕ
codes-of g c = c.read_row-far.new.codes

both : (g : Over) (c : After-read_row-far g) → Turn (lower_of g c) (upper_of g c) c.args.k c.loop-y.y c.loop-y.here (codes-of g c)
both g c = turned c.loop-y.invariant.3 c.read_row-far.ensures.codes_after

-- the two layers of distances, and the field that they are
abbrev lower_of-2 : (g : Over) → Start g → List Float
lower_of-2 g c = let a = c.args in g.D.Distance.floats a.lower.now

abbrev upper_of-2 : (g : Over) → Start g → List Float
upper_of-2 g c = let a = c.args in g.D.Distance.floats a.upper.now

abbrev layers-of : (g : Over) → Start g → Field
layers-of g c = two_layers (lower_of-2 g c) (upper_of-2 g c) c.args.k c.args.z

pub read_row-near-requires-clause-k_in_bounds : goal.read_row-near-requires-clause-k_in_bounds
read_row-near-requires-clause-k_in_bounds g c = let p = points-lent c.requires.in_layers (layer-begun c.requires.in_layers).high in p.1.0

pub read_row-near-requires-clause-x_le_x : goal.read_row-near-requires-clause-x_le_x
read_row-near-requires-clause-x_le_x g c = let p = points-lent c.requires.in_layers (layer-begun c.requires.in_layers).high in p.0

pub read_row-near-requires-clause-k_in_bounds_2 : goal.read_row-near-requires-clause-k_in_bounds_2
read_row-near-requires-clause-k_in_bounds_2 g c = let p = points-lent c.requires.in_layers (layer-begun c.requires.in_layers).high in p.1.1

pub loop-y-init : goal.loop-y-init
loop-y-init g c = (
  layer-begun c.requires.in_layers,
  passes_none (layer-begins (points_of (box_of c.args.k)) c.args.z),
  c.read_row-near.ensures.value,
  begun (record { same = c.read_row-near.ensures.codes_after }) (omega arith),
)

pub read_row-far-requires-clause-k_in_bounds : goal.read_row-far-requires-clause-k_in_bounds
read_row-far-requires-clause-k_in_bounds g c =
    let p = points-lent c.requires.in_layers (here g (goal.at.read_row-far-requires-clause-k_in_bounds g c).In-loop-y).turn.next.high in p.1.0

pub read_row-far-requires-clause-k_in_bounds_2 : goal.read_row-far-requires-clause-k_in_bounds_2
read_row-far-requires-clause-k_in_bounds_2 g c =
    let p = points-lent c.requires.in_layers (here g (goal.at.read_row-far-requires-clause-k_in_bounds_2 g c).In-loop-y).turn.next.high in p.1.1

pub read_row-far-requires-clause-x_le_x : goal.read_row-far-requires-clause-x_le_x
read_row-far-requires-clause-x_le_x g c =
    let p = points-lent c.requires.in_layers (here g (goal.at.read_row-far-requires-clause-x_le_x g c).In-loop-y).turn.next.high in p.0

pub overflow_add-near : goal.overflow_add-near
overflow_add-near g c = cells-few c.requires.in_layers c.loop-y.y c.loop-y.invariant.2 c.read_row-far.ensures.value

pub find_where_mixed-state-requires-clause-kept : goal.find_where_mixed-state-requires-clause-kept
find_where_mixed-state-requires-clause-kept g c =
    (both g (goal.at.find_where_mixed-state-requires-clause-kept g c).After-read_row-far).near

pub find_where_mixed-state-requires-clause-kept_2 : goal.find_where_mixed-state-requires-clause-kept_2
find_where_mixed-state-requires-clause-kept_2 g c =
    (both g (goal.at.find_where_mixed-state-requires-clause-kept_2 g c).After-read_row-far).next.kept

pub find_where_mixed-state-requires-clause-room_to_find : goal.find_where_mixed-state-requires-clause-room_to_find
find_where_mixed-state-requires-clause-room_to_find g c =
    let a = c.args in
    let w = c.loop-y in
    let field = layers-of g (goal.at.find_where_mixed-state-requires-clause-room_to_find g c).Start in
    let within = layer-finds field (box_of a.k) a.z w.y (layers-fit c.requires.in_layers) c.requires.in_layers.here w.invariant.0.low (here g (goal.at.find_where_mixed-state-requires-clause-room_to_find g c).In-loop-y).turn.next.high in
    passes-room w.invariant.1 (row_cells (points_of (box_of a.k)) a.z w.y) c.requires.room_to_find within

pub loop-y-preserved : goal.loop-y-preserved
loop-y-preserved g c =
    let a = c.args in
    let w = c.loop-y in
    let b = points_of (box_of a.k) in (
      (here g (goal.at.loop-y-preserved g c).In-loop-y).turn.next,
      passes-more w.invariant.1 (row_cells b a.z w.y) c.find_where_mixed-state.ensures (layer-grows b a.z w.y w.invariant.0.low),
      c.read_row-far.ensures.value,
      (both g (goal.at.loop-y-preserved g c).After-read_row-far).next,
    )

pub returns-clause-value : goal.returns-clause-value
returns-clause-value g c =
    let a = c.args in
    let w = c.loop-y in
    let b = box_of a.k in
    let f = layers-fit c.requires.in_layers in
    let g = layers-of g (goal.at.returns-clause-value g c).Start in
    let last = row_cells (points_of b) a.z a.k.high.y in
    let rows = ap (λ (n : ℕ). layer_to (points_of b) a.z n ++ last) (ended w.invariant.0 c.loop-y-test.false) ∙ sym (layer-closes b a.z f.y.0) in
    let whole = passes-cleared w.invariant.1 last (side-y g b a.z) (c.clear_row.ensures ∙ row-blank (point a.k.dims) b a.z a.k.high.y w.map f.x.0) refl in
    let d = layer-passed g b a.z f c.requires.in_layers.here rows whole in
    let e = ap (λ (n : Next). n.place) d.1 in omega arith

pub returns-clause-map_value : goal.returns-clause-map_value
returns-clause-map_value g c =
    let a = c.args in
    let w = c.loop-y in
    let b = box_of a.k in
    let f = layers-fit c.requires.in_layers in
    let g = layers-of g (goal.at.returns-clause-map_value g c).Start in
    let last = row_cells (points_of b) a.z a.k.high.y in
    let rows = ap (λ (n : ℕ). layer_to (points_of b) a.z n ++ last) (ended w.invariant.0 c.loop-y-test.false) ∙ sym (layer-closes b a.z f.y.0) in
    let whole = passes-cleared w.invariant.1 last (side-y g b a.z) (c.clear_row.ensures ∙ row-blank (point a.k.dims) b a.z a.k.high.y w.map f.x.0) refl in
    let d = layer-passed g b a.z f c.requires.in_layers.here rows whole in
    let e = ap (λ (n : Next). n.place) d.1 in d.0
