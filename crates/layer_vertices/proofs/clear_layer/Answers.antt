-- The invariant: the part is what the rows before y leave; after the last, each point of the box in the layer is cleared. Assumes nothing.
use Prim.Native.Nat.{ℕ, ◌+◌}
use mathlib.Core.List.{List}
use mathlib.Core.Path.{sym, ap, ◌∙◌}
use Rattle.rules.specs.Grid.{GridPoint}
use Rattle.rules.specs.Vertices.{row_cells}
use Rattle.grid.specs.Block.{point, box_of}
use Rattle.grid.specs.Order.{layer_to}
use Rattle.grid.proofs.Order.{layer-begins, layer-grows, layer-ends}
use Rattle.grid.proofs.Walks.{Turn, turn, begun, ended, end_fits}
use Rattle.layer_vertices.specs.Cells.{points_of, cleared, entered}
use Rattle.layer_vertices.proofs.Entries.{cleared-append}
use Rattle.layer_vertices.proofs.Points.{cleared-all}
use Rattle.layer_vertices.proofs.Clearing.{row-blank, part-spans, part-fits}
use Rattle.layer_vertices.proofs.clear_layer.Goals as goal
use Rattle.layer_vertices.proofs.clear_layer.Goals.{In-loop-y}

here : (c : In-loop-y) → let k = c.args.k in Turn k.low.y (k.high.y + 1) c.loop-y.y
here c = turn (part-spans c.requires).y c.loop-y.invariant.0 c.loop-y-test.true

-- ---- the needs
pub overflow_add-end : goal.overflow_add-end
overflow_add-end c = end_fits (part-spans c.requires).y

pub loop-y-init : goal.loop-y-init
unfolding entered
loop-y-init c =
    let a = c.args in
    (begun (part-spans c.requires).y, ap (λ (ps : List GridPoint). cleared (point a.k.dims) ps a.map.now) (sym (layer-begins (points_of (box_of a.k)) a.k.high.z)))

pub loop-y-preserved : goal.loop-y-preserved
loop-y-preserved c =
    let a = c.args in
    let w = c.loop-y in
    let d = point a.k.dims in
    let b = box_of a.k in
    let z = a.k.high.z in (
      (here (goal.at.loop-y-preserved c).In-loop-y).next,
      c.clear_row.ensures
          ∙ row-blank d b z w.y w.map (part-fits c.requires).x.0
          ∙ ap (cleared d (row_cells (points_of b) z w.y)) w.invariant.1
          ∙ cleared-append d (layer_to (points_of b) z w.y) (row_cells (points_of b) z w.y) a.map.now
          ∙ ap (λ (ps : List GridPoint). cleared d ps a.map.now) (sym (layer-grows (points_of b) z w.y w.invariant.0.low)),
    )

pub returns : goal.returns
returns c =
    let a = c.args in
    let w = c.loop-y in
    let d = point a.k.dims in
    let b = box_of a.k in
    w.invariant.1
    ∙ ap (λ (n : ℕ). cleared d (layer_to (points_of b) a.k.high.z n) a.map.now) (ended w.invariant.0 c.loop-y-test.false)
    ∙ ap (λ (ps : List GridPoint). cleared d ps a.map.now) (layer-ends (points_of b) a.k.high.z)
    ∙ cleared-all b d (part-fits c.requires) a.map.now
