-- A refusal leaves everything; otherwise the layer brings out its cells and is kept. Assumes nothing.
use mathlib.Core.Path.{◌≡◌, sym, ap, ◌∙◌}
use native.Mathlib.Nat.{le_trans, le_of_eq}
use native.Mathlib.Omega.{arith}
use lib.ListN.{length}
use Rattle.rules.specs.Call.{Answer}
use Rattle.layers.specs.declared.State.{State}
use Rattle.layers.specs.Memory.{Memory, memory}
use Rattle.layers.specs.Offer.{Output, output, room_in, layer_answer, new_vertices, runs_on}
use Rattle.layers.specs.Ready.{Roomy}
use Rattle.layers.proofs.Judging.{refused-some}
use Rattle.layers.proofs.Cells.{vertices-few, plane-small}
use Rattle.layers.proofs.Left.{done-roomy, done-vertices, state-next, refused-state, refused-left, kept_whole, advances}
use Rattle.layers.proofs.State.offer.Goals as goal
use Rattle.layers.proofs.State.offer.Goals.{After-layer_answer, In_ok-counts}

-- ---- what is lent
abbrev memory-of : After-layer_answer → Memory
memory-of c = memory c.args.distances.now c.args.map.now c.args.kept.now

abbrev output-of : After-layer_answer → Output
output-of c = let a = c.args in output a.positions.now a.normals.now a.cells.now a.strides.now a.crossings.now a.indices.now

-- ---- an answer of 0
abbrev lent-memory : In_ok-counts → Memory
lent-memory c = memory c.args.distances.now c.args.map.now c.args.kept.now

abbrev lent-output : In_ok-counts → Output
lent-output c = let a = c.args in output a.positions.now a.normals.now a.cells.now a.strides.now a.crossings.now a.indices.now

done : (c : In_ok-counts) → (layer_answer c.args.self.now c.args.layer.now (lent-memory c) (room_in (lent-memory c) (lent-output c))).number ≡ 0
done c = sym (ap (λ (a : Answer). a.number) c.in_ok-counts.ensures)

roomy : (c : In_ok-counts) → Roomy c.args.self.now c.args.layer.now (lent-memory c) (lent-output c)
roomy c = done-roomy c.args.self.now c.args.layer.now (lent-memory c) (lent-output c) (done c)

-- V is the number of new vertices, which is small
count : (c : In_ok-counts) → let a = c.args in c.in_ok-counts.counts.vertices ≡ length (new_vertices a.self.now a.layer.now a.distances.now)
count c =
    ap (λ (a : Answer). a.vertices) c.in_ok-counts.ensures ∙ done-vertices c.args.self.now c.args.layer.now (lent-memory c) (lent-output c) (done c)

-- ---- the needs
pub returns-in_err-counts-clause-state_value : goal.returns-in_err-counts-clause-state_value
returns-in_err-counts-clause-state_value c =
    let a = c.args in
    let s = (goal.at.returns-in_err-counts-clause-state_value c).After-layer_answer in
    sym (refused-state a.self.now a.layer.now (memory-of s) (output-of s)
    (λ e. refused-some c.in_err-counts.field-0.0 (ap (λ (t : Answer). t.number) c.in_err-counts.ensures ∙ e)))

pub returns-in_err-counts-clause-indices_value : goal.returns-in_err-counts-clause-indices_value
returns-in_err-counts-clause-indices_value c =
    let a = c.args in
    let s = (goal.at.returns-in_err-counts-clause-indices_value c).After-layer_answer in
    sym (refused-left a.self.now a.layer.now (memory-of s) (output-of s)
    (λ e. refused-some c.in_err-counts.field-0.0 (ap (λ (t : Answer). t.number) c.in_err-counts.ensures ∙ e)))

pub advance-next-requires : goal.advance-next-requires
advance-next-requires c =
    let s = (goal.at.advance-next-requires c).In_ok-counts in
    let v = vertices-few (roomy s).ready in
    let p = plane-small (roomy s).ready in
    (omega (arith, count s), advances (roomy s))

pub bring_out-requires-clause-number_value : goal.bring_out-requires-clause-number_value
bring_out-requires-clause-number_value c =
    ap (λ (t : State). t.first) c.advance-next.ensures
    ∙ ap (runs_on c.args.self.now.next) (count (goal.at.bring_out-requires-clause-number_value c).In_ok-counts)

pub bring_out-requires-clause-roomy : goal.bring_out-requires-clause-roomy
bring_out-requires-clause-roomy c = roomy (goal.at.bring_out-requires-clause-roomy c).In_ok-counts

pub keep_layer-requires-clause-ready : goal.keep_layer-requires-clause-ready
keep_layer-requires-clause-ready c = let r = roomy (goal.at.keep_layer-requires-clause-ready c).In_ok-counts in r.ready

pub keep_layer-requires-clause-block_in_bounds : goal.keep_layer-requires-clause-block_in_bounds
keep_layer-requires-clause-block_in_bounds c =
    let r = roomy (goal.at.keep_layer-requires-clause-block_in_bounds c).In_ok-counts in le_trans r.map (le_of_eq (sym c.bring_out.auto.map))

pub returns-clause-state_value : goal.returns-clause-state_value
returns-clause-state_value c =
    let a = c.args in
    let s = (goal.at.returns-clause-state_value c).In_ok-counts in
    state-next a.self.now a.layer.now (lent-memory s) (lent-output s) (done s) c.in_ok-counts.counts.vertices c.advance-next.ensures (count s)

pub returns-clause-indices_value : goal.returns-clause-indices_value
returns-clause-indices_value c =
    let a = c.args in
    let s = (goal.at.returns-clause-indices_value c).In_ok-counts in
    kept_whole a.self.now a.layer.now (lent-memory s) (lent-output s) (done s) c.bring_out.ensures c.keep_layer.ensures.distances_after
    c.keep_layer.ensures.map_after
