-- The conditions in their order: each way out by the tests that led there. Assumes nothing.
use mathlib.Core.Bool.{false}
use mathlib.Core.Path.{◌≡◌, refl, sym, ap, ◌∙◌}
use native.Mathlib.Omega.{arith}
use Rattle.std.proofs.Common.{Err}
use Rattle.rules.specs.Call.{Answer, room_answer, bad_dimensions, bad_box}
use Rattle.lists.proofs.Tests.{failed}
use Rattle.rules.proofs.Indexes.{box-fits}
use Rattle.grid.specs.Block.{point, box_of}
use Rattle.grid.proofs.Faults.{err-is}
use Rattle.count.specs.declared.Tally.{Tally}
use Rattle.judge.specs.AsRules.{room_of}
use Rattle.layers.specs.declared.Refusal.{Refusal}
use Rattle.layers.specs.Answer.{answer_of}
use Rattle.layers.specs.Memory.{Memory, memory, lengths, bad_memory}
use Rattle.layers.specs.Offer.{finished, bad_layer_length, bad_points}
use Rattle.layers.specs.Ready.{Ready}
use Rattle.layers.proofs.Judging.{plane-few, memory-tested, memory-enough, layer-1, layer-2, layer-8, layer-3, layer-4, layer-5, layer-room, is-finished, not-finished}
use Rattle.layers.proofs.Judging.{wrong-length, right-length}
use Rattle.layers.proofs.Cells.{new-tally, vertices-few, plane-small}
use Rattle.layers.proofs.answers.layer_answer.Goals as goal
use Rattle.layers.proofs.answers.layer_answer.Goals.{Start, Else-bad_dimensions, Else-bad_box, Else-k-s, Else-layer-plane, Else-short_memory, Else-bad_points}

abbrev memory-of : Start → Memory
memory-of c = memory c.args.distances.now c.args.map.now c.args.positions.now

-- what a refusal says
abbrev says : Refusal → Answer
says r = answer_of (Err r)

-- ---- what the tests said on the way
dims-ok : (c : Else-bad_dimensions) → bad_dimensions (point c.args.s.block.dims) ≡ false
dims-ok c = sym c.bad_dimensions.ensures ∙ c.if-bad_dimensions.false

box-ok : (c : Else-bad_box) → let k = c.args.s.block in bad_box (point k.dims) (box_of k) ≡ false
box-ok c = sym c.bad_box.ensures ∙ c.if-bad_box.false

more-ok : (c : Else-k-s) → finished c.args.s ≡ false
more-ok c = not-finished c.args.s c.if-k-s.false

long-ok : (c : Else-layer-plane) → bad_layer_length c.args.s.block c.args.layer.now ≡ false
long-ok c = right-length c.args.s.block c.args.layer.now c.if-layer-plane.false

kept-ok : (c : Else-short_memory) → let a = c.args in bad_memory a.s.block (lengths (memory a.distances.now a.map.now a.positions.now)) ≡ false
kept-ok c =
    let a = c.args in
    memory-tested a.s.block (lengths (memory a.distances.now a.map.now a.positions.now)) c.short_memory.ensures ∙ c.if-short_memory.false

points-ok : (c : Else-bad_points) → bad_points c.args.s.block c.args.layer.now ≡ false
points-ok c = sym c.bad_points.ensures ∙ c.if-bad_points.false

ready : (c : Else-bad_points) → let a = c.args in Ready a.s a.layer.now a.distances.now
ready c =
    let a = c.args in
    let r = lengths (memory a.distances.now a.map.now a.positions.now) in
    record {
      offered = record {
        dims = failed refl (sym c.bad_dimensions.ensures ∙ c.if-bad_dimensions.false);
        box = failed refl (sym c.bad_box.ensures ∙ c.if-bad_box.false);
        long = c.if-layer-plane.false;
      };
      more = c.if-k-s.false;
      kept = (memory-enough a.s.block r (memory-tested a.s.block r c.short_memory.ensures ∙ c.if-short_memory.false)).distances;
    }

-- ---- the needs
pub returns-then-bad_dimensions : goal.returns-then-bad_dimensions
returns-then-bad_dimensions c =
    let a = c.args in
    let m = memory-of (goal.at.returns-then-bad_dimensions c).Start in
    ap says c.from.ensures ∙ layer-1 a.s a.layer.now m (room_of a.room) (sym c.bad_dimensions.ensures ∙ c.if-bad_dimensions.true)

pub returns-then-bad_box : goal.returns-then-bad_box
returns-then-bad_box c =
    let a = c.args in
    let at = goal.at.returns-then-bad_box c in
    ap says c.from-then-bad_box.ensures
    ∙ layer-2 a.s a.layer.now (memory-of at.Start) (room_of a.room) (dims-ok at.Else-bad_dimensions) (sym c.bad_box.ensures ∙ c.if-bad_box.true)

pub overflow_sub-k : goal.overflow_sub-k
overflow_sub-k c =
    let k = c.args.s.block in
    let f = box-fits (point k.dims) (box_of k) (failed refl (box-ok (goal.at.overflow_sub-k c).Else-bad_box)) in
    omega arith

pub returns-then-k-s : goal.returns-then-k-s
returns-then-k-s c =
    let a = c.args in
    let at = goal.at.returns-then-k-s c in
    layer-8 a.s a.layer.now (memory-of at.Start) (room_of a.room) (dims-ok at.Else-bad_dimensions) (box-ok at.Else-bad_box) (is-finished a.s c.if-k-s.true)

pub returns-then-layer-plane : goal.returns-then-layer-plane
returns-then-layer-plane c =
    let a = c.args in
    let at = goal.at.returns-then-layer-plane c in
    ap says c.from-then-layer-plane.ensures
    ∙ layer-3 a.s a.layer.now (memory-of at.Start) (room_of a.room) (dims-ok at.Else-bad_dimensions) (box-ok at.Else-bad_box) (more-ok at.Else-k-s)
    (wrong-length a.s.block a.layer.now c.if-layer-plane.true)

pub short_memory-requires : goal.short_memory-requires
short_memory-requires c =
    let at = goal.at.short_memory-requires c in plane-few c.args.s.block (failed refl (dims-ok at.Else-bad_dimensions)) (failed refl (box-ok at.Else-bad_box))

pub returns-then-short_memory : goal.returns-then-short_memory
returns-then-short_memory c =
    let a = c.args in
    let at = goal.at.returns-then-short_memory c in
    layer-4 a.s a.layer.now (memory-of at.Start) (room_of a.room) (dims-ok at.Else-bad_dimensions) (box-ok at.Else-bad_box) (more-ok at.Else-k-s)
    (long-ok at.Else-layer-plane) (memory-tested a.s.block (lengths (memory-of at.Start)) c.short_memory.ensures ∙ c.if-short_memory.true)

pub returns-then-bad_points : goal.returns-then-bad_points
returns-then-bad_points c =
    let a = c.args in
    let at = goal.at.returns-then-bad_points c in
    layer-5 a.s a.layer.now (memory-of at.Start) (room_of a.room) (dims-ok at.Else-bad_dimensions) (box-ok at.Else-bad_box) (more-ok at.Else-k-s)
    (long-ok at.Else-layer-plane) (kept-ok at.Else-short_memory) (sym c.bad_points.ensures ∙ c.if-bad_points.true)

pub room_answer-requires : goal.room_answer-requires
room_answer-requires c =
    let a = c.args in
    let at = goal.at.room_answer-requires c in
    let e = ap (λ (t : Tally). t.vertices) (c.count_below.ensures ∙ new-tally a.s a.layer.now (memory-of at.Start)) in
    let few = vertices-few (ready at.Else-bad_points) in
    let small = plane-small (ready at.Else-bad_points) in
    omega arith

pub returns-in_err-counts : goal.returns-in_err-counts
returns-in_err-counts c =
    let a = c.args in
    let at = goal.at.returns-in_err-counts c in
    ap answer_of (err-is c.from_residual.result c.from_residual.ensures.1)
    ∙ c.in_err-counts.ensures
    ∙ ap (λ (t : Tally). room_answer (room_of a.room) t.vertices t.indices) (c.count_below.ensures ∙ new-tally a.s a.layer.now (memory-of at.Start))
    ∙ layer-room a.s a.layer.now (memory-of at.Start) (room_of a.room) (dims-ok at.Else-bad_dimensions) (box-ok at.Else-bad_box) (more-ok at.Else-k-s)
    (long-ok at.Else-layer-plane) (kept-ok at.Else-short_memory) (points-ok at.Else-bad_points)

pub returns : goal.returns
returns c =
    let a = c.args in
    let at = goal.at.returns c in
    c.in_ok-counts.ensures
    ∙ ap (λ (t : Tally). room_answer (room_of a.room) t.vertices t.indices) (c.count_below.ensures ∙ new-tally a.s a.layer.now (memory-of at.Start))
    ∙ layer-room a.s a.layer.now (memory-of at.Start) (room_of a.room) (dims-ok at.Else-bad_dimensions) (box-ok at.Else-bad_box) (more-ok at.Else-k-s)
    (long-ok at.Else-layer-plane) (kept-ok at.Else-short_memory) (points-ok at.Else-bad_points)
