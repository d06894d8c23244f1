-- `fixture_widths::cut_fixtures_layer` meets its contract: refused, the list keeps; and else the floats, put into its first numbers, are cut there.
-- Assumes nothing.
use Prim.Native.Nat.{◌≤◌, ◌<◌}
use native.Mathlib.Omega.{arith}
use mathlib.Core.List.{◌++◌}
use mathlib.Core.Path.{◌≡◌, sym, ap, ◌∙◌}
use lib.ListN.{length, drop}
use Rattle.grid.specs.Block.{point}
use Rattle.grid.proofs.Faults.{err-is}
use Rattle.grid.proofs.Places.{as-long}
use Rattle.fixtures.specs.Refusal.{number}
use Rattle.fixtures.specs.Layer.{layer_answer, cut_layer}
use Rattle.fixture_widths.specs.Refused.{answer_of}
use Rattle.fixture_widths.proofs.Outcomes.{Outcome, refused, no_room, done}
use Rattle.fixture_widths.proofs.cut_fixtures_layer.Given.{Over}
use Rattle.fixture_widths.proofs.cut_fixtures_layer.Goals as goal
use Rattle.fixture_widths.proofs.cut_fixtures_layer.Goals.{In_err-layer_answer, In_ok-layer_answer, Then-out-layer, In_ok-cut_fixtures_layer}

-- the layer's floats are as many as its numbers
refusal : (g : Over) (c : In_err-layer_answer g) → let a = c.args in
    Outcome a.file.now (point a.dims) a.z (g.D.Distance.floats a.layer.now) a.out.now (number c.in_err-layer_answer.field-0.0) a.out.now
refusal g c =
    let a = c.args in
    refused _ _ _ (g.D.Distance.floats a.layer.now) a.out.now c.in_err-layer_answer.field-0.0
    (c.in_err-layer_answer.ensures ∙ ap (layer_answer a.file.now (point a.dims) a.z) (sym (as-long g.met.D.Distance.floats_are a.layer.now)))

not_refused : (g : Over) (c : In_ok-layer_answer g) → let a = c.args in
    0 ≡ layer_answer a.file.now (point a.dims) a.z (length (g.D.Distance.floats a.layer.now))
not_refused g c =
    let a = c.args in
    c.in_ok-layer_answer.ensures ∙ ap (layer_answer a.file.now (point a.dims) a.z) (sym (as-long g.met.D.Distance.floats_are a.layer.now))

pub returns-in_err-layer_answer-clause-value : goal.returns-in_err-layer_answer-clause-value
returns-in_err-layer_answer-clause-value g c =
    ap answer_of (err-is c.from_residual.result c.from_residual.ensures.1) ∙ (refusal g (goal.at.returns-in_err-layer_answer-clause-value g c).In_err-layer_answer).0

pub returns-in_err-layer_answer-clause-out_after : goal.returns-in_err-layer_answer-clause-out_after
returns-in_err-layer_answer-clause-out_after g c = (refusal g (goal.at.returns-in_err-layer_answer-clause-out_after g c).In_err-layer_answer).1

short : (g : Over) (c : Then-out-layer g) → length c.args.out.now < length (g.D.Distance.floats c.args.layer.now)
short g c = omega (arith, as-long g.met.D.Distance.floats_are c.args.layer.now, c.if-out-layer.true)

pub returns-then-out-layer-clause-value : goal.returns-then-out-layer-clause-value
returns-then-out-layer-clause-value g c =
    let at = goal.at.returns-then-out-layer-clause-value g c in
    (no_room c.args.file.now (point c.args.dims) c.args.z (g.D.Distance.floats c.args.layer.now) c.args.out.now (not_refused g at.In_ok-layer_answer) (short g at.Then-out-layer)).0

pub returns-then-out-layer-clause-out_after : goal.returns-then-out-layer-clause-out_after
returns-then-out-layer-clause-out_after g c =
    let at = goal.at.returns-then-out-layer-clause-out_after g c in
    (no_room c.args.file.now (point c.args.dims) c.args.z (g.D.Distance.floats c.args.layer.now) c.args.out.now (not_refused g at.In_ok-layer_answer) (short g at.Then-out-layer)).1

-- the first numbers of the list are the floats, and they are cut
cut : (g : Over) (c : In_ok-cut_fixtures_layer g) → let a = c.args in
    Outcome a.file.now (point a.dims) a.z (g.D.Distance.floats a.layer.now) a.out.now 0 (c.cut_fixtures_layer.new.layer ++ drop (length a.layer.now) a.out.now)
cut g c =
    let a = c.args in
    let long = as-long g.met.D.Distance.floats_are a.layer.now in
    let few : length (g.D.Distance.floats a.layer.now) ≤ length a.out.now = omega (arith, long, c.if-out-layer.false) in
    done a.file.now (point a.dims) a.z (g.D.Distance.floats a.layer.now) a.out.now
    (c.in_ok-layer_answer.ensures ∙ ap (layer_answer a.file.now (point a.dims) a.z) (sym long)) few
    (c.cut_fixtures_layer.ensures.layer_after ∙ ap (cut_layer a.file.now (point a.dims) a.z) c.put_floats.ensures) (sym long)

pub returns-clause-value : goal.returns-clause-value
returns-clause-value g c = (cut g c).0

pub returns-clause-out_after : goal.returns-clause-out_after
returns-clause-out_after g c = (cut g c).1
