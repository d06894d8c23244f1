-- A refusal leaves everything; otherwise the pass writes, with what the answer of 0 says of box and room. Assumes nothing.
use Rattle.std.proofs.Common.{List, ap, sym}
use lib.Ieee.{Float}
use Rattle.rules.specs.Call.{Call, Buffers, Answer}
use Rattle.grid.specs.declared.Block.{Block}
use Rattle.whole_box.specs.LentLists.{buffers_given}
use Rattle.judge.proofs.Judging.{refused-some}
use Rattle.surface_nets.specs.AsRules.{block_of, call_made}
use Rattle.surface_nets.proofs.Done.{done-inside, done-roomy, refused-still, done-written}
use Rattle.surface_nets.proofs.surface_nets.Given.{Over}
use Rattle.surface_nets.proofs.surface_nets.Goals as goal
use Rattle.surface_nets.proofs.surface_nets.Goals.{After-answer_for}

-- ---- the call, its lists, and what the answer says
abbrev grid-of : (g : Over) → After-answer_for g → List Float
grid-of g c = let a = c.args in g.D.Distance.floats a.sdf.now

abbrev block-of : (g : Over) → After-answer_for g → Block
block-of g c = let a = c.args in block_of a.dims a.low a.high a.max_plane

abbrev call-of : (g : Over) → After-answer_for g → Call
call-of g c = let a = c.args in call_made (grid-of g c) a.dims a.low a.high a.max_plane

abbrev lists-of : (g : Over) → After-answer_for g → Buffers
lists-of g c = let a = c.args in buffers_given a.positions a.normals a.cells a.strides a.crossings a.stride_to_index a.indices

pub returns-in_err-counts-clause-indices_value : goal.returns-in_err-counts-clause-indices_value
returns-in_err-counts-clause-indices_value g c =
    let s = (goal.at.returns-in_err-counts-clause-indices_value g c).After-answer_for in
    refused-still (call-of g s) (lists-of g s) (ap (λ (t : Answer). t.number) c.in_err-counts.ensures) (refused-some c.in_err-counts.field-0.0)

pub mesh_box-requires-clause-inside : goal.mesh_box-requires-clause-inside
mesh_box-requires-clause-inside g c =
    let s = (goal.at.mesh_box-requires-clause-inside g c).After-answer_for in
    done-inside (grid-of g s) (block-of g s) (lists-of g s) (sym (ap (λ (t : Answer). t.number) c.in_ok-counts.ensures))

pub mesh_box-requires-clause-roomy : goal.mesh_box-requires-clause-roomy
mesh_box-requires-clause-roomy g c =
    let s = (goal.at.mesh_box-requires-clause-roomy g c).After-answer_for in
    done-roomy (grid-of g s) (block-of g s) (lists-of g s) (sym (ap (λ (t : Answer). t.number) c.in_ok-counts.ensures))

pub returns-clause-indices_value : goal.returns-clause-indices_value
returns-clause-indices_value g c =
    let s = (goal.at.returns-clause-indices_value g c).After-answer_for in
    done-written (call-of g s) (lists-of g s) (sym (ap (λ (t : Answer). t.number) c.in_ok-counts.ensures)) c.mesh_box.ensures
