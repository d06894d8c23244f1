-- A refusal changes nothing, and the levels are told where there is none. Assumes nothing.
use Rattle.std.proofs.Common.{List, length, sym}
use lib.Ieee.{Float}
use Rattle.grid.specs.declared.Block.{Block}
use Rattle.grid.specs.Block.{point, box_of}
use Rattle.grid.proofs.Faults.{faultless-inside}
use Rattle.levels.proofs.Answering.{block_of, Accepted, levels-accepted, levels-refused, levels-done, refused-some}
use Rattle.levels.proofs.levels.Given.{Over}
use Rattle.levels.proofs.levels.Goals as goal
use Rattle.levels.proofs.levels.Goals.{In_ok-levels_answer, Start}

abbrev grid-of : (g : Over) → Start g → List Float
grid-of g c = let a = c.args in g.D.Distance.floats a.sdf.now

abbrev block-of : (g : Over) → Start g → Block
block-of g c = let a = c.args in block_of a.dims a.low a.high

accepted : (g : Over) (c : In_ok-levels_answer g)
    → Accepted (g.D.Distance.floats c.args.sdf.now) (point c.args.dims) (box_of (block_of c.args.dims c.args.low c.args.high)) (length c.args.out.now)
accepted g c =
    let a = c.args in
    levels-accepted (g.D.Distance.floats a.sdf.now) (point a.dims) (box_of (block_of a.dims a.low a.high)) (length a.out.now) (sym c.in_ok-levels_answer.ensures)

pub returns-in_err-levels_answer-clause-out_after : goal.returns-in_err-levels_answer-clause-out_after
returns-in_err-levels_answer-clause-out_after g c =
    let s = (goal.at.returns-in_err-levels_answer-clause-out_after g c).Start in
    levels-refused (grid-of g s) (point c.args.dims) (box_of (block-of g s)) c.args.out.now c.in_err-levels_answer.ensures
    (refused-some c.in_err-levels_answer.field-0.0)

pub rise_box-requires-clause-k_in_bounds : goal.rise_box-requires-clause-k_in_bounds
rise_box-requires-clause-k_in_bounds g c = (accepted g (goal.at.rise_box-requires-clause-k_in_bounds g c).In_ok-levels_answer).room-holds

pub rise_box-requires-clause-inside : goal.rise_box-requires-clause-inside
rise_box-requires-clause-inside g c =
    let s = (goal.at.rise_box-requires-clause-inside g c).Start in
    faultless-inside (grid-of g s) (block-of g s) (accepted g (goal.at.rise_box-requires-clause-inside g c).In_ok-levels_answer).faultless

pub returns-clause-out_after : goal.returns-clause-out_after
returns-clause-out_after g c =
    let s = (goal.at.returns-clause-out_after g c).Start in
    levels-done (grid-of g s) (point c.args.dims) (box_of (block-of g s)) c.args.out.now (sym c.in_ok-levels_answer.ensures) c.rise_box.ensures
