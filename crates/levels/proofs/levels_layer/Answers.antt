-- A refusal changes nothing, and the layer is taken where there is none. Assumes nothing.
use Rattle.std.proofs.Common.{List, length, sym}
use lib.Ieee.{Float}
use Rattle.grid.specs.declared.Block.{Block}
use Rattle.grid.specs.Block.{point, box_of}
use Rattle.levels.proofs.Answering.{block_of, layer-offered, layer-taken, layer-refused, layer-done, refused-some}
use Rattle.levels.proofs.levels_layer.Given.{Over}
use Rattle.levels.proofs.levels_layer.Goals as goal
use Rattle.levels.proofs.levels_layer.Goals.{Start}

abbrev lower_of : (g : Over) → Start g → List Float
lower_of g c = let a = c.args in g.D.Distance.floats a.below.now

abbrev upper_of : (g : Over) → Start g → List Float
upper_of g c = let a = c.args in g.D.Distance.floats a.layer.now

abbrev block-of : (g : Over) → Start g → Block
block-of g c = let a = c.args in block_of a.dims a.low a.high

pub returns-in_err-layer_answer-clause-out_after : goal.returns-in_err-layer_answer-clause-out_after
returns-in_err-layer_answer-clause-out_after g c =
    let s = (goal.at.returns-in_err-layer_answer-clause-out_after g c).Start in
    layer-refused (lower_of g s) (upper_of g s) (point c.args.dims) (box_of (block-of g s)) c.args.z c.args.out.now c.in_err-layer_answer.ensures
    (refused-some c.in_err-layer_answer.field-0.0)

pub take_layer-requires : goal.take_layer-requires
take_layer-requires g c =
    let s = (goal.at.take_layer-requires g c).Start in
    layer-taken (block-of g s) (lower_of g s) (upper_of g s) c.args.z
    (layer-offered (lower_of g s) (upper_of g s) (point c.args.dims) (box_of (block-of g s)) c.args.z (length c.args.out.now) (sym c.in_ok-layer_answer.ensures))

pub returns-clause-out_after : goal.returns-clause-out_after
returns-clause-out_after g c =
    let s = (goal.at.returns-clause-out_after g c).Start in
    layer-done (lower_of g s) (upper_of g s) (point c.args.dims) (box_of (block-of g s)) c.args.z c.args.out.now (sym c.in_ok-layer_answer.ensures) c.take_layer.ensures
