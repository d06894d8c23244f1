-- The three outcomes. Assumes nothing.
use Rattle.std.proofs.Common.{◌≡◌, ap, ◌∙◌}
use Rattle.std.specs.Prelude.{Result, Ok, Err, IsErrAnd, ok_or}
use Rattle.witness.specs.declared.words.NoEdge.{NoEdge}
use Rattle.witness.specs.declared.words.NoEdge.TheVariants.{Planned}
use Rattle.witness.specs.Witness.{reason_number, outcome_number}
use Rattle.witness.proofs.Outcomes.{all-good, none_told, one_told}
use Rattle.witness.proofs.axes.plan_witness.Goals as goal

handed_on : {A : Type 0} (r : Result A NoEdge) (reason : NoEdge) → IsErrAnd r (λ e. e ≡ reason) → outcome_number r ≡ reason_number reason
handed_on (Ok x) reason h = absurd h
handed_on (Err e) reason h = ap reason_number h

pub first_wrong-requires : goal.first_wrong-requires
first_wrong-requires c =
    all-good c.args.words.now c.args.whole.now c.block-whole.result c.block-whole.ensures c.in_ok-blocks.blocks.now c.in_ok-blocks.ensures.blocks
    c.in_ok-blocks.ensures.number c.args.edge.now

pub returns-in_err-wrong : goal.returns-in_err-wrong
returns-in_err-wrong c =
    let none = c.in_err-wrong.ensures.ok_part in
    none_told c.args.words.now c.args.whole.now c.block-whole.result c.block-whole.ensures c.in_ok-blocks.blocks.now c.in_ok-blocks.ensures.blocks
    c.in_ok-blocks.ensures.number c.args.edge.now c.first_wrong.result c.first_wrong.ensures none (outcome_number c.from_residual-in_err-wrong.result)
    (handed_on c.from_residual-in_err-wrong.result c.in_err-wrong.field-0.0 c.from_residual-in_err-wrong.ensures.1
    ∙ ap outcome_number c.in_err-wrong.ensures.value ∙ ap (λ r. outcome_number (ok_or r Planned)) none)

pub returns : goal.returns
returns c =
    one_told c.args.words.now c.args.whole.now c.block-whole.result c.block-whole.ensures c.in_ok-blocks.blocks.now c.in_ok-blocks.ensures.blocks
    c.in_ok-blocks.ensures.number c.args.edge.now c.first_wrong.result c.first_wrong.ensures c.in_ok-wrong.wrong c.in_ok-wrong.ensures.ok_part
    c.edge_words.result c.edge_words.ensures
