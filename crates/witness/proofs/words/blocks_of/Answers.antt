-- By the tests in their order: no words are left behind the last twelve, and the check of the plan does not refuse. Assumes nothing.
use Rattle.std.proofs.Common.{◌≡◌, ℕ, List, map, sym, ap, ◌∙◌}
use Rattle.std.specs.Prelude.{Result, Ok, Err, IsErrAnd}
use borrow.Author.Tests.{eqb-true, eqb-false}
use Rattle.plan.specs.declared.refusal.Refusal.{Refusal}
use Rattle.plan.specs.Plan.{piece, plan_answer, refusal_number}
use Rattle.plan.specs.Words.{block_of}
use Rattle.witness.specs.declared.words.NoEdge.{NoEdge}
use Rattle.witness.specs.declared.words.NoEdge.TheVariants.{Refused}
use Rattle.witness.specs.Witness.{reason_number, outcome_number}
use Rattle.witness.proofs.Refusals.{number-40, number-in}
use Rattle.witness.proofs.words.blocks_of.Goals as goal

handed_on : {A : Type 0} (r : Result A NoEdge) (why : Refusal) → IsErrAnd r (λ reason. reason ≡ Refused why) → outcome_number r ≡ refusal_number why
handed_on (Ok x) why h = absurd h
handed_on (Err reason) why h = ap reason_number h

pub returns-then-not-is_empty-clause-number : goal.returns-then-not-is_empty-clause-number
returns-then-not-is_empty-clause-number c =
    number-40 c.args.words.now (piece c.args.whole) (λ e. eqb-false _ 0 (sym c.if-not-is_empty.ensures) (c.as_chunks.ensures.back_len ∙ e))

pub returns-in_err-accept-clause-number : goal.returns-in_err-accept-clause-number
returns-in_err-accept-clause-number c =
    let twelves = sym c.as_chunks.ensures.back_len ∙ eqb-true _ 0 (sym c.if-not-is_empty.ensures) in
    handed_on c.from_residual.result c.in_err-accept.field-0.0 c.from_residual.ensures.1 ∙ c.in_err-accept.ensures
    ∙ ap (λ (l : List (List ℕ)). plan_answer (map (λ b. piece (block_of b)) l) (piece c.args.whole)) c.as_chunks.ensures.front
    ∙ number-in c.args.words.now twelves (piece c.args.whole)

pub returns-clause-number : goal.returns-clause-number
returns-clause-number c =
    let twelves = sym c.as_chunks.ensures.back_len ∙ eqb-true _ 0 (sym c.if-not-is_empty.ensures) in
    c.in_ok-accept.ensures ∙ ap (λ (l : List (List ℕ)). plan_answer (map (λ b. piece (block_of b)) l) (piece c.args.whole)) c.as_chunks.ensures.front
    ∙ number-in c.args.words.now twelves (piece c.args.whole)
