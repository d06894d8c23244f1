-- Two outcomes that fit a public function's contract are equal, for each, over the contract itself: of plan_witness the result and the six words
-- afterwards. Assumes nothing.
use mathlib.Core.Path.{◌≡◌, sym, ◌∙◌}
use contract.Lifetimes.{Lfts}
use denote.Triple.Clauses.{Lasts, at_exit}
use borrow.Fn.Kinds.{Dens, res_t, ended_of}
use Rattle.grid.proofs.OneResult.{OneResult}
use Rattle.witness.specs.Witness.{piece_in}
use Rattle.witness.proofs.Once.{same_result}
use Rattle.witness.proofs.axes.plan_witness.Kinds as witness-kinds
use Rattle.witness.proofs.axes.plan_witness.Reads as witness
use Rattle.witness.proofs.words.NoEdgeFromRefusal.from.Kinds as reason-kinds
use Rattle.witness.proofs.words.NoEdgeFromRefusal.from.Reads as reason
use Rattle.witness.proofs.words.U32FromNoEdge.from.Kinds as number-kinds
use Rattle.witness.proofs.words.U32FromNoEdge.from.Reads as number

pub plan-witness-unique : (κs : Lfts 3) (a : Dens κs witness-kinds.ps) (z z' : (res_t witness-kinds.r κs).Denot)
    (m m' : Lasts (ended_of 3 witness-kinds.ps witness-kinds.r) κs a)
    → witness.Learnt κs a z (at_exit (ended_of 3 witness-kinds.ps witness-kinds.r) κs a m)
    → witness.Learnt κs a z' (at_exit (ended_of 3 witness-kinds.ps witness-kinds.r) κs a m')
    → (z ≡ z') × (m ≡ m')
plan-witness-unique κs a z z' m m' l l' =
    let s = same_result a.0.now (piece_in a.1.0.now 0) z z' l l' in
    (s.0, λ i. (tt, (tt, (s.1 i, tt))))

pub reason-unique : OneResult 0 reason-kinds.ps reason-kinds.r reason.Learnt
reason-unique κs a z z' e e' l l' = l ∙ sym l'

pub number-unique : OneResult 0 number-kinds.ps number-kinds.r number.Learnt
number-unique κs a z z' e e' l l' = l ∙ sym l'
