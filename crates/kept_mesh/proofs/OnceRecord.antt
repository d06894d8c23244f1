-- Of the public functions of mesh_record: two outcomes that fit a contract are equal, by the equations that the contracts are; a step, by the
-- numbers that it stands for. Assumes nothing.
use mathlib.Core.Path.{◌∙◌, sym}
use Rattle.promises.proofs.OneOutcome.{OneOutcome}
use Rattle.mesh_record.proofs.StepTryFromU32.try_from.Kinds as step-kinds
use Rattle.mesh_record.proofs.StepTryFromU32.try_from.Reads as step
use Rattle.mesh_record.proofs.refusal.U32FromRefusal.from.Kinds as number-kinds
use Rattle.mesh_record.proofs.refusal.U32FromRefusal.from.Reads as number
use Rattle.mesh_record.proofs.word_at.Kinds as word-at-kinds
use Rattle.mesh_record.proofs.word_at.Reads as word_at
use Rattle.mesh_record.proofs.finite_bits.Kinds as finite-bits-kinds
use Rattle.mesh_record.proofs.finite_bits.Reads as finite-bits
use Rattle.mesh_record.proofs.OneStep.{numbers-injective, answer-injective}
use Rattle.mesh_record.proofs.step_at.Kinds as step-at-kinds
use Rattle.mesh_record.proofs.step_at.Reads as step-at
use Rattle.mesh_record.proofs.write_record.Kinds as write-record-kinds
use Rattle.mesh_record.proofs.write_record.Reads as write-record
use Rattle.mesh_record.proofs.put_record.Kinds as put-record-kinds
use Rattle.mesh_record.proofs.put_record.Reads as put_record

-- the step of a record's kind, or its refusal
pub step-once : OneOutcome 0 step-kinds.ps step-kinds.r step.Learnt
step-once κs a o o' l l' = let s = l ∙ sym l' in λ i. record { result = s i; last = o.last }

-- a refusal's number
pub number-once : OneOutcome 0 number-kinds.ps number-kinds.r number.Learnt
number-once κs a o o' l l' = let s = l ∙ sym l' in λ i. record { result = s i; last = o.last }

pub word-at-once : OneOutcome 1 word-at-kinds.ps word-at-kinds.r word_at.Learnt
word-at-once κs a o o' l l' = let s = l ∙ sym l' in λ i. record { result = s i; last = o.last }

pub finite-bits-once : OneOutcome 0 finite-bits-kinds.ps finite-bits-kinds.r finite-bits.Learnt
finite-bits-once κs a o o' l l' = let s = l ∙ sym l' in λ i. record { result = s i; last = o.last }

pub step-at-once : OneOutcome 1 step-at-kinds.ps step-at-kinds.r step-at.Learnt
step-at-once κs a o o' l l' = let s = numbers-injective o.result o'.result (l ∙ sym l') in λ i. record { result = s i; last = o.last }

-- the lent file
pub write-record-once : OneOutcome 1 write-record-kinds.ps write-record-kinds.r write-record.Learnt
write-record-once κs a o o' l l' = let f = l ∙ sym l' in λ i. record { result = o.result; last = (f i, (tt, (tt, tt))) }

-- the answer and the lent file
pub put-record-once : OneOutcome 1 put-record-kinds.ps put-record-kinds.r put_record.Learnt
put-record-once κs a o o' l l' =
    let s = answer-injective o.result o'.result (l.0 ∙ sym l'.0) in
    let f = l.1.0 ∙ sym l'.1.0 in
    λ i. record { result = s i; last = (f i, (tt, (tt, tt))) }
