-- Document 01, "What a claim has to settle", as in Once, of the methods of grid's and marks' traits, for each type that has them, and of the conversions of
-- grid and judge: one outcome alone fits the contract. Assumes nothing.
use mathlib.Core.Path.{sym, ◌∙◌}
use Rattle.promises.proofs.OneOutcome.{OneOutcome}
use Rattle.grid.proofs.checks.U32FromFault.from.Kinds as fault-number-kinds
use Rattle.grid.proofs.checks.U32FromFault.from.Reads as fault-number
use Rattle.judge.proofs.RefusalFromFault.from.Kinds as fault-refusal-kinds
use Rattle.judge.proofs.RefusalFromFault.from.Reads as fault-refusal
use Rattle.judge.proofs.U32FromRefusal.from.Kinds as refusal-number-kinds
use Rattle.judge.proofs.U32FromRefusal.from.Reads as refusal-number
use Rattle.grid.proofs.values.F32Distance.float.Kinds as float-float-kinds
use Rattle.grid.proofs.values.F32Distance.float.Reads as float-float
use Rattle.grid.proofs.values.F32Distance.is_beyond.Kinds as float-is-beyond-kinds
use Rattle.grid.proofs.values.F32Distance.is_beyond.Reads as float-is-beyond
use Rattle.grid.proofs.values.F32Distance.told.Kinds as float-told-kinds
use Rattle.grid.proofs.values.F32Distance.told.Reads as float-told
use Rattle.grid.proofs.values.I16Distance.float.Kinds as sixteen-float-kinds
use Rattle.grid.proofs.values.I16Distance.float.Reads as sixteen-float
use Rattle.grid.proofs.values.I16Distance.is_beyond.Kinds as sixteen-is-beyond-kinds
use Rattle.grid.proofs.values.I16Distance.is_beyond.Reads as sixteen-is-beyond
use Rattle.grid.proofs.values.I16Distance.told.Kinds as sixteen-told-kinds
use Rattle.grid.proofs.values.I16Distance.told.Reads as sixteen-told
use Rattle.grid.proofs.values.I8Distance.float.Kinds as eight-float-kinds
use Rattle.grid.proofs.values.I8Distance.float.Reads as eight-float
use Rattle.grid.proofs.values.I8Distance.is_beyond.Kinds as eight-is-beyond-kinds
use Rattle.grid.proofs.values.I8Distance.is_beyond.Reads as eight-is-beyond
use Rattle.grid.proofs.values.I8Distance.told.Kinds as eight-told-kinds
use Rattle.grid.proofs.values.I8Distance.told.Reads as eight-told
use Rattle.marks.proofs.U32Mark.next.Kinds as word-next-kinds
use Rattle.marks.proofs.U32Mark.next.Reads as word-next
use Rattle.marks.proofs.U32Mark.bits.Kinds as word-bits-kinds
use Rattle.marks.proofs.U32Mark.bits.Reads as word-bits
use Rattle.marks.proofs.F32Mark.next.Kinds as float-next-kinds
use Rattle.marks.proofs.F32Mark.next.Reads as float-next
use Rattle.marks.proofs.F32Mark.bits.Kinds as float-bits-kinds
use Rattle.marks.proofs.F32Mark.bits.Reads as float-bits
use Rattle.marks.proofs.U8Mark.next.Kinds as byte-next-kinds
use Rattle.marks.proofs.U8Mark.next.Reads as byte-next
use Rattle.marks.proofs.U8Mark.bits.Kinds as byte-bits-kinds
use Rattle.marks.proofs.U8Mark.bits.Reads as byte-bits

-- ---- the numbers of refusals

pub fault-number-once : OneOutcome 0 fault-number-kinds.ps fault-number-kinds.r fault-number.Learnt
fault-number-once κs a o o' l l' = let s = l ∙ sym l' in λ i. record { result = s i; last = o.last }

pub fault-refusal-once : OneOutcome 0 fault-refusal-kinds.ps fault-refusal-kinds.r fault-refusal.Learnt
fault-refusal-once κs a o o' l l' = let s = l ∙ sym l' in λ i. record { result = s i; last = o.last }

pub refusal-number-once : OneOutcome 0 refusal-number-kinds.ps refusal-number-kinds.r refusal-number.Learnt
refusal-number-once κs a o o' l l' = let s = l ∙ sym l' in λ i. record { result = s i; last = o.last }

-- ---- distances: floats, and whole numbers of 16 and of 8 bits

pub float-float-once : OneOutcome 0 float-float-kinds.ps float-float-kinds.r float-float.Learnt
float-float-once κs a o o' l l' = let s = l ∙ sym l' in λ i. record { result = s i; last = o.last }

pub float-is-beyond-once : OneOutcome 0 float-is-beyond-kinds.ps float-is-beyond-kinds.r float-is-beyond.Learnt
float-is-beyond-once κs a o o' l l' = let s = l ∙ sym l' in λ i. record { result = s i; last = o.last }

pub float-told-once : OneOutcome 1 float-told-kinds.ps float-told-kinds.r float-told.Learnt
float-told-once κs a o o' l l' = λ i. record { result = tt; last = o.last }

pub sixteen-float-once : OneOutcome 0 sixteen-float-kinds.ps sixteen-float-kinds.r sixteen-float.Learnt
sixteen-float-once κs a o o' l l' = let s = l ∙ sym l' in λ i. record { result = s i; last = o.last }

pub sixteen-is-beyond-once : OneOutcome 0 sixteen-is-beyond-kinds.ps sixteen-is-beyond-kinds.r sixteen-is-beyond.Learnt
sixteen-is-beyond-once κs a o o' l l' = let s = l ∙ sym l' in λ i. record { result = s i; last = o.last }

pub sixteen-told-once : OneOutcome 1 sixteen-told-kinds.ps sixteen-told-kinds.r sixteen-told.Learnt
sixteen-told-once κs a o o' l l' = λ i. record { result = tt; last = o.last }

pub eight-float-once : OneOutcome 0 eight-float-kinds.ps eight-float-kinds.r eight-float.Learnt
eight-float-once κs a o o' l l' = let s = l ∙ sym l' in λ i. record { result = s i; last = o.last }

pub eight-is-beyond-once : OneOutcome 0 eight-is-beyond-kinds.ps eight-is-beyond-kinds.r eight-is-beyond.Learnt
eight-is-beyond-once κs a o o' l l' = let s = l ∙ sym l' in λ i. record { result = s i; last = o.last }

pub eight-told-once : OneOutcome 1 eight-told-kinds.ps eight-told-kinds.r eight-told.Learnt
eight-told-once κs a o o' l l' = λ i. record { result = tt; last = o.last }

-- ---- marks: words, floats and bytes

pub word-next-once : OneOutcome 0 word-next-kinds.ps word-next-kinds.r word-next.Learnt
word-next-once κs a o o' l l' = let s = l ∙ sym l' in λ i. record { result = s i; last = o.last }

pub word-bits-once : OneOutcome 0 word-bits-kinds.ps word-bits-kinds.r word-bits.Learnt
word-bits-once κs a o o' l l' = let s = l ∙ sym l' in λ i. record { result = s i; last = o.last }

pub float-next-once : OneOutcome 0 float-next-kinds.ps float-next-kinds.r float-next.Learnt
float-next-once κs a o o' l l' = let s = l ∙ sym l' in λ i. record { result = s i; last = o.last }

pub float-bits-once : OneOutcome 0 float-bits-kinds.ps float-bits-kinds.r float-bits.Learnt
float-bits-once κs a o o' l l' = let s = l ∙ sym l' in λ i. record { result = s i; last = o.last }

pub byte-next-once : OneOutcome 0 byte-next-kinds.ps byte-next-kinds.r byte-next.Learnt
byte-next-once κs a o o' l l' = let s = l ∙ sym l' in λ i. record { result = s i; last = o.last }

pub byte-bits-once : OneOutcome 0 byte-bits-kinds.ps byte-bits-kinds.r byte-bits.Learnt
byte-bits-once κs a o o' l l' = let s = l ∙ sym l' in λ i. record { result = s i; last = o.last }
