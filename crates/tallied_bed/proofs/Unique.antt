-- The conversions of the refusals of levels, tally and weigh have one result each, over their contracts. Assumes nothing.
use mathlib.Core.Path.{sym, ◌∙◌}
use Rattle.grid.proofs.OneResult.{OneResult}
use Rattle.levels.proofs.answers.U32FromRefusal.from.Kinds as levels-number-kinds
use Rattle.levels.proofs.answers.U32FromRefusal.from.Reads as levels-number
use Rattle.levels.proofs.answers.RefusalFromFault.from.Kinds as levels-fault-kinds
use Rattle.levels.proofs.answers.RefusalFromFault.from.Reads as levels-fault
use Rattle.tally.proofs.refusal.U32FromRefusal.from.Kinds as tally-number-kinds
use Rattle.tally.proofs.refusal.U32FromRefusal.from.Reads as tally-number
use Rattle.tally.proofs.refusal.RefusalFromFault.from.Kinds as tally-fault-kinds
use Rattle.tally.proofs.refusal.RefusalFromFault.from.Reads as tally-fault
use Rattle.weigh.proofs.U32FromRefusal.from.Kinds as weigh-number-kinds
use Rattle.weigh.proofs.U32FromRefusal.from.Reads as weigh-number

pub levels-number-unique : OneResult 0 levels-number-kinds.ps levels-number-kinds.r levels-number.Learnt
levels-number-unique κs a z z' e e' l l' = l ∙ sym l'

pub levels-fault-unique : OneResult 0 levels-fault-kinds.ps levels-fault-kinds.r levels-fault.Learnt
levels-fault-unique κs a z z' e e' l l' = l ∙ sym l'

pub tally-number-unique : OneResult 0 tally-number-kinds.ps tally-number-kinds.r tally-number.Learnt
tally-number-unique κs a z z' e e' l l' = l ∙ sym l'

pub tally-fault-unique : OneResult 0 tally-fault-kinds.ps tally-fault-kinds.r tally-fault.Learnt
tally-fault-unique κs a z z' e e' l l' = l ∙ sym l'

pub weigh-number-unique : OneResult 0 weigh-number-kinds.ps weigh-number-kinds.r weigh-number.Learnt
weigh-number-unique κs a z z' e e' l l' = l ∙ sym l'
