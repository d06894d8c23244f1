-- The conversions of closing's and of skin's refusals have one result each, over their contracts. Assumes nothing.
use mathlib.Core.Path.{sym, ◌∙◌}
use Rattle.cube.proofs.OneResult.{OneResult}
use Rattle.closing.proofs.refusal.U32FromRefusal.from.Kinds as closing-number-kinds
use Rattle.closing.proofs.refusal.U32FromRefusal.from.Reads as closing-number
use Rattle.skin.proofs.U32FromRefusal.from.Kinds as skin-number-kinds
use Rattle.skin.proofs.U32FromRefusal.from.Reads as skin-number
use Rattle.skin.proofs.RefusalFromFault.from.Kinds as skin-fault-kinds
use Rattle.skin.proofs.RefusalFromFault.from.Reads as skin-fault

pub closing-number-unique : OneResult 0 closing-number-kinds.ps closing-number-kinds.r closing-number.Learnt
closing-number-unique κs a z z' e e' l l' = l ∙ sym l'

pub skin-number-unique : OneResult 0 skin-number-kinds.ps skin-number-kinds.r skin-number.Learnt
skin-number-unique κs a z z' e e' l l' = l ∙ sym l'

pub skin-fault-unique : OneResult 0 skin-fault-kinds.ps skin-fault-kinds.r skin-fault.Learnt
skin-fault-unique κs a z z' e e' l l' = l ∙ sym l'
