-- Document 01, "What a claim has to settle": "Show that two outcomes that fit are equal". For `weigh` and `bed_weigh` one outcome alone fits the contract: the
-- answer number, the sum's two words and the shadow, refused calls too. Assumes nothing.
use mathlib.Core.Path.{◌∙◌, sym}
use Rattle.promises.proofs.OneOutcome.{OneOutcome}
use Rattle.weigh.proofs.Answering.{told-once}
use Rattle.weigh.proofs.weigh.Kinds as weigh-kinds
use Rattle.weigh.proofs.weigh.Reads as weigh
use Rattle.bed.proofs.weights.bed_weigh.Kinds as bed-weigh-kinds
use Rattle.bed.proofs.weights.bed_weigh.Reads as bed-weigh

pub weigh-one : OneOutcome 2 weigh-kinds.ps weigh-kinds.r weigh.Learnt
weigh-one κs a o o' l l' = let s = told-once o.result o'.result (l ∙ sym l') in λ i. record { result = s i; last = o.last }

pub bed-weigh-one : OneOutcome 5 bed-weigh-kinds.ps bed-weigh-kinds.r bed-weigh.Learnt
bed-weigh-one κs a o o' l l' = let s = l ∙ sym l' in λ i. record { result = (s i).answer; last = (tt, (tt, (tt, ((s i).low, ((s i).high, ((s i).shadow, tt)))))) }
