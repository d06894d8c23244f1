-- Document 01, "What a claim has to settle": "Show that two outcomes that fit are equal". For `volume` and `bed_volume` one outcome alone fits the
-- contract: the answer number and the volume, refused calls too. Assumes nothing.
use mathlib.Core.Path.{◌∙◌, sym}
use Rattle.promises.proofs.OneOutcome.{OneOutcome}
use Rattle.volume.proofs.Answering.{told-once}
use Rattle.volume.proofs.volume.Kinds as volume-kinds
use Rattle.volume.proofs.volume.Reads as volume
use Rattle.bed.proofs.weighing.bed_volume.Kinds as bed-volume-kinds
use Rattle.bed.proofs.weighing.bed_volume.Reads as bed-volume

pub volume-once : OneOutcome 2 volume-kinds.ps volume-kinds.r volume.Learnt
volume-once κs a o o' l l' = let s = told-once o.result o'.result (l ∙ sym l') in λ i. record { result = s i; last = o.last }

pub bed-volume-once : OneOutcome 3 bed-volume-kinds.ps bed-volume-kinds.r bed-volume.Learnt
bed-volume-once κs a o o' l l' = let s = l ∙ sym l' in λ i. record { result = (s i).answer; last = (tt, (tt, ((s i).volume, tt))) }
