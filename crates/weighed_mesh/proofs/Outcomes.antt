-- The calls of `volume`, and of `bed_volume`, with an outcome that fits the contract: each is a call told. The two contracts say one thing.
-- Assumes nothing.
use Rattle.closed_mesh.proofs.Outcome.{Outcome}
use Rattle.volume.specs.Answers.{weighed, told_by}
use Rattle.weighed_mesh.specs.Told.{Told}
use Rattle.volume.proofs.volume.Kinds as volume-kinds
use Rattle.volume.proofs.volume.Reads as volume
use Rattle.bed.proofs.weighing.bed_volume.Kinds as bed-volume-kinds
use Rattle.bed.proofs.weighing.bed_volume.Reads as bed-volume

abbrev pub Weigh : Type 0
Weigh = Outcome 2 volume-kinds.ps volume-kinds.r volume.Learnt

abbrev pub told : Weigh → Told
told w = record { positions = w.args.0.now; indices = w.args.1.0.now; says = told_by w.result; told = w.learnt }

-- the volume stands behind the last parameter
abbrev pub BedWeigh : Type 0
BedWeigh = Outcome 3 bed-volume-kinds.ps bed-volume-kinds.r bed-volume.Learnt

abbrev pub bed_told : BedWeigh → Told
bed_told w =
    let (_, (_, (volume, _))) = w.exit in
    record { positions = w.args.0.now; indices = w.args.1.0.now; says = weighed w.result volume.now; told = w.learnt }
