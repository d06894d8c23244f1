-- The calls of `weigh`, and of `bed_weigh`, with an outcome that fits the contract: each is a call told. The two contracts say one thing.
-- Assumes nothing.
use Rattle.closed_mesh.proofs.Outcome.{Outcome}
use Rattle.weigh.specs.Answers as answers
use Rattle.weighed_bed.specs.Told.{Told}
use Rattle.weigh.proofs.weigh.Kinds as weigh-kinds
use Rattle.weigh.proofs.weigh.Reads as weigh
use Rattle.bed.proofs.weights.bed_weigh.Kinds as bed-weigh-kinds
use Rattle.bed.proofs.weights.bed_weigh.Reads as bed-weigh

abbrev pub Weigh : Type 0
Weigh = Outcome 2 weigh-kinds.ps weigh-kinds.r weigh.Learnt

abbrev pub told : Weigh → Told
told w = record { positions = w.args.0.now; first = w.args.1.0; indices = w.args.1.1.0.now; says = answers.told_by w.result; told = w.learnt }

-- the sum's two words and the shadow stand behind the last three parameters
abbrev pub BedWeigh : Type 0
BedWeigh = Outcome 5 bed-weigh-kinds.ps bed-weigh-kinds.r bed-weigh.Learnt

abbrev pub bed_told : BedWeigh → Told
bed_told w =
    let (_, (_, (_, (low, (high, (shadow, _)))))) = w.exit in
    record {
      positions = w.args.0.now;
      first = w.args.1.0;
      indices = w.args.1.1.0.now;
      says = answers.told w.result low.now high.now shadow.now;
      told = w.learnt;
    }
