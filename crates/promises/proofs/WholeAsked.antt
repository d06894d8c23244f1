-- The answer alone over 16-bit and over 8-bit whole numbers (document 02, request 5): it says what the answer alone over floats says on the grid of the floats
-- of those numbers; and a question for C is answered as the call over the same numbers is, and tells enough to lend. By the laws of Asked. Assumes nothing.
use Prim.Native.Nat.{◌≤◌}
use mathlib.Core.List.{List}
use mathlib.Core.Path.{◌≡◌}
use lib.Ieee.{Float}
use lib.ListN.{length, drop}
use contract.Lifetimes.{Lfts}
use borrow.Fn.Kinds.{Dens}
use Rattle.rules.specs.Call.{Call, Room, answers, room}
use Rattle.grid.specs.Block.{call_of}
use Rattle.grid.specs.Values.{as_floats}
use Rattle.grid.proofs.Instances.{DistanceType, float-type, sixteen-type, eight-type}
use Rattle.judge.specs.AsRules.{answer_of, room_of}
use Rattle.judge.proofs.Judging.{Enough}
use Rattle.bed.specs.Boundary.{asked, room_asked, said}
use Rattle.bed.proofs.Places.{AskCall, AskCall16, AskCall8, answer-i16-by-place, answer-i8-by-place}
use Rattle.promises.specs.Told.{Question, Tells}
use Rattle.promises.proofs.OneOutcome.{Outcome, FitsContract}
use Rattle.promises.proofs.Asked.{same-said, question-answered, question-then-done, bed_question}
use Rattle.promises.proofs.WholeRuns.{BedSixteenRun, bed_sixteen_served, BedEightRun, bed_eight_served}
use Rattle.judge.proofs.answer_for.Kinds as answer-kinds
use Rattle.judge.proofs.answer_for.Reads as answer-for
use Rattle.bed.proofs.asking.bed_answer.Kinds as ask-kinds

-- ---- judge: answer_for, at any type of distances

module _ (t : DistanceType) where
  pub record Judged : Type 0 where
    pub lifetimes : Lfts 2
    pub args : Dens lifetimes (answer-kinds.ps t.type t.laws t.copy)
    pub outcome : Outcome 2 (answer-kinds.ps t.type t.laws t.copy) (answer-kinds.r t.type t.laws t.copy) lifetimes args
    pub fits : FitsContract 2 (answer-kinds.ps t.type t.laws t.copy) (answer-kinds.r t.type t.laws t.copy)
        (answer-for.Learnt t.type t.laws t.copy t.distance t.distance_dict t.clone t.clone_dict) lifetimes args outcome

  abbrev pub judged : Judged → Question
  judged u =
      let (sdf, (k, (lengths, _))) = u.args in
      record { call = call_of (t.distance.floats sdf.now) k; rooms = room_of lengths; says = answer_of u.outcome.result; answered = u.fits }

-- the same box and lengths, and the grid of the floats of those numbers: so of 16-bit and of 8-bit numbers as of floats
pub answer-for-as-floats : (t : DistanceType) (u : Judged t) (v : Judged float-type) → v.args.0.now ≡ t.distance.floats u.args.0.now
    → v.args.1.0 ≡ u.args.1.0 → v.args.1.1.0 ≡ u.args.1.1.0 → (judged float-type v).says ≡ (judged t u).says
answer-for-as-floats t u v g k r = same-said (judged float-type v) (judged t u) (λ i. call_of (g i) (k i)) (λ i. room_of (r i))

pub answer-for-i16-as-floats : (u : Judged sixteen-type) (v : Judged float-type) → v.args.0.now ≡ as_floats u.args.0.now
    → v.args.1.0 ≡ u.args.1.0 → v.args.1.1.0 ≡ u.args.1.1.0 → (judged float-type v).says ≡ (judged sixteen-type u).says
answer-for-i16-as-floats = answer-for-as-floats sixteen-type

pub answer-for-i8-as-floats : (u : Judged eight-type) (v : Judged float-type) → v.args.0.now ≡ as_floats u.args.0.now
    → v.args.1.0 ≡ u.args.1.0 → v.args.1.1.0 ≡ u.args.1.1.0 → (judged float-type v).says ≡ (judged eight-type u).says
answer-for-i8-as-floats = answer-for-as-floats eight-type

-- ---- bed_answer_i16, bed_answer_i8

-- the call and the lengths by the places behind the grid, which are those of bed_answer
abbrev pub call_asked : (κs : Lfts 4) → List Float → Dens κs (drop 1 ask-kinds.ps) → Call
call_asked κs grid places = let (words, _) = places in asked grid words.now

abbrev pub rooms_asked : (κs : Lfts 4) → Dens κs (drop 1 ask-kinds.ps) → Room
rooms_asked κs places =
    let (_, (positions, (normals, (cells, (strides, (crossings, (map, (indices, _)))))))) = places in
    room_asked positions normals cells strides crossings map indices

abbrev pub question16 : AskCall16 → Question
question16 u =
    let (_, (_, (_, (_, (_, (_, (_, (_, (_, (v, (i, _))))))))))) = u.last in
    record {
      call = call_asked u.lifetimes (as_floats u.args.0.now) u.args.1;
      rooms = rooms_asked u.lifetimes u.args.1;
      says = said u.result v i;
      answered = answer-i16-by-place u;
    }

abbrev pub question8 : AskCall8 → Question
question8 u =
    let (_, (_, (_, (_, (_, (_, (_, (_, (_, (v, (i, _))))))))))) = u.last in
    record {
      call = call_asked u.lifetimes (as_floats u.args.0.now) u.args.1;
      rooms = rooms_asked u.lifetimes u.args.1;
      says = said u.result v i;
      answered = answer-i8-by-place u;
    }

-- as bed_answer on the grid of the floats of those numbers, all else the same
pub bed-answer-i16-as-floats : (u : AskCall16) (v : AskCall) → (bed_question v).call ≡ (question16 u).call → (bed_question v).rooms ≡ (question16 u).rooms
    → (bed_question v).says ≡ (question16 u).says
bed-answer-i16-as-floats u v = same-said (bed_question v) (question16 u)

pub bed-answer-i8-as-floats : (u : AskCall8) (v : AskCall) → (bed_question v).call ≡ (question8 u).call → (bed_question v).rooms ≡ (question8 u).rooms
    → (bed_question v).says ≡ (question8 u).says
bed-answer-i8-as-floats u v = same-said (bed_question v) (question8 u)

-- and as the call over the same numbers: its answer on lists of those lengths, and enough to lend
module _ (q : AskCall16) (u : BedSixteenRun) (same : (question16 q).call ≡ (bed_sixteen_served u).call) where
  pub asked-is-answered-16 : (question16 q).rooms ≡ room (bed_sixteen_served u).before → (question16 q).says ≡ (bed_sixteen_served u).says
  asked-is-answered-16 = question-answered (question16 q) (bed_sixteen_served u) same

  pub asked-then-done-16 : (question16 q).call.size ≤ (question16 q).rooms.map → (bed_sixteen_served u).call.size ≤ length (bed_sixteen_served u).before.map
      → Enough (room (bed_sixteen_served u).before) (question16 q).says.vertices (question16 q).says.indices → Tells q.result
      → (bed_sixteen_served u).says ≡ answers 0 (question16 q).says.vertices (question16 q).says.indices
  asked-then-done-16 = question-then-done (question16 q) (bed_sixteen_served u) same

module _ (q : AskCall8) (u : BedEightRun) (same : (question8 q).call ≡ (bed_eight_served u).call) where
  pub asked-is-answered-8 : (question8 q).rooms ≡ room (bed_eight_served u).before → (question8 q).says ≡ (bed_eight_served u).says
  asked-is-answered-8 = question-answered (question8 q) (bed_eight_served u) same

  pub asked-then-done-8 : (question8 q).call.size ≤ (question8 q).rooms.map → (bed_eight_served u).call.size ≤ length (bed_eight_served u).before.map
      → Enough (room (bed_eight_served u).before) (question8 q).says.vertices (question8 q).says.indices → Tells q.result
      → (bed_eight_served u).says ≡ answers 0 (question8 q).says.vertices (question8 q).says.indices
  asked-then-done-8 = question-then-done (question8 q) (bed_eight_served u) same
