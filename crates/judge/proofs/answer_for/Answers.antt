-- The conditions in their order: each way out by the tests that led there. Assumes nothing.
use mathlib.Core.Bool.{true, false}
use mathlib.Core.List.{List}
use mathlib.Core.Path.{◌≡◌, ap, sym, ◌∙◌}
use borrow.Author.Tests.{lt-ltb, le-ltb}
use lib.Dec.{ltb}
use lib.Ieee.{Float}
use lib.ListN.{length}
use Rattle.rules.specs.Call.{answers, bad_distance, room_answer}
use Rattle.count.specs.declared.Tally.{Tally}
use Rattle.count.specs.Tally.{counts}
use Rattle.grid.specs.Block.{point, box_of, flags_of, field_of, call_of}
use Rattle.grid.specs.Inside.{Inside}
use Rattle.grid.proofs.Faults.{Faultless, no-fault, faultless-inside, fault-some, fault-of-floats, err-is}
use Rattle.grid.proofs.Places.{as-long}
use Rattle.judge.specs.AsRules.{answer_of, room_of}
use Rattle.judge.proofs.Judging.{says-fault, says-4, says-5, says-room, tally-counts, few-vertices}
use Rattle.judge.proofs.answer_for.Given.{Over}
use Rattle.judge.proofs.answer_for.Goals as goal
use Rattle.judge.proofs.answer_for.Goals.{In_ok-first_fault, Else-room-sdf, Else-found}

abbrev grid-of : (g : Over) → In_ok-first_fault g → List Float
grid-of g c = g.D.Distance.floats c.args.sdf.now

faultless : (g : Over) (c : In_ok-first_fault g) → let k = c.args.k in Faultless (point k.dims) (box_of k) (length (grid-of g c))
faultless g c =
    let a = c.args in
    let none = c.in_ok-first_fault.ensures in
    no-fault _ _ _ (sym (none ∙ fault-of-floats g.met.D.Distance.floats_are a.sdf.now (point a.k.dims) (box_of a.k)))

inside : (g : Over) (c : In_ok-first_fault g) → Inside (grid-of g c) c.args.k
inside g c = faultless-inside (grid-of g c) c.args.k (faultless g c)

map-long : (g : Over) (c : Else-room-sdf g) → ltb c.args.room.map (length (g.D.Distance.floats c.args.sdf.now)) ≡ false
map-long g c =
    let a = c.args in
    ap (ltb a.room.map) (as-long g.met.D.Distance.floats_are a.sdf.now) ∙ le-ltb a.room.map (length a.sdf.now) c.if-room-sdf.false

distances-good : (g : Over) (c : Else-found g) → let k = c.args.k in bad_distance (field_of (g.D.Distance.floats c.args.sdf.now) k) (box_of k) ≡ false
distances-good g c = sym c.count_box-found.ensures.bad_value ∙ c.if-found.false

pub returns-in_err-first_fault : goal.returns-in_err-first_fault
returns-in_err-first_fault g c =
    let a = c.args in
    let are = g.met.D.Distance.floats_are in
    let l = g.D.Distance.floats a.sdf.now in
    let e = c.in_err-first_fault.ensures ∙ fault-of-floats are a.sdf.now (point a.k.dims) (box_of a.k) in
    ap answer_of (err-is c.from_residual.result c.from_residual.ensures.1) ∙ ap (λ n. answers n 0 0) e
    ∙ says-fault (call_of l a.k) (room_of a.room) (fault-some c.in_err-first_fault.field-0.0 e)

pub returns-then-room-sdf : goal.returns-then-room-sdf
returns-then-room-sdf g c =
    let a = c.args in
    let are = g.met.D.Distance.floats_are in
    let short : ltb a.room.map (length (g.D.Distance.floats a.sdf.now)) ≡ true =
    ap (ltb a.room.map) (as-long are a.sdf.now) ∙ lt-ltb a.room.map (length a.sdf.now) c.if-room-sdf.true in
    says-4 (call_of (g.D.Distance.floats a.sdf.now) a.k) (room_of a.room) (faultless g (goal.at.returns-then-room-sdf g c).In_ok-first_fault) short

pub count_box-found-requires : goal.count_box-found-requires
count_box-found-requires g c = inside g (goal.at.count_box-found-requires g c).In_ok-first_fault

pub returns-then-found : goal.returns-then-found
returns-then-found g c =
    let a = c.args in
    let bad = sym c.count_box-found.ensures.bad_value ∙ c.if-found.true in
    says-5 (call_of (g.D.Distance.floats a.sdf.now) a.k) (room_of a.room) (faultless g (goal.at.returns-then-found g c).In_ok-first_fault)
    (map-long g (goal.at.returns-then-found g c).Else-room-sdf) bad

pub room_answer-requires : goal.room_answer-requires
room_answer-requires g c =
    few-vertices (g.D.Distance.floats c.args.sdf.now) c.args.k (inside g (goal.at.room_answer-requires g c).In_ok-first_fault)
    (counts c.count_box-found.result) c.count_box-found.ensures.result_value

pub returns : goal.returns
returns g c =
    let l = g.D.Distance.floats c.args.sdf.now in
    let k = c.args.k in
    let room = room_of c.args.room in
    let e = c.count_box-found.ensures.result_value ∙ tally-counts (field_of l k) (box_of k) (flags_of k) in
    c.room_answer.ensures ∙ ap (λ (t : Tally). room_answer room t.vertices t.indices) e
    ∙ says-room (call_of l k) room (faultless g (goal.at.returns g c).In_ok-first_fault) (map-long g (goal.at.returns g c).Else-room-sdf)
    (distances-good g (goal.at.returns g c).Else-found)
