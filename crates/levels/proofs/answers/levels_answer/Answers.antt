-- `levels::answers::levels_answer` meets its contract: at each return the tests that led there say which condition answers. Assumes nothing.
use Rattle.std.proofs.Common.{◌≡◌, false, List, length, ap, sym, ◌∙◌, le_trans, le_of_eq, le_refl}
use lib.Ieee.{Float}
use Rattle.rules.specs.Call.{bad_distance}
use Rattle.grid.specs.Block.{point, box_of, field_of}
use Rattle.grid.proofs.Faults.{Faultless, no-fault, faultless-inside, fault-some, fault-of-floats, err-is}
use Rattle.levels.specs.Answers.{answer_of}
use Rattle.levels.proofs.Layers.{roomy-in}
use Rattle.levels.proofs.Answering.{levels-fault, levels-5, levels-78, levels-0}
use Rattle.levels.proofs.answers.levels_answer.Given.{Over}
use Rattle.levels.proofs.answers.levels_answer.Goals as goal
use Rattle.levels.proofs.answers.levels_answer.Goals.{Else-bad_distance, In_ok-first_fault, Start}

abbrev grid-of : (g : Over) → Start g → List Float
grid-of g c = let a = c.args in g.D.Distance.floats a.sdf.now

faultless : (g : Over) (c : In_ok-first_fault g) → let k = c.args.k in Faultless (point k.dims) (box_of k) (length (g.D.Distance.floats c.args.sdf.now))
faultless g c =
    let a = c.args in
    no-fault _ _ _ (sym (c.in_ok-first_fault.ensures ∙ fault-of-floats g.met.D.Distance.floats_are a.sdf.now (point a.k.dims) (box_of a.k)))

abbrev grid-of-3 : (g : Over) → Else-bad_distance g → List Float
grid-of-3 g c = let a = c.args in g.D.Distance.floats a.sdf.now

fine : (g : Over) (c : Else-bad_distance g) → bad_distance (field_of (grid-of-3 g c) c.args.k) (box_of c.args.k) ≡ false
fine g c = sym c.bad_distance.ensures ∙ c.if-bad_distance.false

pub returns-in_err-first_fault : goal.returns-in_err-first_fault
returns-in_err-first_fault g c =
    let a = c.args in
    let e = c.in_err-first_fault.ensures ∙ fault-of-floats g.met.D.Distance.floats_are a.sdf.now (point a.k.dims) (box_of a.k) in
    ap answer_of (err-is c.from_residual.result c.from_residual.ensures.1) ∙ e
    ∙ levels-fault (g.D.Distance.floats a.sdf.now) (point a.k.dims) (box_of a.k) a.room (fault-some c.in_err-first_fault.field-0.0 e)

pub bad_distance-requires : goal.bad_distance-requires
bad_distance-requires g c =
    faultless-inside (grid-of g (goal.at.bad_distance-requires g c).Start) c.args.k (faultless g c)

pub returns-then-bad_distance : goal.returns-then-bad_distance
returns-then-bad_distance g c =
    levels-5 (grid-of g (goal.at.returns-then-bad_distance g c).Start) (point c.args.k.dims) (box_of c.args.k) c.args.room (faultless g (goal.at.returns-then-bad_distance g c).In_ok-first_fault) (sym c.bad_distance.ensures ∙ c.if-bad_distance.true)

pub column_count-requires : goal.column_count-requires
column_count-requires g c =
    roomy-in (grid-of g (goal.at.column_count-requires g c).Start) c.args.k (faultless-inside (grid-of g (goal.at.column_count-requires g c).Start) c.args.k (faultless g (goal.at.column_count-requires g c).In_ok-first_fault)) (le_refl _)

pub returns-then-room-column_count : goal.returns-then-room-column_count
returns-then-room-column_count g c =
    levels-78 (grid-of g (goal.at.returns-then-room-column_count g c).Start) (point c.args.k.dims) (box_of c.args.k) c.args.room (faultless g (goal.at.returns-then-room-column_count g c).In_ok-first_fault) (fine g (goal.at.returns-then-room-column_count g c).Else-bad_distance)
    (le_trans c.if-room-column_count.true (le_of_eq c.column_count.ensures))

pub returns : goal.returns
returns g c =
    levels-0 (grid-of g (goal.at.returns g c).Start) (point c.args.k.dims) (box_of c.args.k) c.args.room (faultless g (goal.at.returns g c).In_ok-first_fault) (fine g (goal.at.returns g c).Else-bad_distance)
    (le_trans (le_of_eq (sym c.column_count.ensures)) c.if-room-column_count.false)
