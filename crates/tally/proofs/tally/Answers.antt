-- The conditions in their order: each way out by the tests that led there. Assumes nothing.
use mathlib.Core.Path.{ap, sym, ◌∙◌}
use lib.ListN.{length}
use Rattle.grid.specs.Block.{point, box_of, flags_of, field_of}
use Rattle.grid.specs.Inside.{Inside}
use Rattle.grid.proofs.Faults.{Faultless, no-fault, faultless-inside, fault-some, fault-of-floats, err-is}
use Rattle.judge.proofs.Judging.{tally-counts}
use Rattle.tally.specs.Call.{nothing, told, told_of, counted}
use Rattle.tally.proofs.Answering.{tallied-fault, tallied-5, tallied-0}
use Rattle.tally.proofs.tally.Given.{Over}
use Rattle.tally.proofs.tally.Goals as goal
use Rattle.tally.proofs.tally.Goals.{In_ok-first_fault}

faultless : (g : Over) (c : In_ok-first_fault g) → let k = c.args.k in Faultless (point k.dims) (box_of k) (length (g.D.Distance.floats c.args.sdf.now))
faultless g c =
    let a = c.args in
    no-fault _ _ _ (sym (c.in_ok-first_fault.ensures ∙ fault-of-floats g.met.D.Distance.floats_are a.sdf.now (point a.k.dims) (box_of a.k)))

inside : (g : Over) (c : In_ok-first_fault g) → Inside (g.D.Distance.floats c.args.sdf.now) c.args.k
inside g c = faultless-inside (g.D.Distance.floats c.args.sdf.now) c.args.k (faultless g c)

pub returns-in_err-first_fault : goal.returns-in_err-first_fault
returns-in_err-first_fault g c =
    let a = c.args in
    let e = c.in_err-first_fault.ensures ∙ fault-of-floats g.met.D.Distance.floats_are a.sdf.now (point a.k.dims) (box_of a.k) in
    ap (told_of nothing) (err-is c.from_residual.result c.from_residual.ensures.1) ∙ ap (λ n. told n nothing) e
    ∙ tallied-fault (g.D.Distance.floats a.sdf.now) a.k (fault-some c.in_err-first_fault.field-0.0 e)

pub count_box-t-requires : goal.count_box-t-requires
count_box-t-requires g c = inside g c

pub returns-then-t : goal.returns-then-t
returns-then-t g c =
    tallied-5 (g.D.Distance.floats c.args.sdf.now) c.args.k (faultless g (goal.at.returns-then-t g c).In_ok-first_fault)
    (sym c.count_box-t.ensures.bad_value ∙ c.if-t.true)

pub whole_box-whole-requires : goal.whole_box-whole-requires
whole_box-whole-requires g c = inside g (goal.at.whole_box-whole-requires g c).In_ok-first_fault

pub returns : goal.returns
returns g c =
    let k = c.args.k in
    let l = g.D.Distance.floats c.args.sdf.now in
    let field = field_of l k in
    let a = c.whole_box-whole.ensures in
    let t = c.count_box-t.ensures.result_value ∙ tally-counts field (box_of k) (flags_of k) in
    (λ i. told 0 (counted (a i) (t i).vertices (t i).indices))
    ∙ tallied-0 l k (faultless g (goal.at.returns g c).In_ok-first_fault) (sym c.count_box-t.ensures.bad_value ∙ c.if-t.false)
