-- A fault of grid or box is the answer, and the scan is where there is none. Assumes nothing.
use mathlib.Core.Bool.{false}
use mathlib.Core.List.{List}
use mathlib.Core.Path.{sym, ap, ◌∙◌}
use lib.Ieee.{Float}
use lib.ListN.{length}
use Rattle.grid.specs.declared.Block.{Block}
use Rattle.grid.specs.Block.{point, box_of, field_of}
use Rattle.grid.proofs.Faults.{Faultless, no-fault, faultless-inside, fault-some, fault-of-floats, err-is}
use Rattle.skin.specs.Answer.{answer_of}
use Rattle.skin.specs.Scan.{answers}
use Rattle.skin.proofs.Judged.{block_of, judged-0, judged-fault}
use Rattle.skin.proofs.is_enclosed.Given.{Over}
use Rattle.skin.proofs.is_enclosed.Goals as goal
use Rattle.skin.proofs.is_enclosed.Goals.{In_ok-first_fault}

abbrev block-in : (g : Over) → In_ok-first_fault g → Block
block-in g c = let a = c.args in block_of a.dims a.low a.high

abbrev grid-of : (g : Over) → In_ok-first_fault g → List Float
grid-of g c = g.D.Distance.floats c.args.sdf.now

faultless : (g : Over) (c : In_ok-first_fault g) → Faultless (point c.args.dims) (box_of (block-in g c)) (length (grid-of g c))
faultless g c =
    let k = block-in g c in
    let none = c.in_ok-first_fault.ensures ∙ fault-of-floats g.met.D.Distance.floats_are c.args.sdf.now (point k.dims) (box_of k) in
    no-fault (point k.dims) (box_of k) (length (grid-of g c)) (sym none)

pub returns-in_err-first_fault : goal.returns-in_err-first_fault
returns-in_err-first_fault g c =
    let a = c.args in
    let k = block_of a.dims a.low a.high in
    let l = g.D.Distance.floats a.sdf.now in
    let e = c.in_err-first_fault.ensures ∙ fault-of-floats g.met.D.Distance.floats_are a.sdf.now (point k.dims) (box_of k) in
    ap answer_of (err-is c.from_residual.result c.from_residual.ensures.1) ∙ ap (λ n. answers n false) e
    ∙ judged-fault (field_of l k) (box_of k) (length l) (fault-some c.in_err-first_fault.field-0.0 e)

pub stray_box-requires : goal.stray_box-requires
stray_box-requires g c =
    let s = (goal.at.stray_box-requires g c).In_ok-first_fault in faultless-inside (grid-of g s) (block-in g s) (faultless g s)

pub returns : goal.returns
returns g c =
    let s = (goal.at.returns g c).In_ok-first_fault in
    let k = block-in g s in
    judged-0 (field_of (grid-of g s) k) (box_of k) (length (grid-of g s)) (faultless g s) c.stray_box.ensures
