-- The invariant: the lists are what the first j cells leave, by the marks that stood there where it began. The last turn takes what is left. Assumes nothing.
use Prim.Native.Nat.{◌+◌, ◌≤◌}
use native.Mathlib.Omega.{arith}
use mathlib.Core.Path.{◌≡◌, ap}
use Rattle.grid.specs.Block.{point}
use Rattle.layer_vertices.specs.Cells.{run_of}
use Rattle.layer_vertices.proofs.Numbering.{numbered-none, numbered_more, numbered-asks}
use Rattle.layer_vertices.proofs.Passing.{passes-as}
use Rattle.layer_vertices.proofs.number_row.Goals as goal

pub loop-j-init : goal.loop-j-init
loop-j-init c = (omega arith, numbered-none (point c.args.c))

pub number_eight-state-requires-clause-numbering : goal.number_eight-state-requires-clause-numbering
number_eight-state-requires-clause-numbering c =
    let w = c.loop-j in
    let t = c.loop-j-test.true in
    let e = c.min-m.ensures in
    let h : w.j + c.min-m.result ≤ c.args.n = omega arith in
    numbered-asks (point c.args.c) w.j w.invariant.1 c.min-m.result c.requires h

pub loop-j-preserved : goal.loop-j-preserved
loop-j-preserved c =
    let w = c.loop-j in
    let e : w.j + c.min-m.result ≡ w.j + 8 = omega arith in
    (omega arith, passes-as (numbered_more (point c.args.c) w.j w.invariant.1 c.min-m.result c.number_eight-state.ensures) (ap (run_of (point c.args.c)) e))

pub returns : goal.returns
returns c =
    let w = c.loop-j in
    let t = c.loop-j-test.false in
    let e : w.j ≡ c.args.n = omega (arith, w.invariant.0) in
    passes-as w.invariant.1 (ap (run_of (point c.args.c)) e)

pub returns-2 : goal.returns-2
returns-2 c =
    let w = c.loop-j in
    let e : w.j + c.min-m.result ≡ c.args.n = omega arith in
    passes-as (numbered_more (point c.args.c) w.j w.invariant.1 c.min-m.result c.number_eight-state.ensures) (ap (run_of (point c.args.c)) e)
