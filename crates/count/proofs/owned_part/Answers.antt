-- The three branches are the three cases of what is owned. Assumes nothing.
use native.Mathlib.Omega.{arith}
use Rattle.count.proofs.Kept.{part_none, part-all, part-but-one}
use Rattle.count.proofs.owned_part.Goals as goal

pub returns-then-own-eq0 : goal.returns-then-own-eq0
returns-then-own-eq0 c = let a = c.args in part_none a.all a.left a.n a.own c.if-own-eq0.true

pub returns-then-own-n : goal.returns-then-own-n
returns-then-own-n c =
    let a = c.args in
    let h = c.if-own-eq0.false in
    part-all a.all a.left a.n a.own (omega arith) c.if-own-n.true

pub returns : goal.returns
returns c =
    let a = c.args in
    let h = c.if-own-eq0.false in
    part-but-one a.all a.left a.n a.own (omega arith) c.if-own-n.false
