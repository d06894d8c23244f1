-- By the one test. Assumes nothing.
use Prim.Native.Nat.{◌+◌}
use borrow.Author.Tests.{lt-ltb, le-ltb}
use Rattle.layers.specs.Offer.{runs_on}
use Rattle.layers.proofs.bringing.first_number.Goals as goal

pub returns-then-next-count-gt4294967295 : goal.returns-then-next-count-gt4294967295
unfolding runs_on
returns-then-next-count-gt4294967295 c = let a = c.args in rw (lt-ltb 4294967295 (a.next + a.count) c.if-next-count-gt4294967295.true)

pub returns : goal.returns
unfolding runs_on
returns c = let a = c.args in rw (le-ltb 4294967295 (a.next + a.count) c.if-next-count-gt4294967295.false)
