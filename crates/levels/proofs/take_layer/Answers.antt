-- The lowest layer, or a layer on the one below it. Assumes nothing.
use Rattle.std.proofs.Common.{List}
use lib.Ieee.{Float}
use Rattle.levels.proofs.Answering.{lowest-taken, risen-taken}
use Rattle.levels.proofs.take_layer.Given.{Over}
use Rattle.levels.proofs.take_layer.Goals as goal
use Rattle.levels.proofs.take_layer.Goals.{Start}

abbrev lower_of : (g : Over) → Start g → List Float
lower_of g c = let a = c.args in g.D.Distance.floats a.below.now

abbrev upper_of : (g : Over) → Start g → List Float
upper_of g c = let a = c.args in g.D.Distance.floats a.layer.now

pub returns-then-z-k : goal.returns-then-z-k
returns-then-z-k g c =
    lowest-taken c.args.k (lower_of g (goal.at.returns-then-z-k g c).Start) (upper_of g (goal.at.returns-then-z-k g c).Start) c.args.z c.args.out.now c.if-z-k.true c.first_layer.ensures

pub returns-else-z-k : goal.returns-else-z-k
returns-else-z-k g c =
    risen-taken c.args.k (lower_of g (goal.at.returns-else-z-k g c).Start) (upper_of g (goal.at.returns-else-z-k g c).Start) c.args.z c.args.out.now c.if-z-k.false c.rise_layer.ensures
