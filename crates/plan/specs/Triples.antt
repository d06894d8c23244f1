-- What the code says of itself: the triples by their names. Definitions only. Assumes nothing.
use Rattle.plan.specs.declared.triple.Triple.{Triple}
use Rattle.plan.specs.declared.region.Span.{Span}
use Rattle.plan.specs.declared.size.Sum.{Sum}

-- a box of points
abbrev pub Region : Type 0
Region = Triple Span

-- the x, the y and the z edges that a block owns
abbrev pub Owned : Type 0
Owned = Triple Region

-- how many of each
abbrev pub Sums : Type 0
Sums = Triple Sum
