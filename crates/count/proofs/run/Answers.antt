-- The part that is lent is that part of the distances. Assumes nothing.
use Prim.Native.Nat.{◌+◌}
use Rattle.grid.proofs.Places.{part-of-grid}
use Rattle.count.proofs.run.Goals as goal

pub returns : goal.returns
returns g c = part-of-grid g.met.D.Distance.floats_are c.args.list.now c.args.from (c.args.from + c.args.n)
