-- The places are in the grid, whose length fits. Assumes nothing.
use native.Mathlib.Omega.{arith}
use Rattle.grid.proofs.Places.{grid-counted}
use Rattle.grid.proofs.corners.side_between.Goals as goal

pub overflow_add-at : goal.overflow_add-at
overflow_add-at g c = let h = grid-counted g.met.D.Distance.floats_are c.args.lower.now (omega arith) in omega arith

pub overflow_add-at-2 : goal.overflow_add-at-2
overflow_add-at-2 g c = let h = grid-counted g.met.D.Distance.floats_are c.args.upper.now (omega arith) in omega arith
