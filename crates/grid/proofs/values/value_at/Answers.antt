-- The place is in the list, and the float of the number there is the number's in the list of floats. Assumes nothing.
use native.Mathlib.Nat.{le_trans, le_of_eq}
use mathlib.Core.Path.{◌∙◌}
use lib.Ieee.{nan}
use Rattle.grid.proofs.Places.{as-long, float-at}
use Rattle.grid.proofs.values.value_at.Goals as goal

pub bounds-list-i : goal.bounds-list-i
bounds-list-i g c = let a = c.args in le_trans c.requires (le_of_eq (as-long g.met.D.Distance.floats_are a.list.now))

pub returns : goal.returns
returns g c = c.float.ensures ∙ float-at g.met.D.Distance.floats_are c.args.list.now c.index-list-i.result nan c.requires c.index-list-i.is
