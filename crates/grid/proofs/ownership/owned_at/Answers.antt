-- Ownership less the test that the point is a cell, which the caller owes. Assumes nothing.
use mathlib.Core.Bool.{◌&&◌}
use mathlib.Core.Path.{◌≡◌, sym, ◌∙◌}
use Rattle.rules.specs.Grid.{Axis, axis_x, axis_y, axis_z}
use Rattle.rules.specs.Faces.{edge, owned, axis_b, axis_c, above_low, inside_max}
use Rattle.grid.specs.Block.{point, box_of, flags_of}
use Rattle.grid.proofs.Owned.{owned-cell}
use Rattle.grid.proofs.ownership.owned_at.Goals as goal
use Rattle.grid.proofs.ownership.owned_at.Goals.{Start}

-- ownership, less the test
on : (c : Start) → (a : Axis) → let b = box_of c.args.k in let m = flags_of c.args.k in let p = point c.args.p in
    (above_low (axis_b a) b p && (above_low (axis_c a) b p && inside_max a b m p)) ≡ owned b m (edge a p)
on c a = sym (owned-cell (box_of c.args.k) (flags_of c.args.k) a (point c.args.p) c.requires)

pub returns-clause-y_value : goal.returns-clause-y_value
returns-clause-y_value c = c.owns-2.ensures ∙ on (goal.at.returns-clause-y_value c).Start axis_y

pub returns-clause-z_value : goal.returns-clause-z_value
returns-clause-z_value c = c.owns-3.ensures ∙ on (goal.at.returns-clause-z_value c).Start axis_z

pub returns-clause-x_value : goal.returns-clause-x_value
returns-clause-x_value c = c.owns.ensures ∙ on (goal.at.returns-clause-x_value c).Start axis_x
