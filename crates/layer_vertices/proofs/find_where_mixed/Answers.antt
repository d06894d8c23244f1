-- Where none of the points are negative, or all, the row's entries are cleared, and that is what passing its points leaves; else the row is looked
-- through. Assumes nothing.
use mathlib.Core.List.{List}
use mathlib.Core.Path.{sym, ◌∙◌}
use lib.Ieee.{Float}
use Rattle.grid.proofs.Layers.{layers-fit}
use Rattle.grid.proofs.LayerWalks.{Row}
use Rattle.row_signs.proofs.OneSign.{told}
use Rattle.layer_vertices.proofs.Finding.{one-sign-passes}
use Rattle.layer_vertices.proofs.find_where_mixed.Given.{Over}
use Rattle.layer_vertices.proofs.find_where_mixed.Goals as goal
use Rattle.layer_vertices.proofs.find_where_mixed.Goals.{Start}

abbrev lower_of : (g : Over) → Start g → List Float
lower_of g c = let a = c.args in g.D.Distance.floats a.lower.now

abbrev upper_of : (g : Over) → Start g → List Float
upper_of g c = let a = c.args in g.D.Distance.floats a.upper.now

row : (g : Over) (c : Start g) → Row (lower_of g c) (upper_of g c) c.args.k c.args.y c.args.z
row g c = record { layers = c.requires.in_layers; along-y = c.requires.y_le_y }

-- ---- the needs
pub one_sign-requires : goal.one_sign-requires
one_sign-requires g c = (layers-fit c.requires.in_layers).x.0

pub returns-then-one_sign : goal.returns-then-one_sign
returns-then-one_sign g c =
    one-sign-passes (row g (goal.at.returns-then-one_sign g c).Start) (told c.requires.negative_points_value (sym c.one_sign.ensures ∙ c.if-one_sign.true)).1 c.clear_row.ensures
