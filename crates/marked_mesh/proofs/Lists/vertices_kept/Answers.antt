-- Each list by its own test, and all five. Assumes nothing.
use Rattle.std.proofs.Common.{◌≡◌, Bool, true, false, ◌&&◌, refl, ◌∙◌, ap₂}
use lib.Ieee.{of_int, of_bits}
use Rattle.marked_mesh.specs.Kept.{kept_vertices}
use Rattle.marked_mesh.proofs.Lists.vertices_kept.Goals as goal

regrouped : (a b c : Bool) → ((a && b) && c) ≡ (a && (b && c))
regrouped true b c = refl
regrouped false b c = refl

all_five : (a b c d e : Bool) → ((((a && b) && c) && d) && e) ≡ (a && (b && (c && (d && e))))
all_five a b c d e = regrouped ((a && b) && c) d e ∙ regrouped (a && b) c (d && e) ∙ regrouped a b (c && (d && e))

pub returns : goal.returns
unfolding kept_vertices of_int of_bits
returns c =
    all_five c.list_kept-positions.result c.list_kept-normals.result c.list_kept-cells.result c.list_kept-strides.result c.list_kept-crossings.result
    ∙ ap₂ ◌&&◌ c.list_kept-positions.ensures
    (ap₂ ◌&&◌ c.list_kept-normals.ensures
    (ap₂ ◌&&◌ c.list_kept-cells.ensures
    (ap₂ ◌&&◌ c.list_kept-strides.ensures c.list_kept-crossings.ensures)))
