-- The calls: the answers in document 01's order, with 77 for a z outside the box and 78 for lent room shorter than the columns, and the lent list
-- afterwards. Definitions only. Assumes nothing.
use Rattle.std.specs.Prelude.{ℕ, ◌*◌, Bool, false, cond, not, ◌||◌, List, length, ◌==◌, nat_lt, slice_index_or, Float}
use Rattle.std.specs.Float.{nan}
use Rattle.rules.specs.Grid.{GridPoint, Box, Field}
use Rattle.rules.specs.Call.{bad_dimensions, bad_box, bad_length, bad_layer, bad_distance}
use Rattle.grid.specs.declared.Extent.{Extent}
use Rattle.grid.specs.Block.{point}
use Rattle.levels.specs.Columns.{columns, level_of, layer_level, changed}

-- a lent grid, and the box between two corners
abbrev pub grid_of : List Float → GridPoint → Field
grid_of sdf d = record { dims = d; dist = λ i. slice_index_or sdf i nan }

abbrev pub box_from : Extent → Extent → Box
box_from low high = record { low = point low; high = point high }

-- 78: "lent room shorter than the columns"
abbrev pub bad_room : Box → ℕ → Bool
bad_room b room = nat_lt room (columns b)

-- ---- the whole grid: "Conditions are tried in this order; the first that holds answers", 1, 2, 3, 5, and last 78

unfoldable pub levels_answer : List Float → GridPoint → Box → ℕ → ℕ
levels_answer sdf d b room =
    cond (bad_dimensions d) 1
    (cond (bad_box d b) 2
    (cond (bad_length d (length sdf)) 3
    (cond (bad_distance (grid_of sdf d) b) 5
    (cond (bad_room b room) 78
    0))))

-- on 0 the first numbers are the levels of the columns, and the rest is kept; a refusal changes nothing
unfoldable pub levels_after : List Float → GridPoint → Box → List Float → List Float
levels_after sdf d b old =
    cond (levels_answer sdf d b (length old) == 0) (changed (λ j _. level_of (grid_of sdf d) b j) 0 (columns b) old) old

-- ---- one layer, with the layer below it

-- 77: a z below min z or above max z
abbrev pub outside : Box → ℕ → Bool
outside b z = nat_lt z b.low.z || nat_lt b.high.z z

-- 3: a layer whose length is not X·Y, or a layer below of another length, which at min z is 0
abbrev pub bad_layers : GridPoint → Box → List Float → List Float → ℕ → Bool
bad_layers d b lower upper z = not (length upper == d.x * d.y) || not (length lower == cond (z == b.low.z) 0 (d.x * d.y))

-- 5, of both lent layers: their points in the box, read as those of a grid's first layer
abbrev pub bad_points : GridPoint → Box → List Float → Bool
bad_points d b layer = bad_layer (grid_of layer d) b 0

abbrev pub bad_distances : GridPoint → Box → List Float → List Float → ℕ → Bool
bad_distances d b lower upper z = bad_points d b upper || cond (z == b.low.z) false (bad_points d b lower)

unfoldable pub layer_answer : List Float → List Float → GridPoint → Box → ℕ → ℕ → ℕ
layer_answer lower upper d b z room =
    cond (bad_dimensions d) 1
    (cond (bad_box d b) 2
    (cond (outside b z) 77
    (cond (bad_layers d b lower upper z) 3
    (cond (bad_distances d b lower upper z) 5
    (cond (bad_room b room) 78
    0)))))

unfoldable pub layer_after : List Float → List Float → GridPoint → Box → ℕ → List Float → List Float
layer_after lower upper d b z old =
    cond (layer_answer lower upper d b z (length old) == 0) (changed (layer_level d b lower upper z) 0 (columns b) old) old
