-- The answers of the calls that close a grid: document 01's 1, document 02's 3 (request 9), and 71 to 74; and what the lent room holds afterwards.
-- Definitions only. Assumes nothing.
use Rattle.std.specs.Prelude.{ℕ, ◌+◌, Bool, not, ◌||◌, cond, List, leb, ltb, eqb, Float, length}
use Rattle.std.specs.Float.Ieee.{lt}
use Rattle.lists.specs.Lists.{over}
use Rattle.rules.specs.Grid.{GridPoint, between}
use Rattle.rules.specs.Cell.{zero32}
use Rattle.rules.specs.Call.{bad_dimensions, bad_length, beyond}
use Rattle.closing.specs.Closed.{closed_dims, point_count, layer_count, open_field, closed_list, closed_layer}

-- 71: z not below the closed depth
abbrev pub bad_height : GridPoint → ℕ → Bool
bad_height d z = leb (d.z + 3) z

-- 72: a wall that is not above zero, not finite or above 2^124
abbrev pub bad_wall : Float → Bool
bad_wall wall = not (lt zero32 wall) || beyond wall

-- 73: closed dimensions that condition 1 would refuse
abbrev pub bad_closed : GridPoint → Bool
bad_closed d = bad_dimensions (closed_dims d)

-- 74: lent room shorter than what is to be written
abbrev pub bad_room : ℕ → ℕ → Bool
bad_room wanted room = ltb room wanted

-- ---- the whole grid

-- "Conditions are tried in this order; the first that holds answers."
unfoldable pub close_answer : GridPoint → ℕ → Float → ℕ → ℕ
close_answer d size wall room =
    cond (bad_dimensions d) 1
    (cond (bad_length d size) 3
    (cond (bad_wall wall) 72
    (cond (bad_closed d) 73
    (cond (bad_room (point_count (closed_dims d)) room) 74 0))))

-- on 0 the closed grid and then what stood past it; on a refusal nothing changes
unfoldable pub closed_room : GridPoint → Float → List Float → List Float → List Float
closed_room d wall sdf old = cond (eqb (close_answer d (length sdf) wall (length old)) 0) (over (closed_list (open_field d sdf) wall) old) old

-- ---- one layer

-- how many distances the closed layer z is made from: none where it is wall alone, at 0, Z + 1 and Z + 2
abbrev pub layer_wanted : GridPoint → ℕ → ℕ
layer_wanted d z = cond (between 1 d.z z) (layer_count d) 0

unfoldable pub layer_answer : GridPoint → ℕ → ℕ → Float → ℕ → ℕ
layer_answer d z size wall room =
    cond (bad_dimensions d) 1
    (cond (bad_height d z) 71
    (cond (not (eqb size (layer_wanted d z))) 3
    (cond (bad_wall wall) 72
    (cond (bad_closed d) 73
    (cond (bad_room (layer_count (closed_dims d)) room) 74 0)))))

unfoldable pub layer_room : GridPoint → Float → ℕ → List Float → List Float → List Float
layer_room d wall z layer old = cond (eqb (layer_answer d z (length layer) wall (length old)) 0) (over (closed_layer d wall z layer) old) old
