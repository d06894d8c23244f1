-- How deep a bed lies below zero, and a wall that is far enough for it. Definitions only. Assumes nothing.
use Rattle.std.specs.Prelude.{ℕ, Bool, false, not, cond, List, [], ◌∷◌, Float}
use Rattle.std.specs.Float.{fin}
use Rattle.std.specs.Float.Ieee.{lt, neg, minus}
use Rattle.lists.specs.Lists.{up_to, place}
use Rattle.rules.specs.Cell.{zero32, one32}

-- the negated distance where that is greater than what was found so far: no comparison holds of not-a-number, so one is passed over
abbrev pub deeper : Float → Float → Float
deeper found d = cond (lt found (neg d)) (neg d) found

-- after all distances of a list, in their order; begun at zero it is the largest magnitude below zero, and zero where nothing is
unfoldable pub deepest : Float → List Float → Float
deepest found [] = found
deepest found (d ∷ ds) = deepest (deeper found d) ds

-- 2 ^ (k - 149): 2 ^ -149 is the least float above zero
abbrev pub depth : ℕ → Float
depth k = fin false 1 (minus k 149)

-- 2 ^ (k - 124), which is 2 ^ 25 times as much
abbrev pub wall_at : ℕ → Float
wall_at k = fin false 1 (minus k 124)

-- whether 2 ^ (k - 149) is at least what was found
abbrev pub far_enough : Float → ℕ → Bool
far_enough found k = not (lt (depth k) found)

-- the least power of two that is at least 2 ^ 25 times what was found, and 2 ^ 124 where that is more; 1.0 where nothing is above zero
unfoldable pub wall_for : Float → Float
wall_for found = cond (lt zero32 found) (wall_at (place (far_enough found) (up_to 0 248))) one32
