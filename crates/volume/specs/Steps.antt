-- Document 02, request 14: "turns each coordinate into 1/256 steps rounded down, worked out exactly". A finite float is m·2^e with a sign, and
-- 2^e is the fraction `up e` / `down e` of two whole numbers: no operation on floats is made. Definitions only. Assumes nothing.
use Rattle.std.specs.Prelude.{ℕ, ◌-◌, ◌*◌, ◌/◌, Bool, true, false, ◌&&◌, cond, not, ltb, eqb, pos, Float}
use Rattle.std.specs.Float.{nan, inf, fin}
use Rattle.std.specs.Float.Ieee.{up, down, le}

-- not finite, or not from 0 to `most` (-0.0 counts as 0)
unfoldable pub past : ℕ → Float → Bool
past most nan = true
past most (inf s) = true
past most (fin true m e) = not (eqb m 0)
past most (fin false m e) = ltb (most * down e) (m * up e)

-- the same by comparisons of floats, none of which holds of a not-a-number
abbrev pub is_past : Float → Float → Bool
is_past most x = not (le (fin false 0 (pos 0)) x && le x most)

-- "any coordinate not finite or not from 0 to 128 (-0.0 counts as 0)"
abbrev pub outside : Float → Bool
outside x = past 128 x

-- the whole part of 256·x. What is not from 0 on, and so is in no accepted list, has none, and 0 stands there; -0.0 is 0.
unfoldable pub steps : Float → ℕ
steps nan = 0
steps (inf s) = 0
steps (fin true m e) = 0
steps (fin false m e) = 256 * (m * up e) / down e

-- by how many places the digits of a float with this exponent field are shifted
abbrev pub places_of : ℕ → ℕ
places_of e = cond (ltb e 118) 33 (151 - e)
