-- The level of the bed in one column of points, by their distances from the lowest up: -1.0 where none is below zero; the highest z where the point
-- there is below zero; else z + f, rounded once, where z is the highest point below zero and f document 01's fraction between it and the next one.
-- Definitions only. Assumes nothing.
use Rattle.std.specs.Prelude.{ℕ, zero, suc, ◌+◌, ◌-◌, true, cond, pos, Float}
use Rattle.std.specs.Float.{fin}
use Rattle.rules.specs.Cell.{◌⊕◌, float, negative, fraction}

-- -1.0: no point so far is below zero
abbrev pub no_level : Float
no_level = fin true 1 (pos 0)

-- one more point on top, at z, by its distance, that of the point below it and the level without it: z where it is below zero; from the point below
-- it where that is the highest below zero; and else as it was
unfoldable pub level_step : ℕ → Float → Float → Float → Float
level_step z below here old = cond (negative here) (float z) (cond (negative below) (float (z - 1) ⊕ fraction below here) old)

-- the lowest point, which has none below it
unfoldable pub first_level : ℕ → Float → Float
first_level z here = cond (negative here) (float z) no_level

-- the column from low up to low + n, d being the distance at each z
unfoldable pub level_up_to : (ℕ → Float) → ℕ → ℕ → Float
level_up_to d low zero = first_level low (d low)
level_up_to d low (suc n) = level_step (suc (low + n)) (d (low + n)) (d (suc (low + n))) (level_up_to d low n)
