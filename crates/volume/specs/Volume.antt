-- Document 02, request 14: "six times the signed volume as a whole number: the sum of the triangles' determinants". Definitions only.
-- Assumes nothing.
use Rattle.std.specs.Prelude.{ℕ, ◌+◌, ◌*◌, ◌^◌, ◌≤◌, List, [], ◌∷◌, ℤ, pos, ◌+ℤ◌, ◌-ℤ◌, get_or, Float}
use Rattle.std.specs.Float.{nan}
use Rattle.volume.specs.Steps.{steps}
use Rattle.volume.specs.declared.Corner.{Corner}

-- a vertex in steps: the struct of the code, three whole numbers
abbrev pub corner : ℕ → ℕ → ℕ → Corner
corner x y z = record { x = x; y = y; z = z }

-- the vertex v of a flat list of three coordinates each
abbrev pub corner_at : List Float → ℕ → Corner
corner_at positions v = corner (steps (get_or positions (3 * v) nan)) (steps (get_or positions (3 * v + 1) nan)) (steps (get_or positions (3 * v + 2) nan))

-- a corner of an accepted list: from 0 to 128 is from 0 to 2^15 steps
pub record Near (a : Corner) : Type 0 where
  pub x : a.x ≤ 2 ^ 15
  pub y : a.y ≤ 2 ^ 15
  pub z : a.z ≤ 2 ^ 15

-- the determinant whose rows are a, b and c: the three products along its diagonals that fall, less the three along those that rise
abbrev pub falling : Corner → Corner → Corner → ℕ
falling a b c = a.x * b.y * c.z + a.y * b.z * c.x + a.z * b.x * c.y

abbrev pub rising : Corner → Corner → Corner → ℕ
rising a b c = a.x * b.z * c.y + a.y * b.x * c.z + a.z * b.y * c.x

unfoldable pub determinant : Corner → Corner → Corner → ℤ
determinant a b c = pos (falling a b c) -ℤ pos (rising a b c)

-- the sum over a flat list of three vertex numbers a triangle, in order; `at` gives each vertex in steps
unfoldable pub sum_over : (ℕ → Corner) → List ℕ → ℤ
sum_over at [] = pos 0
sum_over at (i ∷ []) = pos 0
sum_over at (i ∷ j ∷ []) = pos 0
sum_over at (i ∷ j ∷ k ∷ is) = determinant (at i) (at j) (at k) +ℤ sum_over at is

-- six times the signed volume, in cubed steps
abbrev pub sixfold : List Float → List ℕ → ℤ
sixfold positions indices = sum_over (corner_at positions) indices
