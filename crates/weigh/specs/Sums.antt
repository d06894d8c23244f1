-- What is summed over the triangles, in document 02 request 14's steps of 1/256: six times the volume that stands between a triangle and the plane z = 0, and
-- twice the triangle's area as seen from above. Definitions only. Assumes nothing.
use Rattle.std.specs.Prelude.{ℕ, ◌+◌, ◌-◌, List, [], ◌∷◌, ℤ, pos, ◌+ℤ◌, ◌-ℤ◌, ◌*ℤ◌, Float}
use Rattle.volume.specs.declared.Corner.{Corner}
use Rattle.volume.specs.Volume.{corner_at}

-- the vertex v, where the positions lent begin with those of the vertex `first`
abbrev pub corner_from : List Float → ℕ → ℕ → Corner
corner_from positions first v = corner_at positions (v - first)

-- (bx - ax)(cy - ay) - (by - ay)(cx - ax): twice the area seen from above, above zero where a, b, c go round from x to y
unfoldable pub shadow_of : Corner → Corner → Corner → ℤ
shadow_of a b c =
    (pos b.x -ℤ pos a.x) *ℤ (pos c.y -ℤ pos a.y) -ℤ (pos b.y -ℤ pos a.y) *ℤ (pos c.x -ℤ pos a.x)

-- (az + bz + cz) times the shadow: six times the volume between the triangle and its shadow on z = 0
unfoldable pub pillar_of : Corner → Corner → Corner → ℤ
pillar_of a b c = pos (a.z + b.z + c.z) *ℤ shadow_of a b c

-- the sum over a flat list of three vertex numbers a triangle, in order; `at` gives each vertex in steps
unfoldable pub sum_of : (Corner → Corner → Corner → ℤ) → (ℕ → Corner) → List ℕ → ℤ
sum_of f at [] = pos 0
sum_of f at (i ∷ []) = pos 0
sum_of f at (i ∷ j ∷ []) = pos 0
sum_of f at (i ∷ j ∷ k ∷ is) = f (at i) (at j) (at k) +ℤ sum_of f at is

-- six times the volume between the triangles and the plane z = 0
abbrev pub pillars : List Float → ℕ → List ℕ → ℤ
pillars positions first indices = sum_of pillar_of (corner_from positions first) indices

-- twice the area seen from above
abbrev pub shadows : List Float → ℕ → List ℕ → ℤ
shadows positions first indices = sum_of shadow_of (corner_from positions first) indices
