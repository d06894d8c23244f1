-- Calls for C by their twelve words, in a box smaller than its grid, the sides of both all different, with the max plane of exactly one axis: document 02,
-- request 4. One point of the box is inside, the second on each axis. The box has two cells on one axis and three on the others, so of the six grid edges at the
-- point it owns all but the one that ends on the max side of the short axis, and that one too with the max plane of this axis: 8 vertices, and five faces or six.
-- A flag, a corner or a dimension that is read at another's place gives other numbers. Computed from the definitions. Assumes nothing.
use Prim.Native.Nat.{ℕ}
use mathlib.Core.Bool.{true, false}
use mathlib.Core.List.{List, [], ◌∷◌, ◌++◌}
use mathlib.Core.Path.{◌≡◌, refl}
use lib.IntN.{pos}
use lib.ListN.{replicate}
use lib.Ieee.{Float, fin}
use Rattle.rules.specs.Cell.{one32}
use Rattle.rules.specs.Call.{Answer, answer}
use Rattle.skin.specs.Scan.{Tested, answers, examined}
use Rattle.bed.specs.Boundary.{asked, room_asked, said}
use Rattle.bed.specs.Words12.{dims_asked, low_asked, high_asked}
use Rattle.applied.proofs.OnePoint.{opened}

-- dimensions 5, 4, 6; all 1.0 but -1.0 at (2, 1, 3), whose index is 2 + 5 · (1 + 4 · 3)
abbrev grid : List Float
grid = replicate 67 one32 ++ (fin true 1 (pos 0) ∷ replicate 52 one32)

-- from (1, 0, 2): to (4, 2, 5), which is short on y, and to (4, 3, 4), short on z
abbrev short_on_y : ℕ → ℕ → ℕ → List ℕ
short_on_y x y z = 5 ∷ 4 ∷ 6 ∷ 1 ∷ 0 ∷ 2 ∷ 4 ∷ 2 ∷ 5 ∷ x ∷ y ∷ z ∷ []

abbrev short_on_z : ℕ → ℕ → ℕ → List ℕ
short_on_z x y z = 5 ∷ 4 ∷ 6 ∷ 1 ∷ 0 ∷ 2 ∷ 4 ∷ 3 ∷ 4 ∷ x ∷ y ∷ z ∷ []

abbrev told : List ℕ → Answer
told words = answer (asked grid words) (room_asked 24 24 24 8 8 120 36)

pub y-where-y-is-short : told (short_on_y 0 256 0) ≡ said 0 8 36
unfolding opened
y-where-y-is-short = refl

pub z-where-y-is-short : told (short_on_y 0 0 256) ≡ said 0 8 30
unfolding opened
z-where-y-is-short = refl

pub y-where-z-is-short : told (short_on_z 0 256 0) ≡ said 0 8 30
unfolding opened
y-where-z-is-short = refl

pub z-where-z-is-short : told (short_on_z 0 0 256) ≡ said 0 8 36
unfolding opened
z-where-z-is-short = refl

-- the test of request 8: to (4, 3, 5) the point lies from min + 1 to max - 2 on each axis, and in the two boxes above it does not; flags are not looked at
abbrev tested : List ℕ → Tested
tested words = examined grid (dims_asked words) (low_asked words) (high_asked words)

pub enclosed-in-three-cells : tested (5 ∷ 4 ∷ 6 ∷ 1 ∷ 0 ∷ 2 ∷ 4 ∷ 3 ∷ 5 ∷ 9 ∷ 0 ∷ 9 ∷ []) ≡ answers 0 true
unfolding opened
enclosed-in-three-cells = refl

pub not-where-y-is-short : tested (short_on_y 0 0 0) ≡ answers 0 false
unfolding opened
not-where-y-is-short = refl

pub not-where-z-is-short : tested (short_on_z 0 0 0) ≡ answers 0 false
unfolding opened
not-where-z-is-short = refl
