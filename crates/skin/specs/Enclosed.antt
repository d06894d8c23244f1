-- Document 02, request 8: "Let every negative point of the box lie from min + 1 to max - 2 on each axis", as a statement and as a test.
-- Definitions only. Assumes nothing.
use Rattle.std.specs.Prelude.{ℕ, ◌+◌, ◌≤◌, Bool, not, ◌&&◌, T, leb}
use Rattle.lists.specs.Lists.{some}
use Rattle.rules.specs.Grid.{GridPoint, Axis, Box, Field, along, in_box, value}
use Rattle.rules.specs.Cell.{negative}
use Rattle.rules.specs.Faces.{points}

-- from min + 1 to max - 2 on each axis
abbrev pub Inner : Box → GridPoint → Type 0
Inner b p = (a : Axis) → (along a b.low + 1 ≤ along a p) × (along a p + 2 ≤ along a b.high)

-- every negative point of the box lies so
abbrev pub Enclosed : Field → Box → Type 0
Enclosed g b = (p : GridPoint) → T (in_box b p) → T (negative (value g p)) → Inner b p

-- ---- the same as a test

abbrev pub inner_side : ℕ → ℕ → ℕ → Bool
inner_side low high n = leb (low + 1) n && leb (n + 2) high

unfoldable pub inner : Box → GridPoint → Bool
inner b p = inner_side b.low.x b.high.x p.x && (inner_side b.low.y b.high.y p.y && inner_side b.low.z b.high.z p.z)

-- a negative point that does not lie so
abbrev pub stray : Field → Box → GridPoint → Bool
stray g b p = negative (value g p) && not (inner b p)

unfoldable pub enclosed : Field → Box → Bool
enclosed g b = not (some (stray g b) (points b))

-- a box without a negative point
unfoldable pub all_outside : Field → Box → Bool
all_outside g b = not (some (λ (p : GridPoint). negative (value g p)) (points b))
