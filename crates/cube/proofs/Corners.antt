-- A cell's eight corner values as the laws of the cell ask for them: eight finite values that binary32 holds, and a predicate on each of them.
-- Assumes nothing.
use Rattle.std.proofs.Common.{◌≡◌, ℕ, ◌<◌, T, List, length, sym, subst}
use lib.Ieee.{Float, binary32}
use lib.Ieee.Scale.{finite}
use Rattle.rounding.specs.Values.{Held}
use Rattle.rules.specs.Grid.{GridPoint, Field, value}
use Rattle.rules.specs.Cell.{Vector, corner, corner_of, values}
use Rattle.rules.proofs.FourCells.{corner-value}

-- neither a NaN nor an infinity
abbrev pub Finite : Float → Type 0
Finite x = T (finite x)

-- ---- predicates on each of several things

-- on each corner's value
abbrev pub Corners : (Float → Type 0) → List Float → Type 0
Corners P d = (i : ℕ) → i < 8 → P (corner d i)

-- on each component of a vector
abbrev pub Each : (Float → Type 0) → Vector → Type 0
Each P v = P v.x × P v.y × P v.z

-- ---- a cell: eight finite values that binary32 holds

abbrev pub Cell : List Float → Type 0
Cell d = (length d ≡ 8) × Corners (Held binary32) d

-- what is known of the value at each corner of a grid's cell is known of its eight values
pub corners-of-values : (P : Float → Type 0) (g : Field) (c : GridPoint) → ((i : ℕ) → i < 8 → P (value g (corner_of c i))) → Corners P (values g c)
corners-of-values P g c h i l = subst P (sym (corner-value g c i l)) (h i l)
