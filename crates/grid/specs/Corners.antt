-- A cell's corner values as the code reads them: two sides of four. Definitions only. Assumes nothing.
use Rattle.std.specs.Prelude.{ℕ, ◌+◌, List, [], ◌∷◌, get_or, Float}
use Rattle.std.specs.Float.{nan}
use Rattle.grid.specs.declared.corners.Side.{Side}

-- a side between two layers that are lent apart
abbrev pub side_between : List Float → List Float → ℕ → ℕ → Side
side_between lower upper at row =
    record { a = get_or lower at nan; b = get_or lower (at + row) nan; c = get_or upper at nan; d = get_or upper (at + row) nan }

abbrev pub eight_of : Side → Side → List Float
eight_of low high = low.a ∷ high.a ∷ low.b ∷ high.b ∷ low.c ∷ high.c ∷ low.d ∷ high.d ∷ []
