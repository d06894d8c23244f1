-- What a lent list of floats holds. Definitions only. Assumes nothing.
use Rattle.std.specs.Prelude.{ℕ, ◌<◌, List, T, Float, length, get_or}
use Rattle.std.specs.Float.{nan, binary32}
use Rattle.std.specs.Float.Ieee.{fits}

-- every number of a list is a binary32 value: true of every list of f32, and the contracts hand it on
abbrev pub Binary32 : List Float → Type 0
Binary32 l = (i : ℕ) → i < length l → T (fits binary32 (get_or l i nan))
