-- Lists of floats for the calls. Definitions only. Assumes nothing.
use Prim.Native.Nat.{ℕ, ◌+◌, ◌*◌}
use mathlib.Core.Bool.{false}
use mathlib.Core.List.{List, map}
use lib.IntN.{pos}
use lib.Ieee.{Float, fin, binary32, of_bits}
use Rattle.lists.specs.Lists.{up_to}

-- the odd numbers from 2·a + 1 to 2·b - 1: what a lent list held
abbrev pub odds : ℕ → ℕ → List Float
odds a b = map (λ (j : ℕ). fin false (2 * j + 1) (pos 0)) (up_to a b)

-- floats by their bits
abbrev pub floats : List ℕ → List Float
floats = map (of_bits binary32)
