-- Whole numbers of either sign: which of them so many bits hold, and which float is the same number. Definitions only. Assumes nothing.
use Rattle.std.specs.Prelude.{ℕ, suc, ◌-◌, ◌^◌, ◌<◌, true, false, ℤ, pos, negsuc, Float}
use Rattle.std.specs.Int.Signed.{mag}
use Rattle.std.specs.Float.Ieee.Exact.{HasValue}

-- from -2 ^ (w - 1) up to 2 ^ (w - 1) - 1, the signed numbers of w bits: `mag` is n for n, and n for -(n + 1)
abbrev pub InBits : ℕ → ℤ → Type 0
InBits w z = mag z < 2 ^ (w - 1)

-- the float is the number: finite, with its sign and its size, and +0.0 for zero
abbrev pub SameValue : Float → ℤ → Type 0
SameValue x (pos n) = HasValue x false n 1
SameValue x (negsuc n) = HasValue x true (suc n) 1
