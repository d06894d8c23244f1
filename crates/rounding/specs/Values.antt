-- Predicates on float values, as the laws of rounding and the proofs above them use them: by the sign, and by a bound on the size as a fraction
-- `num` / `den` of two natural numbers. Definitions only. Assumes nothing.
use Rattle.std.specs.Prelude.{ℕ, ◌*◌, ◌≤◌, Bool, true, false, not, T, ltb, eqb, Float}
use Rattle.std.specs.Float.{nan, inf, fin, Format}
use Rattle.std.specs.Float.Ieee.{round, fits}
use Rattle.std.specs.Float.Ieee.Exact.{HasValue}
use Rattle.std.specs.Float.Ieee.Scale.{finite}
use Rattle.std.specs.Float.Ieee.Positive.{num, den}

-- ---- by the sign

-- the sign is clear: finite or an infinity
abbrev pub clear : Float → Bool
clear nan = false
clear (inf s) = not s
clear (fin s m e) = not s

-- finite, and the sign is clear: +0.0 is, -0.0 is not
abbrev pub plain : Float → Bool
plain nan = false
plain (inf s) = false
plain (fin s m e) = not s

-- finite, and not below zero: `plain`, or a -0.0
abbrev pub weak : Float → Bool
weak nan = false
weak (inf s) = false
weak (fin true m e) = eqb m 0
weak (fin false m e) = true

-- finite, and below zero
abbrev pub below_zero : Float → Bool
below_zero nan = false
below_zero (inf s) = false
below_zero (fin true m e) = ltb 0 m
below_zero (fin false m e) = false

-- ---- by the size

-- finite, and n at most in magnitude
abbrev pub Within : ℕ → Float → Type 0
Within n x = T (finite x) × (num x ≤ n * den x)

-- from +0.0 up to n
abbrev pub UpTo : ℕ → Float → Type 0
UpTo n x = T (plain x) × (num x ≤ n * den x)

-- from m up to n, and not -0.0
abbrev pub Between : ℕ → ℕ → Float → Type 0
Between m n x = T (plain x) × (m * den x ≤ num x) × (num x ≤ n * den x)

-- from 0 up to 1, and it may be -0.0
abbrev pub Share : Float → Type 0
Share x = T (weak x) × (num x ≤ den x)

-- ---- by the format

-- a finite value that the format holds
abbrev pub Held : Format → Float → Type 0
Held f x = T (fits f x) × T (finite x)

-- the fraction p / q, for a q above 0, is a value of the format: it is rounded to itself
abbrev pub Holds : Format → ℕ → ℕ → Type 0
Holds f p q = HasValue (round f false p q) false p q
