-- Signed whole numbers as floats (document 02, request 5: "each number meaning the float of the same value"): a format that keeps as many digits as the
-- number has bits holds it exactly. Said once, over the width and the format. Assumes nothing.
use mathlib.Core.Path.{◌≡◌, refl, sym, ◌∙◌}
use Prim.Native.Nat.{ℕ, suc, ◌-◌, ◌*◌, ◌^◌, ◌≤◌}
use native.Mathlib.Nat.{le_trans, le_of_eq, le_of_lt, mul-one}
use native.Mathlib.Omega.{arith}
use mathlib.Core.Bool.{Bool, true, false}
use lib.IntN.{ℤ, pos, negsuc, nat_abs}
use lib.Dec.{T}
use lib.Pow.{pow_mono}
use lib.Ieee.{Float, nan, inf, fin, Format, binary32, binary64, prec, up, of_int}
use lib.Ieee.Exact.{HasValue}
use lib.Ieee.Scale.{finite}
use lib.Ieee.Back.{round_whole}
use lib.Ieee.Positive.{num, den}
use Rattle.rounding.specs.Values.{Within}
use Rattle.rounding.specs.Signed.{InBits, SameValue}

-- ---- the conversion

pub bits-size : (w : ℕ) (z : ℤ) → InBits w z → nat_abs z ≤ 2 ^ (w - 1)
bits-size w (pos n) h = le_of_lt h
bits-size w (negsuc n) h = h

-- so many bits are few enough for n digits
pub few_bits : (w n : ℕ) (z : ℤ) → w ≤ n → InBits w z → nat_abs z ≤ 2 ^ n
few_bits w n z p h =
    let below : w - 1 ≤ n = omega arith in
    le_trans (bits-size w z h) (pow_mono below)

pub converted : (f : Format) (w : ℕ) (z : ℤ) → w ≤ prec f → InBits w z → SameValue (of_int f z) z
unfolding of_int
converted f w (pos n) p h = round_whole f false n (few_bits w (prec f) (pos n) p h)
converted f w (negsuc n) p h = round_whole f true (suc n) (few_bits w (prec f) (negsuc n) p h)

-- the float of zero is +0.0
pub zero-plus : (f : Format) → of_int f (pos 0) ≡ fin false 0 (pos 0)
unfolding of_int
zero-plus binary32 = refl
zero-plus binary64 = refl

-- ---- what the same value is, as a fraction

value-size : (x : Float) (s : Bool) (n : ℕ) → HasValue x s n 1 → T (finite x) × (num x ≡ n * den x)
value-size nan s n h = absurd h
value-size (inf t) s n h = absurd h
value-size (fin t m e) s n h = (tt, sym (mul-one (m * up e)) ∙ h.1)

pub same_size : (x : Float) (z : ℤ) → SameValue x z → T (finite x) × (num x ≡ nat_abs z * den x)
same_size x (pos n) h = value-size x false n h
same_size x (negsuc n) h = value-size x true (suc n) h

pub same-within : (x : Float) (z : ℤ) → SameValue x z → Within (nat_abs z) x
same-within x z h = let s = same_size x z h in (s.0, le_of_eq s.1)
