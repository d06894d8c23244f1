-- Tests one after the other, as code makes them, and joined by `||`, as the rules have them. Over any tests. Assumes nothing.
use mathlib.Core.Path.{◌≡◌}
use mathlib.Core.Bool.{Bool, true, false, ◌||◌, true≢false}
use Prim.Native.Nat.{ℕ, zero, suc, ◌*◌, ◌^◌, ◌<◌, ◌≤◌}
use native.Mathlib.Nat.{le_trans, le_of_eq, le_of_lt, mul-one, mul-le-mul_left, mul-lt-mul_of_pos_right, lt_of_lt_of_le, lt_of_le_of_lt}
use native.Mathlib.Omega.{arith}
use lib.Pow.{pow_pos}
use Rattle.rules.specs.Call.{bad_dimension}

-- the first, the second and the third of three tests before a last one passes
pub first : {a : Bool} (b c d : Bool) → a ≡ true → true ≡ ((a || (b || c)) || d)
first b c d h = rw h

pub second : {a b : Bool} (c d : Bool) → a ≡ false → b ≡ true → true ≡ ((a || (b || c)) || d)
second c d h k = rw (h, k)

pub third : {a b c : Bool} (d : Bool) → a ≡ false → b ≡ false → c ≡ true → true ≡ ((a || (b || c)) || d)
third d h k l = rw (h, k, l)

-- all three fail, and the last test is left
pub last : {a b c : Bool} (d : Bool) → a ≡ false → b ≡ false → c ≡ false → d ≡ ((a || (b || c)) || d)
last d h k l = rw (h, k, l)

-- of three tests
pub first_of : {a : Bool} (b c : Bool) → a ≡ true → true ≡ (a || (b || c))
first_of b c h = rw h

pub second-of : {a b : Bool} (c : Bool) → a ≡ false → b ≡ true → true ≡ (a || (b || c))
second-of c h k = rw (h, k)

pub third_of : {a b : Bool} (c : Bool) → a ≡ false → b ≡ false → c ≡ (a || (b || c))
third_of c h k = rw (h, k)

-- a product with one factor more is no smaller
pub grows : {n p : ℕ} (k : ℕ) → 1 ≤ k → n < p → n < p * k
grows {n} {p} k h l = lt_of_lt_of_le l (le_trans (le_of_eq (rw mul-one)) (mul-le-mul_left p h))

-- the product of two numbers of 32 bits fits 64, and so does one of a number up to 2^30 with a third
pub fits-two : {a b : ℕ} → a < 2 ^ 32 → b < 2 ^ 32 → a * b < 2 ^ 64
fits-two {a} {b} ha hb = lt_of_le_of_lt (mul-le-mul_left a (le_of_lt hb)) (mul-lt-mul_of_pos_right ha (pow_pos 32))

pub fits-three : {p k : ℕ} → p ≤ 1073741824 → k < 2 ^ 32 → p * k < 2 ^ 64
fits-three {p} {k} hp hk = fits-two (omega arith) hk

pub positive-dimension : (n : ℕ) → bad_dimension n ≡ false → 1 ≤ n
positive-dimension zero h = absurd (true≢false h)
positive-dimension (suc n) h = omega arith
