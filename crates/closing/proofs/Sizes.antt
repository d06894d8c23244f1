-- What fits: products of dimensions within condition 1, and places in the lent lists, over bare numbers. Assumes nothing.
use Prim.Native.Nat.{ℕ, ◌+◌, ◌*◌, ◌≤◌, ◌<◌}
use native.Mathlib.Nat.{mul-le-mul_left, mul-le-mul, mul_comm, mul-one, mul-add, le_trans, le_of_eq}
use native.Mathlib.Omega.{arith}
use mathlib.Core.Path.{◌≡◌, sym, ◌∙◌}

-- one block of s numbers more is within m of them, where y is below m
pub next-block : (s y m : ℕ) → y < m → s * y + s ≤ s * m
next-block s y m h =
    let e : s * y + s ≡ s * (y + 1) = omega (arith, mul-add s y 1, mul-one s) in
    le_trans (le_of_eq e) (mul-le-mul_left s h')
  where
    h' : y + 1 ≤ m
    h' = omega arith

-- a product with a factor above 0 is no smaller
pub grown : (s k : ℕ) → 0 < k → s ≤ s * k
grown s k h = le_trans (le_of_eq (sym (mul-one s))) (mul-le-mul_left s h)

-- an open layer is no larger than the closed one
pub open-smaller : (n m : ℕ) → n * m ≤ (n + 3) * (m + 3)
open-smaller n m = mul-le-mul (omega arith) (omega arith)

-- a block of s numbers from `from` on, of m that are within G
pub record BlockFits (from s y G : ℕ) : Type 0 where
  pub low : s * y ≤ G
  pub all : from + s * y + s ≤ G

pub block-fits : (from s y m G : ℕ) → from + s * m ≤ G → y < m → BlockFits from s y G
block-fits from s y m G h k = record { low = omega (arith, next-block s y m k); all = omega (arith, next-block s y m k) }

-- one block, m of them and two more, from `at` on
pub record BorderFits (at s m G : ℕ) : Type 0 where
  pub one : s ≤ G
  pub first : at + s ≤ G
  pub few : s * m ≤ G
  pub inner : at + s + s * m ≤ G
  pub last : at + s + s * m + 2 * s ≤ G

pub border-fits : (at s m G : ℕ) → at + s * (m + 3) ≤ G → BorderFits at s m G
border-fits at s m G h =
    let e : s * (m + 3) ≡ s * m + 3 * s = mul-add s m 3 ∙ omega (arith, mul_comm s 3) in
    record { one = omega arith; first = omega arith; few = omega arith; inner = omega arith; last = omega arith }
