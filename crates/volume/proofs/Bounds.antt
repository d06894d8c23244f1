-- How large a determinant and a sum can be: with coordinates up to 2^15 a determinant is at most 2^46 in magnitude, so that 16,384 of them
-- are at most 2^60, and 64 bits hold the sum at every step. Assumes nothing.
use Prim.Native.Nat.{ℕ, zero, suc, ◌+◌, ◌-◌, ◌*◌, ◌^◌, ◌≤◌, ◌<◌}
use native.Mathlib.Nat.{mul-le-mul, mul-le-mul_left, mul-le-mul_right, lt_of_le_of_lt}
use native.Mathlib.Omega.{arith}
use mathlib.Core.Bool.{Bool, true, false, not, cond}
use mathlib.Core.Logic.{inl, inr}
use mathlib.Core.Path.{◌≡◌}
use lib.Dec.{T, ltb, ltb→lt, nltb→le}
use lib.IntN.{ℤ, pos, negsuc, nat_abs, sub_ℕ, ◌+ℤ◌, ◌-ℤ◌}
use lib.Signed.{mag}
use mir.Syntax.{w64}
use mir.Val.{SFits}
use Rattle.lists.proofs.Tests.{less-or-not}
use Rattle.volume.specs.declared.Corner.{Corner}
use Rattle.volume.specs.Volume.{Near, falling, rising, determinant}

-- ---- one product, one determinant

pub product-most : (a b c : ℕ) → a ≤ 2 ^ 15 → b ≤ 2 ^ 15 → c ≤ 2 ^ 15 → a * b * c ≤ 2 ^ 45
product-most a b c k l m = mul-le-mul (mul-le-mul k l) m

-- two of the three products count at most: if none of the three pairs of the second and third row goes the other way, the second row is zero
module _ (ax ay az bx by bz cx cy cz n : ℕ) (one : ax * by * cz ≤ n) (two : ay * bz * cx ≤ n) (three : az * bx * cy ≤ n) where
  never : bz * cy < by * cz → bx * cz < bz * cx → by * cx < bx * cy → ⊥
  never h k l =
      let z : by ≤ 0 = omega (arith, mul-le-mul_left bx h, mul-le-mul_left by k, mul-le-mul_left bz l) in
      omega (arith, mul-le-mul_right cz z)

  two-count : ax * by * cz + ay * bz * cx + az * bx * cy ≤ ax * bz * cy + ay * bx * cz + az * by * cx + 2 * n
  two-count =
      elim (less-or-not (bz * cy) (by * cz)) [
        | inr h ↦ omega (arith, mul-le-mul_left ax h)
        | inl h ↦
            elim (less-or-not (bx * cz) (bz * cx)) [
              | inr k ↦ omega (arith, mul-le-mul_left ay k)
              | inl k ↦
                  elim (less-or-not (by * cx) (bx * cy)) [
                    | inr l ↦ omega (arith, mul-le-mul_left az l)
                    | inl l ↦ absurd (never h k l)
                  ]
            ]
      ]

pub falling-most : (a b c : Corner) → Near a → Near b → Near c → falling a b c ≤ rising a b c + 2 ^ 46
falling-most a b c k l m =
    two-count a.x a.y a.z b.x b.y b.z c.x c.y c.z (2 ^ 45)
    (product-most a.x b.y c.z k.x l.y m.z)
    (product-most a.y b.z c.x k.y l.z m.x)
    (product-most a.z b.x c.y k.z l.x m.y)

-- with two rows exchanged, the products that fall and those that rise change places
pub exchanged-falls : (a b c : Corner) → falling a c b ≡ rising a b c
exchanged-falls a b c = omega arith

pub exchanged-rises : (a b c : Corner) → rising a c b ≡ falling a b c
exchanged-rises a b c = omega arith

-- ---- magnitudes

cond-abs : (t : Bool) (y z : ℤ) (k : ℕ) → (T t → nat_abs y ≤ k) → (T (not t) → nat_abs z ≤ k) → nat_abs (cond t y z) ≤ k
cond-abs true y z k h l = h tt
cond-abs false y z k h l = l tt

difference-most : (a b k : ℕ) → a ≤ b + k → b ≤ a + k → nat_abs (sub_ℕ a b) ≤ k
difference-most a b k h l =
    cond-abs (ltb a b) (negsuc (b - suc a)) (pos (a - b)) k (λ t. omega (arith, ltb→lt a b t)) (λ t. omega (arith, nltb→le a b t))

pub minus-most : (a b k : ℕ) → a ≤ b + k → b ≤ a + k → nat_abs (pos a -ℤ pos b) ≤ k
minus-most a zero k h l = omega arith
minus-most a (suc b) k h l = difference-most a (suc b) k h l

pub sum-most : (y z : ℤ) → nat_abs (y +ℤ z) ≤ nat_abs y + nat_abs z
sum-most (pos a) (pos b) = omega arith
sum-most (pos a) (negsuc b) = difference-most a (suc b) (a + suc b) (omega arith) (omega arith)
sum-most (negsuc a) (pos b) = difference-most b (suc a) (suc a + b) (omega arith) (omega arith)
sum-most (negsuc a) (negsuc b) = omega arith

pub determinant-most : (a b c : Corner) → Near a → Near b → Near c → nat_abs (determinant a b c) ≤ 2 ^ 46
unfolding determinant
determinant-most a b c k l m =
    minus-most (falling a b c) (rising a b c) (2 ^ 46) (falling-most a b c k l m)
    (omega (arith, falling-most a c b k m l, exchanged-falls a b c, exchanged-rises a b c))

-- ---- 64 bits

mag-most : (z : ℤ) → mag z ≤ nat_abs z
mag-most (pos n) = omega arith
mag-most (negsuc n) = omega arith

pub fits-64 : (z : ℤ) → nat_abs z < 2 ^ 63 → SFits w64 z
fits-64 z h = record { sfits = lt_of_le_of_lt (mag-most z) h }
