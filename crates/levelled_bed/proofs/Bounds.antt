-- A level that is told from z is from z to z + 1: the fraction is from 0 to 1, and rounding is monotone. Assumes nothing.
use Prim.Native.Nat.{ℕ, ◌+◌, ◌*◌, ◌^◌, ◌≤◌, ◌<◌}
use native.Mathlib.Nat.{le_trans, le_of_eq, mul_assoc, mul_comm, mul-one, add-mul, one-mul, mul-pos, le-add_right, mul-le-mul_right}
use native.Mathlib.Omega.{arith}
use mathlib.Core.Bool.{Bool, true, false}
use mathlib.Core.Path.{◌≡◌, sym, ap, subst, ◌∙◌}
use lib.Dec.{T}
use lib.Ieee.{Float, binary32, round, unlike}
use lib.Ieee.Positive.{num, den, den_pos}
use Rattle.rounding.specs.Values.{Share, Held, Between}
use Rattle.rounding.proofs.Bounds.{up_to, at_least, holds-whole}
use Rattle.rounding.proofs.Operations.{add_is}
use Rattle.rounding.proofs.Whole.{whole_plain, whole-size}
use Rattle.rules.specs.Cell.{◌⊕◌, float, negative, fraction}
use Rattle.cube.proofs.Fraction.{share-of-crossing}

-- c + s, for a c with its next one among the format's whole numbers and an s from 0 to 1, which may be -0.0
sum_low : (c X D Y E : ℕ) → X ≡ c * D → c * (D * E) ≤ (X * E + Y * D) * 1
sum_low c X D Y E e =
    le_trans (le_of_eq (sym (mul_assoc c D E) ∙ ap (λ (z : ℕ). z * E) (sym e)))
    (le_trans (le-add_right (X * E) (Y * D)) (le_of_eq (sym (mul-one (X * E + Y * D)))))

more : (a b c : ℕ) → b ≤ c → a + b ≤ a + c
more a b c h = omega arith

sum-high : (c X D Y E : ℕ) → X ≡ c * D → Y ≤ E → X * E + Y * D ≤ (c + 1) * (D * E)
sum-high c X D Y E e h =
    le_trans (more (X * E) (Y * D) (E * D) (mul-le-mul_right D h))
    (le_of_eq (ap (λ (z : ℕ). z * E + E * D) e ∙ (ap (λ (z : ℕ). z + E * D) (mul_assoc c D E)
    ∙ (ap (λ (z : ℕ). c * (D * E) + z) (mul_comm E D ∙ sym (one-mul (D * E))) ∙ sym (add-mul c 1 (D * E))))))

shift-share : (c : ℕ) (s : Float) → c < 2 ^ 24 → Share s → Between c (c + 1) (float c ⊕ s)
shift-share c s l u =
    let x = float c in
    let low : c ≤ 2 ^ 24 = omega arith in
    let high : c + 1 ≤ 2 ^ 24 = omega arith in
    let p = whole_plain binary32 c low in
    let e = whole-size binary32 c low in
    let N = num x * den s + num s * den x in
    let C = den x * den s in
    let is : float c ⊕ s ≡ round binary32 false N C = add_is binary32 x s p u.0 in
    let r = round binary32 false N C in
    let most = up_to binary32 (c + 1) N C (holds-whole binary32 (c + 1) high) (mul-pos (den_pos x) (den_pos s)) (sum-high c (num x) (den x) (num s) (den s) e u.1) in
    let least : c * den r ≤ num r * 1 =
    at_least binary32 c 1 N C (holds-whole binary32 c low) (omega arith) (mul-pos (den_pos x) (den_pos s)) (sum_low c (num x) (den x) (num s) (den s) e) most.0 in
    subst (Between c (c + 1)) (sym is) (most.0, le_trans least (le_of_eq (mul-one (num r))), most.1)

whole-between : (c : ℕ) → c ≤ 2 ^ 24 → Between c (c + 1) (float c)
whole-between c h =
    let e = whole-size binary32 c h in
    let x = float c in
    (whole_plain binary32 c h, le_of_eq (sym e), le_trans (le_of_eq e) (mul-le-mul_right (den x) (let l : c ≤ c + 1 = omega arith in l)))

-- the point z below zero, and the next one not
pub crossing-between : (z : ℕ) (a b : Float) → z < 2 ^ 24 → Held binary32 a → Held binary32 b → T (negative a) → (T (negative b) → ⊥) → Between z (z + 1) (float z ⊕ fraction a b)
crossing-between z a b h p q n m = shift-share z (fraction a b) h (share-of-crossing a b p q (differ (negative a) (negative b) n m))
  where
    differ : (s t : Bool) → T s → (T t → ⊥) → T (unlike s t)
    differ true true x y = absurd (y tt)
    differ true false x y = tt
    differ false t x y = absurd x

-- the top of the box
pub top-between : (z : ℕ) → z ≤ 2 ^ 24 → Between z (z + 1) (float z)
top-between = whole-between
