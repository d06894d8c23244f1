-- A mix (1 - t)·x + t·y of two numbers from 0 to 1, for a t from 0 to 1 that may be -0.0, is from 0 to 1 after its four roundings, and not -0.0.
-- The rounded 1 - t is at most 1 - t + 1 / 2 ^ prec, so the sum before its rounding is at most 1 + 1 / 2 ^ prec, which is rounded to 1. Assumes nothing.
use mathlib.Core.Path.{◌≡◌, sym, ap, ◌∙◌, subst}
use Prim.Native.Nat.{ℕ, ◌+◌, ◌-◌, ◌*◌, ◌^◌, ◌≤◌, ◌<◌, zero-le}
use native.Mathlib.Nat.{
  le_trans,
  le_of_eq,
  mul-one,
  one-mul,
  mul_comm,
  mul_assoc,
  mul_left_comm,
  mul_right_comm,
  mul-le-mul_right,
  mul-le-mul_left,
  le_of_mul-le-mul_right,
  mul-pos,
  add-mul,
  zero-mul,
  sub-le,
  sub-add_cancel,
  add-le-add,
  eq-zero-or-pos,
  lt_irrefl,
}
use native.Mathlib.Omega.{arith}
use mathlib.Core.Logic.{inl, inr}
use mathlib.Core.Bool.{true, false}
use lib.IntN.{pos}
use lib.Dec.{T, eqb→eq}
use lib.Arith.{le-zero}
use lib.Pow.{pow_pos}
use lib.Ieee.{Float, nan, inf, fin, Format, prec, up, down, round, add, sub, mul}
use lib.Ieee.Fits.{up_pos, down_pos, eq→eqb, sub-fits}
use lib.Ieee.Positive.{num, den, den_pos}
use Rattle.rounding.specs.Values.{weak, Within, UpTo, Share, Held}
use Rattle.rounding.proofs.Sign.{plain-finite, plain-weak}
use Rattle.rounding.proofs.Bounds.{at_most, up_to, within, holds-whole, holds-held}
use Rattle.rounding.proofs.Error.{little-above, rounds-to-one}
use Rattle.rounding.proofs.Operations.{add_is, less-is, mul-up}

-- ---- the sums, over plain numbers

-- p ≤ g and q ≤ f: then p + q ≤ g + f
pub mix : (P dp Q dq G L F C : ℕ) → P * L ≤ G * dp → Q * C ≤ F * dq → (P * dq + Q * dp) * (L * C) ≤ (G * C + F * L) * (dp * dq)
mix P dp Q dq G L F C h k =
    let a : P * dq * (L * C) ≤ G * C * (dp * dq) = simp (mul_assoc, mul_comm, mul_left_comm) (simp (mul_assoc, mul_comm, mul_left_comm) at (mul-le-mul_right (dq * C) h)) in
    let b : Q * dp * (L * C) ≤ F * L * (dp * dq) = simp (mul_assoc, mul_comm, mul_left_comm) (simp (mul_assoc, mul_comm, mul_left_comm) at (mul-le-mul_right (dp * L) k)) in
    le_trans (le_of_eq (add-mul (P * dq) (Q * dp) (L * C))) (le_trans (add-le-add a b) (le_of_eq (sym (add-mul (G * C) (F * L) (dp * dq)))))

-- g ≤ (1 - f) + 1 / A: then g + f ≤ 1 + 1 / A
pub whole : (G L F C A : ℕ) → F ≤ C → G * (C * A) ≤ ((C - F) * A + C) * L → (G * C + F * L) * A ≤ (A + 1) * (L * C)
whole G L F C A h k =
    let a : (G * C + F * L) * A ≡ G * (C * A) + F * (L * A) = simp (add-mul, mul_assoc) in
    let b : ((C - F) * A + C) * L ≡ (C - F) * (L * A) + L * C = simp (add-mul, mul_assoc, mul_comm, mul_left_comm) in
    let c : (C - F) * (L * A) + F * (L * A) ≡ C * (L * A) = sym (add-mul (C - F) F (L * A)) ∙ ap (λ (z : ℕ). z * (L * A)) (sub-add_cancel h) in
    let d : (A + 1) * (L * C) ≡ C * (L * A) + L * C = add-mul A 1 (L * C) ∙ turned in
    omega arith
  where
    turned : A * (L * C) + 1 * (L * C) ≡ C * (L * A) + L * C
    turned = ap (λ (z : ℕ). A * (L * C) + z) (one-mul (L * C)) ∙ ap (λ (z : ℕ). z + L * C) (simp (mul_comm, mul_left_comm))

-- so p + q ≤ 1 + 1 / A
both : (P dp Q dq G L F C A : ℕ) → 0 < L → 0 < C → F ≤ C → P * L ≤ G * dp → Q * C ≤ F * dq → G * (C * A) ≤ ((C - F) * A + C) * L → (P * dq + Q * dp) * A ≤ (A + 1) * (dp * dq)
both P dp Q dq G L F C A L0 C0 h k l m =
    le_of_mul-le-mul_right
    (le_trans (le_of_eq (mul_right_comm (P * dq + Q * dp) A (L * C)))
    (le_trans (mul-le-mul_right A (mix P dp Q dq G L F C k l))
    (le_trans (le_of_eq (mul_right_comm (G * C + F * L) (dp * dq) A))
    (le_trans (mul-le-mul_right (dp * dq) (whole G L F C A h m)) (le_of_eq (mul_right_comm (A + 1) (L * C) (dp * dq)))))))
    (mul-pos L0 C0)

-- ---- a product with a number from 0 to 1 is at most the other factor

-- what is 0 in size is a zero of either sign
pub nothing-weak : (x : Float) → Within 0 x → T (weak x) × (num x ≡ 0)
nothing-weak nan h = absurd h.0
nothing-weak (inf s) h = absurd h.0
nothing-weak (fin false m e) h = (tt, le-zero (le_trans h.1 (le_of_eq (zero-mul (down e)))))
nothing-weak (fin true m e) h =
    let z : m * up e ≡ 0 = le-zero (le_trans h.1 (le_of_eq (zero-mul (down e)))) in
    (elim (eq-zero-or-pos m) [ inl k ↦ eq→eqb k | inr k ↦ absurd (lt_irrefl 0 (subst (λ (n : ℕ). 0 < n) z (mul-pos k (up_pos e)))) ], z)

pub mul-part : (f : Format) (x y : Float) → Held f x → T (weak x) → UpTo 1 y → T (weak (mul f x y)) × (num (mul f x y) * den x ≤ num x * den (mul f x y))
unfolding mul
mul-part f nan y h w u = absurd w
mul-part f (inf s) y h w u = absurd w
mul-part f (fin s m e) nan h w u = absurd u.0
mul-part f (fin s m e) (inf t) h w u = absurd u.0
mul-part f (fin s m e) (fin true n d) h w u = absurd u.0
mul-part f (fin false m e) (fin false n d) h w u =
    let c = down e * down d in
    let r = at_most f (m * up e) (down e) (m * up e * (n * up d)) c (holds-held f (fin false m e) h) (down_pos e) (mul-pos (down_pos e) (down_pos d))
    (smaller (m * up e) (down e) (n * up d) (down d) u.1) in
    (plain-weak (round f false (m * up e * (n * up d)) c) r.0, r.1)
  where
    smaller : (X D Y E : ℕ) → Y ≤ 1 * E → X * Y * D ≤ X * (D * E)
    smaller X D Y E g = le_trans (le_of_eq (mul_assoc X Y D)) (mul-le-mul_left X (le_trans (mul-le-mul_right D g) (le_of_eq (ap (λ (z : ℕ). z * D) (one-mul E) ∙ mul_comm E D))))
mul-part f (fin true m e) (fin false n d) h w u =
    let c = down e * down d in
    let C : 0 < c = mul-pos (down_pos e) (down_pos d) in
    let a : m * up e * (n * up d) ≡ 0 = ap (λ (z : ℕ). z * up e * (n * up d)) (eqb→eq m 0 w) ∙ ap (λ (z : ℕ). z * (n * up d)) (zero-mul (up e)) ∙ zero-mul (n * up d) in
    let x = round f true (m * up e * (n * up d)) c in
    let r = nothing-weak x (within f true 0 (m * up e * (n * up d)) c (holds-whole f 0 zero-le) C (le_trans (le_of_eq a) zero-le)) in
    (r.0, le_trans (le_of_eq (ap (λ (z : ℕ). z * down e) r.1 ∙ zero-mul (down e))) zero-le)

-- ---- 1 - t, and the mix

abbrev one : Float
one = fin false 1 (pos 0)

pub one_less : (f : Format) (t : Float) → Share t → sub f one t ≡ round f false (den t - num t) (den t)
one_less f t h =
    less-is f one t tt h.0 (le_trans (le_of_eq (mul-one (num t))) (le_trans h.1 (le_of_eq (sym (one-mul (den t))))))
    ∙ ap (λ (z : ℕ). round f false (z - num t * 1) z) (one-mul (den t))
    ∙ ap (λ (z : ℕ). round f false (den t - z) (den t)) (mul-one (num t))

pub rest_up : (f : Format) (t : Float) → Share t → UpTo 1 (sub f one t)
rest_up f t h =
    rw (one_less f t h)
    (up_to f 1 (den t - num t) (den t) (holds-whole f 1 (pow_pos (prec f))) (den_pos t) (le_trans (sub-le (den t) (num t)) (le_of_eq (sym (one-mul (den t))))))

-- 1 - t is rounded to 1 - t + 1 / 2 ^ prec at most
pub rest-above : (f : Format) (t : Float) → Share t → num (sub f one t) * (den t * 2 ^ prec f) ≤ ((den t - num t) * 2 ^ prec f + den t) * den (sub f one t)
rest-above f t h = rw (one_less f t h) (little-above f (den t - num t) (den t) (den_pos t) (sub-le (den t) (num t)))

pub mix-up : (f : Format) (t x y : Float) → Held f t → Share t → UpTo 1 x → UpTo 1 y → UpTo 1 (add f (mul f (sub f one t) x) (mul f t y))
mix-up f t x y k h u v =
    let g = sub f one t in
    let gu = rest_up f t h in
    let p = mul f g x in
    let q = mul f t y in
    let pu : UpTo 1 p = mul-up f 1 1 g x (holds-whole f 1 (pow_pos (prec f))) gu u in
    let pl = mul-part f g x (sub-fits f one t, plain-finite g gu.0) (plain-weak g gu.0) u in
    let ql = mul-part f t y k h.0 v in
    rw (add_is f p q pu.0 ql.0)
    (rounds-to-one f (num p * den q + num q * den p) (den p * den q) (mul-pos (den_pos p) (den_pos q))
    (both (num p) (den p) (num q) (den q) (num g) (den g) (num t) (den t) (2 ^ prec f) (den_pos g) (den_pos t) h.1 pl.1 ql.1 (rest-above f t h)))
