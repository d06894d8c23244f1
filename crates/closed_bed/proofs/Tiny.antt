-- What is at most a few 2 ^ -25: sums and quotients of such numbers, and that one of them is lost on a whole number from 1 on. Assumes nothing.
use Prim.Native.Nat.{ℕ, ◌+◌, ◌-◌, ◌*◌, ◌/◌, ◌^◌, ◌≤◌, ◌<◌}
use native.Mathlib.Nat.{le_refl, add-le-add, le_trans, le_of_eq, le_antisymm, lt_of_lt_of_le, lt_of_le_of_lt, mul-one, one-mul, mul_comm, mul_assoc, mul_left_comm, mul_right_comm, mul-le-mul_right, le_of_mul-le-mul_left, le_of_mul-le-mul_right, lt_of_mul-lt-mul_left, lt_of_mul-lt-mul_right, le-add_right, not-le_of_lt, mul-pos, add-mul, mul-add, div-lt_iff_lt-mul, le-div_iff_mul-le, mul-lt-mul_of_pos_right}
use native.Mathlib.Omega.{arith}
use mathlib.Core.Bool.{true, false}
use mathlib.Core.Logic.{inl, inr}
use mathlib.Core.Path.{◌≡◌, refl, sym, ap, subst, ◌∙◌}
use lib.Dec.{T, lit≤, lit<}
use lib.Pow.{pow-add, pow_pos, pow_mono}
use lib.IntN.{pos}
use lib.Ieee.{Float, nan, inf, fin, binary32, size, round, add, div, of_int}
use lib.Ieee.Digits.{size-lt, size-le}
use lib.Ieee.Exact.{HasValue}
use lib.Ieee.Fits.{round-fits, of_int-fits}
use lib.Ieee.Back.{whole_unique}
use lib.Ieee.Order.{drop, kept}
use lib.Ieee.Scale.{grid, round_val, round_under}
use lib.Ieee.Positive.{num, den, den_pos, value→cross}
use Rattle.lists.proofs.Tests.{less-or-not}
use Rattle.rounding.specs.Values.{plain, UpTo}
use Rattle.rounding.proofs.Sign.{plain-finite, plain-weak}
use Rattle.rounding.proofs.Order.{value-plain}
use Rattle.rounding.proofs.Bounds.{at_most, at_least, up_to, holds-steps, holds-whole}
use Rattle.rounding.proofs.Error.{half-above}
use Rattle.rounding.proofs.Operations.{add_is, div_is, of-whole}
use Rattle.rounding.proofs.Whole.{whole_plain, whole-size}

-- from +0.0 up to n / 2 ^ 25
abbrev pub Tiny : ℕ → Float → Type 0
Tiny n x = T (plain x) × (num x * 2 ^ 25 ≤ n * den x)

-- ---- sums and quotients

cross-sum : (X D Y E P k : ℕ) → X * P ≤ k * D → Y * P ≤ 1 * E → (X * E + Y * D) * P ≤ (k + 1) * (D * E)
cross-sum X D Y E P k h i =
    le_trans (le_of_eq left) (le_trans (add-le-add (mul-le-mul_right E h) (mul-le-mul_right D i)) (le_of_eq right))
  where
    left : (X * E + Y * D) * P ≡ X * P * E + Y * P * D
    left = simp (add-mul, mul_assoc, mul_comm, mul_left_comm)

    right : k * D * E + 1 * E * D ≡ (k + 1) * (D * E)
    right = simp (add-mul, mul_assoc, mul_comm, mul_left_comm)

pub tiny-add : (k : ℕ) (x y : Float) → k + 1 < 2 ^ 24 → Tiny k x → Tiny 1 y → Tiny (k + 1) (add binary32 x y)
tiny-add k x y h p q =
    rw (add_is binary32 x y p.0 (plain-weak y q.0))
    (at_most binary32 (k + 1) (2 ^ 25) (num x * den y + num y * den x) (den x * den y) (holds-steps binary32 (k + 1) 25 h (lit≤ tt)) (pow_pos 25) (mul-pos (den_pos x) (den_pos y))
    (cross-sum (num x) (den x) (num y) (den y) (2 ^ 25) k p.1 q.1))

cross-share : (X D Y E P k : ℕ) → X * P ≤ k * D → Y * 1 ≡ k * E → X * E * P ≤ 1 * (Y * D)
cross-share X D Y E P k h e =
    le_trans (le_of_eq (mul_right_comm X E P)) (le_trans (mul-le-mul_right E h)
    (le_of_eq (mul_right_comm k D E ∙ ap (λ (z : ℕ). z * D) (sym e ∙ mul-one Y) ∙ sym (one-mul (Y * D)))))

pub tiny-div : (k : ℕ) (x : Float) → 0 < k → k ≤ 2 ^ 24 → Tiny k x → Tiny 1 (div binary32 x (of_int binary32 (pos k)))
tiny-div k x K h p =
    let y = of_int binary32 (pos k) in
    let v = of-whole binary32 k h in
    let e : num y * 1 ≡ k * den y = value→cross y k 1 v in
    let y0 : 0 < num y = subst (λ (z : ℕ). 0 < z) (sym e ∙ mul-one (num y)) (mul-pos K (den_pos y)) in
    rw (div_is binary32 x y p.0 (value-plain y k 1 v) y0)
    (at_most binary32 1 (2 ^ 25) (num x * den y) (num y * den x) (holds-steps binary32 1 25 (lit< tt) (lit≤ tt)) (pow_pos 25) (mul-pos y0 (den_pos x))
    (cross-share (num x) (den x) (num y) (den y) (2 ^ 25) k p.1 e))

-- ---- lost on a whole number

-- a value by its size
pub size-value : (c : ℕ) (x : Float) → T (plain x) → num x ≡ c * den x → HasValue x false c 1
size-value c nan p e = absurd p
size-value c (inf s) p e = absurd p
size-value c (fin true m e') p e = absurd p
size-value c (fin false m e') p e = (refl, mul-one (m * _) ∙ e)

-- K units of t, each the nearest to N: over plain numbers, where a unit is more than the rest
few-units : (K t w L C N a c B : ℕ) → 0 < C → 0 < t → 0 < B → L ≡ t * w → K * (C * t) * 2 ≤ N * 2 + C * t → N ≡ a * L → a * B ≤ (c * B + 1) * C → L * 2 * 2 ≤ t * B
    → K * t ≤ c * L
few-units K t w L C N a c B C0 t0 b0 l h n s r =
    let first : K * (C * t) * 2 * B ≤ (N * 2 + C * t) * B = mul-le-mul_right B h in
    let left : K * (C * t) * 2 * B ≡ C * (K * t * B * 2) = simp (mul_assoc, mul_comm, mul_left_comm) in
    let right : (N * 2 + C * t) * B ≡ a * B * (L * 2) + C * (t * B) = rw n (simp (add-mul, mul_assoc, mul_comm, mul_left_comm)) in
    let more : a * B * (L * 2) + C * (t * B) ≤ (c * B + 1) * C * (L * 2) + C * (t * B) = add-le-add (mul-le-mul_right (L * 2) s) (le_refl (C * (t * B))) in
    let shape : (c * B + 1) * C * (L * 2) + C * (t * B) ≡ C * (c * L * B * 2 + L * 2 + t * B) = simp (add-mul, mul-add, one-mul, mul_assoc, mul_comm, mul_left_comm) in
    let all : K * t * B * 2 ≤ c * L * B * 2 + L * 2 + t * B =
    le_of_mul-le-mul_left (le_trans (le_of_eq (sym left)) (le_trans first (le_trans (le_of_eq right) (le_trans more (le_of_eq shape))))) C0 in
    let unit : 0 < t * B = mul-pos t0 b0 in
    let less : K * t * B < c * L * B + t * B = omega arith in
    let x : t * B * K ≡ K * t * B = simp (mul_assoc, mul_comm, mul_left_comm) in
    let y : c * L * B + t * B ≡ t * B * (c * w + 1) = rw l (simp (mul-add, mul-one, mul_assoc, mul_comm, mul_left_comm)) in
    let few : K < c * w + 1 = lt_of_mul-lt-mul_left (t * B) (lt_of_le_of_lt (le_of_eq x) (lt_of_lt_of_le less (le_of_eq y))) in
    let most : K ≤ c * w = omega arith in
    let z : c * w * t ≡ c * L = rw l (simp (mul_assoc, mul_comm, mul_left_comm)) in
    le_trans (mul-le-mul_right t most) (le_of_eq z)

-- the digits that are dropped of a number from 1 up to 2 ^ 24
module _ (a C : ℕ) (C0 : 0 < C) (low : C ≤ a) (high : a < 2 ^ 24 * C) where
  at-least-149 : 2 ^ 149 ≤ a * 2 ^ 149 / C
  at-least-149 = (le-div_iff_mul-le C0).1 (le_trans (le_of_eq (mul_comm (2 ^ 149) C)) (mul-le-mul_right (2 ^ 149) low))

  many-digits : 149 < size (a * 2 ^ 149 / C)
  many-digits =
      elim (less-or-not 149 (size (a * 2 ^ 149 / C))) [
        | inl h ↦ h
        | inr h ↦ absurd (not-le_of_lt (size-lt (a * 2 ^ 149 / C)) (le_trans (pow_mono h) at-least-149))
      ]

  below-173 : a * 2 ^ 149 / C < 2 ^ 173
  below-173 =
      (div-lt_iff_lt-mul C0).1
      (lt_of_lt_of_le (mul-lt-mul_of_pos_right high (pow_pos 149)) (le_of_eq (mul_right_comm (2 ^ 24) C (2 ^ 149))))

  few-digits : size (a * 2 ^ 149 / C) ≤ 173
  few-digits = size-le (a * 2 ^ 149 / C) 173 below-173

  pub dropped : (126 ≤ drop 24 (a * 2 ^ 149) C) × (drop 24 (a * 2 ^ 149) C ≤ 149)
  dropped = (omega (arith, many-digits), omega (arith, few-digits))

-- c, and at most 2 ^ -25 more, is rounded to c at most
rounds-whole : (a C c : ℕ) → 0 < C → 1 ≤ c → c + 1 ≤ 2 ^ 24 → c * C ≤ a → a * 2 ^ 25 ≤ (c * 2 ^ 25 + 1) * C → UpTo c (round binary32 false a C)
rounds-whole a C c C0 c1 c2 h s =
    let x = round binary32 false a C in
    let n = a * 2 ^ 149 in
    let k = drop 24 n C in
    let next : a ≤ (c + 1) * C =
    le_of_mul-le-mul_right (le_trans s (le_trans (mul-le-mul_right C (room (2 ^ 25) (pow_pos 25))) (le_of_eq (mul_right_comm (c + 1) (2 ^ 25) C)))) (pow_pos 25) in
    let p : T (plain x) = (up_to binary32 (c + 1) a C (holds-whole binary32 (c + 1) c2) C0 next).0 in
    let low : C ≤ a = le_trans (le_trans (le_of_eq (sym (one-mul C))) (mul-le-mul_right C c1)) h in
    let d = dropped a C C0 low (lt_of_lt_of_le strict (mul-le-mul_right C c2)) in
    let e : 2 ^ 149 ≡ 2 ^ k * 2 ^ (149 - k) = let q : k + (149 - k) ≡ 149 = omega arith in ap (λ (z : ℕ). 2 ^ z) (sym q) ∙ pow-add 2 k (149 - k) in
    let r : 2 ^ 149 * 2 * 2 ≤ 2 ^ k * 2 ^ 25 = le_trans (le_of_eq refl) (mul-le-mul_right (2 ^ 25) (pow_mono d.0)) in
    let g : grid binary32 a C ≤ c * 2 ^ 149 =
    few-units (kept 24 n C) (2 ^ k) (2 ^ (149 - k)) (2 ^ 149) C n a c (2 ^ 25) C0 (pow_pos k) (pow_pos 25) e (half-above n (C * 2 ^ k)) refl s r in
    let v : num x * 2 ^ 149 ≡ grid binary32 a C * den x = value→cross x (grid binary32 a C) (2 ^ 149) (round_val binary32 a C (round_under binary32 a C (plain-finite x p))) in
    (p, le_of_mul-le-mul_right (le_trans (le_of_eq v) (le_trans (mul-le-mul_right (den x) g) (le_of_eq (mul_right_comm c (2 ^ 149) (den x))))) (pow_pos 149))
  where
    room : (B : ℕ) → 0 < B → c * B + 1 ≤ (c + 1) * B
    room B b = omega (arith, add-mul c 1 B, one-mul B)

    -- a is below 2 ^ 24 times C
    roomy : (B : ℕ) → 1 < B → c * B + 1 < (c + 1) * B
    roomy B b = omega (arith, add-mul c 1 B, one-mul B)

    strict : a < (c + 1) * C
    strict =
        lt_of_mul-lt-mul_right (2 ^ 25)
        (lt_of_le_of_lt s (lt_of_lt_of_le (mul-lt-mul_of_pos_right (roomy (2 ^ 25) (lit< tt)) C0) (le_of_eq (mul_right_comm (c + 1) (2 ^ 25) C))))

pub tiny-shift : (c : ℕ) (s : Float) → 1 ≤ c → c + 1 ≤ 2 ^ 24 → Tiny 1 s → add binary32 (of_int binary32 (pos c)) s ≡ of_int binary32 (pos c)
tiny-shift c s c1 c2 u =
    let x = of_int binary32 (pos c) in
    let h : c ≤ 2 ^ 24 = omega arith in
    let p = whole_plain binary32 c h in
    let e = whole-size binary32 c h in
    let N = num x * den s + num s * den x in
    let C = den x * den s in
    let C0 : 0 < C = mul-pos (den_pos x) (den_pos s) in
    let r = round binary32 false N C in
    let no_less : c * C ≤ N = shifted c (num x) (den x) (num s) (den s) e in
    let up' : UpTo c r = rounds-whole N C c C0 c1 c2 no_less (barely c (num x) (den x) (num s) (den s) (2 ^ 25) e u.1) in
    let low : c * den r ≤ num r * 1 = at_least binary32 c 1 N C (holds-whole binary32 c h) (lit< tt) C0 (le_trans no_less (le_of_eq (sym (mul-one N)))) up'.0 in
    let same : num r ≡ c * den r = le_antisymm up'.1 (le_trans low (le_of_eq (mul-one (num r)))) in
    add_is binary32 x s p (plain-weak s u.0)
    ∙ whole_unique binary32 r x false c (round-fits binary32 false N C) (of_int-fits binary32 (pos c)) (size-value c r up'.0 same) (of-whole binary32 c h)
  where
    shifted : (c X D Y E : ℕ) → X ≡ c * D → c * (D * E) ≤ X * E + Y * D
    shifted c X D Y E e = le_trans (le_of_eq (sym (mul_assoc c D E) ∙ ap (λ (z : ℕ). z * E) (sym e))) (le-add_right (X * E) (Y * D))

    barely : (c X D Y E B : ℕ) → X ≡ c * D → Y * B ≤ 1 * E → (X * E + Y * D) * B ≤ (c * B + 1) * (D * E)
    barely c X D Y E B e h =
        let left : (X * E + Y * D) * B ≡ c * B * (D * E) + Y * B * D = rw e (simp (add-mul, mul_assoc, mul_comm, mul_left_comm)) in
        let right : c * B * (D * E) + 1 * E * D ≡ (c * B + 1) * (D * E) = simp (add-mul, one-mul, mul_assoc, mul_comm, mul_left_comm) in
        le_trans (le_of_eq left) (le_trans (add-le-add (le_refl (c * B * (D * E))) (mul-le-mul_right D h)) (le_of_eq right))
