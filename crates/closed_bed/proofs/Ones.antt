-- Ones: (1 - t) + t is 1 for every t from 0 to 1, after its two roundings; ones are summed exactly, and n of them over n is 1. Assumes nothing.
use Prim.Native.Nat.{ℕ, ◌+◌, ◌-◌, ◌*◌, ◌/◌, ◌^◌, ◌≤◌, ◌<◌, zero-le}
use native.Mathlib.Nat.{le_refl, add-le-add, le_trans, le_of_eq, le_antisymm, lt_of_lt_of_le, mul-one, one-mul, zero-mul, mul_comm, mul_assoc, mul_left_comm, mul_right_comm, mul-le-mul_right, mul-le-mul_left, le_of_mul-le-mul_right, mul-pos, add-mul, sub-le, mul-sub, le-add_right, div-lt_iff_lt-mul, mul-lt-mul_of_pos_right}
use native.Mathlib.Omega.{arith}
use mathlib.Core.Bool.{true, false}
use mathlib.Core.Logic.{inl, inr}
use mathlib.Core.Path.{◌≡◌, refl, sym, ap, subst, ◌∙◌}
use lib.Dec.{T, lit≤, lit<, eqb→eq}
use lib.Pow.{pow-add, pow_pos, pow_mono}
use lib.IntN.{pos}
use lib.Ieee.{Float, nan, inf, fin, binary32, up, size, round, add, sub, mul, div, of_int, fits}
use lib.Ieee.Digits.{size-le}
use lib.Ieee.Exact.{HasValue}
use lib.Ieee.Fits.{add-fits, sub-fits}
use lib.Ieee.Back.{whole_unique, round_whole}
use lib.Ieee.Order.{drop, kept}
use lib.Ieee.Scale.{grid, round_val, round_under, round_same}
use lib.Ieee.Positive.{num, den, den_pos, value→cross}
use Rattle.lists.proofs.Tests.{less-or-not}
use Rattle.rules.specs.Cell.{one32}
use Rattle.rounding.specs.Values.{plain, weak, UpTo, Share, Held}
use Rattle.rounding.proofs.Sign.{plain-finite, plain-weak}
use Rattle.rounding.proofs.Order.{value-plain}
use Rattle.rounding.proofs.Bounds.{up_to, rounds-above, holds-whole, holds-held, exact}
use Rattle.rounding.proofs.Error.{half-below}
use Rattle.rounding.proofs.Operations.{add_is, mul_is, mul-up, div_is, of-whole}
use Rattle.rounding.proofs.Mixing.{mix, mul-part, one_less, rest_up, mix-up}
use Rattle.closed_bed.proofs.Tiny.{size-value}

one-fits : T (fits binary32 one32)
unfolding fits
one-fits = tt

single : round binary32 false 1 1 ≡ one32
unfolding round
single = refl

-- ---- the error below a fraction that is under 1: 2 ^ -25 at most

-- K units of t, each the nearest to N, of which 2 ^ 24 are no more than L
near-units : (K c t N H L : ℕ) → t * H ≤ L → N * 2 ≤ K * (c * t) * 2 + c * t → N * (H * 2) ≤ K * t * (c * (H * 2)) + c * L
near-units K c t N H L u h =
    let x : N * 2 * H ≤ (K * (c * t) * 2 + c * t) * H = mul-le-mul_right H h in
    let l : N * (H * 2) ≡ N * 2 * H = simp (mul_assoc, mul_comm, mul_left_comm) in
    let r : (K * (c * t) * 2 + c * t) * H ≡ K * t * (c * (H * 2)) + c * (t * H) = simp (add-mul, mul_assoc, mul_comm, mul_left_comm) in
    le_trans (le_of_eq l) (le_trans x (le_trans (le_of_eq r) (add-le-add (le_refl (K * t * (c * (H * 2)))) (mul-le-mul_left c u))))

-- the same of the rounded value X / D, which is G / L
near-value : (X D G L a c P : ℕ) → 0 < L → X * L ≡ G * D → a * L * P ≤ G * (c * P) + c * L → a * P * D ≤ (X * P + D) * c
near-value X D G L a c P L0 e g =
    let l : a * P * D * L ≡ a * L * P * D = simp (mul_assoc, mul_comm, mul_left_comm) in
    let n : (G * (c * P) + c * L) * D ≡ G * D * (c * P) + c * L * D = simp (add-mul, mul_assoc, mul_comm, mul_left_comm) in
    let m : G * D * (c * P) + c * L * D ≡ X * L * (c * P) + c * L * D = ap (λ (z : ℕ). z * (c * P) + c * L * D) (sym e) in
    let r : X * L * (c * P) + c * L * D ≡ (X * P + D) * c * L = simp (add-mul, mul_assoc, mul_comm, mul_left_comm) in
    le_of_mul-le-mul_right (le_trans (le_of_eq l) (le_trans (mul-le-mul_right D g) (le_of_eq (n ∙ m ∙ r)))) L0

-- the digits that are dropped of a fraction under 1
few-digits : (a c : ℕ) → 0 < c → a < c → drop 24 (a * 2 ^ 149) c + 24 ≤ 149
few-digits a c C h =
    let s : size (a * 2 ^ 149 / c) ≤ 149 =
    size-le (a * 2 ^ 149 / c) 149 ((div-lt_iff_lt-mul C).1 (lt_of_lt_of_le (mul-lt-mul_of_pos_right h (pow_pos 149)) (le_of_eq (mul_comm c (2 ^ 149))))) in
    omega arith

under_one : (a c : ℕ) → 0 < c → a < c → a * 2 ^ 25 * den (round binary32 false a c) ≤ (num (round binary32 false a c) * 2 ^ 25 + den (round binary32 false a c)) * c
under_one a c C h =
    let x = round binary32 false a c in
    let n = a * 2 ^ 149 in
    let k = drop 24 n c in
    let small : a ≤ 1 * c = le_trans (omega arith) (le_of_eq (sym (one-mul c))) in
    let v : num x * 2 ^ 149 ≡ grid binary32 a c * den x =
    value→cross x (grid binary32 a c) (2 ^ 149) (round_val binary32 a c (round_under binary32 a c (plain-finite x (up_to binary32 1 a c (holds-whole binary32 1 (lit≤ tt)) C small).0))) in
    let t : 2 ^ k * 2 ^ 24 ≤ 2 ^ 149 = le_trans (le_of_eq (sym (pow-add 2 k 24))) (pow_mono (few-digits a c C h)) in
    near-value (num x) (den x) (grid binary32 a c) (2 ^ 149) a c (2 ^ 25) (pow_pos 149) v
    (near-units (kept 24 n c) c (2 ^ k) n (2 ^ 24) (2 ^ 149) t (half-below n (c * 2 ^ k) (mul-pos C (pow_pos k))))

-- up to 1
pub near-below : (a c : ℕ) → 0 < c → a ≤ c → a * 2 ^ 25 * den (round binary32 false a c) ≤ (num (round binary32 false a c) * 2 ^ 25 + den (round binary32 false a c)) * c
near-below a c C h =
    elim (less-or-not a c) [
      | inl l ↦ under_one a c C l
      | inr l ↦
          let e : a ≡ c = omega arith in
          let one' : round binary32 false a c ≡ one32 = round_same binary32 false a c 1 1 C (lit< tt) (mul-one a ∙ e ∙ sym (one-mul c)) ∙ single in
          subst (λ (x : Float). a * 2 ^ 25 * den x ≤ (num x * 2 ^ 25 + den x) * c) (sym one') (whole-one a c (2 ^ 25) e)
    ]
  where
    whole-one : (a c P : ℕ) → a ≡ c → a * P * 1 ≤ (1 * P + 1) * c
    whole-one a c P e = le_trans (le_of_eq (mul-one (a * P) ∙ ap (λ (z : ℕ). z * P) e ∙ mul_comm c P)) (le_trans (le-add_right (P * c) c) (le_of_eq shape))
      where
        shape : P * c + c ≡ (1 * P + 1) * c
        shape = simp (add-mul, one-mul)

-- ---- (1 - t) + t

-- 1 - 2 ^ -25 is a tie, and goes to the even one, 1
tie-below : HasValue (round binary32 false (2 ^ 25 - 1) (2 ^ 25)) false 1 1
unfolding round
tie-below = (refl, refl)

-- a product with 1 is no less
mul-one-least : (x : Float) → Held binary32 x → T (weak x) → num x * den (mul binary32 x one32) ≤ num (mul binary32 x one32) * den x
mul-one-least nan h w = absurd w
mul-one-least (inf s) h w = absurd w
mul-one-least (fin true m e) h w =
    let x = fin true m e in
    let z : m * up e ≡ 0 = ap (λ (n : ℕ). n * up e) (eqb→eq m 0 w) ∙ zero-mul (up e) in
    le_trans (le_of_eq (ap (λ (n : ℕ). n * den (mul binary32 x one32)) z ∙ zero-mul (den (mul binary32 x one32)))) zero-le
mul-one-least (fin false m e) h w =
    let x = fin false m e in
    let N = num x * 1 in
    let C = den x * 1 in
    let is : mul binary32 x one32 ≡ round binary32 false N C = mul_is binary32 x one32 tt tt in
    let v = exact binary32 false (num x) (den x) (holds-held binary32 x h) in
    let same : round binary32 false N C ≡ round binary32 false (num x) (den x) =
    round_same binary32 false N C (num x) (den x) (mul-pos (den_pos x) (lit< tt)) (den_pos x) (ap (λ (z : ℕ). z * den x) (mul-one (num x)) ∙ ap (λ (z : ℕ). num x * z) (sym (mul-one (den x)))) in
    subst (λ (y : Float). num x * den y ≤ num y * den x) (sym (is ∙ same)) (le_of_eq (sym (value→cross (round binary32 false (num x) (den x)) (num x) (den x) v)))

pub one_kept : (t : Float) → Held binary32 t → Share t → add binary32 (mul binary32 (sub binary32 one32 t) one32) (mul binary32 t one32) ≡ one32
one_kept t k h =
    let g = sub binary32 one32 t in
    let gu = rest_up binary32 t h in
    let gh : Held binary32 g = (sub-fits binary32 one32 t, plain-finite g gu.0) in
    let p = mul binary32 g one32 in
    let q = mul binary32 t one32 in
    let S = add binary32 p q in
    let most : UpTo 1 S = mix-up binary32 t one32 one32 k h (tt, lit≤ tt) (tt, lit≤ tt) in
    let pu : T (plain p) = (mul-up binary32 1 1 g one32 (holds-whole binary32 1 (lit≤ tt)) gu (tt, lit≤ tt)).0 in
    let qw : T (weak q) = (mul-part binary32 t one32 k h.0 (tt, lit≤ tt)).0 in
    let N = num p * den q + num q * den p in
    let C = den p * den q in
    let is : S ≡ round binary32 false N C = add_is binary32 p q pu qw in
    let near : (den t - num t) * 2 ^ 25 * den g ≤ (num g * 2 ^ 25 + den g) * den t =
    subst (λ (x : Float). (den t - num t) * 2 ^ 25 * den x ≤ (num x * 2 ^ 25 + den x) * den t) (sym (one_less binary32 t h)) (near-below (den t - num t) (den t) (den_pos t) (sub-le (den t) (num t))) in
    let least : (2 ^ 25 - 1) * C ≤ N * 2 ^ 25 =
    enough (num p) (den p) (num q) (den q) (num g) (den g) (num t) (den t) (2 ^ 25) (den_pos g) (den_pos t) h.1
    (mul-one-least g gh (plain-weak g gu.0)) (mul-one-least t k h.0) near in
    let low : 1 * den S ≤ num S * 1 =
    subst (λ (x : Float). 1 * den x ≤ num x * 1) (sym is)
    (rounds-above binary32 N C (2 ^ 25 - 1) (2 ^ 25) 1 1 (mul-pos (den_pos p) (den_pos q)) (pow_pos 25) (lit< tt) tie-below least (subst (λ (x : Float). T (plain x)) is most.0)) in
    let same : num S ≡ 1 * den S = le_antisymm most.1 (le_trans low (le_of_eq (mul-one (num S)))) in
    whole_unique binary32 S one32 false 1 (add-fits binary32 p q) one-fits (size-value 1 S most.0 same) (refl, refl)
  where
    rest : (G L F C A : ℕ) → F ≤ C → (C - F) * A * L ≤ (G * A + L) * C → (A - 1) * (L * C) ≤ (G * C + F * L) * A
    rest G L F C A f w =
        let e : C - F + F ≡ C = omega arith in
        let split : (C - F) * A * L + F * A * L ≡ C * A * L = simp (← add-mul) (ap (λ (z : ℕ). z * A * L) e) in
        let l : C * A * L ≡ A * (L * C) = simp (mul_assoc, mul_comm, mul_left_comm) in
        let r : (G * A + L) * C + F * A * L ≡ (G * C + F * L) * A + L * C = simp (add-mul, mul_assoc, mul_comm, mul_left_comm) (omega arith) in
        less A (L * C) ((G * C + F * L) * A) (le_trans (le_of_eq (sym l ∙ sym split)) (le_trans (add-le-add w (le_refl (F * A * L))) (le_of_eq r)))
      where
        less : (A M R : ℕ) → A * M ≤ R + M → (A - 1) * M ≤ R
        less A M R h = omega (arith, mul_comm (A - 1) M, mul-sub M A 1, mul_comm A M, mul-one M)

    -- p and q are no less than g and t, and g + t is no less than 1 - 1 / A
    enough : (P dp Q dq G L F C A : ℕ) → 0 < L → 0 < C → F ≤ C → G * dp ≤ P * L → F * dq ≤ Q * C → (C - F) * A * L ≤ (G * A + L) * C → (A - 1) * (dp * dq) ≤ (P * dq + Q * dp) * A
    enough P dp Q dq G L F C A L0 C0 f u v w =
        let whole : (A - 1) * (L * C) ≤ (G * C + F * L) * A = rest G L F C A f w in
        let mixed : (G * C + F * L) * (dp * dq) ≤ (P * dq + Q * dp) * (L * C) = mix G L F C P dp Q dq u v in
        le_of_mul-le-mul_right
        (le_trans (le_of_eq (mul_right_comm (A - 1) (dp * dq) (L * C)))
        (le_trans (mul-le-mul_right (dp * dq) whole)
        (le_trans (le_of_eq (mul_right_comm (G * C + F * L) A (dp * dq)))
        (le_trans (mul-le-mul_right A mixed) (le_of_eq (mul_right_comm (P * dq + Q * dp) (L * C) A))))))
        (mul-pos L0 C0)

-- ---- n ones

pub ones-add : (k : ℕ) (x : Float) → k + 1 ≤ 2 ^ 24 → HasValue x false k 1 → HasValue (add binary32 x one32) false (k + 1) 1
ones-add k x h v =
    let p = value-plain x k 1 v in
    let e : num x * 1 ≡ k * den x = value→cross x k 1 v in
    let s : (num x * 1 + 1 * den x) * 1 ≡ (k + 1) * (den x * 1) = mul-one (num x * 1 + 1 * den x) ∙ ap (λ (z : ℕ). z + 1 * den x) e ∙ sym (add-mul k 1 (den x)) ∙ ap (λ (z : ℕ). (k + 1) * z) (sym (mul-one (den x))) in
    subst (λ (z : Float). HasValue z false (k + 1) 1)
    (sym (add_is binary32 x one32 p tt ∙ round_same binary32 false (num x * 1 + 1 * den x) (den x * 1) (k + 1) 1 (mul-pos (den_pos x) (lit< tt)) (lit< tt) s))
    (round_whole binary32 false (k + 1) h)

pub ones_over : (k : ℕ) (x : Float) → 0 < k → k ≤ 2 ^ 24 → HasValue x false k 1 → div binary32 x (of_int binary32 (pos k)) ≡ one32
ones_over k x K h v =
    let y = of_int binary32 (pos k) in
    let w = of-whole binary32 k h in
    let e : num y * 1 ≡ k * den y = value→cross y k 1 w in
    let d : num x * 1 ≡ k * den x = value→cross x k 1 v in
    let y0 : 0 < num y = subst (λ (z : ℕ). 0 < z) (sym e ∙ mul-one (num y)) (mul-pos K (den_pos y)) in
    let s : num x * den y * 1 ≡ 1 * (num y * den x) =
    mul-one (num x * den y)
    ∙ ap (λ (z : ℕ). z * den y) (sym (mul-one (num x)) ∙ d)
    ∙ mul_right_comm k (den x) (den y)
    ∙ ap (λ (z : ℕ). z * den x) (sym e ∙ mul-one (num y))
    ∙ sym (one-mul (num y * den x)) in
    div_is binary32 x y (value-plain x k 1 v) (value-plain y k 1 w) y0
    ∙ round_same binary32 false (num x * den y) (num y * den x) 1 1 (mul-pos y0 (den_pos x)) (lit< tt) s
    ∙ single
