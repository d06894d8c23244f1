-- One coordinate: the test by comparisons of floats is the definition's, and the steps worked out on the bits are the whole part of 256·x.
-- Assumes nothing.
use Prim.Native.Nat.{ℕ, zero, suc, ◌+◌, ◌-◌, ◌*◌, ◌/◌, ◌%◌, ◌^◌, ◌≤◌, ◌<◌}
use native.Mathlib.Nat.{le_trans, le_of_eq, lt_of_lt_of_le, not-le_of_lt, zero-mul, mul-one, mul_assoc, mul_right_comm, mul-le-mul, mul-le-mul_left, mul-le-mul_right, le_of_mul-le-mul_right, mul-pos, div-eq_of_lt}
use native.Mathlib.Omega.{arith}
use mathlib.Core.Bool.{Bool, true, false, not, ◌&&◌, ◌||◌, cond, true≢false}
use mathlib.Core.Logic.{◌⊎◌, inl, inr}
use mathlib.Core.Path.{◌≡◌, refl, sym, ap, subst, ◌∙◌}
use borrow.Author.Tests.{ne_eqb, eq-eqb, lt-ltb, le-ltb, ltb-false}
use lib.Dec.{T, leb, ltb, eqb, ltb→lt, lt→ltb, nltb→le, eqb→eq, eqb-zero-suc, eqb-suc-zero, T_not, not_T, lit≤, lit<}
use lib.IntN.{pos}
use lib.Pow.{pow_pos, pow_mono, pow-add}
use lib.Ieee.{Float, nan, inf, fin, up, down, lt, eq, le, binary32, odd, of_fields, of_bits, to_bits, fits, is_nan}
use lib.Ieee.Bits.{is_true, of_bits-to_bits}
use lib.Ieee.Exact.{HasValue, odd_sign}
use lib.Ieee.Fits.{up_pos, down_pos}
use lib.Ieee.Nearest.{div_mono, div_same}
use Rattle.lists.proofs.Tests.{same_test, nor-left, nor-right, nor-both, less-or-not}
use Rattle.volume.specs.Steps.{is_past, past, outside, steps, places_of}

-- ---- permitted: 0 ≤ x and x ≤ 128, or x ≤ 2^24, as floats compare

zero-first : (n : ℕ) → eqb 0 n ≡ eqb n 0
zero-first zero = refl
zero-first (suc n) = eqb-zero-suc n ∙ sym (eqb-suc-zero n)

all_pass : (t r : Bool) → not ((t && true) && (true || r)) ≡ not t
all_pass true r = refl
all_pass false r = refl

below-nothing : (z n b : ℕ) (r : Bool) → z ≡ 0 → 0 < b → not ((eqb z n && eqb z 0) && (ltb 0 (n + b) || r)) ≡ not (eqb n 0)
below-nothing z n b r e h =
    rw (e, zero-first n, is_true (ltb 0 (n + b)) (lt→ltb 0 (n + b) (omega arith))) (all_pass (eqb n 0) r)

scaled-zero : (m u : ℕ) → 0 < u → eqb (m * u * 1) 0 ≡ eqb m 0
scaled-zero zero u h = ap (λ (n : ℕ). eqb (n * 1) 0) (zero-mul u)
scaled-zero (suc m) u h =
    let k : 0 < suc m * u = mul-pos (omega arith) h in
    ne_eqb (suc m * u * 1) 0 (λ e. absurd (omega arith)) ∙ sym (eqb-suc-zero m)

from_nothing : (z n : ℕ) → z ≡ 0 → (ltb z n || (eqb z n && true)) ≡ true
from_nothing z zero e = rw e refl
from_nothing z (suc n) e = rw (e, is_true (ltb 0 (suc n)) (lt→ltb 0 (suc n) (omega arith))) refl

and-true : (t : Bool) → T t → T (t && true)
and-true true h = tt
and-true false h = elim h [ ]

true-and : (t : Bool) → T (t && true) → T t
true-and true h = tt
true-and false h = elim h [ ]

at_most : (n b : ℕ) → not (ltb n b || (eqb n b && true)) ≡ ltb b n
at_most n b = same_test (not (ltb n b || (eqb n b && true))) (ltb b n) forth back
  where
    forth : T (not (ltb n b || (eqb n b && true))) → T (ltb b n)
    forth h =
        let k : b ≤ n = nltb→le n b (nor-left (ltb n b) (eqb n b && true) h) in
        let d : n ≡ b → ⊥ = λ e. T_not (eqb n b && true) (nor-right (ltb n b) (eqb n b && true) h) (and-true (eqb n b) (subst T (sym (eq-eqb n b e)) tt)) in
        lt→ltb b n (omega arith)

    back : T (ltb b n) → T (not (ltb n b || (eqb n b && true)))
    back h =
        let k : b < n = ltb→lt b n h in
        nor-both (ltb n b) (eqb n b && true) (not_T (ltb n b) (λ t. absurd (omega (arith, ltb→lt n b t))))
        (not_T (eqb n b && true) (λ t. absurd (omega (arith, eqb→eq n b (true-and (eqb n b) t)))))

pub permitted-128 : (x : Float) → is_past (fin false 1 (pos 7)) x ≡ past 128 x
unfolding le lt eq past
permitted-128 nan = refl
permitted-128 (inf true) = refl
permitted-128 (inf false) = refl
permitted-128 (fin true m e) =
    below-nothing (0 * down e) (m * up e * 1) (128 * down e) _ (zero-mul (down e)) (mul-pos (lit< tt) (down_pos e)) ∙ ap not (scaled-zero m (up e) (up_pos e))
permitted-128 (fin false m e) =
    rw (from_nothing (0 * down e) (m * up e * 1) (zero-mul (down e)))
    (at_most (m * up e * 1) (128 * down e) ∙ ap (λ (n : ℕ). ltb (128 * down e) n) (mul-one (m * up e)))

pub permitted-16777216 : (x : Float) → is_past (fin false 1 (pos 24)) x ≡ past 16777216 x
unfolding le lt eq past
permitted-16777216 nan = refl
permitted-16777216 (inf true) = refl
permitted-16777216 (inf false) = refl
permitted-16777216 (fin true m e) =
    below-nothing (0 * down e) (m * up e * 1) (16777216 * down e) _ (zero-mul (down e)) (mul-pos (lit< tt) (down_pos e)) ∙ ap not (scaled-zero m (up e) (up_pos e))
permitted-16777216 (fin false m e) =
    rw (from_nothing (0 * down e) (m * up e * 1) (zero-mul (down e)))
    (at_most (m * up e * 1) (16777216 * down e) ∙ ap (λ (n : ℕ). ltb (16777216 * down e) n) (mul-one (m * up e)))

pub permitted_number : (n : ℕ) (x : Float) → T (not (past n x)) → T (not (is_nan x))
unfolding past is_nan
permitted_number n nan p = absurd p
permitted_number n (inf s) p = absurd p
permitted_number n (fin s m e) p = tt

-- what is within 128 is within 2^24
pub within : (x : Float) → past 128 x ≡ false → past 16777216 x ≡ false
unfolding past
within nan e = e
within (inf s) e = e
within (fin true m e) h = h
within (fin false m e) h = le-ltb (16777216 * down e) (m * up e) (omega (arith, ltb-false (128 * down e) (m * up e) h))

-- ---- the steps of a value given as a fraction

pub value-steps : (x : Float) (a c : ℕ) → 0 < c → HasValue x false a c → steps x ≡ 256 * a / c
unfolding steps
value-steps nan a c C h = absurd h
value-steps (inf s) a c C h = absurd h
value-steps (fin true m e) a c C h = absurd (true≢false h.0)
value-steps (fin false m e) a c C h =
    div_same (256 * (m * up e)) (down e) (256 * a) c (down_pos e) C (mul_assoc 256 (m * up e) c ∙ ap (λ (n : ℕ). 256 * n) h.1 ∙ sym (mul_assoc 256 a (down e)))

not-not : (t : Bool) → T (not (not t)) → T t
not-not true h = tt
not-not false h = elim h [ ]

-- a permitted value is at most 2^24, and is not below zero
value-near : (x : Float) (s : Bool) (a c : ℕ) → HasValue x s a c → T (not (past 16777216 x)) → a ≤ 16777216 * c
unfolding past
value-near nan s a c h p = absurd h
value-near (inf t) s a c h p = absurd h
value-near (fin true m e) s a c h p =
    let z : m ≡ 0 = eqb→eq m 0 (not-not (eqb m 0) p) in
    let k : m * up e * c ≡ 0 = ap (λ (n : ℕ). n * up e * c) z ∙ ap (λ (n : ℕ). n * c) (zero-mul (up e)) ∙ zero-mul c in
    le_of_mul-le-mul_right (omega (arith, h.1)) (down_pos e)
value-near (fin false m e) s a c h p =
    let k : m * up e * c ≤ 16777216 * down e * c = mul-le-mul_right c (nltb→le (16777216 * down e) (m * up e) p) in
    le_of_mul-le-mul_right (le_trans (le_of_eq (sym h.1)) (le_trans k (le_of_eq (mul_right_comm 16777216 (down e) c)))) (down_pos e)

value-positive : (x : Float) (a c : ℕ) → 0 < a → HasValue x true a c → T (not (past 16777216 x)) → ⊥
unfolding past
value-positive nan a c A h p = h
value-positive (inf t) a c A h p = h
value-positive (fin false m e) a c A h p = true≢false (sym h.0)
value-positive (fin true m e) a c A h p =
    let z : m ≡ 0 = eqb→eq m 0 (not-not (eqb m 0) p) in
    let k : m * up e * c ≡ 0 = ap (λ (n : ℕ). n * up e * c) z ∙ ap (λ (n : ℕ). n * c) (zero-mul (up e)) ∙ zero-mul c in
    let l : 0 < a * down e = mul-pos A (down_pos e) in
    absurd (omega (arith, h.1))

-- 2^24 is 2^32 steps
pub steps-low : (x : Float) → T (not (past 16777216 x)) → steps x ≤ 2 ^ 32
unfolding steps past
steps-low nan p = absurd p
steps-low (inf s) p = absurd p
steps-low (fin true m e) p = omega arith
steps-low (fin false m e) p =
    div_mono (256 * (m * up e)) (down e) 4294967296 1 (down_pos e) (lit< tt)
    (omega (arith, nltb→le (16777216 * down e) (m * up e) p, mul-one (256 * (m * up e))))

-- 128 is 2^15 steps
pub steps-near : (x : Float) → T (not (outside x)) → steps x ≤ 2 ^ 15
unfolding steps past
steps-near nan p = absurd p
steps-near (inf s) p = absurd p
steps-near (fin true m e) p = omega arith
steps-near (fin false m e) p =
    div_mono (256 * (m * up e)) (down e) 32768 1 (down_pos e) (lit< tt)
    (omega (arith, nltb→le (128 * down e) (m * up e) p, mul-one (256 * (m * up e))))

-- ---- the steps by the bits' fields: exponent E and digits t

steps-odd : (s : Bool) (q k : ℕ) → steps (odd 24 s q k 149) ≡ cond s 0 (256 * (q * 2 ^ k) / 2 ^ 149)
unfolding steps odd
steps-odd true zero k = refl
steps-odd true (suc q) k = refl
steps-odd false q k = value-steps (odd 24 false q k 149) (q * 2 ^ k) (2 ^ 149) (pow_pos 149) (odd_sign 24 false q k 149)

cond-nothing : (s : Bool) (n : ℕ) → n ≡ 0 → cond s 0 n ≡ 0
cond-nothing true n e = refl
cond-nothing false n e = e

-- below 1/256: fewer than 2^24 digits' units, each of at most 2^117 of the smallest values
little : (s : Bool) (q k : ℕ) → q < 2 ^ 24 → k ≤ 117 → steps (odd 24 s q k 149) ≡ 0
little s q k h l = steps-odd s q k ∙ cond-nothing s (256 * (q * 2 ^ k) / 2 ^ 149) (div-eq_of_lt (lt_of_lt_of_le less (lit≤ tt)))
  where
    less : 256 * (q * 2 ^ k) < 256 * (16777216 * 2 ^ 117)
    less = lt_of_lt_of_le (omega (arith, mul-le-mul_right (2 ^ k) h, pow_pos k)) (mul-le-mul_left 256 (mul-le-mul_left 16777216 (pow_mono l)))

small-fields : (s : Bool) (E t : ℕ) → E < 119 → t < 8388608 → steps (of_fields binary32 s E t) ≡ 0
unfolding of_fields
small-fields s zero t h l = little s t 0 (omega arith) (omega arith)
small-fields s (suc k) t h l = rw (ne_eqb (suc k) 255 (λ e. absurd (omega arith))) (little s (8388608 + t) k (omega arith) (omega arith))

-- 2^150 of the smallest values and 2^23 digits' units are 2^24
top-exponent : (s : Bool) (q k : ℕ) → 8388608 ≤ q → T (not (past 16777216 (odd 24 s q k 149))) → k ≤ 150
top-exponent s q k h p =
    let v : q * 2 ^ k ≤ 16777216 * 2 ^ 149 = value-near (odd 24 s q k 149) s (q * 2 ^ k) (2 ^ 149) (odd_sign 24 s q k 149) p in
    let w : 16777216 * 2 ^ 149 < 8388608 * 2 ^ 151 = lit< tt in
    elim (less-or-not 150 k) [ inl l ↦ absurd (not-le_of_lt (lt_of_lt_of_le w (mul-le-mul h (pow_mono l))) v) | inr g ↦ g ]

whole-steps : (s : Bool) (q k : ℕ) → 8388608 ≤ q → k ≤ 150 → T (not (past 16777216 (odd 24 s q k 149))) → steps (odd 24 s q k 149) ≡ 512 * q / 2 ^ (150 - k)
whole-steps true q k h l p = absurd (value-positive (odd 24 true q k 149) (q * 2 ^ k) (2 ^ 149) (mul-pos (omega arith) (pow_pos k)) (odd_sign 24 true q k 149) p)
whole-steps false q k h l p =
    steps-odd false q k ∙ div_same (256 * (q * 2 ^ k)) (2 ^ 149) (512 * q) (2 ^ (150 - k)) (pow_pos 149) (pow_pos (150 - k)) same
  where
    both : 2 ^ k * 2 ^ (150 - k) ≡ 2 * 2 ^ 149
    both =
        let e : k + (150 - k) ≡ 150 = omega arith in
        sym (pow-add 2 k (150 - k)) ∙ ap (λ (n : ℕ). 2 ^ n) e

    swapped : (n : ℕ) → 256 * (q * (2 * n)) ≡ 512 * q * n
    swapped n = omega arith

    same : 256 * (q * 2 ^ k) * 2 ^ (150 - k) ≡ 512 * q * 2 ^ 149
    same = mul_assoc 256 (q * 2 ^ k) (2 ^ (150 - k)) ∙ ap (λ (n : ℕ). 256 * n) (mul_assoc q (2 ^ k) (2 ^ (150 - k)) ∙ ap (λ (n : ℕ). q * n) both) ∙ swapped (2 ^ 149)

wild : (s z : Bool) → T (not (past 16777216 (cond z (inf s) nan))) → ⊥
unfolding past
wild s true p = p
wild s false p = p

large-fields : (s : Bool) (E t : ℕ) → 119 ≤ E → T (not (past 16777216 (of_fields binary32 s E t))) → (E ≤ 151) × (steps (of_fields binary32 s E t) ≡ 512 * (8388608 + t) / 2 ^ (151 - E))
unfolding of_fields
large-fields s zero t h p = absurd (omega arith)
large-fields s (suc k) t h p = go (eqb (suc k) 255) p
  where
    go : (b : Bool) → T (not (past 16777216 (cond b (cond (eqb t 0) (inf s) nan) (odd 24 s (8388608 + t) k 149))))
        → (suc k ≤ 151) × (steps (cond b (cond (eqb t 0) (inf s) nan) (odd 24 s (8388608 + t) k 149)) ≡ 512 * (8388608 + t) / 2 ^ (151 - suc k))
    go true p = absurd (wild s (eqb t 0) p)
    go false p =
        let l : k ≤ 150 = top-exponent s (8388608 + t) k (omega arith) p in
        let e : 150 - k ≡ 151 - suc k = omega arith in
        (omega arith, whole-steps s (8388608 + t) k (omega arith) l p ∙ ap (λ (n : ℕ). 512 * (8388608 + t) / 2 ^ n) e)

-- ---- and so by the bits

bits_small : (x : Float) → T (fits binary32 x) → to_bits binary32 x % 2147483648 / 8388608 < 119 → steps x ≡ 0
unfolding of_bits
bits_small x f h =
    let b = to_bits binary32 x in
    ap steps (sym (of_bits-to_bits binary32 x f)) ∙ small-fields (leb 2147483648 b) (b % 2147483648 / 8388608) (b % 8388608) h (omega arith)

bits-large : (x : Float) → T (fits binary32 x) → T (not (past 16777216 x)) → 119 ≤ to_bits binary32 x % 2147483648 / 8388608
    → (to_bits binary32 x % 2147483648 / 8388608 ≤ 151)
    × (steps x ≡ 512 * (8388608 + to_bits binary32 x % 8388608) / 2 ^ (151 - to_bits binary32 x % 2147483648 / 8388608))
unfolding of_bits
bits-large x f p h =
    let b = to_bits binary32 x in
    let r = large-fields (leb 2147483648 b) (b % 2147483648 / 8388608) (b % 8388608) h (subst (λ (y : Float). T (not (past 16777216 y))) (sym (of_bits-to_bits binary32 x f)) p) in
    (r.0, ap steps (sym (of_bits-to_bits binary32 x f)) ∙ r.1)

-- the shift without a branch
pub bits_steps : (x : Float) → T (fits binary32 x) → T (not (past 16777216 x))
    → (to_bits binary32 x % 2147483648 / 8388608 ≤ 151)
    × (steps x ≡ 512 * (8388608 + to_bits binary32 x % 8388608) / 2 ^ places_of (to_bits binary32 x % 2147483648 / 8388608))
bits_steps x f p = go (less-or-not (to_bits binary32 x % 2147483648 / 8388608) 119)
  where
    nothing : (e t : ℕ) → t < 8388608 → e < 119 → 512 * (8388608 + t) / 2 ^ places_of e ≡ 0
    nothing e t h l = ap (λ (n : ℕ). 512 * (8388608 + t) / 2 ^ n) (short e l) ∙ div-eq_of_lt (omega arith)
      where
        short : (e : ℕ) → e < 119 → places_of e ≡ 33
        short e l =
            elim (less-or-not e 118) [
              | inl k ↦ ap (λ (t : Bool). cond t 33 (151 - e)) (lt-ltb e 118 k)
              | inr k ↦ ap (λ (t : Bool). cond t 33 (151 - e)) (le-ltb e 118 k) ∙ omega arith
            ]

    go : (to_bits binary32 x % 2147483648 / 8388608 < 119) ⊎ (119 ≤ to_bits binary32 x % 2147483648 / 8388608)
        → (to_bits binary32 x % 2147483648 / 8388608 ≤ 151)
        × (steps x ≡ 512 * (8388608 + to_bits binary32 x % 8388608) / 2 ^ places_of (to_bits binary32 x % 2147483648 / 8388608))
    go (inl l) =
        let z : to_bits binary32 x % 8388608 < 8388608 = omega arith in
        (omega arith, bits_small x f l ∙ sym (nothing (to_bits binary32 x % 2147483648 / 8388608) (to_bits binary32 x % 8388608) z l))
    go (inr l) =
        let r = bits-large x f p l in
        let e : ltb (to_bits binary32 x % 2147483648 / 8388608) 118 ≡ false = le-ltb (to_bits binary32 x % 2147483648 / 8388608) 118 (omega arith) in
        (r.0, r.1 ∙ ap (λ (t : Bool). 512 * (8388608 + to_bits binary32 x % 8388608) / 2 ^ cond t 33 (151 - to_bits binary32 x % 2147483648 / 8388608)) (sym e))
