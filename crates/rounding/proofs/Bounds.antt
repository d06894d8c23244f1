-- A fraction that is at most, or at least, a value of the format is so after rounding too; and which fractions are values of the format.
-- Assumes nothing.
use mathlib.Core.Path.{◌≡◌, sym, ap, ◌∙◌, subst}
use Prim.Native.Nat.{ℕ, zero, suc, ◌+◌, ◌-◌, ◌*◌, ◌%◌, ◌^◌, ◌≤◌, ◌<◌}
use native.Mathlib.Nat.{
  le_of_suc-le-suc,
  lt_of_not-le,
  not-le_of_lt,
  sub-add_cancel,
  lt_of_mul-lt-mul_right,
  le_trans,
  le_of_eq,
  lt_of_lt_of_le,
  zero-lt-suc,
  mul-one,
  mul_comm,
  mul_assoc,
  mul_right_comm,
  mul-le-mul_right,
  mul-lt-mul_of_pos_right,
  zero-mul,
}
use native.Mathlib.Omega.{arith}
use mathlib.Core.Bool.{Bool, true, false, ◌&&◌}
use lib.IntN.{ℤ, pos, negsuc}
use lib.Dec.{T, ltb, leb, eqb, ltb→lt, leb→le}
use lib.Pow.{shl_lt, pow_mono, pow-add, pow_pos, pow-lt}
use lib.Ieee.{Float, nan, inf, fin, Format, prec, emax, low, up, down, round, le, fits}
use lib.Ieee.Fits.{down_pos, reach, and_l, and_r}
use lib.Ieee.Exact.{HasValue, round_exact}
use lib.Ieee.Back.{round_whole}
use lib.Ieee.Order.{round_mono}
use lib.Ieee.Positive.{num, den, den_pos, value→cross, through}
use Rattle.rounding.specs.Values.{plain, Within, UpTo, Held, Holds}
use Rattle.rounding.proofs.Sign.{round-neg, neg_value, round-clear, either-sign, plain-finite}
use Rattle.rounding.proofs.Order.{value-plain, le-cross, plain-of-le}

-- ---- the order of two roundings, where one is known

-- a / c ≤ p / q, and p / q is rounded to n / d: then a / c is rounded to n / d at most
pub rounds-below : (f : Format) (a c p q n d : ℕ) → 0 < c → 0 < q → 0 < d → HasValue (round f false p q) false n d → a * q ≤ p * c
    → T (plain (round f false a c)) × (num (round f false a c) * d ≤ n * den (round f false a c))
rounds-below f a c p q n d C Q D v h =
    let x = round f false a c in
    let y = round f false p q in
    let l : T (le x y) = round_mono f a c p q C Q h in
    let py : T (plain y) = value-plain y n d v in
    let px : T (plain x) = plain-of-le x y (round-clear f a c) py l in
    (px, through (num x) (num y) n (den x) (den y) d (den_pos y) (le-cross x y px py l) (le_of_eq (value→cross y n d v)))

-- p / q ≤ a / c, and p / q is rounded to n / d: then a / c is rounded to n / d at least, unless it is rounded to an infinity
pub rounds-above : (f : Format) (a c p q n d : ℕ) → 0 < c → 0 < q → 0 < d → HasValue (round f false p q) false n d → p * c ≤ a * q
    → T (plain (round f false a c)) → n * den (round f false a c) ≤ num (round f false a c) * d
rounds-above f a c p q n d C Q D v h px =
    let x = round f false a c in
    let y = round f false p q in
    let py : T (plain y) = value-plain y n d v in
    through n (num y) (num x) d (den y) (den x) (den_pos y) (le_of_eq (sym (value→cross y n d v))) (le-cross y x py px (round_mono f p q a c Q C h))

-- ---- the same for a value of the format, which is rounded to itself

pub at_most : (f : Format) (p q a c : ℕ) → Holds f p q → 0 < q → 0 < c → a * q ≤ p * c → T (plain (round f false a c)) × (num (round f false a c) * q ≤ p * den (round f false a c))
at_most f p q a c v Q C h = rounds-below f a c p q p q C Q Q v h

pub at_least : (f : Format) (p q a c : ℕ) → Holds f p q → 0 < q → 0 < c → p * c ≤ a * q → T (plain (round f false a c)) → p * den (round f false a c) ≤ num (round f false a c) * q
at_least f p q a c v Q C h px = rounds-above f a c p q p q C Q Q v h px

-- for a whole number n
pub up_to : (f : Format) (n a c : ℕ) → Holds f n 1 → 0 < c → a ≤ n * c → UpTo n (round f false a c)
up_to f n a c v C h =
    let r = at_most f n 1 a c v (zero-lt-suc 0) C (le_trans (le_of_eq (mul-one a)) h) in
    (r.0, le_trans (le_of_eq (sym (mul-one (num (round f false a c))))) r.1)

pub within : (f : Format) (s : Bool) (n a c : ℕ) → Holds f n 1 → 0 < c → a ≤ n * c → Within n (round f s a c)
within f s n a c v C h =
    let r = up_to f n a c v C h in
    either-sign f s a c n (plain-finite (round f false a c) r.0, r.1)

pub wider : (m n : ℕ) (x : Float) → m ≤ n → Within m x → Within n x
wider m n x h w = (w.0, le_trans w.1 (mul-le-mul_right (den x) h))

-- ---- values of a format

-- m * 2 ^ j, with an m of no more digits than the format keeps, below 2 ^ (emax + 1)
pub holds-times : (f : Format) (m j : ℕ) → m < 2 ^ prec f → m * 2 ^ j < 2 ^ suc (emax f) → Holds f (m * 2 ^ j) 1
holds-times f m j small h =
    round_exact f false (m * 2 ^ j) 1 m (j + low f) (zero-lt-suc 0) small
    (subst (λ (z : ℕ). z < 2 ^ (low f + suc (emax f))) moved
    (lt_of_lt_of_le (mul-lt-mul_of_pos_right h (pow_pos (low f))) (le_of_eq (mul_comm (2 ^ suc (emax f)) (2 ^ low f) ∙ sym (pow-add 2 (low f) (suc (emax f)))))))
    (moved ∙ sym (mul-one (m * 2 ^ (j + low f))))
  where
    moved : m * 2 ^ j * 2 ^ low f ≡ m * 2 ^ (j + low f)
    moved = mul_assoc m (2 ^ j) (2 ^ low f) ∙ ap (λ (z : ℕ). m * z) (sym (pow-add 2 j (low f)))

-- m steps of 1 / 2 ^ j
pub holds-steps : (f : Format) (m j : ℕ) → m < 2 ^ prec f → j ≤ low f → Holds f m (2 ^ j)
holds-steps f m j small h =
    round_exact f false m (2 ^ j) m (low f - j) (pow_pos j) small
    (lt_of_lt_of_le (shl_lt (prec f) (low f - j) small) (pow_mono (room (prec f) (low f) (suc (emax f)) j (reach f))))
    (ap (λ (z : ℕ). m * 2 ^ z) (sym (sub-add_cancel h)) ∙ ap (λ (z : ℕ). m * z) (pow-add 2 (low f - j) j) ∙ sym (mul_assoc m (2 ^ (low f - j)) (2 ^ j)))
  where
    room : (p l e j : ℕ) → p ≤ e → p + (l - j) ≤ l + e
    room p l e j r = omega arith

-- each whole number that the format counts without a gap
pub holds-whole : (f : Format) (n : ℕ) → n ≤ 2 ^ prec f → Holds f n 1
holds-whole f n h = round_whole f false n h

-- each value of the format: m is odd, or 0, and 2 ^ e is not too low
lower : (j k : ℕ) → 2 ^ j ≤ 2 ^ k → j ≤ k
lower j k h = le_of_suc-le-suc (lt_of_not-le (λ (g : suc k ≤ j). not-le_of_lt (pow-lt g) h))

-- m * up e / down e, in units of the format's smallest value, is m * 2 ^ shift
shift : Format → ℤ → ℕ
shift f (pos k) = k + low f
shift f (negsuc k) = low f - suc k

shifted : (f : Format) (m : ℕ) (e : ℤ) → down e ≤ 2 ^ low f → m * up e * 2 ^ low f ≡ m * 2 ^ shift f e * down e
unfolding shift
shifted f m (pos k) h = mul_assoc m (2 ^ k) (2 ^ low f) ∙ ap (λ (z : ℕ). m * z) (sym (pow-add 2 k (low f))) ∙ sym (mul-one (m * 2 ^ (k + low f)))
shifted f m (negsuc k) h =
    ap (λ (z : ℕ). z * 2 ^ low f) (mul-one m)
    ∙ ap (λ (z : ℕ). m * 2 ^ z) (sym (sub-add_cancel (lower (suc k) (low f) h)))
    ∙ ap (λ (z : ℕ). m * z) (pow-add 2 (low f - suc k) (suc k))
    ∙ sym (mul_assoc m (2 ^ (low f - suc k)) (2 ^ suc k))

held-exact : (f : Format) (m : ℕ) (e : ℤ) → m < 2 ^ prec f → down e ≤ 2 ^ low f → m * up e < 2 ^ suc (emax f) * down e → Holds f (m * up e) (down e)
held-exact f m e small fine h =
    let eq : m * up e * 2 ^ low f ≡ m * 2 ^ shift f e * down e = shifted f m e fine in
    round_exact f false (m * up e) (down e) m (shift f e) (down_pos e) small
    (lt_of_mul-lt-mul_right (down e)
    (subst (λ (z : ℕ). z < 2 ^ (low f + suc (emax f)) * down e) eq
    (lt_of_lt_of_le (mul-lt-mul_of_pos_right h (pow_pos (low f)))
    (le_of_eq (mul_right_comm (2 ^ suc (emax f)) (down e) (2 ^ low f) ∙ ap (λ (z : ℕ). z * down e)
    (mul_comm (2 ^ suc (emax f)) (2 ^ low f) ∙ sym (pow-add 2 (low f) (suc (emax f)))))))))
    eq

pub holds-held : (f : Format) (x : Float) → Held f x → Holds f (num x) (den x)
unfolding fits
holds-held f nan h = absurd h.1
holds-held f (inf s) h = absurd h.1
holds-held f (fin s zero e) h =
    round_exact f false (0 * up e) (down e) 0 0 (down_pos e) (pow_pos (prec f)) (pow_pos (low f + suc (emax f)))
    (ap (λ (z : ℕ). z * 2 ^ low f) (zero-mul (up e)) ∙ zero-mul (2 ^ low f) ∙ sym (zero-mul (down e)))
holds-held f (fin s (suc m) e) h =
    let a : Bool = eqb (suc m % 2) 1 in
    let b : Bool = ltb (suc m) (2 ^ prec f) in
    let c : Bool = leb (down e) (2 ^ low f) in
    let d : Bool = ltb (suc m * up e) (2 ^ suc (emax f) * down e) in
    held-exact f (suc m) e
    (ltb→lt (suc m) (2 ^ prec f) (and_r a b (and_l (a && b) c (and_l (a && b && c) d h.0))))
    (leb→le (down e) (2 ^ low f) (and_r (a && b) c (and_l (a && b && c) d h.0)))
    (ltb→lt (suc m * up e) (2 ^ suc (emax f) * down e) (and_r (a && b && c) d h.0))

-- what the format holds is rounded to itself, at either sign
pub exact : (f : Format) (s : Bool) (p q : ℕ) → Holds f p q → HasValue (round f s p q) s p q
exact f false p q v = v
exact f true p q v = rw round-neg (neg_value (round f false p q) p q v)
