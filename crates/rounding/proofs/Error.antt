-- The error of one rounding: a fraction up to 2 ^ j moves by at most 2 ^ j / 2 ^ prec, either way. And a little above 1 is still rounded to 1 at most.
-- Assumes nothing.
use mathlib.Core.Path.{◌≡◌, refl, sym, ap, ◌∙◌, subst}
use Prim.Native.Nat.{ℕ, suc, ◌+◌, ◌-◌, ◌*◌, ◌/◌, ◌%◌, ◌^◌, ◌≤◌, ◌<◌, compare, Ordering}
use native.Mathlib.Nat.{
  le_refl,
  add-le-add,
  le_trans,
  le_of_eq,
  lt_of_le_of_lt,
  zero-lt-suc,
  lt-suc_self,
  mul-one,
  one-mul,
  mul_comm,
  mul_assoc,
  mul_left_comm,
  mul_right_comm,
  mul-le-mul_right,
  mul-le-mul_left,
  le_of_mul-le-mul_right,
  mul-pos,
  add-mul,
  suc-mul,
  mod-lt,
  div-add-mod',
  div-lt_iff_lt-mul,
  mul-lt-mul_of_pos_right,
}
use native.Mathlib.Omega.{arith}
use mathlib.Core.Bool.{false, not}
use lib.Dec.{T, is_le, compare_is_eq, eqb, leb→le, nleb→lt, eqb→eq, eqb_refl, lit≤}
use lib.Arith.{lt_of_le-ne}
use lib.Pow.{pow-add, pow_pos, pow-lt, pow_mono}
use lib.Ieee.{Format, binary32, binary64, prec, low, size, nearest, round}
use lib.Ieee.Digits.{size-le}
use lib.Ieee.Fits.{two, two-le_pos}
use lib.Ieee.Exact.{HasValue}
use lib.Ieee.Nearest.{closest}
use lib.Ieee.Order.{drop, kept}
use lib.Ieee.Scale.{grid, round_val, round_under}
use lib.Ieee.Positive.{num, den, value→cross}
use Rattle.rounding.specs.Values.{UpTo, Holds}
use Rattle.rounding.proofs.Sign.{plain-finite}
use Rattle.rounding.proofs.Bounds.{up_to, rounds-below, holds-whole}

-- ---- to the nearest whole number: off by half at most

abbrev Compared : Ordering → ℕ → ℕ → Type 0
Compared Ordering.lt a b = a < b
Compared Ordering.eq a b = a ≡ b
Compared Ordering.gt a b = b < a

compared : (a b : ℕ) → Compared (compare a b) a b
compared a b = go (compare a b) (leb→le a b) (nleb→lt a b) (eqb→eq a b) (λ (e : a ≡ b). subst (λ (x : ℕ). T (eqb a x)) e (eqb_refl a))
  where
    go : (o : Ordering) → (T (is_le o) → a ≤ b) → (T (not (is_le o)) → b < a) → (T (compare_is_eq o) → a ≡ b) → (a ≡ b → T (compare_is_eq o)) → Compared o a b
    go Ordering.lt h k e n = lt_of_le-ne (h tt) n
    go Ordering.eq h k e n = e tt
    go Ordering.gt h k e n = k tt

tie-most : (q u : ℕ) → (q + q % 2) * u ≤ q * u + u
tie-most q u = le_trans (mul-le-mul_right u (most q)) (le_of_eq (suc-mul q u))
  where
    most : (x : ℕ) → x + x % 2 ≤ suc x
    most x = omega arith

tie_least : (q u : ℕ) → q * u ≤ (q + q % 2) * u
tie_least q u = mul-le-mul_right u (least q)
  where
    least : (x : ℕ) → x ≤ x + x % 2
    least x = omega arith

nearest-above : (o : Ordering) (q r u n : ℕ) → q * u + r ≡ n → Compared o (r * 2) u → nearest q o * u * 2 ≤ n * 2 + u
nearest-above Ordering.lt q r u n e k = omega arith
nearest-above Ordering.eq q r u n e k = omega (arith, tie-most q u)
nearest-above Ordering.gt q r u n e k = omega (arith, suc-mul q u)

nearest-below : (o : Ordering) (q r u n : ℕ) → q * u + r ≡ n → r < u → Compared o (r * 2) u → n * 2 ≤ nearest q o * u * 2 + u
nearest-below Ordering.lt q r u n e l k = omega arith
nearest-below Ordering.eq q r u n e l k = omega (arith, tie_least q u)
nearest-below Ordering.gt q r u n e l k = omega (arith, suc-mul q u)

pub half-above : (n u : ℕ) → closest n u * u * 2 ≤ n * 2 + u
half-above n u = nearest-above (compare (n % u * 2) u) (n / u) (n % u) u n (div-add-mod' n u) (compared (n % u * 2) u)

pub half-below : (n u : ℕ) → 0 < u → n * 2 ≤ closest n u * u * 2 + u
half-below n u h = nearest-below (compare (n % u * 2) u) (n / u) (n % u) u n (div-add-mod' n u) (mod-lt n h) (compared (n % u * 2) u)

-- ---- the digits that `round` drops of a fraction up to 2 ^ j

unit-room : (f : Format) → prec f ≤ suc (low f)
unit-room binary32 = lit≤ tt
unit-room binary64 = lit≤ tt

dropped : (z p l j : ℕ) → 0 < p → p ≤ suc l → z ≤ suc (j + l) → z - p + (p - 1) ≤ j + l
dropped z p l j P Q h = omega arith

few-dropped : (f : Format) (a c j : ℕ) → 0 < c → a ≤ 2 ^ j * c → drop (prec f) (a * 2 ^ low f) c + (prec f - 1) ≤ j + low f
few-dropped f a c j C h =
    dropped (size (a * 2 ^ low f / c)) (prec f) (low f) j (two-le_pos (prec f) (two f)) (unit-room f)
    (size-le (a * 2 ^ low f / c) (suc (j + low f)) ((div-lt_iff_lt-mul C).1
    (lt_of_le_of_lt (mul-le-mul_right (2 ^ low f) h)
    (lt_of_le_of_lt (le_of_eq (mul_right_comm (2 ^ j) c (2 ^ low f) ∙ ap (λ (z : ℕ). z * c) (sym (pow-add 2 j (low f)))))
    (mul-lt-mul_of_pos_right (pow-lt (lt-suc_self (j + low f))) C)))))

-- ---- the error, in units of the format's smallest value

half-double : (f : Format) → 2 ^ prec f ≡ 2 ^ (prec f - 1) * 2
half-double binary32 = refl
half-double binary64 = refl

-- with K kept, T the weight of the dropped digits, H half of P and U the bound: all over plain numbers
spread-above : (K c t N H P U : ℕ) → P ≡ H * 2 → t * H ≤ U → K * (c * t) * 2 ≤ N * 2 + c * t → K * t * (c * P) ≤ N * P + c * U
spread-above K c t N H P U e u h =
    let x : K * (c * t) * 2 * H ≤ (N * 2 + c * t) * H = mul-le-mul_right H h in
    let l : K * t * (c * P) ≡ K * (c * t) * 2 * H = rw e (simp (mul_assoc, mul_comm, mul_left_comm)) in
    let r : (N * 2 + c * t) * H ≡ N * P + c * (t * H) = rw e (simp (add-mul, mul_assoc, mul_comm, mul_left_comm)) in
    le_trans (le_of_eq l) (le_trans x (le_trans (le_of_eq r) (add-le-add (le_refl (N * P)) (mul-le-mul_left c u))))

spread-below : (K c t N H P U : ℕ) → P ≡ H * 2 → t * H ≤ U → N * 2 ≤ K * (c * t) * 2 + c * t → N * P ≤ K * t * (c * P) + c * U
spread-below K c t N H P U e u h =
    let x : N * 2 * H ≤ (K * (c * t) * 2 + c * t) * H = mul-le-mul_right H h in
    let l : N * P ≡ N * 2 * H = rw e (simp (mul_assoc, mul_comm, mul_left_comm)) in
    let r : (K * (c * t) * 2 + c * t) * H ≡ K * t * (c * P) + c * (t * H) = rw e (simp (add-mul, mul_assoc, mul_comm, mul_left_comm)) in
    le_trans (le_of_eq l) (le_trans x (le_trans (le_of_eq r) (add-le-add (le_refl (K * t * (c * P))) (mul-le-mul_left c u))))

step-bound : (f : Format) (a c j : ℕ) → 0 < c → a ≤ 2 ^ j * c → 2 ^ drop (prec f) (a * 2 ^ low f) c * 2 ^ (prec f - 1) ≤ 2 ^ (j + low f)
step-bound f a c j C h = le_trans (le_of_eq (sym (pow-add 2 (drop (prec f) (a * 2 ^ low f) c) (prec f - 1)))) (pow_mono (few-dropped f a c j C h))

grid-above : (f : Format) (a c j : ℕ) → 0 < c → a ≤ 2 ^ j * c → grid f a c * (c * 2 ^ prec f) ≤ a * 2 ^ low f * 2 ^ prec f + c * 2 ^ (j + low f)
grid-above f a c j C h =
    let n = a * 2 ^ low f in
    let t = 2 ^ drop (prec f) n c in
    spread-above (kept (prec f) n c) c t n (2 ^ (prec f - 1)) (2 ^ prec f) (2 ^ (j + low f)) (half-double f) (step-bound f a c j C h) (half-above n (c * t))

grid-below : (f : Format) (a c j : ℕ) → 0 < c → a ≤ 2 ^ j * c → a * 2 ^ low f * 2 ^ prec f ≤ grid f a c * (c * 2 ^ prec f) + c * 2 ^ (j + low f)
grid-below f a c j C h =
    let n = a * 2 ^ low f in
    let t = 2 ^ drop (prec f) n c in
    spread-below (kept (prec f) n c) c t n (2 ^ (prec f - 1)) (2 ^ prec f) (2 ^ (j + low f)) (half-double f) (step-bound f a c j C h)
    (half-below n (c * t) (mul-pos C (pow_pos (drop (prec f) n c))))

-- ---- the error of a rounded value X / D, which is G / L

off-above : (X D G L a c P J : ℕ) → 0 < L → X * L ≡ G * D → G * (c * P) ≤ a * L * P + c * (J * L) → X * (c * P) ≤ (a * P + J * c) * D
off-above X D G L a c P J h e g =
    let l : X * (c * P) * L ≡ G * (c * P) * D = mul_right_comm X (c * P) L ∙ ap (λ (z : ℕ). z * (c * P)) e ∙ mul_right_comm G D (c * P) in
    let r : (a * L * P + c * (J * L)) * D ≡ (a * P + J * c) * D * L = simp (add-mul, mul_assoc, mul_comm, mul_left_comm) in
    le_of_mul-le-mul_right (le_trans (le_of_eq l) (le_trans (mul-le-mul_right D g) (le_of_eq r))) h

off-below : (X D G L a c P J : ℕ) → 0 < L → X * L ≡ G * D → a * L * P ≤ G * (c * P) + c * (J * L) → a * P * D ≤ (X * P + J * D) * c
off-below X D G L a c P J h e g =
    let l : a * P * D * L ≡ a * L * P * D = simp (mul_assoc, mul_comm, mul_left_comm) in
    let m : G * D * (c * P) + c * (J * L) * D ≡ X * L * (c * P) + c * (J * L) * D = ap (λ (z : ℕ). z * (c * P) + c * (J * L) * D) (sym e) in
    let n : (G * (c * P) + c * (J * L)) * D ≡ G * D * (c * P) + c * (J * L) * D = simp (add-mul, mul_assoc, mul_comm, mul_left_comm) in
    let r : X * L * (c * P) + c * (J * L) * D ≡ (X * P + J * D) * c * L = simp (add-mul, mul_assoc, mul_comm, mul_left_comm) in
    le_of_mul-le-mul_right (le_trans (le_of_eq l) (le_trans (mul-le-mul_right D g) (le_of_eq (n ∙ m ∙ r)))) h

module _ (f : Format) (a c j : ℕ) (holds : Holds f (2 ^ j) 1) (C : 0 < c) (h : a ≤ 2 ^ j * c) where
  rounded-value : num (round f false a c) * 2 ^ low f ≡ grid f a c * den (round f false a c)
  rounded-value =
      let x = round f false a c in
      value→cross x (grid f a c) (2 ^ low f) (round_val f a c (round_under f a c (plain-finite x (up_to f (2 ^ j) a c holds C h).0)))

  -- at most a / c + 2 ^ j / 2 ^ prec
  pub error-above : num (round f false a c) * (c * 2 ^ prec f) ≤ (a * 2 ^ prec f + 2 ^ j * c) * den (round f false a c)
  error-above =
      let x = round f false a c in
      off-above (num x) (den x) (grid f a c) (2 ^ low f) a c (2 ^ prec f) (2 ^ j) (pow_pos (low f)) rounded-value
      (subst (λ (z : ℕ). grid f a c * (c * 2 ^ prec f) ≤ a * 2 ^ low f * 2 ^ prec f + c * z) (pow-add 2 j (low f)) (grid-above f a c j C h))

  -- at least a / c - 2 ^ j / 2 ^ prec
  pub error-below : a * 2 ^ prec f * den (round f false a c) ≤ (num (round f false a c) * 2 ^ prec f + 2 ^ j * den (round f false a c)) * c
  error-below =
      let x = round f false a c in
      off-below (num x) (den x) (grid f a c) (2 ^ low f) a c (2 ^ prec f) (2 ^ j) (pow_pos (low f)) rounded-value
      (subst (λ (z : ℕ). a * 2 ^ low f * 2 ^ prec f ≤ grid f a c * (c * 2 ^ prec f) + c * z) (pow-add 2 j (low f)) (grid-below f a c j C h))

-- up to 1: at most a / c + 1 / 2 ^ prec
pub little-above : (f : Format) (a c : ℕ) → 0 < c → a ≤ c → num (round f false a c) * (c * 2 ^ prec f) ≤ (a * 2 ^ prec f + c) * den (round f false a c)
little-above f a c C h =
    subst (λ (z : ℕ). num (round f false a c) * (c * 2 ^ prec f) ≤ (a * 2 ^ prec f + z) * den (round f false a c)) (one-mul c)
    (error-above f a c 0 (holds-whole f 1 (pow_pos (prec f))) C (le_trans h (le_of_eq (sym (one-mul c)))))

-- ---- 1 + 1 / 2 ^ prec is a tie, and goes to the even one, 1

tie : (f : Format) → HasValue (round f false (2 ^ prec f + 1) (2 ^ prec f)) false 1 1
unfolding round
tie binary32 = (refl, refl)
tie binary64 = (refl, refl)

pub rounds-to-one : (f : Format) (a c : ℕ) → 0 < c → a * 2 ^ prec f ≤ (2 ^ prec f + 1) * c → UpTo 1 (round f false a c)
rounds-to-one f a c C h =
    let r = rounds-below f a c (2 ^ prec f + 1) (2 ^ prec f) 1 1 C (pow_pos (prec f)) (zero-lt-suc 0) (tie f) h in
    (r.0, le_trans (le_of_eq (sym (mul-one (num (round f false a c))))) r.1)
