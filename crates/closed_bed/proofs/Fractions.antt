-- The fraction of an edge between a wall and a distance below zero that is 2 ^ 25 times less far: from the wall it is 1, and to the wall 2 ^ -25 at most. The sum
-- of the two sizes is rounded to the wall, which is a power of two. Assumes nothing.
use Prim.Native.Nat.{ℕ, zero, suc, ◌+◌, ◌*◌, ◌^◌, ◌≤◌, ◌<◌}
use native.Mathlib.Nat.{le_refl, add-le-add, le_trans, le_of_eq, le_antisymm, mul-one, one-mul, mul_comm, mul_assoc, mul_left_comm, mul_right_comm, mul-le-mul_right, le_of_mul-le-mul_right, mul-pos, add-mul, le-add_right, add_comm}
use native.Mathlib.Omega.{arith}
use mathlib.Core.Bool.{Bool, true, false, ◌&&◌, true≢false}
use mathlib.Core.Logic.{◌⊎◌, inl, inr}
use mathlib.Core.Path.{◌≡◌, refl, sym, ap, subst, ◌∙◌}
use borrow.Author.Tests.{eqb-true}
use lib.Count.{count_trailing_zeros}
use lib.Dec.{T, eqb, lit≤, lit<, ltb→lt}
use lib.Pow.{pow_pos}
use lib.IntN.{ℤ}
use lib.Ieee.{Float, nan, inf, fin, binary32, minus, up, down, round, size, span, climb, units, odd, neg, div, fits}
use lib.Ieee.Exact.{HasValue}
use lib.Ieee.Fits.{up_pos, down_pos}
use lib.Ieee.Scale.{round_same}
use lib.Ieee.Positive.{num, den, den_pos, first_pos}
use Rattle.lists.proofs.Tests.{less-or-not, is-test}
use Rattle.rules.specs.Cell.{one32, fraction}
use Rattle.rounding.specs.Values.{plain, below_zero, Held}
use Rattle.rounding.proofs.Sign.{round-neg}
use Rattle.rounding.proofs.Bounds.{at_most, at_least, rounds-below, holds-steps, holds-held}
use Rattle.rounding.proofs.Operations.{gap_up, gap_down, div-at, div_is}
use Rattle.closing.specs.Wall.{wall_at}
use Rattle.closed_bed.specs.Standing.{Deep}
use Rattle.closed_bed.proofs.Tiny.{Tiny}

-- ---- a power of two, and 2 ^ -24 of it more, is a tie that goes to the power: by computing, for each power that a wall can be

-- whether a float is the fraction a / c
is_fraction : ℕ → ℕ → Float → Bool
is_fraction a c nan = false
is_fraction a c (inf s) = false
is_fraction a c (fin true m e) = false
is_fraction a c (fin false m e) = eqb (m * up e * c) (a * down e)

is-fraction : (a c : ℕ) (x : Float) → is_fraction a c x ≡ true → HasValue x false a c
unfolding is_fraction
is-fraction a c nan h = absurd (true≢false (sym h))
is-fraction a c (inf s) h = absurd (true≢false (sym h))
is-fraction a c (fin true m e) h = absurd (true≢false (sym h))
is-fraction a c (fin false m e) h = (refl, eqb-true (m * up e * c) (a * down e) h)

abbrev exponent : ℕ → ℤ
exponent k = minus k 124

ties_down : ℕ → Bool
ties_down k = is_fraction (up (exponent k)) (down (exponent k)) (round binary32 false ((2 ^ 24 + 1) * up (exponent k)) (2 ^ 24 * down (exponent k)))

unfoldable pub all_below : (ℕ → Bool) → ℕ → Bool
all_below t zero = true
all_below t (suc n) = all_below t n && t n

pub all-below : (t : ℕ → Bool) (n : ℕ) → all_below t n ≡ true → (k : ℕ) → k < n → t k ≡ true
unfolding all_below
all-below t zero h k l = absurd (omega arith)
all-below t (suc n) h k l = go (all_below t n) (t n) refl refl h (less-or-not k n) (all-below t n)
  where
    go : (a b : Bool) → all_below t n ≡ a → t n ≡ b → (a && b) ≡ true → (k < n) ⊎ (n ≤ k) → (all_below t n ≡ true → (k : ℕ) → k < n → t k ≡ true) → t k ≡ true
    go false b p q h c r = absurd (true≢false (sym h))
    go true false p q h c r = absurd (true≢false (sym h))
    go true true p q h (inl c) r = r p k c
    go true true p q h (inr c) r = let e : k ≡ n = omega arith in ap t e ∙ q

ties-table : all_below ties_down 249 ≡ true
unfolding all_below ties_down is_fraction round size span climb units odd count_trailing_zeros
ties-table = refl

ties : (k : ℕ) → k < 249 → HasValue (round binary32 false ((2 ^ 24 + 1) * up (exponent k)) (2 ^ 24 * down (exponent k))) false (up (exponent k)) (down (exponent k))
unfolding ties_down
ties k h = is-fraction (up (exponent k)) (down (exponent k)) (round binary32 false ((2 ^ 24 + 1) * up (exponent k)) (2 ^ 24 * down (exponent k))) (all-below ties_down 249 ties-table k h)

single : round binary32 false 1 1 ≡ one32
unfolding round
single = refl

-- binary32 holds each of them
wall_fits : ℕ → Bool
wall_fits k = fits binary32 (wall_at k)

fits-table : all_below wall_fits 249 ≡ true
unfolding all_below wall_fits fits size span climb
fits-table = refl

pub wall-held : (k : ℕ) → k < 249 → Held binary32 (wall_at k)
unfolding wall_fits
wall-held k h = (is-test (fits binary32 (wall_at k)) (all-below wall_fits 249 fits-table k h), tt)

-- ---- the sum of the two sizes

-- U / D is the wall, n / e the distance
under : (U D n e A : ℕ) → n * (A * 2) * D ≤ U * e → (U * e + n * D) * (A * D) ≤ (A + 1) * U * (D * e)
under U D n e A h =
    let h' : n * A * D ≤ U * e = le_trans (le_trans (le-add_right (n * A * D) (n * A * D)) (le_of_eq twice)) h in
    le_trans (le_of_eq left) (le_trans (add-le-add (le_refl (A * U * (D * e))) (mul-le-mul_right D h')) (le_of_eq right))
  where
    twice : n * A * D + n * A * D ≡ n * (A * 2) * D
    twice = omega (arith, two-of (n * A * D), shape)
      where
        two-of : (z : ℕ) → z + z ≡ z * 2
        two-of z = omega arith

        shape : n * A * D * 2 ≡ n * (A * 2) * D
        shape = simp (mul_assoc, mul_comm, mul_left_comm)

    left : (U * e + n * D) * (A * D) ≡ A * U * (D * e) + n * A * D * D
    left = simp (add-mul, mul_assoc, mul_comm, mul_left_comm)

    right : A * U * (D * e) + U * e * D ≡ (A + 1) * U * (D * e)
    right = simp (add-mul, one-mul, mul_assoc, mul_comm, mul_left_comm)

over : (U D n e : ℕ) → U * (D * e) ≤ (U * e + n * D) * D
over U D n e = le_trans (le_of_eq shape) (le_trans (le-add_right (U * e * D) (n * D * D)) (le_of_eq (sym (add-mul (U * e) (n * D) D))))
  where
    shape : U * (D * e) ≡ U * e * D
    shape = simp (mul_assoc, mul_comm)

-- what the sum is rounded to: the wall's own value
pub record AsFar (wall r : Float) : Type 0 where
  pub clear : T (plain r)
  pub size : num r * den wall ≡ num wall * den r

module _ (k : ℕ) (few : k < 249) (held : Held binary32 (wall_at k)) where
  abbrev wall : Float
  wall = wall_at k

  as-far : (d : Float) → Deep wall d → (N C : ℕ) → N ≡ num wall * den d + num d * den wall → C ≡ den wall * den d → AsFar wall (round binary32 false N C)
  as-far d h N C n c =
      let U = up (exponent k) in
      let D = down (exponent k) in
      let C0 : 0 < C = subst (λ (z : ℕ). 0 < z) (sym c) (mul-pos (den_pos wall) (den_pos d)) in
      let u : num wall ≡ U = one-mul U in
      let most =
      rounds-below binary32 N C ((2 ^ 24 + 1) * U) (2 ^ 24 * D) U D C0 (mul-pos (pow_pos 24) (down_pos (exponent k))) (down_pos (exponent k)) (ties k few)
      (subst (λ (z : ℕ). z * (2 ^ 24 * D) ≤ (2 ^ 24 + 1) * U * C) (sym (n ∙ ap (λ (z : ℕ). z * den d + num d * D) u))
      (subst (λ (z : ℕ). (U * den d + num d * D) * (2 ^ 24 * D) ≤ (2 ^ 24 + 1) * U * z) (sym c) (under U D (num d) (den d) (2 ^ 24) (subst (λ (z : ℕ). num d * 2 ^ 25 * D ≤ z * den d) u h)))) in
      let least =
      at_least binary32 (num wall) D N C (holds-held binary32 wall held) (down_pos (exponent k)) C0
      (subst (λ (z : ℕ). num wall * z ≤ N * D) (sym c) (subst (λ (z : ℕ). num wall * (D * den d) ≤ z * D) (sym n) (over (num wall) D (num d) (den d)))) most.0 in
      record { clear = most.0; size = le_antisymm (subst (λ (z : ℕ). num (round binary32 false N C) * D ≤ z * den (round binary32 false N C)) (sym u) most.1) least }

  wall-some : 0 < num wall
  wall-some = subst (λ (z : ℕ). 0 < z) (sym (one-mul (up (exponent k)))) (up_pos (exponent k))

  far_some : (r : Float) → AsFar wall r → 0 < num r
  far_some r a = first_pos (num r) (den wall) (subst (λ (z : ℕ). 0 < z) (sym a.size) (mul-pos wall-some (den_pos r)))

  -- ---- from the wall

  pub from-wall : (d : Float) → T (below_zero d) → Deep wall d → fraction wall d ≡ one32
  unfolding fraction
  from-wall d b h =
      let N = num wall * den d + num d * den wall in
      let C = den wall * den d in
      let r = round binary32 false N C in
      let a = as-far d h N C refl refl in
      let s : num wall * den r * 1 ≡ 1 * (num r * den wall) = mul-one (num wall * den r) ∙ sym a.size ∙ sym (one-mul (num r * den wall)) in
      ap (λ (z : Float). div binary32 wall z) (gap_up binary32 wall d tt b)
      ∙ div_is binary32 wall r tt a.clear (far_some r a)
      ∙ round_same binary32 false (num wall * den r) (num r * den wall) 1 1 (mul-pos (far_some r a) (den_pos wall)) (lit< tt) s
      ∙ single

  -- ---- to the wall

  tiny-share : (n e W D R S P : ℕ) → 0 < D → R * D ≡ W * S → n * P * D ≤ W * e → n * S * P ≤ 1 * (R * e)
  tiny-share n e W D R S P D0 q h =
      let x : n * P * D * S ≤ W * e * S = mul-le-mul_right S h in
      let l : n * S * P * D ≡ n * P * D * S = simp (mul_assoc, mul_comm, mul_left_comm) in
      let m : W * e * S ≡ W * S * e = mul_right_comm W e S in
      let r : R * D * e ≡ 1 * (R * e) * D = mul_right_comm R D e ∙ ap (λ (z : ℕ). z * D) (sym (one-mul (R * e))) in
      le_of_mul-le-mul_right (le_trans (le_of_eq l) (le_trans x (le_of_eq (m ∙ ap (λ (z : ℕ). z * e) (sym q) ∙ r)))) D0

  over-far : (m : ℕ) (e : ℤ) (r : Float) → 0 < m → AsFar wall r → Deep wall (fin true m e) → Tiny 1 (div binary32 (fin true m e) (neg r))
  unfolding neg
  over-far m e nan M a h = absurd a.clear
  over-far m e (inf s) M a h = absurd (inf-not s a.clear)
    where
      inf-not : (s : Bool) → T (plain (inf s)) → ⊥
      inf-not s t = t
  over-far m e (fin true q j) M a h = absurd a.clear
  over-far m e (fin false q j) M a h =
      let r = fin false q j in
      let d = fin true m e in
      let Q : 0 < q = first_pos q (up j) (far_some r a) in
      rw (div-at binary32 true m e true q j Q)
      (at_most binary32 1 (2 ^ 25) (num d * den r) (num r * den d) (holds-steps binary32 1 25 (lit< tt) (lit≤ tt)) (pow_pos 25) (mul-pos (far_some r a) (den_pos d))
      (tiny-share (num d) (den d) (num wall) (den wall) (num r) (den r) (2 ^ 25) (den_pos wall) a.size h))

  pub to-wall : (d : Float) → T (below_zero d) → Deep wall d → Tiny 1 (fraction d wall)
  unfolding fraction
  to-wall nan b h = absurd b
  to-wall (inf s) b h = absurd b
  to-wall (fin false m e) b h = absurd b
  to-wall (fin true m e) b h =
      let d = fin true m e in
      let N = num d * den wall + num wall * den d in
      let C = den d * den wall in
      rw (gap_down binary32 d wall b tt, round-neg)
      (over-far m e (round binary32 false N C) (ltb→lt 0 m b) (as-far d h N C (add_comm (num d * den wall) (num wall * den d)) (mul_comm (den d) (den wall))) h)
