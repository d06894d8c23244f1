-- A whole number in two words: they make it, they are the only two that do, and what they are where the number is the difference of a natural number and a
-- multiple of 2^64. Assumes nothing.
use Rattle.std.proofs.Common.{◌≡◌, ℕ, zero, suc, ◌+◌, ◌-◌, ◌*◌, ◌/◌, ◌%◌, ◌^◌, ◌<◌, ℤ, pos, negsuc, ◌-ℤ◌, neg_ℤ, sym, ap, ◌∙◌, arith, to_z-of_z, w64, SFits, to_z, of_z}
use lib.IntN.{+ℤ_idl, +ℤ_comm}
use mir.Facts.{to_z_pos}
use Rattle.volume.proofs.Bounds.{minus-most, fits-64}
use Rattle.weigh.specs.Words.{high_of, low_of, words_as}
use Rattle.weigh.proofs.Whole.{same-difference, above-by, below_by, Order, up, down, order}

-- ---- the two words make the number

pub low_below : (z : ℤ) → low_of z < 2 ^ 64
unfolding low_of
low_below (pos n) = omega arith
low_below (negsuc n) = omega arith

pub words-make : (z : ℤ) → words_as (high_of z) (low_of z) ≡ z
unfolding high_of low_of
words-make (pos n) = ap (λ (m : ℕ). pos m) {x = n / 2 ^ 64 * 2 ^ 64 + n % 2 ^ 64} {y = n} (omega arith)
words-make (negsuc n) =
    +ℤ_comm (neg_ℤ (pos (suc (n / 2 ^ 64) * 2 ^ 64))) (pos (2 ^ 64 - 1 - n % 2 ^ 64))
    ∙ same-difference (2 ^ 64 - 1 - n % 2 ^ 64) (suc (n / 2 ^ 64) * 2 ^ 64) 0 (suc n) (omega arith)
    ∙ +ℤ_idl (negsuc n)

-- ---- a difference of a natural number and a multiple of 2^64

module _ (w k : ℕ) where
  pub high-minus : high_of (pos w -ℤ pos (k * 2 ^ 64)) ≡ pos (w / 2 ^ 64) -ℤ pos k
  unfolding high_of
  high-minus = go (order w (k * 2 ^ 64))
    where
      go : Order w (k * 2 ^ 64) → high_of (pos w -ℤ pos (k * 2 ^ 64)) ≡ pos (w / 2 ^ 64) -ℤ pos k
      go (up x e) =
          let q : w / 2 ^ 64 ≡ k + x / 2 ^ 64 = omega arith in
          ap (λ (n : ℕ). high_of (pos n -ℤ pos (k * 2 ^ 64))) e
          ∙ ap high_of (above-by (k * 2 ^ 64) x)
          ∙ sym (above-by k (x / 2 ^ 64))
          ∙ ap (λ (n : ℕ). pos n -ℤ pos k) (sym q)
      go (down zero e) =
          let q : w / 2 ^ 64 ≡ k + 0 = omega arith in
          ap (λ (n : ℕ). high_of (pos w -ℤ pos n)) e
          ∙ ap high_of (below_by w 0)
          ∙ sym (above-by k 0)
          ∙ ap (λ (n : ℕ). pos n -ℤ pos k) (sym q)
      go (down (suc x) e) =
          let q : k ≡ w / 2 ^ 64 + suc (x / 2 ^ 64) = omega arith in
          ap (λ (n : ℕ). high_of (pos w -ℤ pos n)) e
          ∙ ap high_of (below_by w (suc x))
          ∙ sym (below_by (w / 2 ^ 64) (suc (x / 2 ^ 64)))
          ∙ ap (λ (n : ℕ). pos (w / 2 ^ 64) -ℤ pos n) (sym q)

  pub low-minus : low_of (pos w -ℤ pos (k * 2 ^ 64)) ≡ w % 2 ^ 64
  unfolding low_of
  low-minus = go (order w (k * 2 ^ 64))
    where
      go : Order w (k * 2 ^ 64) → low_of (pos w -ℤ pos (k * 2 ^ 64)) ≡ w % 2 ^ 64
      go (up x e) =
          let q : x % 2 ^ 64 ≡ w % 2 ^ 64 = omega arith in
          ap (λ (n : ℕ). low_of (pos n -ℤ pos (k * 2 ^ 64))) e ∙ ap low_of (above-by (k * 2 ^ 64) x) ∙ q
      go (down zero e) =
          let q : 0 ≡ w % 2 ^ 64 = omega arith in
          ap (λ (n : ℕ). low_of (pos w -ℤ pos n)) e ∙ ap low_of (below_by w 0) ∙ q
      go (down (suc x) e) =
          let q : 2 ^ 64 - 1 - x % 2 ^ 64 ≡ w % 2 ^ 64 = omega arith in
          ap (λ (n : ℕ). low_of (pos w -ℤ pos n)) e ∙ ap low_of (below_by w (suc x)) ∙ q

-- ---- no other two words make it

pub words-one : (z h : ℤ) (l : ℕ) → l < 2 ^ 64 → words_as h l ≡ z → (h ≡ high_of z) × (l ≡ low_of z)
unfolding high_of low_of
words-one z (pos k) l b e =
    let q : k ≡ (k * 2 ^ 64 + l) / 2 ^ 64 = omega arith in
    let r : l ≡ (k * 2 ^ 64 + l) % 2 ^ 64 = omega arith in
    (ap (λ (n : ℕ). pos n) q ∙ ap high_of e, r ∙ ap low_of e)
words-one z (negsuc k) l b e =
    let q : l / 2 ^ 64 ≡ 0 = omega arith in
    let r : l ≡ l % 2 ^ 64 = omega arith in
    let f : pos l -ℤ pos (suc k * 2 ^ 64) ≡ z = +ℤ_comm (pos l) (neg_ℤ (pos (suc k * 2 ^ 64))) ∙ e in (
      sym (+ℤ_idl (negsuc k)) ∙ ap (λ (n : ℕ). pos n -ℤ pos (suc k)) (sym q) ∙ sym (high-minus l (suc k)) ∙ ap high_of f,
      r ∙ sym (low-minus l (suc k)) ∙ ap low_of f,
    )

-- ---- a difference in 64 bits

pub minus-fits : (m n : ℕ) → m < 2 ^ 62 → n < 2 ^ 62 → SFits w64 (pos m -ℤ pos n)
minus-fits m n h k = fits-64 (pos m -ℤ pos n) (omega (arith, minus-most m n (2 ^ 62) (omega arith) (omega arith)))

pub minus-read : (m n : ℕ) → m < 2 ^ 62 → n < 2 ^ 62 → to_z w64 (of_z w64 (pos m -ℤ pos n)) ≡ pos m -ℤ pos n
minus-read m n h k = to_z-of_z {w = w64} (minus-fits m n h k)

pub plain : (n : ℕ) → n < 2 ^ 62 → to_z w64 n ≡ pos n
plain n h = to_z_pos w64 (omega arith)
