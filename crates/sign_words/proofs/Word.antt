-- A test's word by its bits: how large it is, that it depends on the test's answers alone, one bit more at either end, two words joined, a word that begins
-- elsewhere, and the words of a test that passes nowhere, everywhere, or below a number. Each by induction on how many bits there are. Assumes nothing.
use Prim.Native.Nat.{ℕ, zero, suc, ◌+◌, ◌-◌, ◌*◌, ◌/◌, ◌%◌, ◌^◌, ◌≤◌, ◌<◌}
use native.Mathlib.Nat.{add-zero, zero-add, suc-add, add_comm, mul_assoc, one-mul, pow-suc}
use native.Mathlib.Numerals.{add-one}
use native.Mathlib.Omega.{arith}
use mathlib.Core.Bool.{Bool, true, false}
use mathlib.Core.Logic.{◌⊎◌, inl, inr}
use mathlib.Core.Path.{◌≡◌, refl, sym, ap, ap₂, ◌∙◌}
use lib.Dec.{ltb, ltb→lt, lt→ltb}
use lib.Ieee.Bits.{is_true}
use lib.Pow.{pow_pos, shl_exact}
use Rattle.lists.specs.Lists.{one}
use Rattle.lists.proofs.Tests.{is_false, one_of, one-most, less-or-not}
use Rattle.sign_words.specs.Words.{word}

-- ---- the lowest bit, and the others

pub word_first : (f : ℕ → Bool) (p n : ℕ) → word f p (suc n) ≡ word f (suc p) n * 2 + one (f p)
unfolding word
word_first f p n = refl

pub word-half : (f : ℕ → Bool) (p n : ℕ) → word f p (suc n) / 2 ≡ word f (suc p) n
unfolding word
word-half f p n = omega (arith, one-most (f p))

pub word-odd : (f : ℕ → Bool) (p n : ℕ) → word f p (suc n) % 2 ≡ one (f p)
unfolding word
word-odd f p n = omega (arith, one-most (f p))

pub word_lt : (f : ℕ → Bool) (p n : ℕ) → word f p n < 2 ^ n
unfolding word
word_lt f p zero = omega arith
word_lt f p (suc n) = omega (arith, pow-suc 2 n, word_lt f (suc p) n, one-most (f p))

-- ---- the answers alone tell

pub word_same : {f g : ℕ → Bool} (p n : ℕ) → ((i : ℕ) → p ≤ i → i < p + n → f i ≡ g i) → word f p n ≡ word g p n
unfolding word
word_same p zero h = refl
word_same p (suc n) h =
    ap₂ (λ (w b : ℕ). w * 2 + b) (word_same (suc p) n (λ i l k. h i (omega arith) (omega arith))) (ap one (h p (omega arith) (omega arith)))

-- ---- a word that begins elsewhere

pub word_moved : (f : ℕ → Bool) (p q n : ℕ) → word f (p + q) n ≡ word (λ i. f (i + q)) p n
unfolding word
word_moved f p q zero = refl
word_moved f p q (suc n) =
    ap (λ (w : ℕ). w * 2 + one (f (p + q))) (ap (λ (r : ℕ). word f r n) (sym (suc-add p q)) ∙ word_moved f (suc p) q n)

pub word-from : (f : ℕ → Bool) (p n : ℕ) → word f p n ≡ word (λ i. f (p + i)) 0 n
word-from f p n =
    ap (λ (r : ℕ). word f r n) (sym (zero-add p)) ∙ word_moved f 0 p n ∙ word_same 0 n (λ i l k. ap f (add_comm i p))

-- ---- two words joined

shifted : (u w c k : ℕ) → (u * 2 ^ k + w) * 2 + c ≡ u * 2 ^ suc k + (w * 2 + c)
shifted u w c k = rw (pow-suc 2 k, ← mul_assoc u (2 ^ k) 2) (omega arith)

pub word_more : (f : ℕ → Bool) (p k n : ℕ) → word f p (k + n) ≡ word f (p + k) n * 2 ^ k + word f p k
unfolding word
word_more f p zero n = rw (add-zero p, zero-add n) (omega arith)
word_more f p (suc k) n =
    ap (word f p) (suc-add k n)
    ∙ ap (λ (w : ℕ). w * 2 + one (f p)) (word_more f (suc p) k n)
    ∙ shifted (word f (suc p + k) n) (word f (suc p) k) (one (f p)) k
    ∙ ap (λ (r : ℕ). word f r n * 2 ^ suc k + word f p (suc k)) (omega arith)

-- one bit more at the upper end
pub word-last : (f : ℕ → Bool) (p n : ℕ) → word f p (suc n) ≡ word f p n + one (f (p + n)) * 2 ^ n
unfolding word
word-last f p n = ap (word f p) (sym (add-one n)) ∙ word_more f p n 1 ∙ omega arith

-- ---- tests that pass nowhere, everywhere, below a number

pub word_none : {f : ℕ → Bool} (p n : ℕ) → ((i : ℕ) → p ≤ i → i < p + n → f i ≡ false) → word f p n ≡ 0
unfolding word
word_none p zero h = refl
word_none p (suc n) h =
    omega (arith, ap one (h p (omega arith) (omega arith)), word_none (suc p) n (λ i l k. h i (omega arith) (omega arith)))

pub word-zero : (f : ℕ → Bool) (p n : ℕ) → word f p n ≡ 0 → (i : ℕ) → p ≤ i → i < p + n → f i ≡ false
unfolding word
word-zero f p zero e i l h = absurd (omega arith)
word-zero f p (suc n) e i l h = go (word-zero f (suc p) n (omega arith) i) (less-or-not p i)
  where
    here : i ≡ p → f i ≡ false
    here same = is_false (f i) (λ t. omega (arith, one_of (f i) t, ap (λ (j : ℕ). one (f j)) same))

    go : (suc p ≤ i → i < suc p + n → f i ≡ false) → (p < i) ⊎ (i ≤ p) → f i ≡ false
    go rest (inl k) = rest k (omega arith)
    go rest (inr k) = here (omega arith)

pub word-all : {f : ℕ → Bool} (p n : ℕ) → ((i : ℕ) → p ≤ i → i < p + n → f i ≡ true) → word f p n ≡ 2 ^ n - 1
unfolding word
word-all p zero h = refl
word-all p (suc n) h =
    omega
    (arith, pow-suc 2 n, pow_pos n, ap one (h p (omega arith) (omega arith)), word-all (suc p) n (λ i l k. h i (omega arith) (omega arith)))

not-below : (n i : ℕ) → n ≤ i → ltb i n ≡ false
not-below n i h = is_false (ltb i n) (λ t. omega (arith, ltb→lt i n t))

-- the numbers below n are the first n - p from p on
pub word_below : (n p m : ℕ) → p ≤ n → n ≤ p + m → word (λ j. ltb j n) p m ≡ 2 ^ (n - p) - 1
word_below n p m h l =
    ap (word (λ j. ltb j n) p) whole
    ∙ word_more (λ j. ltb j n) p (n - p) (p + m - n)
    ∙ ap₂ (λ (u w : ℕ). u * 2 ^ (n - p) + w) above under
    ∙ omega arith
  where
    whole : m ≡ (n - p) + (p + m - n)
    whole = omega arith

    above : word (λ j. ltb j n) (p + (n - p)) (p + m - n) ≡ 0
    above = word_none (p + (n - p)) (p + m - n) (λ i k b. not-below n i (omega arith))

    under : word (λ j. ltb j n) p (n - p) ≡ 2 ^ (n - p) - 1
    under = word-all p (n - p) (λ i k b. is_true (ltb i n) (lt→ltb i n (omega arith)))

pub word-past : (n p m : ℕ) → n ≤ p → word (λ j. ltb j n) p m ≡ 0
word-past n p m h = word_none p m (λ i k b. not-below n i (omega arith))

pub word-within : (n p m : ℕ) → p + m ≤ n → word (λ j. ltb j n) p m ≡ 2 ^ m - 1
word-within n p m h = word-all p m (λ i k b. is_true (ltb i n) (lt→ltb i n (omega arith)))

-- a bit shifted to the end of those below n, and less one
bit-there : (n p : ℕ) → n < p + 64 → 1 * 2 ^ (n - p) % 18446744073709551616 ≡ 2 ^ (n - p)
bit-there n p h = shl_exact {a = 1} 1 (n - p) 64 (omega arith) (omega arith) ∙ one-mul (2 ^ (n - p))

pub bit-some : (n p : ℕ) → n < p + 64 → 1 ≤ 1 * 2 ^ (n - p) % 18446744073709551616
bit-some n p h = omega (arith, bit-there n p h, pow_pos (n - p))

-- none of them where n is below p
pub bit_below : (n p : ℕ) → n < p + 64 → 1 * 2 ^ (n - p) % 18446744073709551616 - 1 ≡ word (λ j. ltb j n) p 64
bit_below n p l = go (less-or-not n p)
  where
    none : n ≤ p → 2 ^ (n - p) - 1 ≡ word (λ j. ltb j n) p 64
    none h = let e : n - p ≡ 0 = omega arith in rw (e, word-past n p 64 h)

    go : (n < p) ⊎ (p ≤ n) → 1 * 2 ^ (n - p) % 18446744073709551616 - 1 ≡ word (λ j. ltb j n) p 64
    go (inl h) = omega (arith, bit-there n p l, none (omega arith))
    go (inr h) = omega (arith, bit-there n p l, word_below n p 64 h (omega arith))
