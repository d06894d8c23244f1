-- The operations on words are those on the tests: `and`, `or` and `xor` of two tests' words are the words of the two tests joined, and the complement is the
-- word of the test turned round. Each by its one step on the lowest digit. Assumes nothing.
use Prim.Native.Nat.{ℕ, zero, suc, ◌+◌, ◌-◌, ◌*◌, ◌/◌, ◌%◌, ◌^◌, min, max}
use native.Mathlib.Nat.{pow-suc}
use native.Mathlib.Omega.{arith}
use mathlib.Core.Bool.{Bool, true, false, not, ◌&&◌, ◌||◌}
use mathlib.Core.Path.{◌≡◌, refl, ap₂, ◌∙◌}
use lib.Bits.{bit_and, bit_or, bit_xor, differ, and_step, or_step, xor_step}
use lib.Ieee.{unlike}
use lib.Pow.{pow_pos}
use Rattle.lists.specs.Lists.{one}
use Rattle.sign_words.specs.Words.{word}
use Rattle.sign_words.proofs.Word.{word-half, word-odd}

-- an operation on numbers by their digits, and on tests
module _ (op digit : ℕ → ℕ → ℕ) (join : Bool → Bool → Bool) (none : op 0 0 ≡ 0)
    (step : (a b : ℕ) → op a b ≡ op (a / 2) (b / 2) * 2 + digit (a % 2) (b % 2))
    (joins : (s t : Bool) → digit (one s) (one t) ≡ one (join s t)) where
  word-joined : (f g : ℕ → Bool) (p n : ℕ) → op (word f p n) (word g p n) ≡ word (λ i. join (f i) (g i)) p n
  unfolding word
  word-joined f g p zero = none
  word-joined f g p (suc n) =
      step (word f p (suc n)) (word g p (suc n))
      ∙ ap₂ (λ (w b : ℕ). w * 2 + b)
      (ap₂ op (word-half f p n) (word-half g p n) ∙ word-joined f g (suc p) n)
      (ap₂ digit (word-odd f p n) (word-odd g p n) ∙ joins (f p) (g p))

both : (s t : Bool) → min (one s) (one t) ≡ one (s && t)
both true true = refl
both true false = refl
both false true = refl
both false false = refl

either : (s t : Bool) → max (one s) (one t) ≡ one (s || t)
either true true = refl
either true false = refl
either false true = refl
either false false = refl

differs : (s t : Bool) → differ (one s) (one t) ≡ one (unlike s t)
differs true true = refl
differs true false = refl
differs false true = refl
differs false false = refl

pub word_and : (f g : ℕ → Bool) (p n : ℕ) → bit_and (word f p n) (word g p n) ≡ word (λ i. f i && g i) p n
word_and = word-joined bit_and min ◌&&◌ refl and_step both

pub word-or : (f g : ℕ → Bool) (p n : ℕ) → bit_or (word f p n) (word g p n) ≡ word (λ i. f i || g i) p n
word-or = word-joined bit_or max ◌||◌ refl or_step either

pub word-xor : (f g : ℕ → Bool) (p n : ℕ) → bit_xor (word f p n) (word g p n) ≡ word (λ i. unlike (f i) (g i)) p n
word-xor = word-joined bit_xor differ unlike refl xor_step differs

-- ---- the test turned round

one-or-other : (t : Bool) → one t + one (not t) ≡ 1
one-or-other true = refl
one-or-other false = refl

word-whole : (f : ℕ → Bool) (p n : ℕ) → word f p n + word (λ i. not (f i)) p n ≡ 2 ^ n - 1
unfolding word
word-whole f p zero = refl
word-whole f p (suc n) = omega (arith, pow-suc 2 n, pow_pos n, one-or-other (f p), word-whole f (suc p) n)

pub word-not : (f : ℕ → Bool) (p n : ℕ) → 2 ^ n - 1 - word f p n ≡ word (λ i. not (f i)) p n
word-not f p n = omega (arith, word-whole f p n)

pub word-not-64 : (f : ℕ → Bool) (p : ℕ) → 18446744073709551615 - word f p 64 ≡ word (λ i. not (f i)) p 64
word-not-64 f p = word-not f p 64
