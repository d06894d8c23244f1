-- What is asked of 64 cells at once: a word moved on by one is the word of the next places' answers, the ends of four lines are the words of "some" and of
-- "all", and the mixed cells are those at whose corners some test passes and not all do. Assumes nothing.
use Prim.Native.Nat.{ℕ, zero, suc, ◌+◌, ◌-◌, ◌*◌, ◌%◌, ◌^◌, ◌≤◌, ◌<◌}
use native.Mathlib.Nat.{add_comm}
use native.Mathlib.Omega.{arith}
use mathlib.Core.Bool.{Bool, not, ◌&&◌, ◌||◌}
use mathlib.Core.List.{List}
use mathlib.Core.Path.{◌≡◌, refl, sym, ap, ap₂, ◌∙◌}
use lib.Bits.{bit_and, bit_or, or_shifted_r}
use Rattle.lists.specs.Lists.{one}
use Rattle.lists.proofs.Tests.{one-most}
use Rattle.sign_words.specs.declared.Lines.{Lines}
use Rattle.sign_words.specs.declared.Ends.{Ends}
use Rattle.sign_words.specs.Words.{word, onward_of, ends_of, ends_at, mixed_of, Held}
use Rattle.sign_words.proofs.Word.{word_first, word-half, word-last, word_lt}
use Rattle.sign_words.proofs.Joins.{word_and, word-or, word-not-64}

-- ---- moved on by one

word_next : (f : ℕ → Bool) (p n : ℕ) → word (λ i. f (suc i)) p n ≡ word f (suc p) n
unfolding word
word_next f p zero = refl
word_next f p (suc n) = ap (λ (w : ℕ). w * 2 + one (f (suc p))) (word_next f (suc p) n)

-- of a number shifted to the last place only the lowest bit is left
lowest-there : (w b : ℕ) → b ≤ 1 → (w * 2 + b) * 9223372036854775808 % 18446744073709551616 ≡ b * 9223372036854775808
lowest-there w b h = omega arith

pub word_on : (f : ℕ → Bool) (p : ℕ) → onward_of (word f p 64) (word f (p + 64) 64) ≡ word (λ i. f (suc i)) p 64
word_on f p =
    ap₂ bit_or (word-half f p 63) top
    ∙ or_shifted_r (one (f (p + 64))) 63 (word f (suc p) 63) (word_lt f (suc p) 63)
    ∙ add_comm (one (f (p + 64)) * 2 ^ 63) (word f (suc p) 63)
    ∙ ap (λ (q : ℕ). word f (suc p) 63 + one (f q) * 2 ^ 63) there
    ∙ sym (word_next f p 64 ∙ word-last f (suc p) 63)
  where
    there : p + 64 ≡ suc p + 63
    there = omega arith

    top : word f (p + 64) 64 * 9223372036854775808 % 18446744073709551616 ≡ one (f (p + 64)) * 9223372036854775808
    top =
        ap (λ (w : ℕ). w * 9223372036854775808 % 18446744073709551616) (word_first f (p + 64) 63)
        ∙ lowest-there (word f (suc (p + 64)) 63) (one (f (p + 64))) (one-most (f (p + 64)))

-- ---- the ends of four lines

-- some of four tests passes, and all do
abbrev pub some_of : (ℕ → Bool) → (ℕ → Bool) → (ℕ → Bool) → (ℕ → Bool) → ℕ → Bool
some_of f g h e i = (f i || g i) || (h i || e i)

abbrev pub all_of : (ℕ → Bool) → (ℕ → Bool) → (ℕ → Bool) → (ℕ → Bool) → ℕ → Bool
all_of f g h e i = (f i && g i) && (h i && e i)

-- by two tests, that some point of a place passes and that all do: of a place and the next some point passes, and not all do
abbrev pub mixed_test : (ℕ → Bool) → (ℕ → Bool) → ℕ → Bool
mixed_test some all i = (some i || some (suc i)) && not (all i && all (suc i))

pub ends-word : (f g h e : ℕ → Bool) (p n : ℕ)
    → ends_of (word f p n) (word g p n) (word h p n) (word e p n) ≡ record { some = word (some_of f g h e) p n; all = word (all_of f g h e) p n }
ends-word f g h e p n =
    ap₂ (λ (s a : ℕ). record { some = s; all = a })
    (ap₂ bit_or (word-or f g p n) (word-or h e p n) ∙ word-or (λ i. f i || g i) (λ i. h i || e i) p n)
    (ap₂ bit_and (word_and f g p n) (word_and h e p n) ∙ word_and (λ i. f i && g i) (λ i. h i && e i) p n)

-- ---- the mixed cells

pub mixed-word : (some all : ℕ → Bool) (p : ℕ)
    → mixed_of (record { some = word some p 64; all = word all p 64 }) (record { some = word some (p + 64) 64; all = word all (p + 64) 64 })
    ≡ word (mixed_test some all) p 64
mixed-word some all p =
    ap₂ bit_and
    (ap (bit_or (word some p 64)) (word_on some p) ∙ word-or some (λ i. some (suc i)) p 64)
    (ap (λ (w : ℕ). 18446744073709551615 - w) (ap (bit_and (word all p 64)) (word_on all p) ∙ word_and all (λ i. all (suc i)) p 64)
    ∙ word-not-64 (λ i. all i && all (suc i)) p)
    ∙ word_and (λ i. some i || some (suc i)) (λ i. not (all i && all (suc i))) p 64

-- ---- four lines whose words stand in a list

ends-eq : {a b c d a' b' c' d' : ℕ} → a ≡ a' → b ≡ b' → c ≡ c' → d ≡ d' → ends_of a b c d ≡ ends_of a' b' c' d'
ends-eq p q r s = ap₂ (λ (x y : ℕ × ℕ). ends_of x.0 x.1 y.0 y.1) (ap₂ (λ (x y : ℕ). (x, y)) p q) (ap₂ (λ (x y : ℕ). (x, y)) r s)

module _ {words : List ℕ} {f g h e : ℕ → Bool} {first n : ℕ} (l : Lines)
    (near : Held words l.near f first n) (far : Held words l.far g first n)
    (near_up : Held words l.near_up h first n) (far_up : Held words l.far_up e first n) where
  pub ends_held : (i : ℕ) → i < n
      → ends_at words l i ≡ record { some = word (some_of f g h e) (64 * (first + i)) 64; all = word (all_of f g h e) (64 * (first + i)) 64 }
  ends_held i k = ends-eq (near.each i k) (far.each i k) (near_up.each i k) (far_up.each i k) ∙ ends-word f g h e (64 * (first + i)) 64

  pub mixed-held : (i : ℕ) → i + 1 < n → mixed_of (ends_at words l i) (ends_at words l (i + 1)) ≡ word (mixed_test (some_of f g h e) (all_of f g h e)) (64 * (first + i)) 64
  mixed-held i k =
      ap₂ mixed_of (ends_held i (omega arith)) (ends_held (i + 1) k ∙ ap at next) ∙ mixed-word (some_of f g h e) (all_of f g h e) (64 * (first + i))
    where
      at : ℕ → Ends
      at p = record { some = word (some_of f g h e) p 64; all = word (all_of f g h e) p 64 }

      next : 64 * (first + (i + 1)) ≡ 64 * (first + i) + 64
      next = omega arith
