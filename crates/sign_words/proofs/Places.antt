-- The bits that are set: how many there are and where they stand, as the places that a test keeps; and the lowest of them, which a loop takes off one by one.
-- By induction on how many bits there are. Assumes nothing.
use Prim.Native.Nat.{ℕ, zero, suc, ◌+◌, ◌-◌, ◌*◌, ◌/◌, ◌%◌, ◌^◌, ◌<◌, min}
use native.Mathlib.Nat.{add-zero, pow-suc}
use native.Mathlib.Omega.{arith}
use mathlib.Core.Bool.{Bool, true, false, cond}
use mathlib.Core.List.{List, [], ◌∷◌}
use mathlib.Core.Path.{◌≡◌, refl, sym, ap, ap₂, ◌∙◌}
use lib.Bits.{bit_and, and_step, and_self, and_le_r}
use lib.Count.{ones, ones_step, ones-ones, under, count_trailing_zeros}
use lib.Dec.{ltb}
use Rattle.lists.specs.Lists.{one, up_to, keep, many}
use Rattle.lists.proofs.Runs.{up_to-first, up_to-none}
use Rattle.sign_words.specs.Words.{word, places}
use Rattle.sign_words.proofs.Word.{word-half, word-odd}

-- ---- a run's first number apart

run-first : (p n : ℕ) → up_to p (p + suc n) ≡ p ∷ up_to (suc p) (suc p + n)
run-first p n = up_to-first p (p + suc n) (omega arith) ∙ ap (λ (q : ℕ). p ∷ up_to (suc p) q) (omega arith)

run-empty : (p : ℕ) → up_to p (p + 0) ≡ []
run-empty p = up_to-none p (p + 0) (omega arith)

-- ---- how many bits are set

pub word_ones : (f : ℕ → Bool) (p n : ℕ) → ones (word f p n) ≡ many f (up_to p (p + n))
unfolding word many
word_ones f p zero = ones-ones 0 ∙ ap (many f) (sym (run-empty p))
word_ones f p (suc n) =
    ones_step (word f p (suc n))
    ∙ ap₂ ◌+◌ (word-odd f p n) (ap ones (word-half f p n) ∙ word_ones f (suc p) n)
    ∙ ap (many f) (sym (run-first p n))

-- ---- where they stand

is_one : (t : Bool) → ltb 0 (one t) ≡ t
is_one true = refl
is_one false = refl

places-more : (p n w : ℕ) (t : Bool) → w % 2 ≡ one t → places p (suc n) w ≡ cond t (p ∷ places (suc p) n (w / 2)) (places (suc p) n (w / 2))
unfolding places
places-more p n w t e =
    ap (λ (d : ℕ). cond (ltb 0 d) (p ∷ places (suc p) n (w / 2)) (places (suc p) n (w / 2))) e
    ∙ ap (λ (s : Bool). cond s (p ∷ places (suc p) n (w / 2)) (places (suc p) n (w / 2))) (is_one t)

pub word-places : (f : ℕ → Bool) (p n : ℕ) → places p n (word f p n) ≡ keep f (up_to p (p + n))
unfolding places keep
word-places f p zero = ap (keep f) (sym (run-empty p))
word-places f p (suc n) =
    places-more p n (word f p (suc n)) (f p) (word-odd f p n)
    ∙ ap (λ (l : List ℕ). cond (f p) (p ∷ l) l) (ap (places (suc p) n) (word-half f p n) ∙ word-places f (suc p) n)
    ∙ ap (keep f) (sym (run-first p n))

pub places-none : (p n : ℕ) → places p n 0 ≡ []
unfolding places
places-none p zero = refl
places-none p (suc n) = places-none (suc p) n

-- ---- the lowest of them

pub lowest-off : (w : ℕ) → 0 < w → bit_and w (w - 1) < w
lowest-off w h = omega (arith, and_le_r w (w - 1))

-- the lowest bit is set: it goes, and the others stay
odd-off : (w : ℕ) → w % 2 ≡ 1 → bit_and w (w - 1) ≡ w / 2 * 2
odd-off w e =
    and_step w (w - 1)
    ∙ ap₂ (λ (u d : ℕ). bit_and (w / 2) u * 2 + min (w % 2) d) half none
    ∙ ap₂ (λ (u d : ℕ). u * 2 + min d 0) (and_self (w / 2)) e
    ∙ add-zero (w / 2 * 2)
  where
    half : (w - 1) / 2 ≡ w / 2
    half = omega arith

    none : (w - 1) % 2 ≡ 0
    none = omega arith

-- it is not: that of the others goes
even-off : (w : ℕ) → 0 < w → w % 2 ≡ 0 → bit_and w (w - 1) ≡ bit_and (w / 2) (w / 2 - 1) * 2
even-off w h e =
    and_step w (w - 1)
    ∙ ap₂ (λ (u d : ℕ). bit_and (w / 2) u * 2 + min d ((w - 1) % 2)) half e
    ∙ ap (λ (d : ℕ). bit_and (w / 2) (w / 2 - 1) * 2 + min 0 d) odd
    ∙ add-zero (bit_and (w / 2) (w / 2 - 1) * 2)
  where
    half : (w - 1) / 2 ≡ w / 2 - 1
    half = omega arith

    odd : (w - 1) % 2 ≡ 1
    odd = omega arith

places-even : (p n v : ℕ) → places p (suc n) (v * 2) ≡ places (suc p) n v
places-even p n v = places-more p n (v * 2) false (omega arith) ∙ ap (places (suc p) n) (omega arith)

-- a word's lowest set bit, and the others
pub places-step : (p n w : ℕ) → 0 < w → w < 2 ^ n → places p n w ≡ (p + count_trailing_zeros n w) ∷ places p n (bit_and w (w - 1))
unfolding count_trailing_zeros
places-step p zero w h l = absurd (omega arith)
places-step p (suc n) w h l = go (places-step (suc p) n (w / 2)) (w % 2) refl (omega arith)
  where
    go : (0 < w / 2 → w / 2 < 2 ^ n → places (suc p) n (w / 2) ≡ (suc p + count_trailing_zeros n (w / 2)) ∷ places (suc p) n (bit_and (w / 2) (w / 2 - 1)))
        → (d : ℕ) → w % 2 ≡ d → d < 2 → places p (suc n) w ≡ (p + under d (count_trailing_zeros n (w / 2))) ∷ places p (suc n) (bit_and w (w - 1))
    go rest zero e b =
        places-more p n w false e
        ∙ rest (omega arith) (omega (arith, pow-suc 2 n))
        ∙ ap₂ ◌∷◌ (omega arith) (sym (ap (places p (suc n)) (even-off w h e) ∙ places-even p n (bit_and (w / 2) (w / 2 - 1))))
    go rest (suc zero) e b =
        places-more p n w true e ∙ ap₂ ◌∷◌ (sym (add-zero p)) (sym (ap (places p (suc n)) (odd-off w e) ∙ places-even p n (w / 2)))
    go rest (suc (suc d)) e b = absurd (omega arith)
