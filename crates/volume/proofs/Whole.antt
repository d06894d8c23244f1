-- Whole numbers with a sign: the few laws that the sums of determinants need beside those of the library. Assumes nothing.
use Prim.Native.Nat.{ℕ, zero, ◌+◌}
use mathlib.Core.Path.{◌≡◌, sym, ap, ap₂, ◌∙◌}
use lib.IntN.{ℤ, pos, neg_ℤ, ◌+ℤ◌, ◌-ℤ◌, +ℤ_assoc, +ℤ_comm, +ℤ_idl, +ℤ_invr, neg_ℤ-neg_ℤ, neg_ℤ-+ℤ, pos-+ℤ-pos}

-- (w + x) + (y + z) = (w + y) + (x + z)
pub exchange : (w x y z : ℤ) → (w +ℤ x) +ℤ (y +ℤ z) ≡ (w +ℤ y) +ℤ (x +ℤ z)
exchange w x y z =
    +ℤ_assoc w x (y +ℤ z)
    ∙ ap (λ (n : ℤ). w +ℤ n) (sym (+ℤ_assoc x y z) ∙ ap (λ (n : ℤ). n +ℤ z) (+ℤ_comm x y) ∙ +ℤ_assoc y x z)
    ∙ sym (+ℤ_assoc w y (x +ℤ z))

-- a difference the other way round
pub neg-minus : (a b : ℤ) → b -ℤ a ≡ neg_ℤ (a -ℤ b)
neg-minus a b = +ℤ_comm b (neg_ℤ a) ∙ ap (λ (n : ℤ). neg_ℤ a +ℤ n) (sym (neg_ℤ-neg_ℤ b)) ∙ sym (neg_ℤ-+ℤ a (neg_ℤ b))

-- the difference of two sums is the sum of the differences
pub minus_plus : (a b c d : ℕ) → pos (a + c) -ℤ pos (b + d) ≡ (pos a -ℤ pos b) +ℤ (pos c -ℤ pos d)
minus_plus a b c d =
    ap₂ ◌-ℤ◌ (sym (pos-+ℤ-pos a c)) (sym (pos-+ℤ-pos b d))
    ∙ ap (λ (n : ℤ). (pos a +ℤ pos c) +ℤ n) (neg_ℤ-+ℤ (pos b) (pos d))
    ∙ exchange (pos a) (pos c) (neg_ℤ (pos b)) (neg_ℤ (pos d))

-- the same added to both
pub minus-same : (a b k : ℕ) → pos (a + k) -ℤ pos (b + k) ≡ pos a -ℤ pos b
minus-same a b k =
    minus_plus a b k k ∙ ap (λ (n : ℤ). (pos a -ℤ pos b) +ℤ n) (+ℤ_invr (pos k)) ∙ +ℤ_comm (pos a -ℤ pos b) (pos zero) ∙ +ℤ_idl (pos a -ℤ pos b)
