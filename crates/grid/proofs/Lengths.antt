-- A length n held against a product p · z by dividing it by p, as the code does where the product might not fit. Over any numbers. Assumes nothing.
use Prim.Native.Nat.{ℕ, zero, suc, ◌*◌, ◌/◌, ◌%◌, ◌<◌}
use native.Mathlib.Nat.{zero-mul, mul-mod_right, mul-div_right, div-add-mod}
use native.Mathlib.Omega.{arith}
use mathlib.Core.Bool.{Bool, true, false, not}
use mathlib.Core.Path.{◌≡◌, refl, sym, ap, ◌∙◌}
use borrow.Author.Tests.{eqb-true, eq-eqb, ne_eqb}
use lib.Dec.{eqb}

-- two tests of equality that hold together
same_test : (a b a' b' : ℕ) → (a ≡ b → a' ≡ b') → (a' ≡ b' → a ≡ b) → eqb a b ≡ eqb a' b'
same_test a b a' b' f g = go (eqb a b) refl
  where
    go : (t : Bool) → eqb a b ≡ t → eqb a b ≡ eqb a' b'
    go true e = e ∙ sym (eq-eqb a' b' (f (eqb-true a b e)))
    go false e = e ∙ sym (ne_eqb a' b' (λ h. clash (sym (eq-eqb a b (g h)) ∙ e)))
      where
        clash : true ≡ false → ⊥
        clash h = let z : ◌≡◌ {A = ℕ} 0 1 = cc in omega arith

positive : (p : ℕ) → (p ≡ 0 → ⊥) → 0 < p
positive zero h = absurd (h refl)
positive (suc n) h = omega arith

pub no-layer : (p n z : ℕ) → p ≡ 0 → not (eqb n 0) ≡ not (eqb n (p * z))
no-layer p n z e = ap (λ (m : ℕ). not (eqb n m)) (sym (ap (λ (q : ℕ). q * z) e ∙ zero-mul z))

pub part-layer : (p n z : ℕ) → (n % p ≡ 0 → ⊥) → true ≡ not (eqb n (p * z))
part-layer p n z h = sym (ap not (ne_eqb n (p * z) (λ e. h (ap (λ (m : ℕ). m % p) e ∙ mul-mod_right p z))))

pub whole-layers : (p n z : ℕ) → (p ≡ 0 → ⊥) → n % p ≡ 0 → not (eqb (n / p) z) ≡ not (eqb n (p * z))
whole-layers p n z some e = ap not (same_test (n / p) z n (p * z) there back)
  where
    all : n ≡ p * (n / p)
    all = omega (arith, div-add-mod n p)

    there : n / p ≡ z → n ≡ p * z
    there h = all ∙ ap (λ (m : ℕ). p * m) h

    back : n ≡ p * z → n / p ≡ z
    back h = ap (λ (m : ℕ). m / p) h ∙ mul-div_right z (positive p some)
