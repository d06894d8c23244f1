-- A list whose elements change by their places: in two parts, twice in a row, and where nothing changes. By induction on the list. Assumes nothing.
use Prim.Native.Nat.{ℕ, suc, ◌+◌, ◌<◌}
use native.Mathlib.Nat.{add-zero}
use native.Mathlib.Omega.{arith}
use mathlib.Core.List.{List, [], ◌∷◌, ◌++◌}
use mathlib.Core.Path.{◌≡◌, refl, sym, ap, ap₂, ◌∙◌}
use lib.ListN.{length}
use Rattle.lists.specs.Lists.{placed}

module _ {A : Type 0} where
  pub placed-append : (f : ℕ → A → A) (n : ℕ) (s t : List A) → placed f n (s ++ t) ≡ placed f n s ++ placed f (n + length s) t
  unfolding placed
  placed-append f n [] t = ap (λ (m : ℕ). placed f m t) (sym (add-zero n))
  placed-append f n (x ∷ s) t =
      let e : suc n + length s ≡ n + suc (length s) = omega arith in
      ap (λ (l : List A). f n x ∷ l) (placed-append f (suc n) s t ∙ ap (λ (m : ℕ). placed f (suc n) s ++ placed f m t) e)

  -- by another rule that says the same at each place
  pub placed_by : (f h : ℕ → A → A) (n m : ℕ) (l : List A) → ((i : ℕ) → i < length l → (x : A) → f (n + i) x ≡ h (m + i) x) → placed f n l ≡ placed h m l
  unfolding placed
  placed_by f h n m [] e = refl
  placed_by f h n m (x ∷ l) e = ap₂ ◌∷◌ first (placed_by f h (suc n) (suc m) l next)
    where
      first : f n x ≡ h m x
      first = ap (λ (k : ℕ). f k x) (sym (add-zero n)) ∙ e 0 (omega arith) x ∙ ap (λ (k : ℕ). h k x) (add-zero m)

      next : (i : ℕ) → i < length l → (y : A) → f (suc n + i) y ≡ h (suc m + i) y
      next i k y =
          let en : suc n + i ≡ n + suc i = omega arith in
          let em : m + suc i ≡ suc m + i = omega arith in
          ap (λ (j : ℕ). f j y) en ∙ e (suc i) (omega arith) y ∙ ap (λ (j : ℕ). h j y) em

  same : (m : ℕ) (s : List A) → placed (λ (j : ℕ) (x : A). x) m s ≡ s
  unfolding placed
  same m [] = refl
  same m (x ∷ s) = ap (λ (r : List A). x ∷ r) (same (suc m) s)

  pub placed-kept : (f : ℕ → A → A) (n : ℕ) (l : List A) → ((i : ℕ) → i < length l → (x : A) → f (n + i) x ≡ x) → placed f n l ≡ l
  placed-kept f n l e = placed_by f (λ (j : ℕ) (x : A). x) n n l e ∙ same n l

  pub placed-twice : (f h : ℕ → A → A) (n : ℕ) (l : List A) → placed f n (placed h n l) ≡ placed (λ (j : ℕ) (x : A). f j (h j x)) n l
  unfolding placed
  placed-twice f h n [] = refl
  placed-twice f h n (x ∷ l) = ap (λ (s : List A). f n (h n x) ∷ s) (placed-twice f h (suc n) l)
