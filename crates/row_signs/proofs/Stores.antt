-- Stores in a row, as a loop makes them: each stands at its own place, and what stands before and behind them is kept. Assumes nothing.
use Prim.Native.Nat.{ℕ, zero, suc, ◌+◌, ◌≤◌, ◌<◌}
use native.Mathlib.Numerals.{add-one}
use native.Mathlib.Omega.{arith}
use mathlib.Core.List.{List, [], ◌∷◌, ◌++◌, map, map-append}
use mathlib.Core.Logic.{◌⊎◌, inl, inr}
use mathlib.Core.Path.{◌≡◌, refl, sym, ap, ◌∙◌}
use lib.ListN.{length, get_or, set, length-map}
use lib.Seq.{sets, length-sets, get_or-set_same, get_or-set_other}
use Rattle.lists.specs.Lists.{up_to}
use Rattle.lists.proofs.Tests.{less-or-not}
use Rattle.lists.proofs.Runs.{up_to-none, up_to-last}
use Rattle.grid.proofs.Order.{length-up_to}
use Rattle.stores.proofs.Runs.{sets-append}

module _ {A : Type 0} (f : ℕ → A) (l : List A) (i : ℕ) where
  pub long : (n : ℕ) → length (map f (up_to 0 n)) ≡ n
  long n = length-map (up_to 0 n) f ∙ length-up_to 0 n ∙ omega arith

  pub stores-none : l ≡ sets l i (map f (up_to 0 0))
  stores-none = ap (λ (ks : List ℕ). sets l i (map f ks)) (sym (up_to-none 0 0 (omega arith)))

  -- one store more at the end
  pub stores-on : (n : ℕ) (v : A) → set (sets l i (map f (up_to 0 n))) (i + n) v ≡ sets l i (map f (up_to 0 n) ++ (v ∷ []))
  stores-on n v = sym (sets-append l i (map f (up_to 0 n)) (v ∷ []) ∙ ap (λ (k : ℕ). set (sets l i (map f (up_to 0 n))) (i + k) v) (long n))

  pub stores-grow : (n : ℕ) → set (sets l i (map f (up_to 0 n))) (i + n) (f n) ≡ sets l i (map f (up_to 0 (n + 1)))
  stores-grow n =
      stores-on n (f n)
      ∙ sym (ap (λ (ks : List ℕ). sets l i (map f ks)) (ap (up_to 0) (add-one n) ∙ up_to-last 0 n (omega arith)) ∙ ap (sets l i) (map-append f (up_to 0 n) (n ∷ [])))

  -- what stands at the place of each
  pub stored_at : (n j : ℕ) (d : A) → j < n → i + n ≤ length l → get_or (sets l i (map f (up_to 0 n))) (i + j) d ≡ f j
  stored_at zero j d h k = absurd (omega arith)
  stored_at (suc n) j d h k =
      ap (λ (s : List A). get_or s (i + j) d) (ap (λ (m : ℕ). sets l i (map f (up_to 0 m))) (sym (add-one n)) ∙ sym (stores-grow n))
      ∙ go (stored_at n j d) (less-or-not j n)
    where
      before : List A
      before = sets l i (map f (up_to 0 n))

      go : (j < n → i + n ≤ length l → get_or before (i + j) d ≡ f j) → (j < n) ⊎ (n ≤ j) → get_or (set before (i + n) (f n)) (i + j) d ≡ f j
      go r (inl m) = get_or-set_other before (i + n) (i + j) (f n) d (λ e. omega arith) ∙ r m (omega arith)
      go r (inr m) =
          let e : j ≡ n = omega arith in
          ap (λ (k : ℕ). get_or (set before (i + n) (f n)) (i + k) d) e
          ∙ get_or-set_same before (i + n) (f n) d (omega (arith, length-sets l i (map f (up_to 0 n))))
          ∙ ap f (sym e)

-- what stands anywhere else
pub stored-apart : {A : Type 0} (l vs : List A) (i m : ℕ) (d : A) → (m < i) ⊎ (i + length vs ≤ m) → get_or (sets l i vs) m d ≡ get_or l m d
stored-apart l [] i m d h = refl
stored-apart l (v ∷ vs) i m d (inl h) = stored-apart (set l i v) vs (suc i) m d (inl (omega arith)) ∙ get_or-set_other l i m v d (λ e. omega arith)
stored-apart l (v ∷ vs) i m d (inr h) = stored-apart (set l i v) vs (suc i) m d (inr (omega arith)) ∙ get_or-set_other l i m v d (λ e. omega arith)
