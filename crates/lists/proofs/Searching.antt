-- A search for an element that passes a test, from the front of a list on. Assumes nothing.
use Prim.Native.Nat.{ℕ, zero, suc, ◌+◌, ◌≤◌, ◌<◌, suc-le-suc}
use native.Mathlib.Nat.{le_of_suc-le-suc}
use native.Mathlib.Omega.{arith}
use native.Mathlib.Numerals.{add-one}
use mathlib.Core.Path.{◌≡◌, refl}
use mathlib.Core.Bool.{Bool, true, false}
use mathlib.Core.List.{List, [], ◌∷◌}
use lib.ListN.{length, get_or, drop, drop_of_length-le}
use lib.Seq.{drop-cons}
use Rattle.lists.specs.Lists.{some}
use Rattle.lists.proofs.Either.{or_left, or_right, or-none}

module _ {A : Type 0} (p : A → Bool) (d : A) where
  pub some-found : (l : List A) (i : ℕ) → i < length l → p (get_or l i d) ≡ true → some p (drop i l) ≡ true
  unfolding some
  some-found l i h e = rw (drop-cons l i d h) (rw e refl)

  pub some-passed : (l : List A) (i : ℕ) → i < length l → p (get_or l i d) ≡ false → some p (drop i l) ≡ some p (drop (i + 1) l)
  unfolding some
  some-passed l i h e = rw (drop-cons l i d h, add-one) (rw e refl)

  pub some-past : (l : List A) (i : ℕ) → length l ≤ i → some p (drop i l) ≡ false
  unfolding some
  some-past l i h = rw (drop_of_length-le l h) refl

  pub none-at : (l : List A) → some p l ≡ false → (i : ℕ) → i < length l → p (get_or l i d) ≡ false
  unfolding some
  none-at [] e i h = absurd (omega arith)
  none-at (x ∷ l) e zero h = or_left (p x) (some p l) e
  none-at (x ∷ l) e (suc i) h = none-at l (or_right (p x) (some p l) e) i (le_of_suc-le-suc h)

-- where no element passes, the search finds none
module _ {A : Type 0} (p : A → Bool) (d : A) where
  pub none-some : (l : List A) → ((i : ℕ) → i < length l → p (get_or l i d) ≡ false) → some p l ≡ false
  unfolding some
  none-some [] h = refl
  none-some (x ∷ l) h = or-none (p x) (some p l) (h 0 (omega arith)) (none-some l (λ i b. h (suc i) (suc-le-suc b)))
