-- Lists by places: what stands at a place of a mapped list, and what tests of all elements, or of some, say of each place. Assumes nothing.
use Rattle.std.proofs.Common.{◌≡◌, ℕ, zero, suc, ◌<◌, Bool, not, T, List, [], ◌∷◌, map, length, get_or, arith, refl}
use Rattle.std.specs.List.{list_any, list_all}
use lib.Ieee.Fits.{and_i, and_l, and_r}
use Rattle.lists.proofs.Tests.{nor-left, nor-right, nor-both}

pub at_map : {A B : Type 0} (f : A → B) (l : List A) (i : ℕ) (d : A) (e : B) → i < length l → get_or (map f l) i e ≡ f (get_or l i d)
at_map f [] i d e h = absurd (omega arith)
at_map f (x ∷ xs) zero d e h = refl
at_map f (x ∷ xs) (suc i) d e h = at_map f xs i d e (omega arith)

module _ {A : Type 0} (p : A → Bool) (d : A) where
  pub all-places : (l : List A) → T (list_all p l) → (i : ℕ) → i < length l → T (p (get_or l i d))
  all-places [] t i h = absurd (omega arith)
  all-places (x ∷ xs) t zero h = and_l (p x) (list_all p xs) t
  all-places (x ∷ xs) t (suc i) h = all-places xs (and_r (p x) (list_all p xs) t) i (omega arith)

  pub places-all : (l : List A) → ((i : ℕ) → i < length l → T (p (get_or l i d))) → T (list_all p l)
  places-all [] h = tt
  places-all (x ∷ xs) h = and_i (p x) (list_all p xs) (h 0 (omega arith)) (places-all xs (λ i k. h (suc i) (omega arith)))

  pub none-places : (l : List A) → T (not (list_any p l)) → (i : ℕ) → i < length l → T (not (p (get_or l i d)))
  none-places [] t i h = absurd (omega arith)
  none-places (x ∷ xs) t zero h = nor-left (p x) (list_any p xs) t
  none-places (x ∷ xs) t (suc i) h = none-places xs (nor-right (p x) (list_any p xs) t) i (omega arith)

  pub places-none : (l : List A) → ((i : ℕ) → i < length l → T (not (p (get_or l i d)))) → T (not (list_any p l))
  places-none [] h = tt
  places-none (x ∷ xs) h = nor-both (p x) (list_any p xs) (h 0 (omega arith)) (places-none xs (λ i k. h (suc i) (omega arith)))
