-- Laws of `some`, whether an element of a list passes a test: over ++, joined and mapped lists, and by the elements that the list holds.
-- By induction on the list. Assumes nothing.
use Prim.Native.Nat.{◌+◌, ◌<◌}
use native.Mathlib.Omega.{arith}
use mathlib.Core.Bool.{Bool, true, false, ◌||◌, or_assoc}
use mathlib.Core.List.{List, [], ◌∷◌, ◌++◌, map}
use mathlib.Core.Path.{◌≡◌, refl, sym, ap, ap₂, subst, ◌∙◌}
use lib.Dec.{T}
use Rattle.lists.specs.Lists.{one, some, many, joined}
use Rattle.lists.proofs.Tests.{is-test, one_of, or-first, or-second}
use Rattle.lists.proofs.Lists.{All, none, more}

pub some-append : {A : Type 0} (f : A → Bool) (s t : List A) → some f (s ++ t) ≡ (some f s || some f t)
unfolding some
some-append f [] t = refl
some-append f (x ∷ s) t = ap (λ (b : Bool). f x || b) (some-append f s t) ∙ sym (or_assoc (f x) (some f s) (some f t))

pub some-joined : {A B : Type 0} (f : B → Bool) (h : A → List B) (l : List A) → some f (joined h l) ≡ some (λ x. some f (h x)) l
unfolding some joined
some-joined f h [] = refl
some-joined f h (x ∷ l) = some-append f (h x) (joined h l) ∙ ap (λ (b : Bool). some f (h x) || b) (some-joined f h l)

pub some-map : {A B : Type 0} (f : B → Bool) (h : A → B) (l : List A) → some f (map h l) ≡ some (λ x. f (h x)) l
unfolding some
some-map f h [] = refl
some-map f h (x ∷ l) = ap (λ (b : Bool). f (h x) || b) (some-map f h l)

pub some_same : {A : Type 0} {f h : A → Bool} {l : List A} → All (λ x. f x ≡ h x) l → some f l ≡ some h l
unfolding some
some_same none = refl
some_same (more p q) = ap₂ ◌||◌ p (some_same q)

module _ {A : Type 0} (same : A → A → Bool) (sound : (a b : A) → T (same a b) → a ≡ b) (itself : (a : A) → T (same a a)) (f : A → Bool) where
  -- an element that the list holds
  pub some-has : (p : A) → T (f p) → (l : List A) → 0 < many (same p) l → T (some f l)
  unfolding some many
  some-has p t [] h = absurd (omega arith)
  some-has p t (x ∷ xs) h = go (same p x) refl h (some-has p t xs)
    where
      go : (c : Bool) → same p x ≡ c → 0 < one c + many (same p) xs → (0 < many (same p) xs → T (some f xs)) → T (f x || some f xs)
      go true e h r = or-first (f x) (some f xs) (subst (λ (q : A). T (f q)) (sound p x (is-test (same p x) e)) t)
      go false e h r = or-second (f x) (some f xs) (r (omega arith))

  pub some-member : (l : List A) → T (some f l) → (p : A) × (0 < many (same p) l) × T (f p)
  unfolding some many
  some-member [] t = absurd t
  some-member (x ∷ xs) t = go (f x) refl t (some-member xs)
    where
      go : (c : Bool) → f x ≡ c → T (c || some f xs) → (T (some f xs) → (p : A) × (0 < many (same p) xs) × T (f p))
          → (p : A) × (0 < one (same p x) + many (same p) xs) × T (f p)
      go true e t r = (x, omega (arith, one_of (same x x) (itself x)), is-test (f x) e)
      go false e t r =
          let w : (p : A) × (0 < many (same p) xs) × T (f p) = r t in
          (w.0, omega (arith, w.1), w.2)
