-- A loop over a list, told by its last turn: what the rules count and sum over the first n + 1 elements, from the first n and the next one.
-- Assumes nothing.
use Rattle.std.proofs.Common.{◌≡◌, ℕ, zero, suc, ◌+◌, ◌<◌, Bool, true, false, cond, List, [], ◌∷◌, map, length, get_or, take, sym, refl, ap, ◌∙◌, ap₂, le_of_suc-le-suc, not-suc-le-zero, add-zero, add-one, take-suc}
use Rattle.std.specs.List.{count_by}
use Rattle.std.proofs.lemmas.List.Sums.{sum_by-cons}
use Rattle.lists.specs.Lists.{one, keep, many}
use Rattle.rules.specs.Cell.{Vector, plus, summed}
use Rattle.lists.proofs.Lists.{many-append}

-- the library's word for it
pub many_counted : {A : Type 0} (f : A → Bool) (l : List A) → many f l ≡ count_by f l
unfolding many
many_counted f [] = refl
many_counted f (x ∷ xs) = ap₂ ◌+◌ (one-cond (f x)) (many_counted f xs) ∙ sym (sum_by-cons (λ y. cond (f y) 1 0) x xs)
  where
    one-cond : (b : Bool) → one b ≡ cond b 1 0
    one-cond true = refl
    one-cond false = refl

module _ {A : Type 0} (f : A → Bool) (d : A) where
  many-next : (l : List A) (n : ℕ) → n < length l → many f (take (suc n) l) ≡ many f (take n l) + one (f (get_or l n d))
  unfolding many
  many-next l n h = ap (many f) (take-suc l n d h) ∙ (many-append f (take n l) (get_or l n d ∷ []) ∙ ap (λ (k : ℕ). many f (take n l) + k) (add-zero (one (f (get_or l n d)))))

  -- the turn of a loop that counts: k is the count before it, k' after it, b what the test of the element says
  pub many-turn : {k k' : ℕ} (l : List A) (n : ℕ) (b : Bool) → n < length l → k ≡ many f (take n l) → f (get_or l n d) ≡ b → k' ≡ k + one b
      → k' ≡ many f (take (n + 1) l)
  many-turn l n b h inv test turn =
      turn ∙ (ap₂ (λ (m : ℕ) (t : Bool). m + one t) inv (sym test) ∙ (sym (many-next l n h) ∙ ap (λ (j : ℕ). many f (take j l)) (sym (add-one n))))

  module _ (g : A → Vector) where
    -- g of each element that passes the test, summed onto v
    abbrev pub sum_of : Vector → List A → Vector
    sum_of v l = summed v (map g (keep f l))

    first : (b : Bool) (v : Vector) (x : A) (ys : List A) → summed v (map g (cond b (x ∷ ys) ys)) ≡ summed (cond b (plus v (g x)) v) (map g ys)
    unfolding summed
    first true v x ys = refl
    first false v x ys = refl

    sum-cons : (v : Vector) (x : A) (xs : List A) → sum_of v (x ∷ xs) ≡ sum_of (cond (f x) (plus v (g x)) v) xs
    unfolding keep
    sum-cons v x xs = first (f x) v x (keep f xs)

    sum-none : (v : Vector) → sum_of v [] ≡ v
    unfolding keep summed
    sum-none v = refl

    -- the next element: added where it passes the test
    abbrev pub added : A → Vector → Vector
    added x v = cond (f x) (plus v (g x)) v

    sum-next : (v : Vector) (l : List A) (n : ℕ) → n < length l → sum_of v (take (suc n) l) ≡ added (get_or l n d) (sum_of v (take n l))
    sum-next v [] n h = absurd (not-suc-le-zero h)
    sum-next v (x ∷ xs) zero h = sum-cons v x [] ∙ (sum-none (added x v) ∙ ap (added x) (sym (sum-none v)))
    sum-next v (x ∷ xs) (suc n) h =
        sum-cons v x (take (suc n) xs)
        ∙ (sum-next (added x v) xs n (le_of_suc-le-suc h) ∙ ap (added (get_or xs n d)) (sym (sum-cons v x (take n xs))))

    -- the turn of a loop that sums: s is the sum before it, s' after it, b what the test of the element says
    pub sum-turn : {s s' : Vector} (v : Vector) (l : List A) (n : ℕ) (b : Bool) → n < length l → s ≡ sum_of v (take n l) → f (get_or l n d) ≡ b
        → s' ≡ cond b (plus s (g (get_or l n d))) s → s' ≡ sum_of v (take (n + 1) l)
    sum-turn v l n b h inv test turn =
        turn
        ∙ (ap₂ (λ (t : Bool) (u : Vector). cond t (plus u (g (get_or l n d))) u) (sym test) inv
        ∙ (sym (sum-next v l n h) ∙ ap (λ (j : ℕ). sum_of v (take j l)) (sym (add-one n))))
