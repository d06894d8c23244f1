-- Laws of the functions on lists that the rules are written with: what holds of every element, over ++ and over joined lists, lengths, counts,
-- places. From their definitions alone, each by induction on the list. Assumes nothing.
use Prim.Native.Nat.{ℕ, zero, suc, ◌+◌, ◌*◌, ◌/◌, ◌%◌, ◌≤◌, ◌<◌}
use native.Mathlib.Nat.{mul-zero, mul-suc, mul-add, add_comm, add-zero}
use native.Mathlib.Omega.{arith}
use mathlib.Core.Bool.{Bool, true, false, ◌&&◌, cond, and-true, and-false, and_comm}
use mathlib.Core.List.{List, [], ◌∷◌, ◌++◌, map, map-append, append_assoc, append-nil, Memᴰ}
use mathlib.Core.Path.{◌≡◌, refl, sym, ap, ap₂, subst, ◌∙◌}
use lib.Dec.{T}
use lib.ListN.{length, get_or, length-append}
use Rattle.lists.specs.Lists.{one, keep, many, joined, place, placed}
use Rattle.lists.proofs.Tests.{is-test, one_of, one-not, one-positive, one-most}

-- ---- every element

pub data All {A : Type 0} (P : A → Type 0) : List A → Type 0 where
  none : All P []
  more : {x : A} {xs : List A} → P x → All P xs → All P (x ∷ xs)

module _ {A : Type 0} {P : A → Type 0} where
  pub all_append : {s t : List A} → All P s → All P t → All P (s ++ t)
  all_append none q = q
  all_append (more h p) q = more h (all_append p q)

  pub all-at : {l : List A} → All P l → (k : ℕ) → k < length l → (d : A) → P (get_or l k d)
  all-at none k h d = absurd (omega arith)
  all-at (more p q) zero h d = p
  all-at (more p q) (suc k) h d = all-at q k (omega arith) d

  pub all_in : {a : A} {l : List A} → Memᴰ a l → All P l → P a
  all_in (Memᴰ.head e) (more p q) = subst P (sym e) p
  all_in (Memᴰ.tail m) (more p q) = all_in m q

  pub all-each : ((x : A) → P x) → (l : List A) → All P l
  all-each f [] = none
  all-each f (x ∷ xs) = more (f x) (all-each f xs)

  pub all_then : {Q : A → Type 0} {l : List A} → ((x : A) → P x → Q x) → All P l → All Q l
  all_then f none = none
  all_then f (more p q) = more (f _ p) (all_then f q)

  -- two facts of each element, joined to one
  pub all_both : {Q R : A → Type 0} {l : List A} → ((x : A) → P x → Q x → R x) → All P l → All Q l → All R l
  all_both f none none = none
  all_both f (more p q) (more r s) = more (f _ p r) (all_both f q s)

  pub all_map : {B : Type 0} (f : B → A) {l : List B} → All (λ x. P (f x)) l → All P (map f l)
  all_map f none = none
  all_map f (more p q) = more p (all_map f q)

  pub all-joined : {B : Type 0} {f : B → List A} {l : List B} → All (λ x. All P (f x)) l → All P (joined f l)
  unfolding joined
  all-joined none = none
  all-joined (more p q) = all_append p (all-joined q)

  pub all_keep : (f : A → Bool) {l : List A} → All (λ x. T (f x) → P x) l → All P (keep f l)
  unfolding keep
  all_keep f none = none
  all_keep f (more {x = x} {xs = xs} p q) = go (f x) p (all_keep f q)
    where
      go : (t : Bool) → (T t → P x) → All P (keep f xs) → All P (cond t (x ∷ keep f xs) (keep f xs))
      go true h r = more (h tt) r
      go false h r = r

-- a map by two functions that agree on the elements
pub map_same : {A B : Type 0} {f g : A → B} {l : List A} → All (λ x. f x ≡ g x) l → map f l ≡ map g l
map_same none = refl
map_same (more p q) = ap₂ ◌∷◌ p (map_same q)

-- ---- joined lists

module _ {A B : Type 0} (f : A → List B) where
  pub joined-append : (s t : List A) → joined f (s ++ t) ≡ joined f s ++ joined f t
  unfolding joined
  joined-append [] t = refl
  joined-append (x ∷ s) t = ap (λ r. f x ++ r) (joined-append s t) ∙ sym (append_assoc (f x) (joined f s) (joined f t))

  -- one element more at the end
  pub joined_snoc : (s : List A) (x : A) → joined f (s ++ (x ∷ [])) ≡ joined f s ++ f x
  unfolding joined
  joined_snoc s x = joined-append s (x ∷ []) ∙ ap (λ r. joined f s ++ r) (append-nil (f x))

  pub map-joined : {C : Type 0} (h : B → C) (l : List A) → map h (joined f l) ≡ joined (λ x. map h (f x)) l
  unfolding joined
  map-joined h [] = refl
  map-joined h (x ∷ xs) = map-append h (f x) (joined f xs) ∙ ap (λ r. map h (f x) ++ r) (map-joined h xs)

pub joined_same : {A B : Type 0} {f g : A → List B} {l : List A} → All (λ x. f x ≡ g x) l → joined f l ≡ joined g l
unfolding joined
joined_same none = refl
joined_same (more p q) = ap₂ ◌++◌ p (joined_same q)

pub joined-joined : {A B C : Type 0} (f : B → List C) (h : A → List B) (l : List A) → joined f (joined h l) ≡ joined (λ x. joined f (h x)) l
unfolding joined
joined-joined f h [] = refl
joined-joined f h (x ∷ xs) = joined-append f (h x) (joined h xs) ∙ ap (λ r. joined f (h x) ++ r) (joined-joined f h xs)

-- ---- totals: what f gives for each element, added up

unfoldable pub total : {A : Type 0} → (A → ℕ) → List A → ℕ
total f [] = 0
total f (x ∷ xs) = f x + total f xs

pub total-same : {A : Type 0} {f g : A → ℕ} {l : List A} → All (λ x. f x ≡ g x) l → total f l ≡ total g l
unfolding total
total-same none = refl
total-same (more p q) = ap₂ ◌+◌ p (total-same q)

pub total-plus : {A : Type 0} (f g : A → ℕ) (l : List A) → total (λ x. f x + g x) l ≡ total f l + total g l
unfolding total
total-plus f g [] = refl
total-plus f g (x ∷ xs) = omega (arith, total-plus f g xs)

pub total-times : {A : Type 0} (k : ℕ) (l : List A) → total (λ x. k) l ≡ k * length l
unfolding total
total-times k [] = sym (mul-zero k)
total-times k (x ∷ xs) = ap (λ r. k + r) (total-times k xs) ∙ sym (mul-suc k (length xs) ∙ add_comm (k * length xs) k)

pub total-scaled : {A : Type 0} (k : ℕ) (f : A → ℕ) (l : List A) → total (λ x. k * f x) l ≡ k * total f l
unfolding total
total-scaled k f [] = sym (mul-zero k)
total-scaled k f (x ∷ xs) = ap (λ r. k * f x + r) (total-scaled k f xs) ∙ sym (mul-add k (f x) (total f xs))

-- ---- what a test keeps, and how many pass it

module _ {A : Type 0} where
  pub many-append : (f : A → Bool) (s t : List A) → many f (s ++ t) ≡ many f s + many f t
  unfolding many
  many-append f [] t = omega arith
  many-append f (x ∷ s) t = omega (arith, many-append f s t)

  pub keep_append : (f : A → Bool) (s t : List A) → keep f (s ++ t) ≡ keep f s ++ keep f t
  unfolding keep
  keep_append f [] t = refl
  keep_append f (x ∷ s) t = go (f x) (keep_append f s t)
    where
      go : (c : Bool) → keep f (s ++ t) ≡ keep f s ++ keep f t → cond c (x ∷ keep f (s ++ t)) (keep f (s ++ t)) ≡ cond c (x ∷ keep f s) (keep f s) ++ keep f t
      go true e = ap (λ r. x ∷ r) e
      go false e = e

  pub length-keep : (f : A → Bool) (l : List A) → length (keep f l) ≡ many f l
  unfolding keep many
  length-keep f [] = refl
  length-keep f (x ∷ xs) = go (f x) (length-keep f xs)
    where
      go : (c : Bool) → length (keep f xs) ≡ many f xs → length (cond c (x ∷ keep f xs) (keep f xs)) ≡ one c + many f xs
      go true e = omega arith
      go false e = omega arith

  pub many-keep : (f h : A → Bool) (l : List A) → many f (keep h l) ≡ many (λ x. h x && f x) l
  unfolding keep many
  many-keep f h [] = refl
  many-keep f h (x ∷ xs) = go (h x) (many-keep f h xs)
    where
      go : (c : Bool) → many f (keep h xs) ≡ many (λ x. h x && f x) xs → many f (cond c (x ∷ keep h xs) (keep h xs)) ≡ one (c && f x) + many (λ x. h x && f x) xs
      go true e = omega arith
      go false e = omega arith

  pub many-same : {f g : A → Bool} {l : List A} → All (λ x. f x ≡ g x) l → many f l ≡ many g l
  unfolding many
  many-same none = refl
  many-same (more p q) = ap₂ ◌+◌ (ap one p) (many-same q)

  pub keep_same : {f g : A → Bool} {l : List A} → All (λ x. f x ≡ g x) l → keep f l ≡ keep g l
  unfolding keep
  keep_same none = refl
  keep_same (more {x = x} p q) = ap₂ (λ (b : Bool) (ys : List A). cond b (x ∷ ys) ys) p (keep_same q)

  -- where no element passes
  pub keep-none : {f : A → Bool} {l : List A} → All (λ x. f x ≡ false) l → keep f l ≡ []
  unfolding keep
  keep-none none = refl
  keep-none {f} (more {x = x} {xs = xs} p q) = ap (λ (b : Bool). cond b (x ∷ keep f xs) (keep f xs)) p ∙ keep-none q

  pub many-total : (f : A → Bool) (l : List A) → many f l ≡ total (λ x. one (f x)) l
  unfolding many total
  many-total f [] = refl
  many-total f (x ∷ xs) = ap (λ r. one (f x) + r) (many-total f xs)

  pub many-never : (l : List A) → many (λ x. false) l ≡ 0
  unfolding many
  many-never [] = refl
  many-never (x ∷ xs) = omega (arith, many-never xs)

  -- where a test that does not look at the element stands beside it
  pub many-and : (f : A → Bool) (c : Bool) (l : List A) (t : Bool) → many f l ≡ one t → many (λ x. f x && c) l ≡ one (t && c)
  many-and f true l t e = many-same (all-each (λ x. and-true (f x)) l) ∙ e ∙ ap one (sym (and-true t))
  many-and f false l t e = many-same {g = λ x. false} (all-each (λ x. and-false (f x)) l) ∙ many-never l ∙ ap one (sym (and-false t))

  pub many-with : (f : A → Bool) (c : Bool) (l : List A) (t : Bool) → many f l ≡ one t → many (λ x. c && f x) l ≡ one (c && t)
  many-with f c l t e = many-same (all-each (λ x. and_comm c (f x)) l) ∙ many-and f c l t e ∙ ap one (and_comm t c)

  -- an element that passes, and one that does not
  pub many-some : (f : A → Bool) (l : List A) (k : ℕ) (d : A) → k < length l → T (f (get_or l k d)) → 0 < many f l
  unfolding many
  many-some f [] k d h p = omega arith
  many-some f (x ∷ xs) zero d h p = omega (arith, one_of (f x) p)
  many-some f (x ∷ xs) (suc k) d h p = omega (arith, many-some f xs k d (omega arith) p)

  pub many-none : (f : A → Bool) {l : List A} → All (λ x. T (f x) → ⊥) l → many f l ≡ 0
  unfolding many
  many-none f none = refl
  many-none f (more {x = x} p q) = omega (arith, one-not (f x) p, many-none f q)

  pub many-most : (f : A → Bool) (l : List A) → many f l ≤ length l
  unfolding many
  many-most f [] = omega arith
  many-most f (x ∷ xs) = omega (arith, many-most f xs, one-most (f x))

  -- all of them, exactly if as many pass as there are
  pub many-every : (f : A → Bool) {l : List A} → All (λ x. T (f x)) l → many f l ≡ length l
  unfolding many
  many-every f none = refl
  many-every f (more {x = x} p q) = omega (arith, one_of (f x) p, many-every f q)

  pub many-full : (f : A → Bool) (l : List A) → many f l ≡ length l → All (λ x. T (f x)) l
  unfolding many
  many-full f [] e = none
  many-full f (x ∷ xs) e =
      more (one-positive (f x) (omega (arith, many-most f xs))) (many-full f xs (omega (arith, many-most f xs, one-most (f x))))

  pub many-less : (f : A → Bool) (l : List A) (k : ℕ) (d : A) → k < length l → (T (f (get_or l k d)) → ⊥) → many f l < length l
  unfolding many
  many-less f [] k d h p = omega arith
  many-less f (x ∷ xs) zero d h p = omega (arith, one-not (f x) p, many-most f xs)
  many-less f (x ∷ xs) (suc k) d h p = omega (arith, many-less f xs k d (omega arith) p, one-most (f x))

module _ {A B : Type 0} where
  pub many-map : (f : B → Bool) (h : A → B) (l : List A) → many f (map h l) ≡ many (λ x. f (h x)) l
  unfolding many
  many-map f h [] = refl
  many-map f h (x ∷ xs) = ap (λ r. one (f (h x)) + r) (many-map f h xs)

  pub many-joined : (f : B → Bool) (h : A → List B) (l : List A) → many f (joined h l) ≡ total (λ x. many f (h x)) l
  unfolding many joined total
  many-joined f h [] = refl
  many-joined f h (x ∷ xs) = many-append f (h x) (joined h xs) ∙ ap (λ r. many f (h x) + r) (many-joined f h xs)

  -- where each of the joined lists holds it once or not at all
  pub many-joined-once : (f : B → Bool) (h : A → List B) (t : A → Bool) → ((x : A) → many f (h x) ≡ one (t x)) → (l : List A) → many f (joined h l) ≡ many t l
  many-joined-once f h t e l = many-joined f h l ∙ total-same (all-each e l) ∙ sym (many-total t l)

  pub keep-map : (f : B → Bool) (h : A → B) (l : List A) → keep f (map h l) ≡ map h (keep (λ x. f (h x)) l)
  unfolding keep
  keep-map f h [] = refl
  keep-map f h (x ∷ xs) = go (f (h x)) (keep-map f h xs)
    where
      go : (c : Bool) → keep f (map h xs) ≡ map h (keep (λ x. f (h x)) xs)
          → cond c (h x ∷ keep f (map h xs)) (keep f (map h xs)) ≡ map h (cond c (x ∷ keep (λ x. f (h x)) xs) (keep (λ x. f (h x)) xs))
      go true e = ap (λ r. h x ∷ r) e
      go false e = e

  pub keep-joined : (f : B → Bool) (h : A → List B) (l : List A) → keep f (joined h l) ≡ joined (λ x. keep f (h x)) l
  unfolding keep joined
  keep-joined f h [] = refl
  keep-joined f h (x ∷ xs) = keep_append f (h x) (joined h xs) ∙ ap (λ r. keep f (h x) ++ r) (keep-joined f h xs)

  pub length-joined : (h : A → List B) (l : List A) → length (joined h l) ≡ total (λ x. length (h x)) l
  unfolding joined total
  length-joined h [] = refl
  length-joined h (x ∷ xs) = length-append (h x) (joined h xs) ∙ ap (λ r. length (h x) + r) (length-joined h xs)

  -- lists of one length
  pub joined_length : (h : A → List B) (k : ℕ) → ((x : A) → length (h x) ≡ k) → (l : List A) → length (joined h l) ≡ k * length l
  joined_length h k e l = length-joined h l ∙ total-same (all-each e l) ∙ total-times k l

-- ---- a place

module _ {A : Type 0} (f : A → Bool) where
  -- in the first of two lists, where something there passes; else in the second
  pub place_here : (s t : List A) → 0 < many f s → place f (s ++ t) ≡ place f s
  unfolding many place
  place_here [] t h = omega arith
  place_here (x ∷ s) t h = go (f x) h (place_here s t)
    where
      go : (c : Bool) → 0 < one c + many f s → (0 < many f s → place f (s ++ t) ≡ place f s) → cond c 0 (suc (place f (s ++ t))) ≡ cond c 0 (suc (place f s))
      go true h r = refl
      go false h r = ap suc (r (omega arith))

  pub place-past : (s t : List A) → many f s ≡ 0 → place f (s ++ t) ≡ length s + place f t
  unfolding many place
  place-past [] t h = omega arith
  place-past (x ∷ s) t h = go (f x) h (place-past s t (omega arith))
    where
      go : (c : Bool) → one c + many f s ≡ 0 → place f (s ++ t) ≡ length s + place f t → cond c 0 (suc (place f (s ++ t))) ≡ suc (length s) + place f t
      go true h e = omega arith
      go false h e = omega arith

  pub place-below : (l : List A) → 0 < many f l → place f l < length l
  unfolding many place
  place-below [] h = h
  place-below (x ∷ xs) h = go (f x) h (place-below xs)
    where
      go : (c : Bool) → 0 < one c + many f xs → (0 < many f xs → place f xs < length xs) → cond c 0 (suc (place f xs)) < suc (length xs)
      go true h r = omega arith
      go false h r = omega (arith, r (omega arith))

  pub place-passes : (l : List A) (d : A) → 0 < many f l → T (f (get_or l (place f l) d))
  unfolding many place
  place-passes [] d h = absurd (omega arith)
  place-passes (x ∷ xs) d h = go (f x) refl h (place-passes xs d)
    where
      go : (c : Bool) → f x ≡ c → 0 < one c + many f xs → (0 < many f xs → T (f (get_or xs (place f xs) d))) → T (f (get_or (x ∷ xs) (cond c 0 (suc (place f xs))) d))
      go true e h r = is-test (f x) e
      go false e h r = r (omega arith)

-- ---- each element by its place

module _ {A : Type 0} (f : ℕ → A → A) where
  pub length-placed : (n : ℕ) (l : List A) → length (placed f n l) ≡ length l
  unfolding placed
  length-placed n [] = refl
  length-placed n (x ∷ xs) = ap suc (length-placed (suc n) xs)

  pub get_d-placed : (n : ℕ) (l : List A) (j : ℕ) (d : A) → j < length l → get_or (placed f n l) j d ≡ f (n + j) (get_or l j d)
  unfolding placed
  get_d-placed n [] j d h = absurd (omega arith)
  get_d-placed n (x ∷ xs) zero d h = ap (λ k. f k x) (sym (add-zero n))
  get_d-placed n (x ∷ xs) (suc j) d h = get_d-placed (suc n) xs j d (omega arith) ∙ ap (λ k. f k (get_or xs j d)) (omega arith)

-- what holds of three numbers for each k below n holds of each number below 3·n
pub by-threes : (P : ℕ → Type 0) (n : ℕ) → ((k : ℕ) → k < n → P (3 * k) × P (3 * k + 1) × P (3 * k + 2)) → (i : ℕ) → i < 3 * n → P i
by-threes P n h i k = go (i % 3) (omega arith) refl
  where
    at : P (3 * (i / 3)) × P (3 * (i / 3) + 1) × P (3 * (i / 3) + 2)
    at = h (i / 3) (omega arith)

    go : (r : ℕ) → r < 3 → i % 3 ≡ r → P i
    go zero l e = subst P (omega arith) at.0
    go (suc zero) l e = subst P (omega arith) at.1
    go (suc (suc zero)) l e = subst P (omega arith) at.2
    go (suc (suc (suc r))) l e = absurd (omega arith)
