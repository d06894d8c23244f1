-- Boxes of points cover a box exactly, each of its points once and no other, if and only if each lies inside it, no two share a point, and their
-- sizes add up to its own. Counted over the list of the box's points, once by points and once by boxes. Assumes nothing.
use Prim.Native.Nat.{ℕ, zero, suc, ◌+◌, ◌-◌, ◌*◌, ◌≤◌, ◌<◌}
use native.Mathlib.Omega.{arith}
use mathlib.Core.Bool.{Bool, true, false, ◌&&◌}
use mathlib.Core.List.{List, [], ◌∷◌}
use mathlib.Core.Path.{◌≡◌, refl, sym, ap, subst, ◌∙◌}
use lib.Dec.{T}
use lib.Ieee.Fits.{and_i, and_l}
use lib.ListN.{length, get_or}
use Rattle.lists.specs.Lists.{one, keep, many}
use Rattle.rules.specs.Grid.{GridPoint, Box, same_point, is_cell}
use Rattle.rules.specs.Vertices.{cells}
use Rattle.lists.proofs.Tests.{same_test, is-test, one_of, one-not, one-most, one-positive}
use Rattle.lists.proofs.Lists.{All, none, more, all-each, total, total-same, total-plus, many-total, many-same, many-keep, many-with, many-some, length-keep}
use Rattle.lists.proofs.Permutation.{perm-length, perm-counts}
use Rattle.rules.proofs.Counting.{same_point-sound, same_point-itself, same_point-moves, cells-once}
use Rattle.grid.proofs.Order.{box-ends, box-length}

-- how many points a box has
abbrev pub volume : Box → ℕ
volume b = (b.high.x - b.low.x) * (b.high.y - b.low.y) * (b.high.z - b.low.z)

pub cells-volume : (b : Box) → length (cells b) ≡ volume b
cells-volume b = ap length (sym (box-ends b)) ∙ box-length b b.high.z

-- ---- lists

-- what holds of every element holds of one that the list counts
counted : {A : Type 0} (same : A → A → Bool) → ((a b : A) → T (same a b) → a ≡ b) → {P : A → Type 0} {l : List A} → All P l → (a : A) → 0 < many (same a) l → P a
unfolding many
counted same sound none a h = absurd (omega arith)
counted same sound {P = P} (more {x = x} {xs = xs} p q) a h = go (same a x) refl h (counted same sound q a)
  where
    go : (c : Bool) → same a x ≡ c → 0 < one c + many (same a) xs → (0 < many (same a) xs → P a) → P a
    go true e h r = subst P (sym (sound a x (is-test (same a x) e))) p
    go false e h r = r (omega arith)

-- numbers of at most 1 that add up to their count are all 1
total-most : {A : Type 0} (f : A → ℕ) → ((x : A) → f x ≤ 1) → (l : List A) → total f l ≤ length l
unfolding total
total-most f h [] = omega arith
total-most f h (x ∷ xs) = omega (arith, h x, total-most f h xs)

all-full : {A : Type 0} (f : A → ℕ) → ((x : A) → f x ≤ 1) → (l : List A) → total f l ≡ length l → All (λ x. f x ≡ 1) l
unfolding total
all-full f h [] e = none
all-full f h (x ∷ xs) e =
    let first : f x ≡ 1 = omega (arith, h x, total-most f h xs) in
    let rest : total f xs ≡ length xs = omega (arith, h x, total-most f h xs) in
    more first (all-full f h xs rest)

total-none : {A : Type 0} (l : List A) → total (λ (x : A). 0) l ≡ 0
unfolding total
total-none [] = refl
total-none (x ∷ xs) = omega (arith, total-none xs)

-- counted by elements of the one list, or by those of the other
exchanged : {A B : Type 0} (f : A → B → Bool) (s : List A) (t : List B) → total (λ (b : B). many (λ (a : A). f a b) s) t ≡ total (λ (a : A). many (f a) t) s
unfolding many total
exchanged f [] t = total-none t
exchanged f (a ∷ s) t =
    total-plus (λ b. one (f a b)) (λ b. many (λ (a : _). f a b) s) t
    ∙ ap (λ n. n + total (λ b. many (λ (a : _). f a b) s) t) (sym (many-total (f a) t))
    ∙ ap (λ n. many (f a) t + n) (exchanged f s t)

-- two places that pass
two-pass : {A : Type 0} (f : A → Bool) (d : A) (l : List A) (i j : ℕ) → j < i → i < length l → T (f (get_or l i d)) → T (f (get_or l j d)) → 2 ≤ many f l
unfolding many
two-pass f d [] i j h k s t = absurd (omega arith)
two-pass f d (x ∷ xs) zero j h k s t = absurd (omega arith)
two-pass f d (x ∷ xs) (suc i) zero h k s t = omega (arith, one_of (f x) t, many-some f xs i d (omega arith) s)
two-pass f d (x ∷ xs) (suc i) (suc j) h k s t = omega (arith, two-pass f d xs i j (omega arith) (omega arith) s t)

-- no place passes
none_pass : {A : Type 0} (f : A → Bool) (d : A) (l : List A) → ((i : ℕ) → i < length l → T (f (get_or l i d)) → ⊥) → many f l ≡ 0
unfolding many
none_pass f d [] h = refl
none_pass f d (x ∷ xs) h = omega (arith, one-not (f x) (h 0 (omega arith)), none_pass f d xs (λ i k. h (suc i) (omega arith)))

-- no two places pass
one_passes : {A : Type 0} (f : A → Bool) (d : A) (l : List A)
    → ((i j : ℕ) → j < i → i < length l → T (f (get_or l i d)) → T (f (get_or l j d)) → ⊥) → many f l ≤ 1
unfolding many
one_passes f d [] h = omega arith
one_passes f d (x ∷ xs) h = go (f x) refl (one_passes f d xs (λ i j k m. h (suc i) (suc j) (omega arith) (omega arith)))
  where
    go : (c : Bool) → f x ≡ c → many f xs ≤ 1 → one c + many f xs ≤ 1
    go true e r = omega (arith, none_pass f d xs (λ i k s. h (suc i) 0 (omega arith) (omega arith) s (is-test (f x) e)))
    go false e r = omega (arith, r)

-- ---- boxes

-- every point of one box is one of the other
abbrev pub Within : Box → Box → Type 0
Within r w = (p : GridPoint) → T (is_cell r p) → T (is_cell w p)

-- no point is in both
abbrev pub Apart : Box → Box → Type 0
Apart r s = (p : GridPoint) → T (is_cell r p) → T (is_cell s p) → ⊥

-- of a box's points those of a box inside it are as many as that box has
inner-count : (r w : Box) → Within r w → many (is_cell r) (cells w) ≡ volume r
inner-count r w h =
    sym (length-keep (is_cell r) (cells w)) ∙ perm-length (perm-counts same_point same_point-sound same_point-itself (keep (is_cell r) (cells w)) (cells r) counts)
    ∙ cells-volume r
  where
    counts : (p : GridPoint) → many (same_point p) (keep (is_cell r) (cells w)) ≡ many (same_point p) (cells r)
    counts p =
        many-keep (same_point p) (is_cell r) (cells w)
        ∙ many-same (all-each (same_point-moves (is_cell r) p) (cells w))
        ∙ many-with (same_point p) (is_cell r p) (cells w) (is_cell w p) (cells-once w p)
        ∙ ap one (same_test (is_cell r p && is_cell w p) (is_cell r p) (and_l (is_cell r p) (is_cell w p)) (λ t. and_i (is_cell r p) (is_cell w p) t (h p t)))
        ∙ sym (cells-once r p)

-- the place past the end
abbrev pub nowhere : Box
nowhere = record { low = record { x = 0; y = 0; z = 0 }; high = record { x = 0; y = 0; z = 0 } }

abbrev pub box : List Box → ℕ → Box
box rs i = get_or rs i nowhere

module _ (rs : List Box) (w : Box) where
  -- each point of the whole lies in exactly one box, and no box has any other
  abbrev pub Covers : Type 0
  Covers = (p : GridPoint) → many (λ (r : Box). is_cell r p) rs ≡ one (is_cell w p)

  within_all : ((i : ℕ) → i < length rs → Within (box rs i) w) → total (λ (r : Box). many (is_cell r) (cells w)) rs ≡ total volume rs
  within_all h = total-same (all_of rs h)
    where
      all_of : (l : List Box) → ((i : ℕ) → i < length l → Within (box l i) w) → All (λ r. many (is_cell r) (cells w) ≡ volume r) l
      all_of [] h = none
      all_of (r ∷ l) h = more (inner-count r w (h 0 (omega arith))) (all_of l (λ i k. h (suc i) (omega arith)))

  pub covers : ((i : ℕ) → i < length rs → Within (box rs i) w) → ((i j : ℕ) → j < i → i < length rs → Apart (box rs i) (box rs j)) → total volume rs ≡ volume w → Covers
  covers inside apart size p = go (is_cell w p) refl
    where
      often : GridPoint → ℕ
      often q = many (λ (r : Box). is_cell r q) rs

      once : (q : GridPoint) → often q ≤ 1
      once q = one_passes (λ (r : Box). is_cell r q) nowhere rs (λ i j h k s t. apart i j h k q s t)

      full : total often (cells w) ≡ length (cells w)
      full = exchanged is_cell rs (cells w) ∙ within_all inside ∙ size ∙ sym (cells-volume w)

      go : (c : Bool) → is_cell w p ≡ c → often p ≡ one c
      go true e = counted same_point same_point-sound (all-full often once (cells w) full) p (omega (arith, cells-once w p, one_of (is_cell w p) (is-test (is_cell w p) e)))
      go false e = none_pass (λ (r : Box). is_cell r p) nowhere rs (λ i h t. subst T e (inside i h p t))

  pub covers-apart : Covers → (i j : ℕ) → j < i → i < length rs → Apart (box rs i) (box rs j)
  covers-apart c i j h k p s t = omega (arith, c p, one-most (is_cell w p), two-pass (λ (r : Box). is_cell r p) nowhere rs i j h k s t)

  pub covers-within : Covers → (i : ℕ) → i < length rs → Within (box rs i) w
  covers-within c i h p t = one-positive (is_cell w p) (omega (arith, c p, many-some (λ (r : Box). is_cell r p) rs i nowhere h t))

  pub covers-size : Covers → total volume rs ≡ volume w
  covers-size c =
      sym (within_all (covers-within c))
      ∙ sym (exchanged is_cell rs (cells w))
      ∙ total-same (all-each c (cells w))
      ∙ sym (many-total (is_cell w) (cells w))
      ∙ inner-count w w (λ p t. t)
