-- Sums over the directed sides of a list of triangles: where each side occurs as often as its reverse, a sum over the sides is the sum over their
-- reverses. Assumes nothing.
use Prim.Native.Nat.{ℕ}
use native.Mathlib.Omega.{arith}
use mathlib.Core.Bool.{Bool, true, false, ◌&&◌}
use mathlib.Core.List.{List, [], ◌∷◌, map}
use mathlib.Core.Path.{◌≡◌, refl, sym, ◌∙◌}
use lib.Dec.{eqb}
use Rattle.lists.specs.Lists.{many}
use Rattle.lists.proofs.Lists.{total, many-map, many-same, all-each}
use Rattle.lists.proofs.Permutation.{Perm, nil, skip, swap, trans, perm-counts}
use Rattle.skin.specs.Links.{Link, link, reverse, same_link}
use Rattle.skin.proofs.Closed.{same_link-sound, same_link-itself}

-- each directed side occurs exactly as often as its reverse
abbrev pub Even : List Link → Type 0
Even sides = (i j : ℕ) → many (same_link (link i j)) sides ≡ many (same_link (link j i)) sides

pub perm-total : {A : Type 0} (f : A → ℕ) {s t : List A} → Perm s t → total f s ≡ total f t
unfolding total
perm-total f nil = refl
perm-total f (skip p) = omega (arith, perm-total f p)
perm-total f swap = omega arith
perm-total f (trans p q) = perm-total f p ∙ perm-total f q

total-map : {A B : Type 0} (f : B → ℕ) (h : A → B) (l : List A) → total f (map h l) ≡ total (λ (x : A). f (h x)) l
unfolding total
total-map f h [] = refl
total-map f h (x ∷ xs) = omega (arith, total-map f h xs)

and-turn : (a b : Bool) → (a && b) ≡ (b && a)
and-turn true true = refl
and-turn true false = refl
and-turn false true = refl
and-turn false false = refl

-- the sides and their reverses are the same sides in another order
pub reversed : (l : List Link) → Even l → Perm l (map reverse l)
reversed l even = perm-counts same_link same_link-sound same_link-itself l (map reverse l) counts
  where
    counts : (s : Link) → many (same_link s) l ≡ many (same_link s) (map reverse l)
    counts s =
        even s.tail s.head
        ∙ many-same (all-each (λ (t : Link). and-turn (eqb s.head t.tail) (eqb s.tail t.head)) l)
        ∙ sym (many-map (same_link s) reverse l)

pub even-total : (f : ℕ → ℕ → ℕ) (l : List Link) → Even l → total (λ (s : Link). f s.tail s.head) l ≡ total (λ (s : Link). f s.head s.tail) l
even-total f l even =
    perm-total (λ (s : Link). f s.tail s.head) (reversed l even) ∙ total-map (λ (s : Link). f s.tail s.head) reverse l
