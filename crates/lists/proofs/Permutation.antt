-- Lists that hold the same elements in another order: a permutation is built of skips and swaps, and follows from equal counts of each
-- element. Assumes nothing.
use Prim.Native.Nat.{suc, ◌+◌, ◌<◌}
use native.Mathlib.Omega.{arith}
use mathlib.Core.Bool.{Bool, true, false}
use mathlib.Core.List.{List, [], ◌∷◌, ◌++◌, map}
use mathlib.Core.Path.{◌≡◌, refl, sym, ap, subst, ◌∙◌}
use lib.Dec.{T}
use lib.ListN.{length}
use Rattle.lists.specs.Lists.{one, many}
use Rattle.lists.proofs.Tests.{one_of}
use Rattle.lists.proofs.Lists.{many-append}

pub data Perm {A : Type 0} : List A → List A → Type 0 where
  nil : Perm [] []
  skip : {x : A} {s t : List A} → Perm s t → Perm (x ∷ s) (x ∷ t)
  swap : {x y : A} {s : List A} → Perm (x ∷ y ∷ s) (y ∷ x ∷ s)
  trans : {s t u : List A} → Perm s t → Perm t u → Perm s u

pub perm_same : {A : Type 0} (l : List A) → Perm l l
perm_same [] = nil
perm_same (x ∷ xs) = skip (perm_same xs)

pub perm-length : {A : Type 0} {s t : List A} → Perm s t → length s ≡ length t
perm-length nil = refl
perm-length (skip p) = ap suc (perm-length p)
perm-length swap = refl
perm-length (trans p q) = perm-length p ∙ perm-length q

pub perm-map : {A B : Type 0} (f : A → B) {s t : List A} → Perm s t → Perm (map f s) (map f t)
perm-map f nil = nil
perm-map f (skip p) = skip (perm-map f p)
perm-map f swap = swap
perm-map f (trans p q) = trans (perm-map f p) (perm-map f q)

pub perm-many : {A : Type 0} (f : A → Bool) {s t : List A} → Perm s t → many f s ≡ many f t
unfolding many
perm-many f nil = refl
perm-many f (skip {x = x} p) = ap (λ r. one (f x) + r) (perm-many f p)
perm-many f swap = omega arith
perm-many f (trans p q) = perm-many f p ∙ perm-many f q

-- an element from the middle to the front
pub perm-front : {A : Type 0} (s : List A) (x : A) (t : List A) → Perm (x ∷ (s ++ t)) (s ++ (x ∷ t))
perm-front [] x t = perm_same (x ∷ t)
perm-front (y ∷ s) x t = trans swap (skip (perm-front s x t))

-- a list that holds an element, taken apart there
record Found {A : Type 0} (f : A → Bool) (l : List A) : Type 0 where
  before : List A
  here : A
  after : List A
  passes : T (f here)
  whole : l ≡ before ++ (here ∷ after)

found : {A : Type 0} (f : A → Bool) (l : List A) → 0 < many f l → Found f l
unfolding many
found f [] h = absurd (omega arith)
found f (x ∷ xs) h = go (f x) refl h (found f xs)
  where
    go : (c : Bool) → f x ≡ c → 0 < one c + many f xs → (0 < many f xs → Found f xs) → Found f (x ∷ xs)
    go true e h r = record { before = []; here = x; after = xs; passes = subst T (sym e) tt; whole = refl }
    go false e h r =
        let p : Found f xs = r (omega arith) in
        record { before = x ∷ p.before; here = p.here; after = p.after; passes = p.passes; whole = ap (λ l. x ∷ l) p.whole }

-- two lists that hold each element equally often
module _ {A : Type 0} (same : A → A → Bool) (sound : (a b : A) → T (same a b) → a ≡ b) (itself : (a : A) → T (same a a)) where
  pub perm-counts : (s t : List A) → ((a : A) → many (same a) s ≡ many (same a) t) → Perm s t
  unfolding many
  perm-counts [] [] e = nil
  perm-counts [] (y ∷ t) e = absurd (omega (arith, e y, one_of (same y y) (itself y)))
  perm-counts (x ∷ s) t e = go (found (same x) t (omega (arith, e x, one_of (same x x) (itself x)))) (perm-counts s)
    where
      go : Found (same x) t → ((t : List A) → ((a : A) → many (same a) s ≡ many (same a) t) → Perm s t) → Perm (x ∷ s) t
      go p r = rw moved (trans (skip (r (p.before ++ p.after) left)) (perm-front p.before x p.after))
        where
          moved : t ≡ p.before ++ (x ∷ p.after)
          moved = p.whole ∙ ap (λ y. p.before ++ (y ∷ p.after)) (sym (sound x p.here p.passes))

          left : (a : A) → many (same a) s ≡ many (same a) (p.before ++ p.after)
          left a = omega (arith, e a, ap (many (same a)) moved, many-append (same a) p.before (x ∷ p.after), many-append (same a) p.before p.after)
