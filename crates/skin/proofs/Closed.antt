-- The test `closed` of an index list passes exactly if each directed side occurs as often as its reverse, whichever two numbers it joins; so
-- under the premise of request 8 it passes. From the sides that the list holds. Assumes nothing.
use Prim.Native.Nat.{ℕ, zero, suc, ◌<◌}
use native.Mathlib.Omega.{arith}
use mathlib.Core.Bool.{Bool, true, false, not}
use mathlib.Core.List.{List}
use mathlib.Core.Path.{◌≡◌, refl, sym, subst, ◌∙◌}
use lib.Dec.{T, eqb, eqb→eq, eqb_refl, T_not, not_T}
use lib.Ieee.Fits.{and_i, and_l, and_r, eq→eqb}
use Rattle.lists.specs.Lists.{some, many}
use Rattle.rules.specs.Grid.{Box, Field}
use Rattle.rules.specs.Faces.{Flags, indices}
use Rattle.lists.proofs.Tests.{is-test}
use Rattle.lists.proofs.Some.{some-has, some-member}
use Rattle.skin.specs.Links.{Link, link, reverse, same_link, links, closed}
use Rattle.skin.specs.Enclosed.{Enclosed}
use Rattle.skin.proofs.Skin.{skin-law}

pub same_link-sound : (s t : Link) → T (same_link s t) → s ≡ t
same_link-sound s t h = λ i. record { tail = tails i; head = heads i }
  where
    tails : s.tail ≡ t.tail
    tails = eqb→eq s.tail t.tail (and_l (eqb s.tail t.tail) (eqb s.head t.head) h)

    heads : s.head ≡ t.head
    heads = eqb→eq s.head t.head (and_r (eqb s.tail t.tail) (eqb s.head t.head) h)

pub same_link-itself : (s : Link) → T (same_link s s)
same_link-itself s = and_i (eqb s.tail s.tail) (eqb s.head s.head) (eqb_refl s.tail) (eqb_refl s.head)

module _ (is : List ℕ) where
  -- how often a side occurs
  abbrev often : Link → ℕ
  often s = many (same_link s) (links is)

  -- a side that does not occur as often as its reverse
  abbrev uneven : Link → Bool
  uneven s = not (eqb (often s) (often (reverse s)))

  even-said : T (closed is) → (s : Link) → 0 < often s → often s ≡ often (reverse s)
  unfolding closed
  even-said t s h = go (eqb (often s) (often (reverse s))) refl
    where
      go : (c : Bool) → eqb (often s) (often (reverse s)) ≡ c → often s ≡ often (reverse s)
      go true e = eqb→eq (often s) (often (reverse s)) (is-test (eqb (often s) (often (reverse s))) e)
      go false e =
          absurd
          (T_not (some uneven (links is)) t
          (some-has same_link same_link-sound same_link-itself uneven s (subst (λ c. T (not c)) (sym e) tt) (links is) h))

  pub closed-says : T (closed is) → (i j : ℕ) → many (same_link (link i j)) (links is) ≡ many (same_link (link j i)) (links is)
  closed-says t i j = go (often (link i j)) (often (link j i)) refl refl
    where
      go : (m n : ℕ) → often (link i j) ≡ m → often (link j i) ≡ n → often (link i j) ≡ often (link j i)
      go zero zero p q = p ∙ sym q
      go zero (suc n) p q = sym (even-said t (link j i) (omega arith))
      go (suc m) n p q = even-said t (link i j) (omega arith)

  pub closed-if : ((i j : ℕ) → many (same_link (link i j)) (links is) ≡ many (same_link (link j i)) (links is)) → T (closed is)
  unfolding closed
  closed-if h = not_T (some uneven (links is)) (λ t. go (some-member same_link same_link-sound same_link-itself uneven (links is) t))
    where
      go : (s : Link) × (0 < many (same_link s) (links is)) × T (uneven s) → ⊥
      go w = T_not (eqb (often w.0) (often (reverse w.0))) w.2 (eq→eqb (h w.0.tail w.0.head))

-- the whole law as one test of the index list
pub skin-test : (g : Field) (b : Box) (m : Flags) → Enclosed g b → T (closed (indices g b m))
skin-test g b m h = closed-if (indices g b m) (skin-law g b m h)
