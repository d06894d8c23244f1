-- A face's six indices show the four sides of its outline, one after the other round it, and its diagonal once in each direction; which way
-- round goes by the sign at the edge's lowest corner alone. From the four ways to write a six. Assumes nothing.
use Prim.Native.Nat.{ℕ, ◌+◌}
use native.Mathlib.Omega.{arith}
use mathlib.Core.Bool.{Bool, true, false, and_comm}
use mathlib.Core.List.{List, [], ◌∷◌, ◌++◌}
use mathlib.Core.Path.{◌≡◌, refl, ap, ◌∙◌}
use borrow.Author.Tests.{eq-eqb}
use lib.Dec.{eqb}
use Rattle.lists.specs.Lists.{one, keep, some, many, joined}
use Rattle.rules.specs.Grid.{Box, Field, value}
use Rattle.rules.specs.Cell.{negative}
use Rattle.rules.specs.Faces.{Edge, Flags, six, shorter, face_cells, cell1, cell2, cell3, cell4, edges, indices}
use Rattle.lists.proofs.Lists.{all-each, joined_same, total, many-joined}
use Rattle.rules.proofs.Edges.{map-six}
use Rattle.rules.proofs.Numbers.{face_numbers, indices-are}
use Rattle.skin.specs.Links.{Link, link, reverse, same_link, links, without_diagonal, face_links, number_of}

-- the outline of a face: v1 v2 v4 v3 where p1 is negative, else the other way round
abbrev pub ring : Bool → ℕ → ℕ → ℕ → ℕ → List Link
ring true v1 v2 v3 v4 = link v1 v2 ∷ link v2 v4 ∷ link v4 v3 ∷ link v3 v1 ∷ []
ring false v1 v2 v3 v4 = link v2 v1 ∷ link v4 v2 ∷ link v3 v4 ∷ link v1 v3 ∷ []

pub ring-four : (t : Bool) (v1 v2 v3 v4 : ℕ) → many (λ (s : Link). true) (ring t v1 v2 v3 v4) ≡ 4
unfolding many
ring-four true v1 v2 v3 v4 = refl
ring-four false v1 v2 v3 v4 = refl

-- the diagonal, in one direction
abbrev pub diagonal : Bool → ℕ → ℕ → ℕ → ℕ → Link
diagonal true v1 v2 v3 v4 = link v1 v4
diagonal false v1 v2 v3 v4 = link v2 v3

pub six-links : (f : Link → Bool) (s t : Bool) (v1 v2 v3 v4 : ℕ)
    → many f (links (six s t v1 v2 v3 v4)) ≡ many f (ring t v1 v2 v3 v4) + (one (f (diagonal s v1 v2 v3 v4)) + one (f (reverse (diagonal s v1 v2 v3 v4))))
unfolding many links
six-links f true true v1 v2 v3 v4 = omega arith
six-links f true false v1 v2 v3 v4 = omega arith
six-links f false true v1 v2 v3 v4 = omega arith
six-links f false false v1 v2 v3 v4 = omega arith

pub six-six : (s t : Bool) (v1 v2 v3 v4 : ℕ) → many (λ (l : Link). true) (links (six s t v1 v2 v3 v4)) ≡ 6
unfolding many links
six-six true true v1 v2 v3 v4 = refl
six-six true false v1 v2 v3 v4 = refl
six-six false true v1 v2 v3 v4 = refl
six-six false false v1 v2 v3 v4 = refl

-- a diagonal counts as much for a side as for its reverse
pub diagonal-even : (i j : ℕ) (d : Link)
    → one (same_link (link i j) d) + one (same_link (link i j) (reverse d)) ≡ one (same_link (link j i) d) + one (same_link (link j i) (reverse d))
diagonal-even i j d =
    omega (arith, ap one (and_comm (eqb i d.tail) (eqb j d.head)), ap one (and_comm (eqb i d.head) (eqb j d.tail)))

-- ---- the outline alone

-- four different numbers
pub record Different (v1 v2 v3 v4 : ℕ) : Type 0 where
  pub d12 : eqb v1 v2 ≡ false
  pub d13 : eqb v1 v3 ≡ false
  pub d14 : eqb v1 v4 ≡ false
  pub d21 : eqb v2 v1 ≡ false
  pub d23 : eqb v2 v3 ≡ false
  pub d24 : eqb v2 v4 ≡ false
  pub d31 : eqb v3 v1 ≡ false
  pub d32 : eqb v3 v2 ≡ false
  pub d34 : eqb v3 v4 ≡ false
  pub d41 : eqb v4 v1 ≡ false
  pub d42 : eqb v4 v2 ≡ false
  pub d43 : eqb v4 v3 ≡ false

pub six-outline : (f : Link → Bool) (s t : Bool) (v1 v2 v3 v4 : ℕ) → Different v1 v2 v3 v4
    → many f (without_diagonal (links (six s t v1 v2 v3 v4))) ≡ many f (ring t v1 v2 v3 v4)
unfolding many keep some links
six-outline f s t v1 v2 v3 v4 h = go s t
  where
    r : (n : ℕ) → eqb n n ≡ true
    r n = eq-eqb n n refl

    go : (s t : Bool) → many f (without_diagonal (links (six s t v1 v2 v3 v4))) ≡ many f (ring t v1 v2 v3 v4)
    go true true =
        simp (h.d12, h.d13, h.d14, h.d21, h.d23, h.d24, h.d31, h.d32, h.d34, h.d41, h.d42, h.d43, r v1, r v2, r v3, r v4) (omega arith)
    go true false =
        simp (h.d12, h.d13, h.d14, h.d21, h.d23, h.d24, h.d31, h.d32, h.d34, h.d41, h.d42, h.d43, r v1, r v2, r v3, r v4) (omega arith)
    go false true =
        simp (h.d12, h.d13, h.d14, h.d21, h.d23, h.d24, h.d31, h.d32, h.d34, h.d41, h.d42, h.d43, r v1, r v2, r v3, r v4) (omega arith)
    go false false =
        simp (h.d12, h.d13, h.d14, h.d21, h.d23, h.d24, h.d31, h.d32, h.d34, h.d41, h.d42, h.d43, r v1, r v2, r v3, r v4) (omega arith)

-- ---- the index list, face by face

-- the six numbers of an edge's face
abbrev pub six_of : Field → Box → Edge → List ℕ
six_of g b e = six (shorter g e) (negative (value g e.from)) (number_of g b (cell1 e)) (number_of g b (cell2 e)) (number_of g b (cell3 e)) (number_of g b (cell4 e))

face_numbers-six : (g : Field) (b : Box) (e : Edge) → face_numbers g b e ≡ six_of g b e
unfolding face_cells
face_numbers-six g b e = map-six (number_of g b) (shorter g e) (negative (value g e.from)) (cell1 e) (cell2 e) (cell3 e) (cell4 e)

pub indices-sixes : (g : Field) (b : Box) (m : Flags) → indices g b m ≡ joined (six_of g b) (edges g b m)
indices-sixes g b m = indices-are g b m ∙ joined_same (all-each (face_numbers-six g b) (edges g b m))

links-six : (s t : Bool) (v1 v2 v3 v4 : ℕ) (is : List ℕ) → links (six s t v1 v2 v3 v4 ++ is) ≡ links (six s t v1 v2 v3 v4) ++ links is
unfolding links
links-six true true v1 v2 v3 v4 is = refl
links-six true false v1 v2 v3 v4 is = refl
links-six false true v1 v2 v3 v4 is = refl
links-six false false v1 v2 v3 v4 is = refl

face_links-six : (s t : Bool) (v1 v2 v3 v4 : ℕ) (is : List ℕ) → face_links (six s t v1 v2 v3 v4 ++ is) ≡ without_diagonal (links (six s t v1 v2 v3 v4)) ++ face_links is
unfolding face_links
face_links-six true true v1 v2 v3 v4 is = refl
face_links-six true false v1 v2 v3 v4 is = refl
face_links-six false true v1 v2 v3 v4 is = refl
face_links-six false false v1 v2 v3 v4 is = refl

module _ (g : Field) (b : Box) where
  links-joined : (es : List Edge) → links (joined (six_of g b) es) ≡ joined (λ (e : Edge). links (six_of g b e)) es
  unfolding joined links
  links-joined [] = refl
  links-joined (e ∷ es) =
      links-six (shorter g e) (negative (value g e.from)) (number_of g b (cell1 e)) (number_of g b (cell2 e)) (number_of g b (cell3 e)) (number_of g b (cell4 e))
      (joined (six_of g b) es)
      ∙ ap (λ r. links (six_of g b e) ++ r) (links-joined es)

  face_links-joined : (es : List Edge) → face_links (joined (six_of g b) es) ≡ joined (λ (e : Edge). without_diagonal (links (six_of g b e))) es
  unfolding joined face_links
  face_links-joined [] = refl
  face_links-joined (e ∷ es) =
      face_links-six (shorter g e) (negative (value g e.from)) (number_of g b (cell1 e)) (number_of g b (cell2 e)) (number_of g b (cell3 e)) (number_of g b (cell4 e))
      (joined (six_of g b) es)
      ∙ ap (λ r. without_diagonal (links (six_of g b e)) ++ r) (face_links-joined es)

  -- a count over the whole list is the total of the counts over its faces
  pub links-total : (m : Flags) (f : Link → Bool) → many f (links (indices g b m)) ≡ total (λ (e : Edge). many f (links (six_of g b e))) (edges g b m)
  links-total m f =
      ap (λ l. many f (links l)) (indices-sixes g b m)
      ∙ ap (many f) (links-joined (edges g b m))
      ∙ many-joined f (λ (e : Edge). links (six_of g b e)) (edges g b m)

  pub face_links-total : (m : Flags) (f : Link → Bool)
      → many f (face_links (indices g b m)) ≡ total (λ (e : Edge). many f (without_diagonal (links (six_of g b e)))) (edges g b m)
  face_links-total m f =
      ap (λ l. many f (face_links l)) (indices-sixes g b m)
      ∙ ap (many f) (face_links-joined (edges g b m))
      ∙ many-joined f (λ (e : Edge). without_diagonal (links (six_of g b e))) (edges g b m)
