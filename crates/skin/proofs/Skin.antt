-- Document 02, request 8: the skin has no hole. Under the premise each directed triangle side occurs as often as its reverse, over the whole
-- index list; without it, the face sides between two neighbour cells whose square has all its edges owned. Any flags. Assumes nothing.
use Prim.Native.Nat.{ℕ, zero, suc, ◌+◌, ◌*◌, ◌<◌}
use native.Mathlib.Omega.{arith}
use mathlib.Core.Bool.{Bool, true, false, not}
use mathlib.Core.List.{List, [], ◌∷◌}
use mathlib.Core.Logic.{◌⊎◌, inl, inr}
use mathlib.Core.Path.{◌≡◌, refl, sym, ap, ap₂, subst, ◌∙◌}
use lib.Dec.{T, eqb, eqb→eq}
use lib.ListN.{length}
use lib.Ieee.Fits.{and_l, and_r}
use Rattle.lists.specs.Lists.{one, many}
use Rattle.rules.specs.Grid.{GridPoint, Axis, Box, Field, same_point, is_cell, step_up}
use Rattle.rules.specs.Faces.{Edge, Flags, axis_b, axis_c, owned, gives, edges, indices, changing_edges, shorter, cell1, cell2, cell3, cell4}
use Rattle.lists.proofs.Tests.{is_false, one-positive}
use Rattle.lists.proofs.Lists.{All, none, more, all-each, all_then, total, total-same, total-plus, total-times}
use Rattle.rules.proofs.Indexes.{Same, CellWithin, cell-within}
use Rattle.rules.proofs.Counting.{same-says}
use Rattle.rules.proofs.FourCells.{Four, Owned, owned-says, gives-owned}
use Rattle.rules.proofs.Edges.{edges-all, edge_count}
use Rattle.skin.specs.Links.{Link, link, reverse, same_link, links, without_diagonal, face_links, number_of, Square}
use Rattle.skin.specs.Enclosed.{Enclosed}
use Rattle.skin.proofs.Rings.{ring, ring-four, diagonal, six-six, six-links, diagonal-even, Different, six-outline, six_of, links-total, face_links-total}
use Rattle.skin.proofs.Neighbours.{Steps, steps, Apart, apart}
use Rattle.skin.proofs.Squares.{IsVertex, number_same, four-vertices, way, between, sign, ring_of, square-even}
use Rattle.skin.proofs.Inner.{square-owned}

-- a positive total has a positive part
from-total : {P : Edge → Type 0} {f : Edge → ℕ} {C : Type 0} {l : List Edge} → ((e : Edge) → P e → 0 < f e → C) → All P l → 0 < total f l → C
unfolding total
from-total k none h = absurd (omega arith)
from-total {f = f} {C = C} k (more {x = e} {xs = es} p q) h = go (f e) refl (from-total k q)
  where
    go : (n : ℕ) → f e ≡ n → (0 < total f es → C) → C
    go zero i r = r (omega arith)
    go (suc n) i r = k e p (omega arith)

one-of-four : (a b c d : Bool) → 0 < one a + (one b + (one c + (one d + 0))) → T a ⊎ (T b ⊎ (T c ⊎ T d))
one-of-four true b c d h = inl tt
one-of-four false true c d h = inr (inl tt)
one-of-four false false true d h = inr (inr (inl tt))
one-of-four false false false d h = inr (inr (inr (one-positive d (omega arith))))

many-all : {A : Type 0} (l : List A) → many (λ x. true) l ≡ length l
unfolding many
many-all [] = refl
many-all (x ∷ xs) = omega (arith, many-all xs)

module _ (g : Field) (b : Box) (m : Flags) where
  -- how often a test passes on the outlines of all faces
  abbrev outlines : (Link → Bool) → ℕ
  outlines f = total (λ (e : Edge). many f (ring_of g b e)) (edges g b m)

  -- ---- the four numbers of a face differ, so its outline is what is left without the diagonal

  different : (e : Edge) → T (gives g b m e) → Different (number_of g b (cell1 e)) (number_of g b (cell2 e)) (number_of g b (cell3 e)) (number_of g b (cell4 e))
  different e t =
      record {
        d12 = no_same (cell1 e) (cell2 e) v.two s.a12;
        d13 = no_same (cell1 e) (cell3 e) v.three s.a13;
        d14 = no_same (cell1 e) (cell4 e) v.four s.a14;
        d21 = no_same (cell2 e) (cell1 e) v.one (λ h. s.a12 (turn h));
        d23 = no_same (cell2 e) (cell3 e) v.three s.a23;
        d24 = no_same (cell2 e) (cell4 e) v.four s.a24;
        d31 = no_same (cell3 e) (cell1 e) v.one (λ h. s.a13 (turn h));
        d32 = no_same (cell3 e) (cell2 e) v.two (λ h. s.a23 (turn h));
        d34 = no_same (cell3 e) (cell4 e) v.four s.a34;
        d41 = no_same (cell4 e) (cell1 e) v.one (λ h. s.a14 (turn h));
        d42 = no_same (cell4 e) (cell2 e) v.two (λ h. s.a24 (turn h));
        d43 = no_same (cell4 e) (cell3 e) v.three (λ h. s.a34 (turn h));
      }
    where
      o : Owned b m e
      o = owned-says b m e (gives-owned g b m e t)

      v : Four (IsVertex g b) e
      v = four-vertices g b m e t

      s : Apart e.axis e.from
      s = apart e.axis e.from (omega (arith, o.above_b)) (omega (arith, o.above_c))

      turn : {p q : GridPoint} → Same p q → Same q p
      turn h = (sym h.0, sym h.1, sym h.2)

      no_same : (c x : GridPoint) → IsVertex g b x → (Same c x → ⊥) → eqb (number_of g b c) (number_of g b x) ≡ false
      no_same c x h n = number_same g b c x h ∙ is_false (same_point c x) (λ w. n (same-says c x w))

  faces-outlined : (f : Link → Bool) → many f (face_links (indices g b m)) ≡ outlines f
  faces-outlined f = face_links-total g b m f ∙ total-same (all_then at (edges-all g b m))
    where
      at : (e : Edge) → T (gives g b m e) → many f (without_diagonal (links (six_of g b e))) ≡ many f (ring_of g b e)
      at e t = six-outline f (shorter g e) (sign g e) (number_of g b (cell1 e)) (number_of g b (cell2 e)) (number_of g b (cell3 e)) (number_of g b (cell4 e)) (different e t)

  -- four sides for each face, none lost and none more
  pub face-side-count : length (face_links (indices g b m)) ≡ 4 * changing_edges g b m
  face-side-count =
      sym (many-all (face_links (indices g b m)))
      ∙ faces-outlined (λ s. true)
      ∙ total-same (all-each at (edges g b m))
      ∙ total-times 4 (edges g b m)
      ∙ ap (λ n. 4 * n) (edge_count g b m)
    where
      at : (e : Edge) → many (λ (s : Link). true) (ring_of g b e) ≡ 4
      at e = ring-four (sign g e) (number_of g b (cell1 e)) (number_of g b (cell2 e)) (number_of g b (cell3 e)) (number_of g b (cell4 e))

  -- "say the same for every pair of neighbour cells whose shared square has all its four edges owned, counting face sides and not diagonals"
  pub square-law : (a : Axis) (c : GridPoint) → Square (λ (e : Edge). T (owned b m e)) a c
      → many (same_link (link (number_of g b c) (number_of g b (step_up a c)))) (face_links (indices g b m))
      ≡ many (same_link (link (number_of g b (step_up a c)) (number_of g b c))) (face_links (indices g b m))
  square-law a c h =
      faces-outlined (same_link (between g b a c true))
      ∙ square-even g b m a c (record { near = λ t. h.near; far = λ t. h.far; left = λ t. h.left; right = λ t. h.right })
      ∙ sym (faces-outlined (same_link (between g b a c false)))

  -- ---- the diagonals count as much for a side as for its reverse

  abbrev diagonal_of : Edge → Link
  diagonal_of e = diagonal (shorter g e) (number_of g b (cell1 e)) (number_of g b (cell2 e)) (number_of g b (cell3 e)) (number_of g b (cell4 e))

  -- how often a test passes on the diagonals of all faces, each in both directions
  abbrev diagonals : (Link → Bool) → ℕ
  diagonals f = total (λ (e : Edge). one (f (diagonal_of e)) + one (f (reverse (diagonal_of e)))) (edges g b m)

  links-parted : (f : Link → Bool) → many f (links (indices g b m)) ≡ outlines f + diagonals f
  links-parted f =
      links-total g b m f
      ∙ total-same (all-each at (edges g b m))
      ∙ total-plus (λ (e : Edge). many f (ring_of g b e)) (λ (e : Edge). one (f (diagonal_of e)) + one (f (reverse (diagonal_of e)))) (edges g b m)
    where
      at : (e : Edge) → many f (links (six_of g b e)) ≡ many f (ring_of g b e) + (one (f (diagonal_of e)) + one (f (reverse (diagonal_of e))))
      at e = six-links f (shorter g e) (sign g e) (number_of g b (cell1 e)) (number_of g b (cell2 e)) (number_of g b (cell3 e)) (number_of g b (cell4 e))

  -- six sides for each face
  pub side-count : length (links (indices g b m)) ≡ 6 * changing_edges g b m
  side-count =
      sym (many-all (links (indices g b m)))
      ∙ links-total g b m (λ s. true)
      ∙ total-same (all-each at (edges g b m))
      ∙ total-times 6 (edges g b m)
      ∙ ap (λ n. 6 * n) (edge_count g b m)
    where
      at : (e : Edge) → many (λ (l : Link). true) (links (six_of g b e)) ≡ 6
      at e = six-six (shorter g e) (sign g e) (number_of g b (cell1 e)) (number_of g b (cell2 e)) (number_of g b (cell3 e)) (number_of g b (cell4 e))

  diagonals-even : (i j : ℕ) → diagonals (same_link (link i j)) ≡ diagonals (same_link (link j i))
  diagonals-even i j = total-same (all-each (λ e. diagonal-even i j (diagonal_of e)) (edges g b m))

  -- ---- a side that occurs joins two neighbour cells of the box

  record Joins (i j : ℕ) : Type 0 where
    axis : Axis
    cell : GridPoint
    up : Bool
    inside : CellWithin b (step_up axis cell)
    tail : i ≡ (between g b axis cell up).tail
    head : j ≡ (between g b axis cell up).head

  joins : (i j : ℕ) (x : Axis) (l v : GridPoint) (d : Bool) → v ≡ step_up x l → IsVertex g b v → T (same_link (link i j) (way d (number_of g b l) (number_of g b v))) → Joins i j
  joins i j x l v d e h t =
      record {
        axis = x;
        cell = l;
        up = d;
        inside = cell-within b (step_up x l) (subst (λ (y : GridPoint). T (is_cell b y)) e h.0);
        tail = eqb→eq i w.tail (and_l (eqb i w.tail) (eqb j w.head) t) ∙ ap (λ (y : GridPoint). (way d (number_of g b l) (number_of g b y)).tail) e;
        head = eqb→eq j w.head (and_r (eqb i w.tail) (eqb j w.head) t) ∙ ap (λ (y : GridPoint). (way d (number_of g b l) (number_of g b y)).head) e;
      }
    where
      w : Link
      w = way d (number_of g b l) (number_of g b v)

  outline-joins : (i j : ℕ) (e : Edge) → T (gives g b m e) → 0 < many (same_link (link i j)) (ring_of g b e) → Joins i j
  unfolding many
  outline-joins i j e t h = go (sign g e) h
    where
      o : Owned b m e
      o = owned-says b m e (gives-owned g b m e t)

      v : Four (IsVertex g b) e
      v = four-vertices g b m e t

      s : Steps e.axis e.from
      s = steps e.axis e.from (omega (arith, o.above_b)) (omega (arith, o.above_c))

      n : GridPoint → ℕ
      n = number_of g b

      at : (l u : GridPoint) (d : Bool) → Bool
      at l u d = same_link (link i j) (way d (n l) (n u))

      four : (d : Bool) → T (at (cell2 e) (cell1 e) d) ⊎ (T (at (cell4 e) (cell2 e) d) ⊎ (T (at (cell4 e) (cell3 e) (not d)) ⊎ T (at (cell3 e) (cell1 e) (not d)))) → Joins i j
      four d (inl k) = joins i j (axis_b e.axis) (cell2 e) (cell1 e) d s.s21 v.one k
      four d (inr (inl k)) = joins i j (axis_c e.axis) (cell4 e) (cell2 e) d s.s42 v.two k
      four d (inr (inr (inl k))) = joins i j (axis_b e.axis) (cell4 e) (cell3 e) (not d) s.s43 v.three k
      four d (inr (inr (inr k))) = joins i j (axis_c e.axis) (cell3 e) (cell1 e) (not d) s.s31 v.one k

      go : (d : Bool) → 0 < many (same_link (link i j)) (ring d (n (cell1 e)) (n (cell2 e)) (n (cell3 e)) (n (cell4 e))) → Joins i j
      go true h = four false (one-of-four (at (cell2 e) (cell1 e) false) (at (cell4 e) (cell2 e) false) (at (cell4 e) (cell3 e) true) (at (cell3 e) (cell1 e) true) h)
      go false h = four true (one-of-four (at (cell2 e) (cell1 e) true) (at (cell4 e) (cell2 e) true) (at (cell4 e) (cell3 e) false) (at (cell3 e) (cell1 e) false) h)

  occurs-joins : (i j : ℕ) → 0 < outlines (same_link (link i j)) → Joins i j
  occurs-joins i j h = from-total (outline-joins i j) (edges-all g b m) h

  -- ---- the law

  module _ (h : Enclosed g b) where
    joined-even : (i j : ℕ) → Joins i j → outlines (same_link (link i j)) ≡ outlines (same_link (link j i))
    joined-even i j k = rw (k.tail, k.head) (go k.up)
      where
        even : outlines (same_link (between g b k.axis k.cell true)) ≡ outlines (same_link (between g b k.axis k.cell false))
        even = square-even g b m k.axis k.cell (square-owned g b m h k.axis k.cell k.inside)

        go : (d : Bool) → outlines (same_link (between g b k.axis k.cell d)) ≡ outlines (same_link (reverse (between g b k.axis k.cell d)))
        go true = even
        go false = sym even

    outlines-even : (i j : ℕ) → outlines (same_link (link i j)) ≡ outlines (same_link (link j i))
    outlines-even i j = go (outlines (same_link (link i j))) (outlines (same_link (link j i))) refl refl
      where
        go : (r s : ℕ) → outlines (same_link (link i j)) ≡ r → outlines (same_link (link j i)) ≡ s → outlines (same_link (link i j)) ≡ outlines (same_link (link j i))
        go zero zero p q = p ∙ sym q
        go zero (suc s) p q = sym (joined-even j i (occurs-joins j i (omega arith)))
        go (suc r) s p q = joined-even i j (occurs-joins i j (omega arith))

    -- "Then each directed triangle side, from one vertex to another, occurs exactly as often as its reverse."
    pub skin-law : (i j : ℕ) → many (same_link (link i j)) (links (indices g b m)) ≡ many (same_link (link j i)) (links (indices g b m))
    skin-law i j = links-parted (same_link (link i j)) ∙ ap₂ ◌+◌ (outlines-even i j) (diagonals-even i j) ∙ sym (links-parted (same_link (link j i)))
