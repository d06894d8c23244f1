-- Between two neighbour cells, face sides go up as often as down, if each of the four edges of their square that changes sign is owned:
-- round four signs there are as many steps from negative to not as back. From the edges that a side can come of, each of which gives its
-- face once. Assumes nothing.
use Prim.Native.Nat.{ℕ, zero, suc, ◌+◌, ◌<◌}
use native.Mathlib.Omega.{arith}
use mathlib.Core.Bool.{Bool, true, false, ◌&&◌, beq}
use mathlib.Core.List.{List, [], append-nil}
use mathlib.Core.Path.{◌≡◌, refl, sym, ap, ap₂, subst, ◌∙◌}
use lib.Dec.{T, eqb, eqb→eq}
use lib.Ieee.{unlike}
use lib.Ieee.Fits.{and_i, and_r, eq→eqb}
use lib.ListN.{length, get_or}
use Rattle.lists.specs.Lists.{one, many, place}
use Rattle.rules.specs.Grid.{GridPoint, Axis, axis_x, axis_y, axis_z, Box, Field, same_point, step_up, turned, is_cell, value}
use Rattle.rules.specs.Cell.{negative}
use Rattle.rules.specs.Vertices.{surface_cell, vertices}
use Rattle.rules.specs.Faces.{Edge, Flags, axis_b, axis_c, owned, changes, gives, edges, cell1, cell2, cell3, cell4}
use Rattle.lists.proofs.Tests.{same_test, same-moves}
use Rattle.lists.proofs.Lists.{all-each, all_then, total, total-same, total-plus, many-same, many-total, many-with, place-past, place-passes}
use Rattle.rules.proofs.Counting.{same_point-sound}
use Rattle.rules.proofs.FourCells.{Four, Owned, owned-says, gives-owned}
use Rattle.rules.proofs.Edges.{same_axis, same_edge, same_edge-sound, edges-once, edges-all}
use Rattle.rules.proofs.Numbers.{number-below, vertex-at, four-each}
use Rattle.skin.specs.Links.{Link, link, same_link, number_of, Square}
use Rattle.skin.proofs.Rings.{ring}
use Rattle.skin.proofs.Neighbours.{up_up, up-down, down-down, down-up, Steps, steps, near_edge, far_edge, left_edge, right_edge, Hits, hits}

-- ---- a vertex's number is its own

module _ {A : Type 0} (f : A → Bool) where
  place-all : (l : List A) → many f l ≡ 0 → place f l ≡ length l
  unfolding place
  place-all l e = ap (place f) (sym (append-nil l)) ∙ place-past f l [] e ∙ omega arith

  place_found : (l : List A) (d : A) → place f l < length l → T (f (get_or l (place f l) d))
  place_found l d h = go (many f l) refl
    where
      go : (n : ℕ) → many f l ≡ n → T (f (get_or l (place f l) d))
      go zero e = absurd (omega (arith, place-all l e))
      go (suc n) e = place-passes f l d (omega arith)

module _ (g : Field) (b : Box) where
  -- a surface cell of the box
  abbrev pub IsVertex : GridPoint → Type 0
  IsVertex x = T (is_cell b x) × T (surface_cell g x)

  pub number_same : (c x : GridPoint) → IsVertex x → eqb (number_of g b c) (number_of g b x) ≡ same_point c x
  number_same c x h = same_test (eqb (number_of g b c) (number_of g b x)) (same_point c x) to from
    where
      to : T (eqb (number_of g b c) (number_of g b x)) → T (same_point c x)
      to t =
          let e : number_of g b c ≡ number_of g b x = eqb→eq (number_of g b c) (number_of g b x) t in
          let i : number_of g b c < length (vertices g b) = omega (arith, number-below g b x h.0 h.1) in
          let k : get_or (vertices g b) (number_of g b c) x ≡ x = ap (λ n. get_or (vertices g b) n x) e ∙ vertex-at g b x x h.0 h.1 in
          subst (λ (y : GridPoint). T (same_point c y)) k (place_found (same_point c) (vertices g b) x i)

      from : T (same_point c x) → T (eqb (number_of g b c) (number_of g b x))
      from t = eq→eqb (ap (number_of g b) (same_point-sound c x t))

  pub four-vertices : (m : Flags) (e : Edge) → T (gives g b m e) → Four IsVertex e
  four-vertices m e t = four-each g b m e t (λ c i s l. (i, s))

-- ---- one side of a face

-- a side between a lower and an upper number: up, or down
abbrev pub way : Bool → ℕ → ℕ → Link
way true i j = link i j
way false i j = link j i

module _ (g : Field) (b : Box) (a : Axis) (c : GridPoint) where
  abbrev pub between : Bool → Link
  between d = way d (number_of g b c) (number_of g b (step_up a c))

  -- the side between the cell l and its step up v
  one_side : (x : Axis) (l v : GridPoint) → v ≡ step_up x l → IsVertex g b l → IsVertex g b v → (d t : Bool)
      → same_link (between d) (way t (number_of g b l) (number_of g b v)) ≡ (beq d t && (same_axis a x && same_point c l))
  one_side x l v e hl hv true true = ap₂ ◌&&◌ (number_same g b c l hl) (number_same g b (step_up a c) v hv) ∙ ap (λ y. same_point c l && same_point (step_up a c) y) e ∙ up_up a x c l
  one_side x l v e hl hv true false = ap₂ ◌&&◌ (number_same g b c v hv) (number_same g b (step_up a c) l hl) ∙ ap (λ y. same_point c y && same_point (step_up a c) l) e ∙ up-down a x
      c l
  one_side x l v e hl hv false true = ap₂ ◌&&◌ (number_same g b (step_up a c) l hl) (number_same g b c v hv) ∙ ap (λ y. same_point (step_up a c) l && same_point c y) e ∙ down-up a x
      c l
  one_side x l v e hl hv false false = ap₂ ◌&&◌ (number_same g b (step_up a c) v hv) (number_same g b c l hl) ∙ ap (λ y. same_point (step_up a c) y && same_point c l) e ∙ down-down a
      x c l

-- ---- the sides of one face

-- the sign at an edge's lowest corner
abbrev pub sign : Field → Edge → Bool
sign g e = negative (value g e.from)

abbrev pub ring_of : Field → Box → Edge → List Link
ring_of g b e = ring (sign g e) (number_of g b (cell1 e)) (number_of g b (cell2 e)) (number_of g b (cell3 e)) (number_of g b (cell4 e))

module _ (g : Field) (b : Box) (m : Flags) (a : Axis) (c : GridPoint) where
  -- of the four edges of the square, two give a side up where their lowest corner is negative, two where it is not
  pub face-sides : (d : Bool) (e : Edge) → T (gives g b m e)
      → many (same_link (between g b a c d)) (ring_of g b e)
      ≡ one (beq d (sign g e) && same_edge (near_edge a c) e)
      + one (beq d (sign g e) && same_edge (right_edge a c) e)
      + (one (unlike d (sign g e) && same_edge (left_edge a c) e) + one (unlike d (sign g e) && same_edge (far_edge a c) e))
  unfolding many
  face-sides d e t = go d (sign g e)
    where
      o : Owned b m e
      o = owned-says b m e (gives-owned g b m e t)

      v : Four (IsVertex g b) e
      v = four-vertices g b m e t

      s : Steps e.axis e.from
      s = steps e.axis e.from (omega (arith, o.above_b)) (omega (arith, o.above_c))

      h : Hits a e.axis c e.from
      h = hits a e.axis c e.from (omega (arith, o.above_b)) (omega (arith, o.above_c))

      n : GridPoint → ℕ
      n = number_of g b

      left : (d t : Bool) → one (same_link (between g b a c d) (way t (n (cell2 e)) (n (cell1 e)))) ≡ one (beq d t && same_edge (left_edge a c) e)
      left d t = ap one (one_side g b a c (axis_b e.axis) (cell2 e) (cell1 e) s.s21 v.two v.one d t ∙ ap (λ r. beq d t && r) h.left)

      right : (d t : Bool) → one (same_link (between g b a c d) (way t (n (cell4 e)) (n (cell3 e)))) ≡ one (beq d t && same_edge (right_edge a c) e)
      right d t = ap one (one_side g b a c (axis_b e.axis) (cell4 e) (cell3 e) s.s43 v.four v.three d t ∙ ap (λ r. beq d t && r) h.right)

      near : (d t : Bool) → one (same_link (between g b a c d) (way t (n (cell3 e)) (n (cell1 e)))) ≡ one (beq d t && same_edge (near_edge a c) e)
      near d t = ap one (one_side g b a c (axis_c e.axis) (cell3 e) (cell1 e) s.s31 v.three v.one d t ∙ ap (λ r. beq d t && r) h.near)

      far : (d t : Bool) → one (same_link (between g b a c d) (way t (n (cell4 e)) (n (cell2 e)))) ≡ one (beq d t && same_edge (far_edge a c) e)
      far d t = ap one (one_side g b a c (axis_c e.axis) (cell4 e) (cell2 e) s.s42 v.four v.two d t ∙ ap (λ r. beq d t && r) h.far)

      go : (d t : Bool)
          → many (same_link (between g b a c d)) (ring t (n (cell1 e)) (n (cell2 e)) (n (cell3 e)) (n (cell4 e)))
          ≡ one (beq d t && same_edge (near_edge a c) e)
          + one (beq d t && same_edge (right_edge a c) e)
          + (one (unlike d t && same_edge (left_edge a c) e) + one (unlike d t && same_edge (far_edge a c) e))
      go true true = omega (arith, left true false, far true false, right true true, near true true)
      go true false = omega (arith, left true true, far true true, right true false, near true false)
      go false true = omega (arith, left false false, far false false, right false true, near false true)
      go false false = omega (arith, left false true, far false true, right false false, near false false)

-- ---- all faces together

same_edge-moves : (f : Edge → Bool) (d e : Edge) → (f e && same_edge d e) ≡ (f d && same_edge d e)
same_edge-moves = same-moves same_edge same_edge-sound

module _ (g : Field) (b : Box) (m : Flags) where
  -- one edge, counted where the test passes
  edge-total : (f : Edge → Bool) (d : Edge) → total (λ (e : Edge). one (f e && same_edge d e)) (edges g b m) ≡ one (f d && gives g b m d)
  edge-total f d =
      sym (many-total (λ (e : Edge). f e && same_edge d e) (edges g b m))
      ∙ many-same (all-each (same_edge-moves f d) (edges g b m))
      ∙ many-with (same_edge d) (f d) (edges g b m) (gives g b m d) (edges-once g b m d)

  total-four : (f h i k : Edge → ℕ) (l : List Edge)
      → total (λ (e : Edge). f e + h e + (i e + k e)) l ≡ total f l + total h l + (total i l + total k l)
  total-four f h i k l =
      total-plus (λ (e : Edge). f e + h e) (λ (e : Edge). i e + k e) l
      ∙ ap₂ ◌+◌ (total-plus f h l) (total-plus i k l)

  -- the sides between c and its step up on a, over all faces
  pub sides_total : (a : Axis) (c : GridPoint) (d : Bool)
      → total (λ (e : Edge). many (same_link (between g b a c d)) (ring_of g b e)) (edges g b m)
      ≡ one (beq d (sign g (near_edge a c)) && gives g b m (near_edge a c))
      + one (beq d (sign g (right_edge a c)) && gives g b m (right_edge a c))
      + (one (unlike d (sign g (left_edge a c)) && gives g b m (left_edge a c)) + one (unlike d (sign g (far_edge a c)) && gives g b m (far_edge a c)))
  sides_total a c d =
      total-same (all_then (face-sides g b m a c d) (edges-all g b m))
      ∙ total-four
      (λ (e : Edge). one (alike e && same_edge (near_edge a c) e))
      (λ (e : Edge). one (alike e && same_edge (right_edge a c) e))
      (λ (e : Edge). one (other e && same_edge (left_edge a c) e))
      (λ (e : Edge). one (other e && same_edge (far_edge a c) e))
      (edges g b m)
      ∙ ap₂ ◌+◌
      (ap₂ ◌+◌ (edge-total alike (near_edge a c)) (edge-total alike (right_edge a c)))
      (ap₂ ◌+◌ (edge-total other (left_edge a c)) (edge-total other (far_edge a c)))
    where
      alike : Edge → Bool
      alike e = beq d (sign g e)

      other : Edge → Bool
      other e = unlike d (sign g e)

-- ---- round the square

-- the steps down, or up, round four signs
abbrev rounds : Bool → Bool → Bool → Bool → Bool → ℕ
rounds d s00 s10 s01 s11 =
    one (beq d s00 && unlike s00 s10) + one (beq d s10 && unlike s10 s11) + (one (unlike d s00 && unlike s00 s01) + one (unlike d s01 && unlike s01 s11))

round-even : (s00 s10 s01 s11 : Bool) → rounds true s00 s10 s01 s11 ≡ rounds false s00 s10 s01 s11
round-even true true true true = refl
round-even true true true false = refl
round-even true true false true = refl
round-even true true false false = refl
round-even true false true true = refl
round-even true false true false = refl
round-even true false false true = refl
round-even true false false false = refl
round-even false true true true = refl
round-even false true true false = refl
round-even false true false true = refl
round-even false true false false = refl
round-even false false true true = refl
round-even false false true false = refl
round-even false false false true = refl
round-even false false false false = refl

module _ (g : Field) (b : Box) (m : Flags) (a : Axis) (c : GridPoint) (h : Square (λ (e : Edge). T (changes g e) → T (owned b m e)) a c) where
  gives-changes : (e : Edge) → (T (changes g e) → T (owned b m e)) → gives g b m e ≡ changes g e
  gives-changes e k = same_test (gives g b m e) (changes g e) (and_r (owned b m e) (changes g e)) (λ t. and_i (owned b m e) (changes g e) (k t) t)

  last-corner : (a : Axis) (q : GridPoint) → step_up (turned (turned a)) (step_up (turned a) q) ≡ step_up (turned a) (step_up (turned (turned a)) q)
  last-corner axis_x q = refl
  last-corner axis_y q = refl
  last-corner axis_z q = refl

  total-rounds : (d : Bool)
      → total (λ (e : Edge). many (same_link (between g b a c d)) (ring_of g b e)) (edges g b m)
      ≡ rounds d (negative (value g (step_up a c))) (negative (value g (step_up (turned a) (step_up a c)))) (negative (value g (step_up (turned (turned a)) (step_up a c))))
      (negative (value g (step_up (turned a) (step_up (turned (turned a)) (step_up a c)))))
  unfolding changes
  total-rounds d =
      sides_total g b m a c d
      ∙ ap₂ ◌+◌
      (ap₂ ◌+◌
      (ap (λ r. one (beq d (sign g (near_edge a c)) && r)) (gives-changes (near_edge a c) h.near))
      (ap (λ r. one (beq d (sign g (right_edge a c)) && r))
      (gives-changes (right_edge a c) h.right ∙ ap (λ p. unlike (sign g (right_edge a c)) (negative (value g p))) (last-corner a (step_up a c)))))
      (ap₂ ◌+◌
      (ap (λ r. one (unlike d (sign g (left_edge a c)) && r)) (gives-changes (left_edge a c) h.left))
      (ap (λ r. one (unlike d (sign g (far_edge a c)) && r)) (gives-changes (far_edge a c) h.far)))

  -- as many up as down
  pub square-even : total (λ (e : Edge). many (same_link (between g b a c true)) (ring_of g b e)) (edges g b m)
      ≡ total (λ (e : Edge). many (same_link (between g b a c false)) (ring_of g b e)) (edges g b m)
  square-even =
      total-rounds true
      ∙ round-even (negative (value g (step_up a c))) (negative (value g (step_up (turned a) (step_up a c)))) (negative (value g (step_up (turned (turned a)) (step_up a c))))
      (negative (value g (step_up (turned a) (step_up (turned (turned a)) (step_up a c)))))
      ∙ sym (total-rounds false)
