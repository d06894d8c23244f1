-- The edge that cells show: the six cells of an edge's face show that edge, cells that show an edge have its lowest corner as their highest cell, and
-- none show two edges. So a face can be known by its own cells. From the four cells round an edge. Assumes nothing.
use Prim.Native.Nat.{ℕ, ◌+◌, max, ◌≤◌, ◌<◌, zero-le}
use native.Mathlib.Nat.{le_trans, le_of_eq, le_antisymm, le-max_left, le-max_right, max-le}
use native.Mathlib.Omega.{arith}
use mathlib.Core.Bool.{Bool, true, false, ◌&&◌, ◌||◌}
use mathlib.Core.List.{List, [], ◌∷◌}
use mathlib.Core.Path.{◌≡◌, refl, sym, ap, subst, ◌∙◌}
use lib.Dec.{T, ltb, eqb, eqb→eq, ltb→lt, lt→ltb}
use lib.Ieee.Bits.{is_true}
use lib.Ieee.Fits.{and_i, and_l, and_r, eq→eqb}
use lib.ListN.{length}
use Rattle.lists.specs.Lists.{one, keep, many, some}
use Rattle.rules.specs.Grid.{GridPoint, Field, Axis, axis_x, axis_y, axis_z, along, step_down, same_point, value}
use Rattle.rules.specs.Cell.{negative}
use Rattle.rules.specs.Faces.{Edge, axis_b, axis_c, edge, edges_at, cell1, cell2, cell3, cell4, six, shorter, face_cells}
use Rattle.rules.specs.Cutting.{greatest, highest, round, among, shows, edge_shown}
use Rattle.lists.proofs.Tests.{is_false, is-test, one_of}
use Rattle.lists.proofs.Lists.{All, none, more, all_then, all_keep, many-every, many-full}
use Rattle.lists.proofs.Some.{some-has, some-member}
use Rattle.rules.proofs.Indexes.{same_point_lem}
use Rattle.rules.proofs.Counting.{same_point-sound, same_point-itself}
use Rattle.rules.proofs.FourCells.{Four}
use Rattle.rules.proofs.Edges.{same_axis, same_axis-sound}
use Rattle.rules.proofs.Numbers.{face-all}

-- ---- a cell among cells

held : (cs : List GridPoint) (c : GridPoint) → 0 < many (same_point c) cs → T (among cs c)
held cs c h = some-has same_point same_point-sound same_point-itself (same_point c) c (same_point-itself c) cs h

holds : (cs : List GridPoint) (c : GridPoint) → T (among cs c) → 0 < many (same_point c) cs
holds cs c t =
    let w = some-member same_point same_point-sound same_point-itself (same_point c) cs t in
    subst (λ (p : GridPoint). 0 < many (same_point p) cs) (sym (same_point-sound c w.0 w.2)) w.1

-- what holds of each cell of a list holds of a cell among them
of-all : {P : GridPoint → Type 0} {cs : List GridPoint} → All P cs → (c : GridPoint) → T (among cs c) → P c
unfolding some
of-all none c t = absurd t
of-all {P} (more {x = x} {xs = xs} p q) c t = go (same_point c x) refl t (of-all q c)
  where
    go : (b : Bool) → same_point c x ≡ b → T (b || some (same_point c) xs) → (T (some (same_point c) xs) → P c) → P c
    go true e t r = subst P (sym (same_point-sound c x (is-test (same_point c x) e))) p
    go false e t r = r t

-- ---- the four cells round an edge

round-has : (e : Edge) → Four (λ c. T (among (round e) c)) e
unfolding many
round-has e =
    record {
      one = held (round e) (cell1 e) (omega (arith, it (cell1 e)));
      two = held (round e) (cell2 e) (omega (arith, it (cell2 e)));
      three = held (round e) (cell3 e) (omega (arith, it (cell3 e)));
      four = held (round e) (cell4 e) (omega (arith, it (cell4 e)));
    }
  where
    it : (c : GridPoint) → one (same_point c c) ≡ 1
    it c = one_of (same_point c c) (same_point-itself c)

-- they agree along the edge's axis
round-level : (a : Axis) (p : GridPoint) → All (λ c. along a c ≡ along a p) (round (edge a p))
round-level axis_x p = more refl (more refl (more refl (more refl none)))
round-level axis_y p = more refl (more refl (more refl (more refl none)))
round-level axis_z p = more refl (more refl (more refl (more refl none)))

down-under : (a d : Axis) (p : GridPoint) → along d (step_down a p) ≤ along d p
down-under axis_x axis_x p = omega arith
down-under axis_x axis_y p = omega arith
down-under axis_x axis_z p = omega arith
down-under axis_y axis_x p = omega arith
down-under axis_y axis_y p = omega arith
down-under axis_y axis_z p = omega arith
down-under axis_z axis_x p = omega arith
down-under axis_z axis_y p = omega arith
down-under axis_z axis_z p = omega arith

-- and its lowest corner is the highest of them
round_under : (e : Edge) (d : Axis) → All (λ c. along d c ≤ along d e.from) (round e)
round_under e d =
    more (le_of_eq refl)
    (more (down-under (axis_b e.axis) d e.from)
    (more (down-under (axis_c e.axis) d e.from)
    (more (le_trans (down-under (axis_c e.axis) d (cell2 e)) (down-under (axis_b e.axis) d e.from)) none)))

-- ---- the greatest coordinate

greatest-most : (a : Axis) {n : ℕ} {cs : List GridPoint} → All (λ c. along a c ≤ n) cs → greatest a cs ≤ n
unfolding greatest
greatest-most a none = zero-le
greatest-most a (more p q) = max-le p (greatest-most a q)

greatest-least : (a : Axis) (p : GridPoint) (cs : List GridPoint) → 0 < many (same_point p) cs → along a p ≤ greatest a cs
unfolding greatest many
greatest-least a p [] h = absurd (omega arith)
greatest-least a p (c ∷ cs) h = go (same_point p c) refl h (greatest-least a p cs)
  where
    go : (t : Bool) → same_point p c ≡ t → 0 < one t + many (same_point p) cs → (0 < many (same_point p) cs → along a p ≤ greatest a cs)
        → along a p ≤ max (along a c) (greatest a cs)
    go true e h r = le_trans (le_of_eq (ap (along a) (same_point-sound p c (is-test (same_point p c) e)))) (le-max_left (along a c) (greatest a cs))
    go false e h r = le_trans (r (omega arith)) (le-max_right (along a c) (greatest a cs))

-- ---- what cells that show an edge are

pub record Shown (cs : List GridPoint) (e : Edge) : Type 0 where
  pub above_b : 0 < along (axis_b e.axis) e.from
  pub above_c : 0 < along (axis_c e.axis) e.from
  pub four : All (λ c. T (among cs c)) (round e)
  pub all : All (λ c. T (among (round e) c)) cs

pub shows-says : (cs : List GridPoint) (e : Edge) → T (shows cs e) → Shown cs e
unfolding shows
shows-says cs e t =
    record {
      above_b = ltb→lt 0 (along (axis_b e.axis) e.from) (and_l up_b up_c above);
      above_c = ltb→lt 0 (along (axis_c e.axis) e.from) (and_r up_b up_c above);
      four = many-full (among cs) (round e) (eqb→eq (many (among cs) (round e)) 4 (and_l has4 has_all same));
      all = many-full (among (round e)) cs (eqb→eq (many (among (round e)) cs) (length cs) (and_r has4 has_all same));
    }
  where
    up_b : Bool
    up_b = ltb 0 (along (axis_b e.axis) e.from)

    up_c : Bool
    up_c = ltb 0 (along (axis_c e.axis) e.from)

    has4 : Bool
    has4 = eqb (many (among cs) (round e)) 4

    has_all : Bool
    has_all = eqb (many (among (round e)) cs) (length cs)

    above : T (up_b && up_c)
    above = and_l (up_b && up_c) (has4 && has_all) t

    same : T (has4 && has_all)
    same = and_r (up_b && up_c) (has4 && has_all) t

pub says-shows : (cs : List GridPoint) (e : Edge) → Shown cs e → T (shows cs e)
unfolding shows
says-shows cs e s =
    let b : ℕ = along (axis_b e.axis) e.from in
    let c : ℕ = along (axis_c e.axis) e.from in
    let has4 : Bool = eqb (many (among cs) (round e)) 4 in
    let has_all : Bool = eqb (many (among (round e)) cs) (length cs) in
    and_i (ltb 0 b && ltb 0 c) (has4 && has_all)
    (and_i (ltb 0 b) (ltb 0 c) (lt→ltb 0 b s.above_b) (lt→ltb 0 c s.above_c))
    (and_i has4 has_all (eq→eqb (many-every (among cs) s.four)) (eq→eqb (many-every (among (round e)) s.all)))

module _ {cs : List GridPoint} {e : Edge} (s : Shown cs e) where
  -- "their highest cell"
  pub shown-from : highest cs ≡ e.from
  shown-from = same_point_lem (at axis_x, at axis_y, at axis_z)
    where
      first : T (among cs (cell1 e))
      first = of-all s.four (cell1 e) (round-has e).one

      at : (d : Axis) → greatest d cs ≡ along d e.from
      at d = le_antisymm (greatest-most d (all_then (of-all (round_under e d)) s.all)) (greatest-least d e.from cs (holds cs e.from first))

  -- "the axis on which all four agree"
  pub shown-level : All (λ c. along e.axis c ≡ along e.axis e.from) cs
  shown-level = all_then (of-all (round-level e.axis e.from)) s.all

-- ---- no cells show two edges

-- the second and the third cell lie one step down on the two other axes, so that the axis of agreement is one
axis-one : (cs : List GridPoint) (p : GridPoint) (a a' : Axis) → Shown cs (edge a p) → Shown cs (edge a' p) → T (same_axis a a')
axis-one cs p a a' s s' =
    let h = round-has (edge a p) in
    go a a' s.above_b s.above_c (level (cell2 (edge a p)) h.two) (level (cell3 (edge a p)) h.three)
  where
    level : (c : GridPoint) → T (among (round (edge a p)) c) → along a' c ≡ along a' p
    level c t = of-all (shown-level s') c (of-all s.four c t)

    go : (a a' : Axis) → 0 < along (axis_b a) p → 0 < along (axis_c a) p → along a' (cell2 (edge a p)) ≡ along a' p → along a' (cell3 (edge a p)) ≡ along a' p
        → T (same_axis a a')
    go axis_x axis_x b c x y = tt
    go axis_x axis_y b c x y = omega arith
    go axis_x axis_z b c x y = omega arith
    go axis_y axis_x b c x y = omega arith
    go axis_y axis_y b c x y = tt
    go axis_y axis_z b c x y = omega arith
    go axis_z axis_x b c x y = omega arith
    go axis_z axis_y b c x y = omega arith
    go axis_z axis_z b c x y = tt

pub shown-one : (cs : List GridPoint) (e e' : Edge) → T (shows cs e) → T (shows cs e') → e ≡ e'
shown-one cs e e' t t' = λ i. record { axis = axes i; from = from i }
  where
    from : e.from ≡ e'.from
    from = sym (shown-from (shows-says cs e t)) ∙ shown-from (shows-says cs e' t')

    axes : e.axis ≡ e'.axis
    axes =
        same_axis-sound e.axis e'.axis
        (axis-one cs e.from e.axis e'.axis (shows-says cs e t) (subst (λ (p : GridPoint). Shown cs (edge e'.axis p)) (sym from) (shows-says cs e' t')))

-- ---- the label

-- it is shown
pub label-shown : (cs : List GridPoint) → All (λ e. T (shows cs e)) (edge_shown cs)
unfolding edge_shown
label-shown cs = all_keep (shows cs) (more (λ t. t) (more (λ t. t) (more (λ t. t) none)))

-- and what is shown is the label
pub shown-label : (cs : List GridPoint) (e : Edge) → T (shows cs e) → edge_shown cs ≡ e ∷ []
unfolding edge_shown keep
shown-label cs e t = ap (λ (p : GridPoint). keep (shows cs) (edges_at p)) (shown-from (shows-says cs e t)) ∙ go e.axis t
  where
    p : GridPoint
    p = e.from

    off : (a a' : Axis) → T (shows cs (edge a p)) → (T (same_axis a a') → ⊥) → shows cs (edge a' p) ≡ false
    off a a' t n = is_false (shows cs (edge a' p)) (λ t'. n (axis-one cs p a a' (shows-says cs (edge a p) t) (shows-says cs (edge a' p) t')))

    go : (a : Axis) → T (shows cs (edge a p)) → keep (shows cs) (edges_at p) ≡ edge a p ∷ []
    go axis_x t = rw (is_true (shows cs (edge axis_x p)) t, off axis_x axis_y t (λ b. b), off axis_x axis_z t (λ b. b))
    go axis_y t = rw (is_true (shows cs (edge axis_y p)) t, off axis_y axis_x t (λ b. b), off axis_y axis_z t (λ b. b))
    go axis_z t = rw (is_true (shows cs (edge axis_z p)) t, off axis_z axis_x t (λ b. b), off axis_z axis_y t (λ b. b))

-- ---- a face's cells show its edge

face-has : (g : Field) (e : Edge) → Four (λ c. 0 < many (same_point c) (face_cells g e)) e
unfolding face_cells many
face-has g e = go (shorter g e) (negative (value g e.from))
  where
    it : (c : GridPoint) → one (same_point c c) ≡ 1
    it c = one_of (same_point c c) (same_point-itself c)

    go : (s t : Bool) → Four (λ c. 0 < many (same_point c) (six s t (cell1 e) (cell2 e) (cell3 e) (cell4 e))) e
    go true true = record { one = omega (arith, it (cell1 e)); two = omega (arith, it (cell2 e)); three = omega (arith, it (cell3 e)); four = omega (arith, it (cell4 e)) }
    go true false = record { one = omega (arith, it (cell1 e)); two = omega (arith, it (cell2 e)); three = omega (arith, it (cell3 e)); four = omega (arith, it (cell4 e)) }
    go false true = record { one = omega (arith, it (cell1 e)); two = omega (arith, it (cell2 e)); three = omega (arith, it (cell3 e)); four = omega (arith, it (cell4 e)) }
    go false false = record { one = omega (arith, it (cell1 e)); two = omega (arith, it (cell2 e)); three = omega (arith, it (cell3 e)); four = omega (arith, it (cell4 e)) }

pub face-shows : (g : Field) (e : Edge) → 0 < along (axis_b e.axis) e.from → 0 < along (axis_c e.axis) e.from → edge_shown (face_cells g e) ≡ e ∷ []
face-shows g e b c =
    let h = face-has g e in
    let cs : List GridPoint = face_cells g e in
    shown-label cs e
    (says-shows cs e
    (record {
      above_b = b;
      above_c = c;
      four = more (held cs (cell1 e) h.one) (more (held cs (cell2 e) h.two) (more (held cs (cell3 e) h.three) (more (held cs (cell4 e) h.four) none)));
      all = face-all g e (round-has e);
    }))

-- ---- computed: what shows an edge, and what shows none

abbrev at : ℕ → ℕ → ℕ → GridPoint
at x y z = record { x = x; y = y; z = z }

-- the cells of Ball's first face, in the order of document 01's first six indices, 2 1 0 2 3 1
ball-first : edge_shown (at 0 1 0 ∷ at 1 0 0 ∷ at 0 0 0 ∷ at 0 1 0 ∷ at 1 1 0 ∷ at 1 0 0 ∷ []) ≡ edge axis_z (at 1 1 0) ∷ []
unfolding edge_shown shows greatest keep many some
ball-first = refl

-- no cell at all, one cell six times, three of the four, and a cell beside the four
none-shown : edge_shown [] ≡ []
unfolding edge_shown shows greatest keep many some
none-shown = refl

one-shown : edge_shown (at 1 1 1 ∷ at 1 1 1 ∷ at 1 1 1 ∷ at 1 1 1 ∷ at 1 1 1 ∷ at 1 1 1 ∷ []) ≡ []
unfolding edge_shown shows greatest keep many some
one-shown = refl

three-shown : edge_shown (at 1 1 0 ∷ at 1 0 0 ∷ at 0 0 0 ∷ at 1 1 0 ∷ at 0 0 0 ∷ at 1 0 0 ∷ []) ≡ []
unfolding edge_shown shows greatest keep many some
three-shown = refl

beside-shown : edge_shown (at 0 1 0 ∷ at 1 0 0 ∷ at 0 0 0 ∷ at 0 1 0 ∷ at 1 1 0 ∷ at 2 0 0 ∷ []) ≡ []
unfolding edge_shown shows greatest keep many some
beside-shown = refl
