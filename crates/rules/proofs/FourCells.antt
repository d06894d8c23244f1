-- The four cells round an edge that gives a face: they are cells of the box, and surface cells, since both ends of the edge are corners of
-- each. From the bounds that ownership gives, and the counts of negative corners. Assumes nothing.
use Prim.Native.Nat.{ℕ, zero, suc, ◌<◌}
use native.Mathlib.Omega.{arith}
use mathlib.Core.Bool.{Bool, true, false, ◌&&◌}
use mathlib.Core.List.{List}
use mathlib.Core.Path.{◌≡◌, refl, ap, subst, ◌∙◌}
use lib.Dec.{T, leb, le→leb, ltb→lt}
use lib.Ieee.{Float, nan, unlike}
use lib.Ieee.Fits.{and_i, and_l, and_r}
use lib.ListN.{length}
use Rattle.rules.specs.Grid.{GridPoint, Box, Field, is_cell, Axis, axis_x, axis_y, axis_z, along, step_up, step_down, turned, value}
use Rattle.rules.specs.Cell.{negative, negatives, surface, values, corner, corner_of}
use Rattle.rules.specs.Vertices.{surface_cell}
use Rattle.rules.specs.Faces.{Edge, Flags, axis_b, axis_c, above_low, inside_max, owned, changes, gives, edge, cell1, cell2, cell3, cell4}
use Rattle.lists.proofs.Tests.{is-test}
use Rattle.lists.proofs.Lists.{many-some, many-less}
use Rattle.rules.proofs.Indexes.{Same, same_point_lem, CellWithin, cell-within, is-cell}

-- ---- the four cells round an owned edge

pub record Four (P : GridPoint → Type 0) (e : Edge) : Type 0 where
  pub one : P (cell1 e)
  pub two : P (cell2 e)
  pub three : P (cell3 e)
  pub four : P (cell4 e)

-- what an owned edge says of its lowest corner
pub record Owned (b : Box) (m : Flags) (e : Edge) : Type 0 where
  pub cell : CellWithin b e.from
  pub above_b : along (axis_b e.axis) b.low < along (axis_b e.axis) e.from
  pub above_c : along (axis_c e.axis) b.low < along (axis_c e.axis) e.from

pub owned-says : (b : Box) (m : Flags) (e : Edge) → T (owned b m e) → Owned b m e
unfolding owned
owned-says b m e t =
    record {
      cell = cell-within b e.from (and_l (is_cell b e.from) (up B && (up C && last)) t);
      above_b = ltb→lt (along B b.low) (along B e.from) (and_l (up B) (up C && last) above);
      above_c = ltb→lt (along C b.low) (along C e.from) (and_l (up C) last (and_r (up B) (up C && last) above));
    }
  where
    B : Axis
    B = axis_b e.axis

    C : Axis
    C = axis_c e.axis

    up : Axis → Bool
    up a = above_low a b e.from

    last : Bool
    last = inside_max e.axis b m e.from

    above : T (up B && (up C && last))
    above = and_r (is_cell b e.from) (up B && (up C && last)) t

-- down by one on an axis where the point is above the box's low corner, it is still a cell
pub down-in : (a : Axis) (b : Box) (p : GridPoint) → CellWithin b p → along a b.low < along a p → CellWithin b (step_down a p)
down-in axis_x b p h k = omega arith
down-in axis_y b p h k = omega arith
down-in axis_z b p h k = omega arith

-- a step on one axis leaves the next as it was
pub along-down : (a : Axis) (p : GridPoint) → along (turned a) (step_down a p) ≡ along (turned a) p
along-down axis_x p = refl
along-down axis_y p = refl
along-down axis_z p = refl

pub four-in : (b : Box) (m : Flags) (e : Edge) → T (owned b m e) → Four (λ c. T (is_cell b c)) e
four-in b m e t =
    record {
      one = is-cell b (cell1 e) o.cell;
      two = is-cell b (cell2 e) second;
      three = is-cell b (cell3 e) (down-in (axis_c e.axis) b e.from o.cell o.above_c);
      four = is-cell b (cell4 e) (down-in (axis_c e.axis) b (cell2 e) second (rw (along-down (axis_b e.axis) e.from) o.above_c));
    }
  where
    o : Owned b m e
    o = owned-says b m e t

    second : CellWithin b (cell2 e)
    second = down-in (axis_b e.axis) b e.from o.cell o.above_b

-- ---- the four cells round an edge with one negative end are surface cells

pub corner-value : (g : Field) (c : GridPoint) (i : ℕ) → i < 8 → corner (values g c) i ≡ value g (corner_of c i)
corner-value g c zero h = refl
corner-value g c (suc zero) h = refl
corner-value g c (suc (suc zero)) h = refl
corner-value g c (suc (suc (suc zero))) h = refl
corner-value g c (suc (suc (suc (suc zero)))) h = refl
corner-value g c (suc (suc (suc (suc (suc zero))))) h = refl
corner-value g c (suc (suc (suc (suc (suc (suc zero)))))) h = refl
corner-value g c (suc (suc (suc (suc (suc (suc (suc zero))))))) h = refl
corner-value g c (suc (suc (suc (suc (suc (suc (suc (suc i)))))))) h = absurd (omega arith)

-- one corner negative and one not: 1 to 7 negative ones of 8
pub on-surface : (d : List Float) (i j : ℕ) → length d ≡ 8 → i < 8 → j < 8 → T (unlike (negative (corner d i)) (negative (corner d j))) → T (surface d)
on-surface d i j n hi hj t = go (negative (corner d i)) (negative (corner d j)) refl refl t
  where
    both : (k l : ℕ) → k < 8 → l < 8 → negative (corner d k) ≡ true → negative (corner d l) ≡ false → T (surface d)
    both k l hk hl p q =
        and_i (leb 1 (negatives d)) (leb (negatives d) 7)
        (le→leb 1 (negatives d) (many-some negative d k nan (omega arith) (is-test (negative (corner d k)) p)))
        (le→leb (negatives d) 7 (omega (arith, many-less negative d l nan (omega arith) (λ s. subst T q s))))

    go : (s u : Bool) → negative (corner d i) ≡ s → negative (corner d j) ≡ u → T (unlike s u) → T (surface d)
    go true true p q w = absurd w
    go true false p q w = both i j hi hj p q
    go false true p q w = both j i hj hi q p
    go false false p q w = absurd w

-- both ends of the edge are corners of the cell
pub record Touches (e : Edge) (c : GridPoint) : Type 0 where
  pub near : ℕ
  pub far : ℕ
  pub near_in : near < 8
  pub far_in : far < 8
  pub near_is : corner_of c near ≡ e.from
  pub far_is : corner_of c far ≡ step_up e.axis e.from

pub touching-surface : (g : Field) (e : Edge) (c : GridPoint) → Touches e c → T (changes g e) → T (surface_cell g c)
unfolding changes
touching-surface g e c h t = on-surface (values g c) h.near h.far refl h.near_in h.far_in (rw (near, far) t)
  where
    near : corner (values g c) h.near ≡ value g e.from
    near = corner-value g c h.near h.near_in ∙ ap (value g) h.near_is

    far : corner (values g c) h.far ≡ value g (step_up e.axis e.from)
    far = corner-value g c h.far h.far_in ∙ ap (value g) h.far_is

touch : (e : Edge) (c : GridPoint) (near far : ℕ)
    → (near < 8) × (far < 8) × Same (corner_of c near) e.from × Same (corner_of c far) (step_up e.axis e.from) → Touches e c
touch e c near far h =
    record {
      near = near;
      far = far;
      near_in = h.0;
      far_in = h.1;
      near_is = same_point_lem h.2;
      far_is = same_point_lem h.3;
    }

pub four-touch : (a : Axis) (p : GridPoint) → 0 < along (axis_b a) p → 0 < along (axis_c a) p → Four (Touches (edge a p)) (edge a p)
four-touch axis_x p h k =
    record {
      one = touch (edge axis_x p) (cell1 (edge axis_x p)) 0 1 (omega arith);
      two = touch (edge axis_x p) (cell2 (edge axis_x p)) 2 3 (omega arith);
      three = touch (edge axis_x p) (cell3 (edge axis_x p)) 4 5 (omega arith);
      four = touch (edge axis_x p) (cell4 (edge axis_x p)) 6 7 (omega arith);
    }
four-touch axis_y p h k =
    record {
      one = touch (edge axis_y p) (cell1 (edge axis_y p)) 0 2 (omega arith);
      two = touch (edge axis_y p) (cell2 (edge axis_y p)) 4 6 (omega arith);
      three = touch (edge axis_y p) (cell3 (edge axis_y p)) 1 3 (omega arith);
      four = touch (edge axis_y p) (cell4 (edge axis_y p)) 5 7 (omega arith);
    }
four-touch axis_z p h k =
    record {
      one = touch (edge axis_z p) (cell1 (edge axis_z p)) 0 4 (omega arith);
      two = touch (edge axis_z p) (cell2 (edge axis_z p)) 1 5 (omega arith);
      three = touch (edge axis_z p) (cell3 (edge axis_z p)) 2 6 (omega arith);
      four = touch (edge axis_z p) (cell4 (edge axis_z p)) 3 7 (omega arith);
    }

pub four-on : (g : Field) (b : Box) (m : Flags) (e : Edge) → T (gives g b m e) → Four (λ c. T (surface_cell g c)) e
four-on g b m e t =
    record {
      one = touching-surface g e (cell1 e) f.one s;
      two = touching-surface g e (cell2 e) f.two s;
      three = touching-surface g e (cell3 e) f.three s;
      four = touching-surface g e (cell4 e) f.four s;
    }
  where
    o : Owned b m e
    o = owned-says b m e (and_l (owned b m e) (changes g e) t)

    s : T (changes g e)
    s = and_r (owned b m e) (changes g e) t

    f : Four (Touches e) e
    f = four-touch e.axis e.from (omega (arith, o.above_b)) (omega (arith, o.above_c))

pub gives-owned : (g : Field) (b : Box) (m : Flags) (e : Edge) → T (gives g b m e) → T (owned b m e)
gives-owned g b m e t = and_l (owned b m e) (changes g e) t

pub gives-cell : (g : Field) (b : Box) (m : Flags) (e : Edge) → T (gives g b m e) → T (is_cell b e.from)
gives-cell g b m e t = (four-in b m e (gives-owned g b m e t)).one
