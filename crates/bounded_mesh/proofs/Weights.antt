-- The weights of cells, squares and edges, by which points have one: all of a thing's points, or one at least. Assumes nothing.
use Prim.Native.Nat.{ℕ, zero, suc, ◌+◌, ◌*◌, ◌≤◌, ◌<◌}
use native.Mathlib.Nat.{add-zero, le_trans, le_of_eq, add-le-add, mul-le-mul_right}
use native.Mathlib.Omega.{arith}
use mathlib.Core.Bool.{Bool, true, false, ◌&&◌, ◌||◌}
use mathlib.Core.Logic.{◌⊎◌, inl, inr}
use mathlib.Core.Path.{◌≡◌, refl, sym, subst}
use lib.Dec.{T, leb, eqb, eqb→eq, le→leb}
use lib.Ieee.Fits.{and_i, and_l, and_r}
use lib.ListN.{get_or}
use Rattle.lists.specs.Lists.{one, many}
use Rattle.lists.proofs.Lists.{all-at, total, many-some, many-full}
use Rattle.lists.proofs.Tests.{one_of, one-not, or-first, or-second}
use Rattle.rules.specs.Grid.{GridPoint, Axis, axis_x, axis_y, axis_z, Box, along, step_up, turned}
use Rattle.rules.specs.Cell.{corner_of, eight}
use Rattle.rules.specs.Faces.{edge, axis_b, axis_c, points}
use Rattle.skin.specs.Enclosed.{Inner}
use Rattle.bounded_mesh.specs.Round.{area_round, Placing, InCells, round}
use Rattle.bounded_mesh.proofs.Squares.{up-b, up-c, whole, Order, Weights, areas-compare}
use Rattle.bounded_mesh.proofs.Around.{or-then}

-- ---- at most and at least

pub most : Order (λ (m n : ℕ). m ≤ n)
most = record { same = λ e. le_of_eq e; chain = λ h k. le_trans h k; plus = λ h k. add-le-add h k; times = λ k h. mul-le-mul_right k h }

least : Order (λ (m n : ℕ). n ≤ m)
least = record { same = λ e. le_of_eq (sym e); chain = λ h k. le_trans k h; plus = λ h k. add-le-add h k; times = λ k h. mul-le-mul_right k h }

pub one-under : (s t : Bool) → (T s → T t) → one s ≤ one t
one-under true t h = omega (arith, one_of t (h tt))
one-under false t h = omega arith

-- ---- the eight corners of a cell

-- said of each
pub record Eight (P : GridPoint → Type 0) (p : GridPoint) : Type 0 where
  pub c0 : P p
  pub c1 : P (step_up axis_x p)
  pub c2 : P (step_up axis_y p)
  pub c3 : P (step_up axis_x (step_up axis_y p))
  pub c4 : P (step_up axis_z p)
  pub c5 : P (step_up axis_x (step_up axis_z p))
  pub c6 : P (step_up axis_y (step_up axis_z p))
  pub c7 : P (step_up axis_x (step_up axis_y (step_up axis_z p)))

module _ (p : GridPoint) where
  z : (n : ℕ) → n + 0 ≡ n
  z n = add-zero n

  eight-each : {P : GridPoint → Type 0} → ((i : ℕ) → i < 8 → P (corner_of p i)) → Eight P p
  eight-each {P} f =
      record {
        c0 = subst P (λ i. record { x = z p.x i; y = z p.y i; z = z p.z i }) (f 0 (omega arith));
        c1 = subst P (λ i. record { x = p.x + 1; y = z p.y i; z = z p.z i }) (f 1 (omega arith));
        c2 = subst P (λ i. record { x = z p.x i; y = p.y + 1; z = z p.z i }) (f 2 (omega arith));
        c3 = subst P (λ i. record { x = p.x + 1; y = p.y + 1; z = z p.z i }) (f 3 (omega arith));
        c4 = subst P (λ i. record { x = z p.x i; y = z p.y i; z = p.z + 1 }) (f 4 (omega arith));
        c5 = subst P (λ i. record { x = p.x + 1; y = z p.y i; z = p.z + 1 }) (f 5 (omega arith));
        c6 = subst P (λ i. record { x = z p.x i; y = p.y + 1; z = p.z + 1 }) (f 6 (omega arith));
        c7 = f 7 (omega arith);
      }

module _ (n : GridPoint → Bool) where
  -- how many corners of a cell have a weight
  abbrev pub corners_in : GridPoint → ℕ
  corners_in p = many (λ (i : ℕ). n (corner_of p i)) eight

  abbrev pub all_corners : GridPoint → Bool
  all_corners p = eqb (corners_in p) 8

  abbrev pub some_corner : GridPoint → Bool
  some_corner p = leb 1 (corners_in p)

  -- the place i of the eight is i
  eight-at : (i : ℕ) → i < 8 → get_or eight i 0 ≡ i
  eight-at zero h = refl
  eight-at (suc zero) h = refl
  eight-at (suc (suc zero)) h = refl
  eight-at (suc (suc (suc zero))) h = refl
  eight-at (suc (suc (suc (suc zero)))) h = refl
  eight-at (suc (suc (suc (suc (suc zero))))) h = refl
  eight-at (suc (suc (suc (suc (suc (suc zero)))))) h = refl
  eight-at (suc (suc (suc (suc (suc (suc (suc zero))))))) h = refl
  eight-at (suc (suc (suc (suc (suc (suc (suc (suc i)))))))) h = absurd (omega arith)

  pub all-eight : (p : GridPoint) → T (all_corners p) → Eight (λ (q : GridPoint). T (n q)) p
  all-eight p t =
      eight-each p (λ i h. subst (λ (k : ℕ). T (n (corner_of p k))) (eight-at i h)
      (all-at (many-full (λ (i : ℕ). n (corner_of p i)) eight (eqb→eq (corners_in p) 8 t)) i h 0))

  some-eight : (p : GridPoint) → Eight (λ (q : GridPoint). T (n q) → T (some_corner p)) p
  some-eight p =
      eight-each p (λ i h t. le→leb 1 (corners_in p)
      (many-some (λ (i : ℕ). n (corner_of p i)) eight i 0 h (subst (λ (k : ℕ). T (n (corner_of p k))) (sym (eight-at i h)) t)))

  -- ---- squares

  abbrev pub all_four : Axis → GridPoint → Bool
  all_four a p = n p && (n (step_up (turned a) p) && (n (step_up (turned (turned a)) p) && n (step_up (turned a) (step_up (turned (turned a)) p))))

  abbrev some_of_four : Axis → GridPoint → Bool
  some_of_four a p = n p || (n (step_up (turned a) p) || (n (step_up (turned (turned a)) p) || n (step_up (turned a) (step_up (turned (turned a)) p))))

  -- said of a square's four corners
  pub record Corners (P : GridPoint → Type 0) (a : Axis) (p : GridPoint) : Type 0 where
    pub d0 : P p
    pub d1 : P (step_up (turned a) p)
    pub d2 : P (step_up (turned (turned a)) p)
    pub d3 : P (step_up (turned a) (step_up (turned (turned a)) p))

  pub low-square : {P : GridPoint → Type 0} (a : Axis) (p : GridPoint) → Eight P p → Corners P a p
  low-square axis_x p e = record { d0 = e.c0; d1 = e.c2; d2 = e.c4; d3 = e.c6 }
  low-square axis_y p e = record { d0 = e.c0; d1 = e.c4; d2 = e.c1; d3 = e.c5 }
  low-square axis_z p e = record { d0 = e.c0; d1 = e.c1; d2 = e.c2; d3 = e.c3 }

  pub high-square : {P : GridPoint → Type 0} (a : Axis) (p : GridPoint) → Eight P p → Corners P a (step_up a p)
  high-square axis_x p e = record { d0 = e.c1; d1 = e.c3; d2 = e.c5; d3 = e.c7 }
  high-square axis_y p e = record { d0 = e.c2; d1 = e.c6; d2 = e.c3; d3 = e.c7 }
  high-square axis_z p e = record { d0 = e.c4; d1 = e.c5; d2 = e.c6; d3 = e.c7 }

  pub four-in : (a : Axis) (p : GridPoint) → Corners (λ (q : GridPoint). T (n q)) a p → T (all_four a p)
  four-in a p c =
      let t3 = and_i (n (step_up (turned (turned a)) p)) (n (step_up (turned a) (step_up (turned (turned a)) p))) c.d2 c.d3 in
      and_i (n p) _ c.d0 (and_i (n (step_up (turned a) p)) _ c.d1 t3)

  pub four-out : (a : Axis) (p : GridPoint) → T (all_four a p) → Corners (λ (q : GridPoint). T (n q)) a p
  four-out a p t =
      let t1 = and_r (n p) _ t in
      let t2 = and_r (n (step_up (turned a) p)) _ t1 in
      record { d0 = and_l (n p) _ t; d1 = and_l (n (step_up (turned a) p)) _ t1; d2 = and_l (n (step_up (turned (turned a)) p)) _ t2; d3 = and_r (n (step_up (turned (turned a)) p)) _ t2 }

  -- what follows from each corner follows from some
  some-four : {A : Type 0} (a : Axis) (p : GridPoint) → Corners (λ (q : GridPoint). T (n q) → A) a p → T (some_of_four a p) → A
  some-four a p c =
      let n2 = n (step_up (turned (turned a)) p) in
      let n3 = n (step_up (turned a) (step_up (turned (turned a)) p)) in
      or-then (n p) (n (step_up (turned a) p) || (n2 || n3)) c.d0 (or-then (n (step_up (turned a) p)) (n2 || n3) c.d1 (or-then n2 n3 c.d2 c.d3))

  four-some : (a : Axis) (p : GridPoint) → Corners (λ (q : GridPoint). T (n q) → T (some_of_four a p)) a p
  four-some a p =
      let n1 = n (step_up (turned a) p) in
      let n2 = n (step_up (turned (turned a)) p) in
      let n3 = n (step_up (turned a) (step_up (turned (turned a)) p)) in
      record {
        d0 = or-first (n p) (n1 || (n2 || n3));
        d1 = λ t. or-second (n p) (n1 || (n2 || n3)) (or-first n1 (n2 || n3) t);
        d2 = λ t. or-second (n p) (n1 || (n2 || n3)) (or-second n1 (n2 || n3) (or-first n2 n3 t));
        d3 = λ t. or-second (n p) (n1 || (n2 || n3)) (or-second n1 (n2 || n3) (or-second n2 n3 t));
      }

  pub two_ways : (a : Axis) (p : GridPoint) → step_up (turned a) (step_up (turned (turned a)) p) ≡ step_up (turned (turned a)) (step_up (turned a) p)
  two_ways axis_x p = refl
  two_ways axis_y p = refl
  two_ways axis_z p = refl

  -- ---- edges

  abbrev both : Axis → GridPoint → Bool
  both a p = n p && n (step_up a p)

  abbrev either : Axis → GridPoint → Bool
  either a p = n p || n (step_up a p)

  -- ---- nothing on the end planes

  module _ (b : Box) (inner : (p : GridPoint) → T (n p) → Inner b p) where
    abbrev AtEnd : Axis → GridPoint → Type 0
    AtEnd x p = (along x p ≡ along x b.low) ⊎ (along x p ≡ along x b.high + 1)

    -- a point that is level with one of an end plane
    outside : (x : Axis) (p q : GridPoint) → along x q ≡ along x p → AtEnd x p → T (n q) → ⊥
    outside x p q e (inl h) t = omega (arith, (inner q t x).0)
    outside x p q e (inr h) t = omega (arith, (inner q t x).1)

    levels : (a : Axis) (p : GridPoint) → Corners (λ (q : GridPoint). along a q ≡ along a p) a p
    levels axis_x p = record { d0 = refl; d1 = refl; d2 = refl; d3 = refl }
    levels axis_y p = record { d0 = refl; d1 = refl; d2 = refl; d3 = refl }
    levels axis_z p = record { d0 = refl; d1 = refl; d2 = refl; d3 = refl }

    none-either : (x a : Axis) (p : GridPoint) → along x (step_up a p) ≡ along x p → AtEnd x p → T (either a p) → ⊥
    none-either x a p e h = or-then (n p) (n (step_up a p)) (outside x p p refl h) (outside x p (step_up a p) e h)

    none_both : (x a : Axis) (p : GridPoint) → AtEnd x p → T (both a p) → ⊥
    none_both x a p h t = outside x p p refl h (and_l (n p) (n (step_up a p)) t)

    module _ (v : Placing) (w : InCells v) where
      some-weights : Weights least b v w (λ (p : GridPoint). one (some_corner p)) (λ (a : Axis) (p : GridPoint). one (some_of_four a p)) (λ (a : Axis) (p : GridPoint). one (either a p))
      some-weights =
          record {
            low = λ a p. one-under (some_of_four a p) (some_corner p) (some-four a p (low-square a p (some-eight p)));
            high = λ a p. one-under (some_of_four a (step_up a p)) (some_corner p) (some-four a (step_up a p) (high-square a p (some-eight p)));
            near = λ a p. one-under (either (turned (turned a)) p) (some_of_four a p) (or-then (n p) (n (step_up (turned (turned a)) p)) (four-some a p).d0 (four-some a p).d2);
            far = λ a p. one-under (either (turned (turned a)) (step_up (turned a) p)) (some_of_four a p)
                (or-then (n (step_up (turned a) p)) (n (step_up (turned (turned a)) (step_up (turned a) p))) (four-some a p).d1 (subst (λ (q : GridPoint). T (n q) → T (some_of_four a p)) (two_ways a p) (four-some a p).d3));
            left = λ a p. one-under (either (turned a) p) (some_of_four a p) (or-then (n p) (n (step_up (turned a) p)) (four-some a p).d0 (four-some a p).d1);
            right = λ a p. one-under (either (turned a) (step_up (turned (turned a)) p)) (some_of_four a p)
                (or-then (n (step_up (turned (turned a)) p)) (n (step_up (turned a) (step_up (turned (turned a)) p))) (four-some a p).d2 (four-some a p).d3);
            at_b = λ a p h. one-not (either a p) (none-either (axis_b a) a p (up-b a p) h);
            at_c = λ a p h. one-not (either a p) (none-either (axis_c a) a p (up-c a p) h);
            at_n = λ a p h. one-not (some_of_four a p) (some-four a p (let e = levels a p in
                record { d0 = outside a p p e.d0 h; d1 = outside a p (step_up (turned a) p) e.d1 h; d2 = outside a p (step_up (turned (turned a)) p) e.d2 h; d3 = outside a p (step_up (turned a) (step_up (turned (turned a)) p)) e.d3 h }));
          }

      pub whole-weights : Weights most b v w (λ (p : GridPoint). one (all_corners p)) (λ (a : Axis) (p : GridPoint). one (all_four a p)) (λ (a : Axis) (p : GridPoint). one (both a p))
      whole-weights =
          record {
            low = λ a p. one-under (all_corners p) (all_four a p) (λ t. four-in a p (low-square a p (all-eight p t)));
            high = λ a p. one-under (all_corners p) (all_four a (step_up a p)) (λ t. four-in a (step_up a p) (high-square a p (all-eight p t)));
            near = λ a p. one-under (all_four a p) (both (turned (turned a)) p) (λ t. and_i (n p) (n (step_up (turned (turned a)) p)) (four-out a p t).d0 (four-out a p t).d2);
            far = λ a p. one-under (all_four a p) (both (turned (turned a)) (step_up (turned a) p)) (λ t. and_i (n (step_up (turned a) p)) (n (step_up (turned (turned a)) (step_up (turned a) p)))
                (four-out a p t).d1 (subst (λ (q : GridPoint). T (n q)) (two_ways a p) (four-out a p t).d3));
            left = λ a p. one-under (all_four a p) (both (turned a) p) (λ t. and_i (n p) (n (step_up (turned a) p)) (four-out a p t).d0 (four-out a p t).d1);
            right = λ a p. one-under (all_four a p) (both (turned a) (step_up (turned (turned a)) p)) (λ t. and_i (n (step_up (turned (turned a)) p))
                (n (step_up (turned a) (step_up (turned (turned a)) p))) (four-out a p t).d2 (four-out a p t).d3);
            at_b = λ a p h. one-not (both a p) (none_both (axis_b a) a p h);
            at_c = λ a p h. one-not (both a p) (none_both (axis_c a) a p h);
            at_n = λ a p h. one-not (all_four a p) (λ t. outside a p p refl h (four-out a p t).d0);
          }

      -- 6·256² for each cell with all its corners
      pub areas-least : 393216 * total (λ (p : GridPoint). one (all_corners p)) (points b)
          ≤ whole b (λ (a : Axis) (p : GridPoint). one (n p && n (step_up a p)) * round v (area_round a p) (edge a p))
      areas-least =
          areas-compare most b v w (λ (p : GridPoint). one (all_corners p)) (λ (a : Axis) (p : GridPoint). one (all_four a p)) (λ (a : Axis) (p : GridPoint). one (both a p)) whole-weights

      -- and for each with one at least
      pub areas-most : whole b (λ (a : Axis) (p : GridPoint). one (n p || n (step_up a p)) * round v (area_round a p) (edge a p))
          ≤ 393216 * total (λ (p : GridPoint). one (some_corner p)) (points b)
      areas-most =
          areas-compare least b v w (λ (p : GridPoint). one (some_corner p)) (λ (a : Axis) (p : GridPoint). one (some_of_four a p)) (λ (a : Axis) (p : GridPoint). one (either a p)) some-weights
