-- The areas of a full tank's edges with both ends in it: a square between two cells that sticks out of the tank adds nothing to its edges, and the cell outside a
-- square of the tank's outer plane has its vertex on it. So what is left is 6·256² for each cell with all its corners in the tank. Assumes nothing.
use Prim.Native.Nat.{ℕ, ◌+◌, ◌-◌, ◌*◌, ◌≤◌, ◌<◌}
use native.Mathlib.Nat.{mul_comm}
use native.Mathlib.Omega.{arith}
use mathlib.Core.Bool.{Bool, true, false, ◌&&◌}
use mathlib.Core.Logic.{inl, inr}
use mathlib.Core.Path.{◌≡◌, refl, sym, ap, subst, ◌∙◌}
use lib.Dec.{T, eqb}
use lib.Ieee.Fits.{and_i, and_l, and_r}
use Rattle.lists.specs.Lists.{one}
use Rattle.lists.proofs.Lists.{All, none, more, all-each, all_then, total, total-same, total-scaled, many-every}
use Rattle.lists.proofs.Tests.{less-or-not}
use Rattle.rules.specs.Grid.{GridPoint, Axis, axis_x, axis_y, axis_z, Box, along, step_up, step_down, turned}
use Rattle.rules.specs.Cell.{corner_of, eight}
use Rattle.rules.specs.Faces.{edge, axis_b, axis_c, cell1, cell2, cell3, cell4, points}
use Rattle.skin.specs.Enclosed.{Inner}
use Rattle.volume.specs.declared.Corner.{Corner}
use Rattle.closed_bed.proofs.Sides.{side_of}
use Rattle.closed_bed.proofs.Standing.{corner-along}
use Rattle.bounded_mesh.specs.Round.{distance, turning, area_round, Placing, InCells, round}
use Rattle.bounded_mesh.proofs.Edge.{Stands, stands}
use Rattle.bounded_mesh.proofs.Squares.{side12, side24, side43, side31, above, below, square-is, across, whole, by-axes, split-four, square_sum, by-squares, Weights, by-cells}
use Rattle.bounded_mesh.proofs.Weights.{most, all_corners, all_four, Corners, all-eight, low-square, high-square, four-in, four-out, two_ways, whole-weights}
use Rattle.full_tank.proofs.Tank.{InTank, Near, Tank, up-along, up-tank, down-tank, near-tank, near_down, gap-high, gap-low}

-- ---- axes

-- of the square with the normal axis a
C-of : (a : Axis) → axis_c (turned (turned a)) ≡ turned a
C-of axis_x = refl
C-of axis_y = refl
C-of axis_z = refl

one-beside : (a : Axis) (p : GridPoint) → along (turned a) (step_up (turned (turned a)) p) ≡ along (turned a) p
one-beside axis_x p = refl
one-beside axis_y p = refl
one-beside axis_z p = refl

two-beside : (a : Axis) (p : GridPoint) → along (turned (turned a)) (step_up (turned a) p) ≡ along (turned (turned a)) p
two-beside axis_x p = refl
two-beside axis_y p = refl
two-beside axis_z p = refl

down-along : (a : Axis) (p : GridPoint) → along a (step_down a p) ≡ along a p - 1
down-along axis_x p = refl
down-along axis_y p = refl
down-along axis_z p = refl

each-axis : (P : Axis → Type 0) (a : Axis) → P a → P (turned a) → P (turned (turned a)) → (x : Axis) → P x
each-axis P axis_x h k l axis_x = h
each-axis P axis_x h k l axis_y = k
each-axis P axis_x h k l axis_z = l
each-axis P axis_y h k l axis_x = l
each-axis P axis_y h k l axis_y = h
each-axis P axis_y h k l axis_z = k
each-axis P axis_z h k l axis_x = k
each-axis P axis_z h k l axis_y = l
each-axis P axis_z h k l axis_z = h

-- ---- cells with all their corners in the tank

abbrev pub Whole : GridPoint → GridPoint → Type 0
Whole d p = (a : Axis) → (1 ≤ along a p) × (along a p + 1 ≤ along a d)

side-few : (a : Axis) (i : ℕ) → i < 8 → side_of a i ≤ 1
side-few axis_x i h = omega arith
side-few axis_y i h = omega arith
side-few axis_z i h = omega arith

below-eight : All (λ (i : ℕ). i < 8) eight
below-eight =
    more {x = 0} (omega arith) (more {x = 1} (omega arith) (more {x = 2} (omega arith) (more {x = 3} (omega arith) (more {x = 4} (omega arith) (more {x = 5} (omega arith) (more {x = 6} (omega arith) (more {x = 7} (omega arith) none)))))))

-- ---- one term

none-b : (e : Axis) (q : GridPoint) (u w : Corner) → distance (axis_b e) q u ≡ 0 → distance (axis_b e) q w ≡ 0 → turning e q u w ≡ 0
unfolding turning
none-b e q u w h k = products (distance (axis_b e) q u) (distance (axis_c e) q w) (distance (axis_c e) q u) (distance (axis_b e) q w) h k
  where
    products : (x y z t : ℕ) → x ≡ 0 → t ≡ 0 → x * y + z * t ≡ 0
    products x y z t h k = rw (h, k) (omega arith)

none-c : (e : Axis) (q : GridPoint) (u w : Corner) → distance (axis_c e) q u ≡ 0 → distance (axis_c e) q w ≡ 0 → turning e q u w ≡ 0
unfolding turning
none-c e q u w h k = products (distance (axis_b e) q u) (distance (axis_c e) q w) (distance (axis_c e) q u) (distance (axis_b e) q w) h k
  where
    products : (x y z t : ℕ) → z ≡ 0 → y ≡ 0 → x * y + z * t ≡ 0
    products x y z t h k = rw (h, k) (omega arith)

-- the edge has both ends, s, or the square has all four corners, t
same-term : (s t : Bool) (m : ℕ) → (T t → T s) → (T s → (T t → ⊥) → m ≡ 0) → one s * m ≡ one t * m
same-term true true m f g = refl
same-term true false m f g = omega (arith, g tt (λ t. t))
same-term false true m f g = absurd (f tt)
same-term false false m f g = refl

-- a cell, c, and its two squares across an axis, s and t
same-cell : (s t c : Bool) (m k : ℕ) → (T c → T s) → (T c → T t) → (T s → T t → T c) → (T s → (T t → ⊥) → m ≡ 0) → (T t → (T s → ⊥) → k ≡ 0) → m + k ≡ 256
    → one s * (512 * m) + one t * (512 * k) ≡ one c * 131072
same-cell true true true m k f g h z y e = omega arith
same-cell true true false m k f g h z y e = absurd (h tt tt)
same-cell true false true m k f g h z y e = absurd (g tt)
same-cell true false false m k f g h z y e = omega (arith, z tt (λ t. t))
same-cell false t true m k f g h z y e = absurd (f tt)
same-cell false true false m k f g h z y e = omega (arith, y tt (λ t. t))
same-cell false false false m k f g h z y e = omega arith

module _ {d : GridPoint} {n : GridPoint → Bool} {v : Placing} (k : Tank d n v) where
  level-high : (t : Axis) (q c : GridPoint) → Near d c → along t c ≡ along t q → along t q ≡ along t d → distance t q (v c) ≡ 0
  level-high t q c h e f = omega (arith, k.high c t h (e ∙ f), f)

  level-low : (t : Axis) (q c : GridPoint) → Near d c → along t c ≡ along t q - 1 → along t q ≡ 1 → distance t q (v c) ≡ 0
  level-low t q c h e f = omega (arith, k.low c t h (omega (arith, e, f)), f)

  -- the four terms of an edge
  module _ (e : Axis) (q : GridPoint) (h : Near d q) where
    t : Stands e q
    t = stands e q

    near2 : Near d (cell2 (edge e q))
    near2 = near_down d (axis_b e) q h

    near3 : Near d (cell3 (edge e q))
    near3 = near_down d (axis_c e) q h

    near4 : Near d (cell4 (edge e q))
    near4 = near_down d (axis_c e) (step_down (axis_b e) q) near2

    none12 : along (axis_c e) q ≡ along (axis_c e) d → side12 v e q ≡ 0
    none12 f = none-c e q (v (cell1 (edge e q))) (v (cell2 (edge e q))) (level-high (axis_c e) q (cell1 (edge e q)) h refl f) (level-high (axis_c e) q (cell2 (edge e q)) near2 t.c2 f)

    none31 : along (axis_b e) q ≡ along (axis_b e) d → side31 v e q ≡ 0
    none31 f = none-b e q (v (cell3 (edge e q))) (v (cell1 (edge e q))) (level-high (axis_b e) q (cell3 (edge e q)) near3 t.b3 f) (level-high (axis_b e) q (cell1 (edge e q)) h refl f)

    none24 : along (axis_b e) q ≡ 1 → side24 v e q ≡ 0
    none24 f = none-b e q (v (cell2 (edge e q))) (v (cell4 (edge e q))) (level-low (axis_b e) q (cell2 (edge e q)) near2 t.b2 f) (level-low (axis_b e) q (cell4 (edge e q)) near4 t.b4 f)

    none43 : along (axis_c e) q ≡ 1 → side43 v e q ≡ 0
    none43 f = none-c e q (v (cell4 (edge e q))) (v (cell3 (edge e q))) (level-low (axis_c e) q (cell4 (edge e q)) near4 t.c4 f) (level-low (axis_c e) q (cell3 (edge e q)) near3 t.c3 f)

  near_of : (p : GridPoint) → T (n p) → Near d p
  near_of p h = near-tank d p (k.to p h)

  -- ---- one square

  module _ (a : Axis) (p : GridPoint) where
    abbrev B : Axis
    B = turned a

    abbrev C : Axis
    C = turned (turned a)

    all : T (n p) → T (n (step_up B p)) → T (n (step_up C p)) → T (n (step_up B (step_up C p))) → T (all_four n a p)
    all h0 h1 h2 h3 = four-in n a p (record { d0 = h0; d1 = h1; d2 = h2; d3 = h3 })

    other : T (n (step_up B (step_up C p))) → T (n (step_up C (step_up B p)))
    other = subst (λ (q : GridPoint). T (n q)) (two_ways n a p)

    back : T (n (step_up C (step_up B p))) → T (n (step_up B (step_up C p)))
    back = subst (λ (q : GridPoint). T (n q)) (sym (two_ways n a p))

    near-term : one (n p && n (step_up C p)) * side12 v C p ≡ one (all_four n a p) * side12 v C p
    near-term =
        same-term (n p && n (step_up C p)) (all_four n a p) (side12 v C p) (λ t. let c = four-out n a p t in and_i (n p) (n (step_up C p)) c.d0 c.d2)
        (λ s out. let h0 = and_l (n p) (n (step_up C p)) s in let h2 = and_r (n p) (n (step_up C p)) s in
        none12 C p (near_of p h0)
        (subst (λ (x : Axis). along x p ≡ along x d) (sym (C-of a)) (gap-high k B p (step_up C p) (one-beside a p) h0 h2 (λ h1 h3. out (all h0 h1 h2 h3)))))

    far-term : one (n (step_up B p) && n (step_up C (step_up B p))) * side43 v C (step_up B p) ≡ one (all_four n a p) * side43 v C (step_up B p)
    far-term =
        same-term (n (step_up B p) && n (step_up C (step_up B p))) (all_four n a p) (side43 v C (step_up B p))
        (λ t. let c = four-out n a p t in and_i (n (step_up B p)) (n (step_up C (step_up B p))) c.d1 (other c.d3))
        (λ s out. let h1 = and_l (n (step_up B p)) (n (step_up C (step_up B p))) s in let h3 = back (and_r (n (step_up B p)) (n (step_up C (step_up B p))) s) in
        none43 C (step_up B p) (near_of (step_up B p) h1)
        (subst (λ (x : Axis). along x (step_up B p) ≡ 1) (sym (C-of a)) (gap-low k B p (step_up C p) (one-beside a p) h1 h3 (λ h0 h2. out (all h0 h1 h2 h3)))))

    left-term : one (n p && n (step_up B p)) * side31 v B p ≡ one (all_four n a p) * side31 v B p
    left-term =
        same-term (n p && n (step_up B p)) (all_four n a p) (side31 v B p) (λ t. let c = four-out n a p t in and_i (n p) (n (step_up B p)) c.d0 c.d1)
        (λ s out. let h0 = and_l (n p) (n (step_up B p)) s in let h1 = and_r (n p) (n (step_up B p)) s in
        none31 B p (near_of p h0) (gap-high k C p (step_up B p) (two-beside a p) h0 h1 (λ h2 h3. out (all h0 h1 h2 (back h3)))))

    right-term : one (n (step_up C p) && n (step_up B (step_up C p))) * side24 v B (step_up C p) ≡ one (all_four n a p) * side24 v B (step_up C p)
    right-term =
        same-term (n (step_up C p) && n (step_up B (step_up C p))) (all_four n a p) (side24 v B (step_up C p))
        (λ t. let c = four-out n a p t in and_i (n (step_up C p)) (n (step_up B (step_up C p))) c.d2 c.d3)
        (λ s out. let h2 = and_l (n (step_up C p)) (n (step_up B (step_up C p))) s in let h3 = and_r (n (step_up C p)) (n (step_up B (step_up C p))) s in
        none24 B (step_up C p) (near_of (step_up C p) h2) (gap-low k C p (step_up B p) (two-beside a p) h2 (other h3) (λ h0 h1. out (all h0 h1 h2 h3))))

  -- ---- one cell

  pub whole-corners : (p : GridPoint) → Whole d p → T (all_corners n p)
  whole-corners p h =
      subst (λ (m : ℕ). T (eqb m 8)) (sym (many-every (λ (i : ℕ). n (corner_of p i)) (all_then (λ (i : ℕ) (l : i < 8). k.from (corner_of p i) (corner i l)) below-eight))) tt
    where
      corner : (i : ℕ) → i < 8 → InTank d (corner_of p i)
      corner i l a = let s = side-few a i l in let e = corner-along a p i in let q = h a in (omega arith, omega arith)

  pub corners-whole : (p : GridPoint) → T (all_corners n p) → Whole d p
  corners-whole p t = let e = all-eight n p t in let low = k.to p e.c0 in let high = k.to (step_up axis_x (step_up axis_y (step_up axis_z p))) e.c7 in go low high
    where
      go : InTank d p → InTank d (step_up axis_x (step_up axis_y (step_up axis_z p))) → Whole d p
      go l h axis_x = ((l axis_x).0, (h axis_x).1)
      go l h axis_y = ((l axis_y).0, (h axis_y).1)
      go l h axis_z = ((l axis_z).0, (h axis_z).1)

  -- the corners of a square, each a step up or a step down
  up : (t : Axis) (q : GridPoint) → T (n q) → along t q + 1 ≤ along t d → T (n (step_up t q))
  up t q h l = k.from (step_up t q) (up-tank d t q (k.to q h) l)

  down : (t : Axis) (q : GridPoint) → T (n (step_up t q)) → 1 ≤ along t q → T (n q)
  down t q h l = k.from q (down-tank d t q (k.to (step_up t q) h) l)

  abbrev InSquare : Axis → GridPoint → Type 0
  InSquare a p = Corners n (λ (q : GridPoint). T (n q)) a p

  lifted : (a : Axis) (p : GridPoint) → InSquare a p → along a p + 1 ≤ along a d → InSquare a (step_up a p)
  lifted axis_x p c l = record { d0 = up axis_x p c.d0 l; d1 = up axis_x (step_up axis_y p) c.d1 l; d2 = up axis_x (step_up axis_z p) c.d2 l; d3 = up axis_x (step_up axis_y (step_up axis_z p)) c.d3 l }
  lifted axis_y p c l = record { d0 = up axis_y p c.d0 l; d1 = up axis_y (step_up axis_z p) c.d1 l; d2 = up axis_y (step_up axis_x p) c.d2 l; d3 = up axis_y (step_up axis_z (step_up axis_x p)) c.d3 l }
  lifted axis_z p c l = record { d0 = up axis_z p c.d0 l; d1 = up axis_z (step_up axis_x p) c.d1 l; d2 = up axis_z (step_up axis_y p) c.d2 l; d3 = up axis_z (step_up axis_x (step_up axis_y p)) c.d3 l }

  lowered : (a : Axis) (p : GridPoint) → InSquare a (step_up a p) → 1 ≤ along a p → InSquare a p
  lowered axis_x p c l = record { d0 = down axis_x p c.d0 l; d1 = down axis_x (step_up axis_y p) c.d1 l; d2 = down axis_x (step_up axis_z p) c.d2 l; d3 = down axis_x (step_up axis_y (step_up axis_z p)) c.d3 l }
  lowered axis_y p c l = record { d0 = down axis_y p c.d0 l; d1 = down axis_y (step_up axis_z p) c.d1 l; d2 = down axis_y (step_up axis_x p) c.d2 l; d3 = down axis_y (step_up axis_z (step_up axis_x p)) c.d3 l }
  lowered axis_z p c l = record { d0 = down axis_z p c.d0 l; d1 = down axis_z (step_up axis_x p) c.d1 l; d2 = down axis_z (step_up axis_y p) c.d2 l; d3 = down axis_z (step_up axis_x (step_up axis_y p)) c.d3 l }

  module _ (a : Axis) (p : GridPoint) where
    both-squares : T (all_four n a p) → T (all_four n a (step_up a p)) → Whole d p
    both-squares s t =
        let c = four-out n a p s in
        let e = four-out n a (step_up a p) t in
        let w = k.to p c.d0 in
        each-axis (λ (x : Axis). (1 ≤ along x p) × (along x p + 1 ≤ along x d)) a
        ((w a).0, omega (arith, up-along a p, (k.to (step_up a p) e.d0 a).1))
        ((w (turned a)).0, omega (arith, up-along (turned a) p, (k.to (step_up (turned a) p) c.d1 (turned a)).1))
        ((w (turned (turned a))).0, omega (arith, up-along (turned (turned a)) p, (k.to (step_up (turned (turned a)) p) c.d2 (turned (turned a))).1))

    -- the low square lies on the tank's high plane, and the high one on its low plane
    last : T (all_four n a p) → (T (all_four n a (step_up a p)) → ⊥) → along a p ≡ along a d
    last s out =
        let c = four-out n a p s in
        elim (less-or-not (along a p) (along a d)) [
          | inl l ↦ absurd (out (four-in n a (step_up a p) (lifted a p c (omega arith))))
          | inr l ↦ omega (arith, (k.to p c.d0 a).1)
        ]

    first : T (all_four n a (step_up a p)) → (T (all_four n a p) → ⊥) → along a (step_up a p) ≡ 1
    first t out =
        elim (less-or-not 0 (along a p)) [
          | inl l ↦ absurd (out (four-in n a p (lowered a p (four-out n a (step_up a p) t) (omega arith))))
          | inr l ↦ omega (arith, up-along a p)
        ]

    cell-exact : InCells v → one (all_four n a p) * (512 * above v a p) + one (all_four n a (step_up a p)) * (512 * below v a (step_up a p)) ≡ one (all_corners n p) * 131072
    cell-exact w =
        same-cell (all_four n a p) (all_four n a (step_up a p)) (all_corners n p) (above v a p) (below v a (step_up a p))
        (λ t. four-in n a p (low-square n a p (all-eight n p t))) (λ t. four-in n a (step_up a p) (high-square n a p (all-eight n p t)))
        (λ s t. whole-corners p (both-squares s t))
        (λ s out. level-high a p p (near_of p (four-out n a p s).d0) refl (last s out))
        (λ t out. level-low a (step_up a p) (step_down a (step_up a p)) (near_down d a (step_up a p) (near_of (step_up a p) (four-out n a (step_up a p) t).d0)) (down-along a (step_up a p)) (first t out))
        (across v w a p)

  -- ---- all of them

  module _ (b : Box) (inner : (p : GridPoint) → T (n p) → Inner b p) (w : InCells v) where
    abbrev corners : ℕ
    corners = total (λ (p : GridPoint). one (all_corners n p)) (points b)

    abbrev line : Axis → GridPoint → ℕ
    line a p = one (n p && n (step_up a p))

    abbrev square : Axis → GridPoint → ℕ
    square a p = one (all_four n a p)

    weights : Weights most b v w (λ (p : GridPoint). one (all_corners n p)) square line
    weights = whole-weights n b inner v w

    square-exact : (a : Axis) (p : GridPoint) → square_sum b v line weights.at_b weights.at_c a p ≡ square a p * (512 * (above v a p + below v a p))
    square-exact a p =
        (λ i. near-term a p i + far-term a p i + left-term a p i + right-term a p i)
        ∙ sym (split-four b (square a p) (side12 v (turned (turned a)) p) (side43 v (turned (turned a)) (step_up (turned a) p)) (side31 v (turned a) p)
        (side24 v (turned a) (step_up (turned (turned a)) p)))
        ∙ ap (λ (m : ℕ). square a p * m) (square-is v w a p)

    axis-exact : (a : Axis) → total (square_sum b v line weights.at_b weights.at_c a) (points b) ≡ 131072 * corners
    axis-exact a =
        total-same (all-each (square-exact a) (points b))
        ∙ by-cells most b v w (λ (p : GridPoint). one (all_corners n p)) square line weights a
        ∙ total-same (all-each (λ (p : GridPoint). cell-exact a p w ∙ mul_comm (one (all_corners n p)) 131072) (points b))
        ∙ total-scaled 131072 (λ (p : GridPoint). one (all_corners n p)) (points b)

    three : (x y z m : ℕ) → x ≡ 131072 * m → y ≡ 131072 * m → z ≡ 131072 * m → x + y + z ≡ 393216 * m
    three x y z m e f g = omega arith

    pub areas-exact : whole b (λ (a : Axis) (p : GridPoint). one (n p && n (step_up a p)) * round v (area_round a p) (edge a p)) ≡ 393216 * total (λ (p : GridPoint). one (all_corners n p)) (points b)
    areas-exact =
        by-squares b v line weights.at_b weights.at_c
        ∙ by-axes b (square_sum b v line weights.at_b weights.at_c)
        ∙ three (total (square_sum b v line weights.at_b weights.at_c axis_x) (points b)) (total (square_sum b v line weights.at_b weights.at_c axis_y) (points b))
        (total (square_sum b v line weights.at_b weights.at_c axis_z) (points b)) corners (axis-exact axis_x) (axis-exact axis_y) (axis-exact axis_z)
