-- The index x + X·y + X·Y·z: below the grid's length at each point of an accepted box, back to its point, and moved by an axis's stride
-- at each step. From the definitions of Grid and conditions 1 to 3 of Call. Assumes nothing.
use Prim.Native.Nat.{ℕ, ◌+◌, ◌*◌, ◌/◌, ◌%◌, ◌≤◌, ◌<◌}
use mathlib.Core.Bool.{Bool, true, false, not, ◌&&◌, ◌||◌}
use mathlib.Core.Path.{◌≡◌, sym, ap, ◌∙◌}
use native.Mathlib.Nat.{
  mul-add,
  mul_assoc,
  mul-one,
  mul-le-mul_left,
  add_assoc,
  mod-eq_of_lt,
  div-eq_of_lt,
  add-mul-mod_self_left,
  add-mul-div_left,
  mod-add-div,
  div-div-eq-div-mul,
  mul-suc,
}
use native.Mathlib.Omega.{arith}
use lib.Dec.{T, leb, ltb, eqb, eqb→eq, leb→le, nltb→le, nleb→lt, le→leb}
use lib.Arith.{le→nltb, lt→nleb}
use lib.Ieee.Fits.{and_i, and_l, and_r}
use Rattle.lists.specs.Lists.{below}
use Rattle.rules.specs.Grid.{GridPoint, Axis, axis_x, axis_y, axis_z, Box, along, step_up, step_down, index, point_at, between, in_box, is_cell}
use Rattle.rules.specs.Cell.{corner_of}
use Rattle.rules.specs.Call.{bad_dimension, bad_dimensions, bad_side, bad_box, bad_length}
use Rattle.lists.proofs.Tests.{below-low, below-high, below_in, nor-left, nor-right, nor-both}

-- ---- points by their coordinates

abbrev pub Same : GridPoint → GridPoint → Type 0
Same p q = (p.x ≡ q.x) × (p.y ≡ q.y) × (p.z ≡ q.z)

pub same_point_lem : {p q : GridPoint} → Same p q → p ≡ q
same_point_lem h = λ i. record { x = h.0 i; y = h.1 i; z = h.2 i }

-- something of three numbers, on each axis
pub record Axes (P : ℕ → ℕ → ℕ → Type 0) (a b c : GridPoint) : Type 0 where
  pub x : P a.x b.x c.x
  pub y : P a.y b.y c.y
  pub z : P a.z b.z c.z

abbrev pub every_axis : (ℕ → ℕ → ℕ → Bool) → GridPoint → GridPoint → GridPoint → Bool
every_axis f a b c = f a.x b.x c.x && (f a.y b.y c.y && f a.z b.z c.z)

module _ (f : ℕ → ℕ → ℕ → Bool) (P : ℕ → ℕ → ℕ → Type 0) (a b c : GridPoint) where
  pub axes : ((k m n : ℕ) → T (f k m n) → P k m n) → T (every_axis f a b c) → Axes P a b c
  axes says t =
      let yz : T (f a.y b.y c.y && f a.z b.z c.z) = and_r (f a.x b.x c.x) (f a.y b.y c.y && f a.z b.z c.z) t in
      record {
        x = says a.x b.x c.x (and_l (f a.x b.x c.x) (f a.y b.y c.y && f a.z b.z c.z) t);
        y = says a.y b.y c.y (and_l (f a.y b.y c.y) (f a.z b.z c.z) yz);
        z = says a.z b.z c.z (and_r (f a.y b.y c.y) (f a.z b.z c.z) yz);
      }

  pub of-axes : ((k m n : ℕ) → P k m n → T (f k m n)) → Axes P a b c → T (every_axis f a b c)
  of-axes shows h =
      and_i (f a.x b.x c.x) (f a.y b.y c.y && f a.z b.z c.z) (shows a.x b.x c.x h.x)
      (and_i (f a.y b.y c.y) (f a.z b.z c.z) (shows a.y b.y c.y h.y) (shows a.z b.z c.z h.z))

-- a point of the box, and a cell of the box
abbrev pub Within : Box → GridPoint → Type 0
Within b p = Axes (λ (low high n : ℕ). (low ≤ n) × (n ≤ high)) b.low b.high p

abbrev pub CellWithin : Box → GridPoint → Type 0
CellWithin b p = Axes (λ (low high n : ℕ). (low ≤ n) × (n < high)) b.low b.high p

pub within : (b : Box) (p : GridPoint) → T (in_box b p) → Within b p
within b p t =
    axes between (λ (low high n : ℕ). (low ≤ n) × (n ≤ high)) b.low b.high p
    (λ low high n h. (leb→le low n (and_l (leb low n) (leb n high) h), leb→le n high (and_r (leb low n) (leb n high) h))) t

pub in-box : (b : Box) (p : GridPoint) → Within b p → T (in_box b p)
in-box b p w =
    of-axes between (λ (low high n : ℕ). (low ≤ n) × (n ≤ high)) b.low b.high p
    (λ low high n h. and_i (leb low n) (leb n high) (le→leb low n h.0) (le→leb n high h.1)) w

pub cell-within : (b : Box) (p : GridPoint) → T (is_cell b p) → CellWithin b p
cell-within b p t =
    axes below (λ (low high n : ℕ). (low ≤ n) × (n < high)) b.low b.high p
    (λ low high n h. (below-low low high n h, below-high low high n h)) t

pub is-cell : (b : Box) (p : GridPoint) → CellWithin b p → T (is_cell b p)
is-cell b p w =
    of-axes below (λ (low high n : ℕ). (low ≤ n) × (n < high)) b.low b.high p
    (λ low high n h. below_in low high n h.0 h.1) w

-- ---- cells and their corners are points of the box

pub cell-in-box : (b : Box) (p : GridPoint) → T (is_cell b p) → T (in_box b p)
cell-in-box b p t = let w = cell-within b p t in in-box b p (omega arith)

pub corner-in-box : (b : Box) (c : GridPoint) (i : ℕ) → T (is_cell b c) → i < 8 → T (in_box b (corner_of c i))
corner-in-box b c i t h = let w = cell-within b c t in in-box b (corner_of c i) (omega arith)

-- ---- condition 1: each dimension of an accepted grid is at most 2^24 + 1

pub record Small (d : GridPoint) : Type 0 where
  pub x : d.x ≤ 16777217
  pub y : d.y ≤ 16777217
  pub z : d.z ≤ 16777217

one-small : (n : ℕ) → T (not (bad_dimension n)) → n ≤ 16777217
one-small n t = nltb→le 16777217 n (nor-right (eqb n 0) (ltb 16777217 n) t)

pub small : (d : GridPoint) → T (not (bad_dimensions d)) → Small d
unfolding bad_dimensions
small d t =
    let all = nor-left (bad_dimension d.x || (bad_dimension d.y || bad_dimension d.z)) (ltb 1073741824 (d.x * d.y * d.z)) t in
    let rest = nor-right (bad_dimension d.x) (bad_dimension d.y || bad_dimension d.z) all in
    record {
      x = one-small d.x (nor-left (bad_dimension d.x) (bad_dimension d.y || bad_dimension d.z) all);
      y = one-small d.y (nor-left (bad_dimension d.y) (bad_dimension d.z) rest);
      z = one-small d.z (nor-right (bad_dimension d.y) (bad_dimension d.z) rest);
    }

-- ---- condition 2: an accepted box is ordered, and within the dimensions

-- a side that condition 2 does not refuse
side-ok : (dim low high : ℕ) → T (not (bad_side dim low high)) → (low ≤ high) × (high < dim)
side-ok dim low high t = (nltb→le high low (nor-left (ltb high low) (leb dim high) t), nleb→lt dim high (nor-right (ltb high low) (leb dim high) t))

ok-side : (dim low high : ℕ) → low ≤ high → high < dim → T (not (bad_side dim low high))
ok-side dim low high g h = nor-both (ltb high low) (leb dim high) (le→nltb high low g) (lt→nleb dim high h)

abbrev pub BoxFits : GridPoint → Box → Type 0
BoxFits d b = Axes (λ (dim low high : ℕ). (low ≤ high) × (high < dim)) d b.low b.high

pub box-fits : (d : GridPoint) (b : Box) → T (not (bad_box d b)) → BoxFits d b
unfolding bad_box
box-fits d b t =
    let bx : Bool = bad_side d.x b.low.x b.high.x in
    let by : Bool = bad_side d.y b.low.y b.high.y in
    let bz : Bool = bad_side d.z b.low.z b.high.z in
    record {
      x = side-ok d.x b.low.x b.high.x (nor-left bx (by || bz) t);
      y = side-ok d.y b.low.y b.high.y (nor-left by bz (nor-right bx (by || bz) t));
      z = side-ok d.z b.low.z b.high.z (nor-right by bz (nor-right bx (by || bz) t));
    }

pub not-bad-box : (d : GridPoint) (b : Box) → BoxFits d b → T (not (bad_box d b))
unfolding bad_box
not-bad-box d b f =
    let bx : Bool = bad_side d.x b.low.x b.high.x in
    let by : Bool = bad_side d.y b.low.y b.high.y in
    let bz : Bool = bad_side d.z b.low.z b.high.z in
    nor-both bx (by || bz) (ok-side d.x b.low.x b.high.x f.x.0 f.x.1)
    (nor-both by bz (ok-side d.y b.low.y b.high.y f.y.0 f.y.1) (ok-side d.z b.low.z b.high.z f.z.0 f.z.1))

pub box-within : (d : GridPoint) (b : Box) (p : GridPoint) → T (not (bad_box d b)) → T (in_box b p) → (p.x < d.x) × (p.y < d.y) × (p.z < d.z)
box-within d b p ok t = let w = within b p t in let f = box-fits d b ok in omega arith

-- ---- an index and its point

-- one digit below its base on top of the others
mixed : {a b k m : ℕ} → a < b → k < m → a + b * k < b * m
mixed {a} {b} {k} {m} h g = omega (arith, mul-le-mul_left b g, mul-suc b k)

pub volume : (d p : GridPoint) → p.x < d.x → p.y < d.y → p.z < d.z → index d p < d.x * d.y * d.z
volume d p hx hy hz = mixed (mixed hx hy) hz

-- ---- condition 3: the grid is as long as the dimensions say, so that no point of an accepted box has an index beyond it

pub right-length : (d : GridPoint) (size : ℕ) → T (not (bad_length d size)) → size ≡ d.x * d.y * d.z
unfolding bad_length
right-length d size ok = eqb→eq size (d.x * d.y * d.z) (go (eqb size (d.x * d.y * d.z)) ok)
  where
    go : (t : Bool) → T (not (not t)) → T t
    go true h = tt
    go false h = absurd h

pub index_below : (d : GridPoint) (b : Box) (size : ℕ) (p : GridPoint) → T (not (bad_box d b)) → T (not (bad_length d size)) → T (in_box b p) → index d p < size
index_below d b size p box ok t =
    let w = box-within d b p box t in
    rw (right-length d size ok) (volume d p w.0 w.1 w.2)

-- x below the lowest digit's base
digits : (d p : GridPoint) → index d p ≡ p.x + d.x * (p.y + d.y * p.z)
digits d p = simp (add_assoc, mul_assoc, ← mul-add)

pub point-back : (d p : GridPoint) → p.x < d.x → p.y < d.y → point_at d (index d p) ≡ p
point-back d p hx hy =
    let px : 0 < d.x = omega arith in
    let py : 0 < d.y = omega arith in
    let rest : index d p / d.x ≡ p.y + d.y * p.z = rw (digits, add-mul-div_left, div-eq_of_lt) (omega arith) in
    same_point_lem (
      rw (digits, add-mul-mod_self_left) (mod-eq_of_lt hx),
      rw (rest, add-mul-mod_self_left) (mod-eq_of_lt hy),
      rw (← div-div-eq-div-mul, rest, add-mul-div_left, div-eq_of_lt) (omega arith),
    )

pub index-distinct : (d p q : GridPoint) → p.x < d.x → p.y < d.y → q.x < d.x → q.y < d.y → index d p ≡ index d q → p ≡ q
index-distinct d p q px py qx qy e = sym (point-back d p px py) ∙ ap (point_at d) e ∙ point-back d q qx qy

pub index-of-point : (d : GridPoint) (j : ℕ) → index d (point_at d j) ≡ j
index-of-point d j =
    digits d (point_at d j) ∙ rw (← div-div-eq-div-mul, mod-add-div (j / d.x) d.y) (mod-add-div j d.x)

-- ---- steps

-- how far an index moves with one step on an axis
abbrev pub stride : GridPoint → Axis → ℕ
stride d axis_x = 1
stride d axis_y = d.x
stride d axis_z = d.x * d.y

pub index-up : (d : GridPoint) (a : Axis) (p : GridPoint) → index d (step_up a p) ≡ index d p + stride d a
index-up d axis_x p = omega arith
index-up d axis_y p = omega (arith, mul-add d.x p.y 1, mul-one d.x)
index-up d axis_z p = omega (arith, mul-add (d.x * d.y) p.z 1, mul-one (d.x * d.y))

-- a step down is undone by one up
pub up-down : (a : Axis) (p : GridPoint) → 0 < along a p → step_up a (step_down a p) ≡ p
up-down axis_x p h = same_point_lem (omega arith)
up-down axis_y p h = same_point_lem (omega arith)
up-down axis_z p h = same_point_lem (omega arith)

pub index-down : (d : GridPoint) (a : Axis) (p : GridPoint) → 0 < along a p → index d (step_down a p) + stride d a ≡ index d p
index-down d a p h = sym (index-up d a (step_down a p)) ∙ ap (index d) (up-down a p h)

-- the eight corners stand at fixed distances from the lowest
pub corner-index : (d c : GridPoint) (i : ℕ) → index d (corner_of c i) ≡ index d c + (i % 2 + d.x * (i / 2 % 2) + d.x * d.y * (i / 4))
corner-index d c i = omega (arith, mul-add d.x c.y (i / 2 % 2), mul-add (d.x * d.y) c.z (i / 4))
