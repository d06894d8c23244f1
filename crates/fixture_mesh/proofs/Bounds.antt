-- A fixture's value is finite and at most 2^25 in magnitude at every point whose coordinates are at most 2^24, as those of every accepted grid are: the floats of
-- a box and the coordinates are at most 2^24, a difference rounds to at most their sum, and joining only picks or negates. So what is cut is finite where the grid
-- was, and within the mesher's cap. Assumes nothing.
use Prim.Native.Nat.{ℕ, ◌+◌, ◌*◌, ◌/◌, ◌^◌, ◌≤◌, ◌<◌}
use native.Mathlib.Nat.{mod-lt, div-lt_iff_lt-mul, mul_comm, mul-le-mul_left}
use native.Mathlib.Omega.{arith}
use mathlib.Core.Bool.{Bool, true, false, not, ◌||◌, cond}
use mathlib.Core.List.{List}
use mathlib.Core.Path.{◌≡◌, sym, subst}
use mathlib.Core.Logic.{⊎_elim}
use lib.Dec.{T, lit≤, lit<, nltb→le}
use lib.IntN.{pos}
use lib.ListN.{length, get_or}
use lib.Ieee.{Float, nan, inf, fin, up, down, binary32, sub, of_int, lt, neg}
use lib.Ieee.Scale.{finite}
use Rattle.rules.specs.Grid.{GridPoint, point_at}
use Rattle.rules.specs.Cell.{Vector, minus}
use Rattle.rules.specs.Call.{cap, beyond, bad_dimensions}
use Rattle.lists.proofs.Tests.{nor-left, nor-right}
use Rattle.rules.proofs.Indexes.{small, right-length}
use Rattle.rounding.specs.Values.{Within, Holds}
use Rattle.rounding.proofs.Sign.{neg-within}
use Rattle.rounding.proofs.Bounds.{wider, holds-times}
use Rattle.rounding.proofs.Operations.{sub_within}
use Rattle.rounding.proofs.Whole.{integer-held}
use Rattle.grid.proofs.Widths.{within_cap}
use Rattle.cube.specs.AsRules.{vector}
use Rattle.cube.specs.declared.point.Point.{Point}
use Rattle.fixtures.specs.Record.{reach, past, far_point}
use Rattle.fixtures.specs.Solid.{greater, lesser, box_value, joins, value_at}
use Rattle.fixtures.specs.declared.kind.Join.{Join}
use Rattle.fixtures.specs.declared.kind.Join.TheVariants.{Union, Intersection, Difference}
use Rattle.fixtures.specs.Cut.{floats, file_answer, cut_answer, cut_grid}
use Rattle.fixtures.proofs.Heads.{is-not}
use Rattle.fixtures.proofs.Placing.{Positive, positive}
use Rattle.fixtures.proofs.Answers.{done-dims, done-fit, done-file}
use Rattle.fixtures.proofs.Sound.{accepted-value}
use Rattle.fixtures.proofs.Again.{zero_or_not, refused-keeps, cut-point}

-- the bound on a fixture's value
abbrev pub most : ℕ
most = 2 ^ 25

-- ---- picking, negating, differing

either-within : (n : ℕ) (t : Bool) (a b : Float) → Within n a → Within n b → Within n (cond t a b)
either-within n true a b h k = h
either-within n false a b h k = k

greater-within : (n : ℕ) (a b : Float) → Within n a → Within n b → Within n (greater a b)
unfolding greater
greater-within n a b h k = either-within n (lt a b) b a k h

lesser-within : (n : ℕ) (a b : Float) → Within n a → Within n b → Within n (lesser a b)
unfolding lesser
lesser-within n a b h k = either-within n (lt b a) b a k h

joins-within : (kind : Join) (a b : Float) → Within most a → Within most b → Within most (joins kind a b)
unfolding joins
joins-within Union a b h k = lesser-within most a b h k
joins-within Intersection a b h k = greater-within most a b h k
joins-within Difference a b h k = greater-within most a (neg b) h (neg-within most b k)

most-held : Holds binary32 (reach + reach) 1
most-held = holds-times binary32 1 25 (lit< tt) (lit< tt)

differ-within : (a b : Float) → Within reach a → Within reach b → Within most (sub binary32 a b)
differ-within a b h k = sub_within binary32 reach reach a b most-held h k

-- ---- a box

near_within : (x : Float) → T (not (past reach x)) → Within reach x
unfolding past
near_within nan h = absurd h
near_within (inf s) h = absurd h
near_within (fin s m e) h = (tt, nltb→le (reach * down e) (m * up e) h)

-- three floats, each within
pub record Near (v : Vector) : Type 0 where
  pub x : Within reach v.x
  pub y : Within reach v.y
  pub z : Within reach v.z

near-point : (p : Point) → T (not (far_point p)) → Near (vector p)
unfolding far_point
near-point p h =
    let yz = nor-right (past reach p.x) (past reach p.y || past reach p.z) h in
    record {
      x = near_within p.x (nor-left (past reach p.x) (past reach p.y || past reach p.z) h);
      y = near_within p.y (nor-left (past reach p.y) (past reach p.z) yz);
      z = near_within p.z (nor-right (past reach p.y) (past reach p.z) yz);
    }

box-within : (low high p : Vector) → Near low → Near high → Near p → Within most (box_value low high p)
unfolding box_value
box-within low high p l h q =
    let u = minus low p in
    let v = minus p high in
    let xy = greater-within most u.x u.y (differ-within low.x p.x l.x q.x) (differ-within low.y p.y l.y q.y) in
    let xyz = greater-within most (greater u.x u.y) u.z xy (differ-within low.z p.z l.z q.z) in
    let then-x = greater-within most (greater (greater u.x u.y) u.z) v.x xyz (differ-within p.x high.x q.x h.x) in
    let then-y = greater-within most (greater (greater (greater u.x u.y) u.z) v.x) v.y then-x (differ-within p.y high.y q.y h.y) in
    greater-within most (greater (greater (greater (greater u.x u.y) u.z) v.x) v.y) v.z then-y (differ-within p.z high.z q.z h.z)

-- ---- a fixture

pub value-within : (f : List ℕ) (p : Vector) → Near p → file_answer f ≡ 0 → Within most (value_at f p)
value-within f p q e =
    accepted-value f p (Within most) (λ low high l h. box-within (vector low) (vector high) p (near-point low l) (near-point high h) q) joins-within e

-- ---- at every point of an accepted grid

float-near : (n : ℕ) → n ≤ reach → Within reach (of_int binary32 (pos n))
float-near n h = wider n reach (of_int binary32 (pos n)) h (integer-held binary32 (pos n) h).1

pub floats-near : (p : GridPoint) → p.x ≤ reach → p.y ≤ reach → p.z ≤ reach → Near (floats p)
floats-near p hx hy hz = record { x = float-near p.x hx; y = float-near p.y hy; z = float-near p.z hz }

-- the point of an index of the grid lies within the dimensions
pub point-inside : (d : GridPoint) (i : ℕ) → Positive d → i < d.x * d.y * d.z → ((point_at d i).x < d.x) × ((point_at d i).y < d.y) × ((point_at d i).z < d.z)
point-inside d i p h = (
  mod-lt i p.x,
  mod-lt (i / d.x) p.y,
  (div-lt_iff_lt-mul (plane d p)).1 (subst (λ (n : ℕ). i < n) (mul_comm (d.x * d.y) d.z) h),
)
  where
    plane : (d : GridPoint) → Positive d → 0 < d.x * d.y
    plane d p = omega (arith, mul-le-mul_left d.x p.y, p.x)

pub cut-value-within : (f : List ℕ) (d : GridPoint) (grid : List Float) → cut_answer f d (length grid) ≡ 0 → (i : ℕ) → i < length grid
    → Within most (value_at f (floats (point_at d i)))
cut-value-within f d grid e i h =
    let dims : T (not (bad_dimensions d)) = is-not (done-dims f d grid e) in
    let size = right-length d (length grid) (is-not (done-fit f d grid e)) in
    let inside = point-inside d i (positive d dims) (subst (λ (n : ℕ). i < n) size h) in
    let few = small d dims in
    value-within f (floats (point_at d i))
    (floats-near (point_at d i) (omega (arith, inside.0, few.x)) (omega (arith, inside.1, few.y)) (omega (arith, inside.2, few.z))) (done-file f d grid e)

-- ---- so what is cut is finite where the grid was, and within the cap

module _ (P : Float → Type 0) (bounded : (v : Float) → Within most v → P (neg v)) (f : List ℕ) (d : GridPoint) (grid : List Float) (i : ℕ) (h : i < length grid) where
  taken : (t : Bool) (a b : Float) → P a → P b → P (cond t b a)
  taken true a b p q = q
  taken false a b p q = p

  greater-either : (a b : Float) → P a → P b → P (greater a b)
  unfolding greater
  greater-either a b p q = taken (lt a b) a b p q

  -- whatever is true of the old number and of bounded ones is true of the new number
  pub cut_keeps : P (get_or grid i nan) → P (get_or (cut_grid f d grid) i nan)
  cut_keeps old =
      ⊎_elim
      (λ e.
      subst P (sym (cut-point f d grid e i h))
      (greater-either (get_or grid i nan) (neg (value_at f (floats (point_at d i)))) old (bounded (value_at f (floats (point_at d i))) (cut-value-within f d grid e i h))))
      (λ n. subst (λ (l : List Float). P (get_or l i nan)) (sym (refused-keeps f d grid n)) old)
      (zero_or_not (cut_answer f d (length grid)))

neg-finite : (v : Float) → Within most v → T (finite (neg v))
neg-finite v h = (neg-within most v h).0

below-cap : (v : Float) → Within most v → T (not (beyond v))
below-cap v h = within_cap v (wider most cap v (lit≤ tt) h)

module _ (f : List ℕ) (d : GridPoint) (grid : List Float) (i : ℕ) (h : i < length grid) where
  pub cut-finite : T (finite (get_or grid i nan)) → T (finite (get_or (cut_grid f d grid) i nan))
  cut-finite = cut_keeps (λ (x : Float). T (finite x)) neg-finite f d grid i h

  pub cut-capped : T (not (beyond (get_or grid i nan))) → T (not (beyond (get_or (cut_grid f d grid) i nan)))
  cut-capped = cut_keeps (λ (x : Float). T (not (beyond x))) (λ v w. below-cap (neg v) (neg-within most v w)) f d grid i h
