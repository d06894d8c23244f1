-- The sum over the faces, with a weight of 0 or 1 at each grid point: by the pyramids from the points, since the sides of the six faces round a point cancel. It lies
-- between the areas of the edges with two weighed ends and of those with one at least, give or take 256³ for each edge with just one.
-- Assumes nothing.
use Prim.Native.Nat.{ℕ, ◌+◌, ◌*◌, ◌≤◌, ◌<◌}
use native.Mathlib.Omega.{arith}
use mathlib.Core.Bool.{Bool, true, false, ◌&&◌, ◌||◌}
use mathlib.Core.Path.{◌≡◌, sym, ap, ◌∙◌}
use lib.Dec.{T}
use lib.Ieee.{unlike}
use Rattle.lists.specs.Lists.{one}
use Rattle.lists.proofs.Lists.{all-each, total, total-same, total-plus}
use Rattle.lists.proofs.Tests.{one-not}
use Rattle.rules.specs.Grid.{GridPoint, Axis, axis_x, axis_y, axis_z, Box, along, step_up, step_down}
use Rattle.rules.specs.Faces.{Edge, edge, axis_b, axis_c, points}
use Rattle.volume.specs.declared.Corner.{Corner}
use Rattle.volume.specs.Volume.{falling}
use Rattle.skin.specs.Enclosed.{Inner}
use Rattle.bounded_mesh.specs.Round.{quad_fall, quad_rise, sides, sides_back, in_steps, area_round, Placing, InCells, round}
use Rattle.bounded_mesh.proofs.Edge.{edge-weighs}
use Rattle.bounded_mesh.proofs.Sums.{zero-times, shifted}
use Rattle.bounded_mesh.proofs.Squares.{axes, whole, by-axes, whole-plus, whole_scaled, whole-most, down-up, up-b, up-c}

-- ---- round a point

-- the sides of the six faces round a point, each face seen from the point outwards: k stands at the point, and a letter is a step down
cancel : (f : Corner → Corner → ℕ) (k kx ky kz kxy kyz kxz kxyz : Corner)
    → (f k ky + f ky kyz + f kyz kz + f kz k) + (f k kz + f kz kxz + f kxz kx + f kx k) + (f k kx + f kx kxy + f kxy ky + f ky k)
    + ((f kxy kx + f kxyz kxy + f kxz kxyz + f kx kxz) + (f kyz ky + f kxyz kyz + f kxy kxyz + f ky kxy) + (f kxz kz + f kxyz kxz + f kyz kxyz + f kz kyz))
    ≡ (f ky k + f kyz ky + f kz kyz + f k kz) + (f kz k + f kxz kz + f kx kxz + f k kx) + (f kx k + f kxy kx + f ky kxy + f k ky)
    + ((f kx kxy + f kxy kxyz + f kxyz kxz + f kxz kx) + (f ky kyz + f kyz kxyz + f kxyz kxy + f kxy ky) + (f kz kxz + f kxz kxyz + f kxyz kyz + f kyz kz))
cancel f k kx ky kz kxy kyz kxz kxyz = omega arith

module _ (v : Placing) (p : GridPoint) where
  closed-round : axes (λ (a : Axis). round v (sides (in_steps p)) (edge a p)) + axes (λ (a : Axis). round v (sides_back (in_steps p)) (edge a (step_down a p)))
      ≡ axes (λ (a : Axis). round v (sides_back (in_steps p)) (edge a p)) + axes (λ (a : Axis). round v (sides (in_steps p)) (edge a (step_down a p)))
  unfolding sides sides_back
  closed-round =
      cancel (falling (in_steps p)) (v p) (v (step_down axis_x p)) (v (step_down axis_y p)) (v (step_down axis_z p)) (v (step_down axis_x (step_down axis_y p)))
      (v (step_down axis_y (step_down axis_z p))) (v (step_down axis_x (step_down axis_z p))) (v (step_down axis_x (step_down axis_y (step_down axis_z p))))

-- what follows from each of two tests follows from either
pub or-then : {A : Type 0} (s t : Bool) → (T s → A) → (T t → A) → T (s || t) → A
or-then true t f g h = f tt
or-then false t f g h = g h

-- ---- over the box

-- the points with a weight lie inside the box
module _ (b : Box) (n : GridPoint → Bool) (inner : (p : GridPoint) → T (n p) → Inner b p) where
  abbrev i : GridPoint → ℕ
  i p = one (n p)

  low-none : (a : Axis) (p : GridPoint) → along a p ≡ along a b.low → i p ≡ 0
  low-none a p e = one-not (n p) (λ t. omega (arith, (inner p t a).0))

  high-none : (a : Axis) (p : GridPoint) → along a p ≡ along a b.high + 1 → i p ≡ 0
  high-none a p e = one-not (n p) (λ t. omega (arith, (inner p t a).1))

  -- what stands at an edge's upper end, said at that point
  at-upper : (h : GridPoint → GridPoint → ℕ) (a : Axis)
      → total (λ (p : GridPoint). i (step_up a p) * h (step_up a p) p) (points b) ≡ total (λ (p : GridPoint). i p * h p (step_down a p)) (points b)
  at-upper h a =
      sym
      (shifted b a (λ (p : GridPoint). i p * h p (step_down a p)) (λ (p : GridPoint) e. zero-times (i p) (h p (step_down a p)) (low-none a p e))
      (λ (p : GridPoint) e. zero-times (i p) (h p (step_down a p)) (high-none a p e))
      ∙ total-same (all-each (λ (p : GridPoint). ap (λ (q : GridPoint). i (step_up a p) * h (step_up a p) q) (down-up a p)) (points b)))

  both_ends_lem : (f : Axis → GridPoint → ℕ) (h : Axis → GridPoint → GridPoint → ℕ)
      → whole b (λ (a : Axis) (p : GridPoint). i p * f a p + i (step_up a p) * h a (step_up a p) p)
      ≡ whole b (λ (a : Axis) (p : GridPoint). i p * f a p + i p * h a p (step_down a p))
  both_ends_lem f h =
      by-axes b (λ (a : Axis) (p : GridPoint). i p * f a p + i (step_up a p) * h a (step_up a p) p)
      ∙ (λ j. on axis_x j + on axis_y j + on axis_z j)
      ∙ sym (by-axes b (λ (a : Axis) (p : GridPoint). i p * f a p + i p * h a p (step_down a p)))
    where
      on : (a : Axis) → total (λ (p : GridPoint). i p * f a p + i (step_up a p) * h a (step_up a p) p) (points b) ≡ total (λ (p : GridPoint). i p * f a p + i p * h a p (step_down a p)) (points b)
      on a =
          total-plus (λ (p : GridPoint). i p * f a p) (λ (p : GridPoint). i (step_up a p) * h a (step_up a p) p) (points b)
          ∙ ap (λ (m : ℕ). total (λ (p : GridPoint). i p * f a p) (points b) + m) (at-upper (h a) a)
          ∙ sym (total-plus (λ (p : GridPoint). i p * f a p) (λ (p : GridPoint). i p * h a p (step_down a p)) (points b))

  -- a weight times six numbers
  six-times : (m x y z x' y' z' s t u s' t' u' : ℕ) → x + y + z + (x' + y' + z') ≡ s + t + u + (s' + t' + u')
      → (m * x + m * x') + (m * y + m * y') + (m * z + m * z') ≡ (m * s + m * s') + (m * t + m * t') + (m * u + m * u')
  six-times m x y z x' y' z' s t u s' t' u' e = omega (arith, ap (λ (k : ℕ). m * k) e)

  module _ (v : Placing) where
    abbrev L : Axis → GridPoint → GridPoint → ℕ
    L a q p = round v (sides (in_steps q)) (edge a p)

    abbrev L' : Axis → GridPoint → GridPoint → ℕ
    L' a q p = round v (sides_back (in_steps q)) (edge a p)

    -- all sides, from both ends of each edge
    pub sides-cancel : whole b (λ (a : Axis) (p : GridPoint). i p * L a p p + i (step_up a p) * L' a (step_up a p) p)
        ≡ whole b (λ (a : Axis) (p : GridPoint). i p * L' a p p + i (step_up a p) * L a (step_up a p) p)
    sides-cancel =
        both_ends_lem (λ (a : Axis) (p : GridPoint). L a p p) L'
        ∙ total-same (all-each (λ (p : GridPoint).
        six-times (i p) (L axis_x p p) (L axis_y p p) (L axis_z p p) (L' axis_x p (step_down axis_x p)) (L' axis_y p (step_down axis_y p)) (L' axis_z p (step_down axis_z p))
        (L' axis_x p p) (L' axis_y p p) (L' axis_z p p) (L axis_x p (step_down axis_x p)) (L axis_y p (step_down axis_y p)) (L axis_z p (step_down axis_z p)) (closed-round v p)) (points b))
        ∙ sym (both_ends_lem (λ (a : Axis) (p : GridPoint). L' a p p) L)

  -- ---- one edge

  -- an edge with a weighed end is inside on both other axes
  pub inside-b : (a : Axis) (p : GridPoint) → T (n p || n (step_up a p)) → 0 < along (axis_b a) p
  inside-b a p = or-then (n p) (n (step_up a p)) (λ h. omega (arith, (inner p h (axis_b a)).0)) (λ h. omega (arith, (inner (step_up a p) h (axis_b a)).0, up-b a p))

  pub inside-c : (a : Axis) (p : GridPoint) → T (n p || n (step_up a p)) → 0 < along (axis_c a) p
  inside-c a p = or-then (n p) (n (step_up a p)) (λ h. omega (arith, (inner p h (axis_c a)).0)) (λ h. omega (arith, (inner (step_up a p) h (axis_c a)).0, up-c a p))

  -- what falls, f, and what rises, r, with the sides from the two ends, l and l', and the sides turned back, k and k'
  record Lies (s t : Bool) (f r l k l' k' area : ℕ) : Type 0 where
    least : (one s * r + one t * f) + (one s * l + one t * k') + 256 * (one (s && t) * area)
        ≤ (one s * f + one t * r) + (one s * k + one t * l') + 16777216 * one (unlike s t)
    most : (one s * f + one t * r) + (one s * k + one t * l')
        ≤ (one s * r + one t * f) + (one s * l + one t * k') + 256 * (one (s || t) * area) + 16777216 * one (unlike s t)

  lies : (s t : Bool) (f r l k l' k' area : ℕ) → (T (s || t) → (r + l ≤ f + k + 16777216) × (f + k ≤ r + l + 256 * area + 16777216) × (k + l' ≡ l + k' + 256 * area)) → Lies s t f r l k l' k' area
  lies true true f r l k l' k' area h = let w = h tt in record { least = omega (arith, w.2); most = omega (arith, w.2) }
  lies true false f r l k l' k' area h = let w = h tt in record { least = omega (arith, w.0); most = omega (arith, w.1) }
  lies false true f r l k l' k' area h = let w = h tt in record { least = omega (arith, w.1, w.2); most = omega (arith, w.0, w.2) }
  lies false false f r l k l' k' area h = record { least = omega arith; most = omega arith }

  module _ (v : Placing) (w : InCells v) (s : Edge → Bool) where
    abbrev pub fall_of : Axis → GridPoint → ℕ
    fall_of a p = round v (quad_fall (s (edge a p))) (edge a p)

    abbrev pub rise_of : Axis → GridPoint → ℕ
    rise_of a p = round v (quad_rise (s (edge a p))) (edge a p)

    abbrev pub area_of : Axis → GridPoint → ℕ
    area_of a p = round v (area_round a p) (edge a p)

    edge-lies : (a : Axis) (p : GridPoint)
        → Lies (n p) (n (step_up a p)) (fall_of a p) (rise_of a p) (L v a p p) (L' v a p p) (L v a (step_up a p) p) (L' v a (step_up a p) p) (area_of a p)
    edge-lies a p =
        lies (n p) (n (step_up a p)) (fall_of a p) (rise_of a p) (L v a p p) (L' v a p p) (L v a (step_up a p) p) (L' v a (step_up a p) p) (area_of a p)
        (λ t. let e = edge-weighs v w a p (inside-b a p t) (inside-c a p t) (s (edge a p)) in (e.low, e.high, e.ends))

    -- ---- all edges

    abbrev pub gains : Axis → GridPoint → ℕ
    gains a p = i p * fall_of a p + i (step_up a p) * rise_of a p

    abbrev pub loses : Axis → GridPoint → ℕ
    loses a p = i p * rise_of a p + i (step_up a p) * fall_of a p

    abbrev pub both_ends : Axis → GridPoint → ℕ
    both_ends a p = one (n p && n (step_up a p))

    abbrev pub either_end : Axis → GridPoint → ℕ
    either_end a p = one (n p || n (step_up a p))

    abbrev pub one_end : Axis → GridPoint → ℕ
    one_end a p = one (unlike (n p) (n (step_up a p)))

    abbrev side_gains : Axis → GridPoint → ℕ
    side_gains a p = i p * L' v a p p + i (step_up a p) * L v a (step_up a p) p

    abbrev side_loses : Axis → GridPoint → ℕ
    side_loses a p = i p * L v a p p + i (step_up a p) * L' v a (step_up a p) p

    least-sum : whole b (λ (a : Axis) (p : GridPoint). loses a p + side_loses a p + 256 * (both_ends a p * area_of a p))
        ≤ whole b (λ (a : Axis) (p : GridPoint). gains a p + side_gains a p + 16777216 * one_end a p)
    least-sum = whole-most b (λ (a : Axis) (p : GridPoint). (edge-lies a p).least)

    most-sum : whole b (λ (a : Axis) (p : GridPoint). gains a p + side_gains a p)
        ≤ whole b (λ (a : Axis) (p : GridPoint). loses a p + side_loses a p + 256 * (either_end a p * area_of a p) + 16777216 * one_end a p)
    most-sum = whole-most b (λ (a : Axis) (p : GridPoint). (edge-lies a p).most)

    pub at_least : whole b loses + 256 * whole b (λ (a : Axis) (p : GridPoint). both_ends a p * area_of a p) ≤ whole b gains + 16777216 * whole b one_end
    at_least =
        omega (
          arith,
          least-sum,
          whole-plus b (λ (a : Axis) (p : GridPoint). loses a p + side_loses a p) (λ (a : Axis) (p : GridPoint). 256 * (both_ends a p * area_of a p)),
          whole-plus b loses side_loses,
          whole-plus b (λ (a : Axis) (p : GridPoint). gains a p + side_gains a p) (λ (a : Axis) (p : GridPoint). 16777216 * one_end a p),
          whole-plus b gains side_gains,
          whole_scaled b 256 (λ (a : Axis) (p : GridPoint). both_ends a p * area_of a p),
          whole_scaled b 16777216 one_end,
          sides-cancel v,
        )

    pub at_most : whole b gains ≤ whole b loses + 256 * whole b (λ (a : Axis) (p : GridPoint). either_end a p * area_of a p) + 16777216 * whole b one_end
    at_most =
        omega (
          arith,
          most-sum,
          whole-plus b gains side_gains,
          whole-plus b (λ (a : Axis) (p : GridPoint). loses a p + side_loses a p + 256 * (either_end a p * area_of a p)) (λ (a : Axis) (p : GridPoint). 16777216 * one_end a p),
          whole-plus b (λ (a : Axis) (p : GridPoint). loses a p + side_loses a p) (λ (a : Axis) (p : GridPoint). 256 * (either_end a p * area_of a p)),
          whole-plus b loses side_loses,
          whole_scaled b 256 (λ (a : Axis) (p : GridPoint). either_end a p * area_of a p),
          whole_scaled b 16777216 one_end,
          sides-cancel v,
        )
