-- The closed grid of a full tank with a far wall: its sludge is the points of the tank, and the vertices of its border cells stand on the planes of the outermost
-- points, in steps. So its faces weigh the cells between them. Assumes nothing.
use Prim.Native.Nat.{ℕ, ◌+◌, ◌*◌, ◌/◌, ◌%◌, ◌^◌, ◌≤◌, ◌<◌}
use native.Mathlib.Nat.{le_trans, le_of_eq, div-one}
use native.Mathlib.Omega.{arith}
use mathlib.Core.Bool.{Bool, true, false, not, ◌&&◌, cond}
use mathlib.Core.List.{List}
use mathlib.Core.Logic.{inl, inr}
use mathlib.Core.Path.{◌≡◌, refl, sym, ap, subst, ◌∙◌}
use lib.Dec.{T, leb, le→leb}
use lib.IntN.{pos, ◌-ℤ◌, +ℤ-neg_ℤ_cancel}
use lib.Ieee.{Float, nan, binary32}
use lib.Ieee.Bits.{is_true}
use lib.Ieee.Fits.{and_i, and_l, and_r}
use lib.ListN.{length}
use Rattle.lists.specs.Floats.{Binary32}
use Rattle.lists.specs.Lists.{one}
use Rattle.lists.proofs.Lists.{total, many-some, many-less}
use Rattle.lists.proofs.Tests.{failed, less-or-not}
use Rattle.rules.specs.Grid.{GridPoint, Axis, axis_x, axis_y, axis_z, Box, Field, along, index, between, in_box, is_cell, value}
use Rattle.rules.specs.Cell.{Vector, float, negative, negatives, corner_of, values}
use Rattle.rules.specs.Vertices.{surface_cell, vertex_position}
use Rattle.rules.specs.Faces.{Flags, edges, shorter, points}
use Rattle.rules.specs.Call.{bad_distance}
use Rattle.rules.proofs.Indexes.{Small, small, volume, right-length, index_below, in-box, is-cell, corner-in-box}
use Rattle.rules.proofs.FourCells.{corner-value}
use Rattle.rounding.proofs.Operations.{of-whole}
use Rattle.volume.specs.Steps.{steps}
use Rattle.volume.proofs.Coordinate.{value-steps}
use Rattle.skin.specs.Enclosed.{Enclosed}
use Rattle.weighed_mesh.specs.Facing.{steps_of, on_axis, vertex_steps}
use Rattle.weighed_mesh.proofs.Faces.{sum_z, face_sum}
use Rattle.closing.specs.Closed.{closed_dims, in_open, open_point, open_field, closed_list}
use Rattle.closing.proofs.Answers.{Accepted}
use Rattle.closed_bed.specs.Standing.{whole_box, FarWall, component, Stands}
use Rattle.closed_bed.proofs.Values.{closed-point, value-open}
use Rattle.closed_bed.proofs.Enclosing.{OpenPoint, open-point, negative-open, closed-enclosed, closed-box, closed-length}
use Rattle.closed_bed.proofs.Sides.{side_of}
use Rattle.closed_bed.proofs.Standing.{corner-along, stands}
use Rattle.bounded_mesh.specs.Round.{in_steps, InCells}
use Rattle.bounded_mesh.specs.Placed.{in_sludge, placed}
use Rattle.bounded_mesh.proofs.Weights.{all_corners}
use Rattle.bounded_mesh.proofs.Meshed.{placed-within, inner, Difference, faces-difference}
use Rattle.full_tank.specs.Tank.{Full, full_weight}
use Rattle.full_tank.proofs.Tank.{InTank, Near, Tank}
use Rattle.full_tank.proofs.Edges.{point-level, edges-exact}
use Rattle.full_tank.proofs.Areas.{areas-exact}
use Rattle.full_tank.proofs.Count.{within, cells-between}

-- ---- steps of a whole number

whole-steps : (n : ℕ) → n ≤ 2 ^ 24 → steps (float n) ≡ 256 * n
whole-steps n h = value-steps (float n) n 1 (omega arith) (of-whole binary32 n h) ∙ div-one (256 * n)

on-component : (a : Axis) (v : Vector) → on_axis a (steps_of v) ≡ steps (component a v)
on-component axis_x v = refl
on-component axis_y v = refl
on-component axis_z v = refl

-- ---- a corner of a cell that lies in the tank

record Side (k n : ℕ) : Type 0 where
  s : ℕ
  few : s ≤ 1
  low : 1 ≤ k + s
  high : k + s ≤ n

side : (k n : ℕ) → (k ≤ n) × (1 ≤ n) → Side k n
side k n h =
    elim (less-or-not 0 k) [
      | inl t ↦ record { s = 0; few = omega arith; low = omega arith; high = omega (arith, h.0) }
      | inr t ↦ record { s = 1; few = omega arith; low = omega arith; high = omega (arith, h.1) }
    ]

digits : (x y z : ℕ) → x ≤ 1 → y ≤ 1 → z ≤ 1 → ((x + 2 * y + 4 * z) % 2 ≡ x) × ((x + 2 * y + 4 * z) / 2 % 2 ≡ y) × ((x + 2 * y + 4 * z) / 4 ≡ z)
digits x y z h k l = (omega arith, omega arith, omega arith)

no-side : (a : Axis) → side_of a 0 ≡ 0
no-side axis_x = refl
no-side axis_y = refl
no-side axis_z = refl

-- ---- the closed grid

module _ (d : GridPoint) (sdf : List Float) (wall : Float) (room : ℕ) (ok : Accepted d (length sdf) wall room) (far : FarWall wall sdf)
    (fine : T (not (bad_distance (open_field (closed_dims d) (closed_list (open_field d sdf) wall)) (whole_box (closed_dims d)))))
    (numbers : Binary32 (closed_list (open_field d sdf) wall)) (full : Full sdf) where
  abbrev closed : Field
  closed = open_field (closed_dims d) (closed_list (open_field d sdf) wall)

  abbrev box : Box
  box = whole_box (closed_dims d)

  to : (p : GridPoint) → T (in_sludge closed box p) → InTank d p
  to p t =
      go (open-point d p (negative-open d sdf wall ok.far p
      (subst (λ (x : Float). T (negative x)) (closed-point d sdf wall p (and_l (in_box box p) (negative (value closed p)) t)) (and_r (in_box box p) (negative (value closed p)) t))))
    where
      go : OpenPoint d p → InTank d p
      go o axis_x = o.x
      go o axis_y = o.y
      go o axis_z = o.z

  from : (p : GridPoint) → InTank d p → T (in_sludge closed box p)
  from p h =
      let x = h axis_x in
      let y = h axis_y in
      let z = h axis_z in
      let i : T (in_box box p) = in-box box p (record { x = (omega arith, omega arith); y = (omega arith, omega arith); z = (omega arith, omega arith) }) in
      let o : T (in_open d p) =
      and_i (between 1 d.x p.x) (between 1 d.y p.y && between 1 d.z p.z) (within d.x p.x x.0 x.1)
      (and_i (between 1 d.y p.y) (between 1 d.z p.z) (within d.y p.y y.0 y.1) (within d.z p.z z.0 z.1)) in
      let e : value closed p ≡ value (open_field d sdf) (open_point p) = closed-point d sdf wall p i ∙ value-open (open_field d sdf) wall p (is_true (in_open d p) o) in
      let l : index d (open_point p) < length sdf =
      le_trans (volume d (open_point p) (omega arith) (omega arith) (omega arith)) (le_of_eq (sym (right-length d (length sdf) (failed refl ok.sized)))) in
      and_i (in_box box p) (negative (value closed p)) i (subst (λ (v : Float). T (negative v)) (sym e) (full (index d (open_point p)) l))

  -- ---- border cells

  module _ (c : GridPoint) (r : Near d c) where
    cell : T (is_cell box c)
    cell =
        let x = r axis_x in
        let y = r axis_y in
        let z = r axis_z in
        is-cell box c (record { x = (omega arith, omega (arith, x.0)); y = (omega arith, omega (arith, y.0)); z = (omega arith, omega (arith, z.0)) })

    some : 0 < negatives (values closed c)
    some =
        many-some negative (values closed c) i nan less
        (subst (λ (v : Float). T (negative v)) (sym (corner-value closed c i less)) (and_r (in_box box (corner_of c i)) (negative (value closed (corner_of c i))) (from (corner_of c i) tank)))
      where
        x : Side c.x d.x
        x = side c.x d.x (r axis_x)

        y : Side c.y d.y
        y = side c.y d.y (r axis_y)

        z : Side c.z d.z
        z = side c.z d.z (r axis_z)

        i : ℕ
        i = x.s + 2 * y.s + 4 * z.s

        less : i < 8
        less = omega (arith, x.few, y.few, z.few)

        digit : (i % 2 ≡ x.s) × (i / 2 % 2 ≡ y.s) × (i / 4 ≡ z.s)
        digit = digits x.s y.s z.s x.few y.few z.few

        one_side : (k m s t : ℕ) → t ≡ s → 1 ≤ k + s → k + s ≤ m → (1 ≤ k + t) × (k + t ≤ m)
        one_side k m s t e l h = (omega arith, omega arith)

        tank : InTank d (corner_of c i)
        tank axis_x = one_side c.x d.x x.s (i % 2) digit.0 x.low x.high
        tank axis_y = one_side c.y d.y y.s (i / 2 % 2) digit.1 y.low y.high
        tank axis_z = one_side c.z d.z z.s (i / 4) digit.2 z.low z.high

    not-all : (a : Axis) → along a c ≡ 0 → negatives (values closed c) < 8
    not-all a e =
        many-less negative (values closed c) 0 nan (omega arith)
        (λ t. let h = (to (corner_of c 0) (and_i (in_box box (corner_of c 0)) (negative (value closed (corner_of c 0))) (corner-in-box box c 0 cell (omega arith))
        (subst (λ (v : Float). T (negative v)) (corner-value closed c 0 (omega arith)) t)) a).0 in omega (arith, h, corner-along a c 0, no-side a, e))

    surface-low : (a : Axis) → along a c ≡ 0 → T (surface_cell closed c)
    surface-low a e =
        and_i (leb 1 (negatives (values closed c))) (leb (negatives (values closed c)) 7) (le→leb 1 (negatives (values closed c)) some)
        (le→leb (negatives (values closed c)) 7 (omega (arith, not-all a e)))

    stands_on : T (surface_cell closed c) → Stands d closed c
    stands_on t = stands d sdf wall room ok far fine numbers c cell t

    vertex : T (surface_cell closed c) → placed closed box c ≡ vertex_steps closed c
    unfolding placed
    vertex t = ap (λ (s : Bool). cond s (vertex_steps closed c) (in_steps c)) (is_true (is_cell box c && surface_cell closed c) (and_i (is_cell box c) (surface_cell closed c) cell t))

    low : (a : Axis) → along a c ≡ 0 → on_axis a (placed closed box c) ≡ 256
    low a e =
        let t = surface-low a e in
        ap (on_axis a) (vertex t) ∙ on-component a (vertex_position closed c) ∙ ap steps ((stands_on t).low a e) ∙ whole-steps 1 (omega arith)

    few : (a : Axis) → along a d ≤ 2 ^ 24
    few a = go a (small (closed_dims d) (failed refl ok.closable))
      where
        go : (a : Axis) → Small (closed_dims d) → along a d ≤ 2 ^ 24
        go axis_x s = omega (arith, s.x)
        go axis_y s = omega (arith, s.y)
        go axis_z s = omega (arith, s.z)

    high : (a : Axis) → along a c ≡ along a d → on_axis a (placed closed box c) ≡ 256 * along a d
    unfolding placed
    high a e = go (is_cell box c && surface_cell closed c) (λ t. t)
      where
        go : (s : Bool) → (T s → T (is_cell box c && surface_cell closed c)) → on_axis a (cond s (vertex_steps closed c) (in_steps c)) ≡ 256 * along a d
        go true h =
            let t : T (surface_cell closed c) = and_r (is_cell box c) (surface_cell closed c) (h tt) in
            on-component a (vertex_position closed c) ∙ ap steps ((stands_on t).high a e) ∙ whole-steps (along a d) (few a)
        go false h = point-level a c ∙ ap (λ (m : ℕ). 256 * m) e

  pub filled : Tank d (in_sludge closed box) (placed closed box)
  filled = record { to = to; from = from; low = λ c a r e. low c r a e; high = λ c a r e. high c r a e }

  -- ---- its faces

  w : InCells (placed closed box)
  w =
      placed-within closed box
      (λ p t. numbers (index (closed_dims d) p) (index_below (closed_dims d) box (length (closed_list (open_field d sdf) wall)) p (failed refl (closed-box d sdf wall ok.far))
      (failed refl (closed-length d sdf wall ok.far)) t))
      (failed refl ok.closable) (failed refl (closed-box d sdf wall ok.far)) fine

  h : Enclosed closed box
  h = closed-enclosed d sdf wall ok.far

  sum : (p l u x a m : ℕ) → p + u ≡ l + x → u + 256 * a ≡ x → a ≡ 393216 * m → p ≡ 6 * 256 ^ 3 * m + l
  sum p l u x a m e f g = omega arith

  pub faces-weigh : (m : Flags) → sum_z (face_sum closed) (edges closed box m) ≡ pos (full_weight d)
  faces-weigh m =
      let f : Difference closed box m h (sum_z (face_sum closed) (edges closed box m)) = faces-difference closed box m h in
      let i = inner closed box m h in
      f.is
      ∙ ap (λ (p : ℕ). pos p -ℤ pos f.less)
      (sum f.plus f.less _ _ _ (total (λ (p : GridPoint). one (all_corners (in_sludge closed box) p)) (points box)) f.same
      (edges-exact box (in_sludge closed box) i (placed closed box) w (shorter closed) filled) (areas-exact filled box i w))
      ∙ +ℤ-neg_ℤ_cancel (pos (6 * 256 ^ 3 * total (λ (p : GridPoint). one (all_corners (in_sludge closed box) p)) (points box))) (pos f.less)
      ∙ ap (λ (k : ℕ). pos (6 * 256 ^ 3 * k)) (cells-between filled)
