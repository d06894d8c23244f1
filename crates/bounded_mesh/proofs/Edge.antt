-- The face of a grid edge on any axis, with a vertex in every cell: what it weighs from the edge's two ends. Assumes nothing.
use Prim.Native.Nat.{ℕ, ◌+◌, ◌-◌, ◌*◌, ◌≤◌, ◌<◌}
use native.Mathlib.Omega.{arith}
use mathlib.Core.Bool.{Bool, true, false}
use mathlib.Core.Path.{◌≡◌, refl, sym, ap₂, subst, subst₂}
use Rattle.rules.specs.Grid.{GridPoint, Axis, axis_x, axis_y, axis_z, along, step_up}
use Rattle.rules.specs.Faces.{Edge, edge, axis_b, axis_c, cell1, cell2, cell3, cell4}
use Rattle.volume.specs.declared.Corner.{Corner}
use Rattle.volume.specs.Volume.{corner, falling}
use Rattle.weighed_mesh.specs.Facing.{on_axis}
use Rattle.bounded_mesh.specs.Round.{quad_fall, quad_rise, sides, sides_back, in_steps, turning, area_round, Placing, InCells, round}
use Rattle.bounded_mesh.proofs.Face.{Above, Below, Cells, Weighs, face-weighs}

-- ---- seen along an axis

abbrev see : Axis → Corner → Corner
see a u = corner (on_axis a u) (on_axis (axis_b a) u) (on_axis (axis_c a) u)

abbrev see_point : Axis → GridPoint → Corner
see_point a p = corner (256 * along a p) (256 * along (axis_b a) p) (256 * along (axis_c a) p)

falling_seen : (a : Axis) (u v w : Corner) → falling (see a u) (see a v) (see a w) ≡ falling u v w
falling_seen axis_x u v w = refl
falling_seen axis_y u v w = omega arith
falling_seen axis_z u v w = omega arith

-- the numbers that are said of a face
record Numbers : Type 0 where
  f : ℕ
  r : ℕ
  s : ℕ
  b : ℕ
  s' : ℕ
  b' : ℕ

abbrev numbers : ℕ → ℕ → ℕ → ℕ → ℕ → ℕ → Numbers
numbers f r s b s' b' = record { f = f; r = r; s = s; b = b; s' = s'; b' = b' }

module _ (a : Axis) (v1 v2 v3 v4 : Corner) where
  fall-seen : (s : Bool) → quad_fall s (see a v1) (see a v2) (see a v3) (see a v4) ≡ quad_fall s v1 v2 v3 v4
  unfolding quad_fall
  fall-seen true = ap₂ ◌+◌ (falling_seen a v1 v2 v4) (falling_seen a v1 v4 v3)
  fall-seen false = ap₂ ◌+◌ (falling_seen a v2 v4 v3) (falling_seen a v2 v3 v1)

  rise-seen : (s : Bool) → quad_rise s (see a v1) (see a v2) (see a v3) (see a v4) ≡ quad_rise s v1 v2 v3 v4
  unfolding quad_rise
  rise-seen true = ap₂ ◌+◌ (falling_seen a v1 v4 v2) (falling_seen a v1 v3 v4)
  rise-seen false = ap₂ ◌+◌ (falling_seen a v2 v3 v4) (falling_seen a v2 v1 v3)

  sides-seen : (p : Corner) → sides (see a p) (see a v1) (see a v2) (see a v3) (see a v4) ≡ sides p v1 v2 v3 v4
  unfolding sides
  sides-seen p = λ i. falling_seen a p v1 v2 i + falling_seen a p v2 v4 i + falling_seen a p v4 v3 i + falling_seen a p v3 v1 i

  back-seen : (p : Corner) → sides_back (see a p) (see a v1) (see a v2) (see a v3) (see a v4) ≡ sides_back p v1 v2 v3 v4
  unfolding sides_back
  back-seen p = λ i. falling_seen a p v2 v1 i + falling_seen a p v4 v2 i + falling_seen a p v3 v4 i + falling_seen a p v1 v3 i

  weighs-seen : (s : Bool) (p q : Corner) (area : ℕ) → Weighs s (see a p) (see a q) (see a v1) (see a v2) (see a v3) (see a v4) area → Weighs s p q v1 v2 v3 v4 area
  weighs-seen s p q area w =
      record {
        low = subst (λ (l : Numbers). l.r + l.s ≤ l.f + l.b + 16777216) same w.low;
        high = subst (λ (l : Numbers). l.f + l.b ≤ l.r + l.s + 256 * area + 16777216) same w.high;
        ends = subst (λ (l : Numbers). l.b + l.s' ≡ l.s + l.b' + 256 * area) same w.ends;
      }
    where
      same : numbers (quad_fall s (see a v1) (see a v2) (see a v3) (see a v4)) (quad_rise s (see a v1) (see a v2) (see a v3) (see a v4))
          (sides (see a p) (see a v1) (see a v2) (see a v3) (see a v4)) (sides_back (see a p) (see a v1) (see a v2) (see a v3) (see a v4))
          (sides (see a q) (see a v1) (see a v2) (see a v3) (see a v4)) (sides_back (see a q) (see a v1) (see a v2) (see a v3) (see a v4))
          ≡ numbers (quad_fall s v1 v2 v3 v4) (quad_rise s v1 v2 v3 v4) (sides p v1 v2 v3 v4) (sides_back p v1 v2 v3 v4) (sides q v1 v2 v3 v4) (sides_back q v1 v2 v3 v4)
      same = λ i. numbers (fall-seen s i) (rise-seen s i) (sides-seen p i) (back-seen p i) (sides-seen q i) (back-seen q i)

point-seen : (a : Axis) (p : GridPoint) → see a (in_steps p) ≡ see_point a p
point-seen axis_x p = refl
point-seen axis_y p = refl
point-seen axis_z p = refl

more-steps : (n : ℕ) → 256 * (n + 1) ≡ 256 * n + 256
more-steps n = omega arith

end_seen : (a : Axis) (p : GridPoint) → see a (in_steps (step_up a p)) ≡ corner (256 * along a p + 256) (256 * along (axis_b a) p) (256 * along (axis_c a) p)
end_seen axis_x p = λ i. corner (more-steps p.x i) (256 * p.y) (256 * p.z)
end_seen axis_y p = λ i. corner (more-steps p.y i) (256 * p.z) (256 * p.x)
end_seen axis_z p = λ i. corner (more-steps p.z i) (256 * p.x) (256 * p.y)

-- ---- the four cells

above_of : (n m : ℕ) → (256 * n ≤ m) × (m ≤ 256 * (n + 1)) → Above m (256 * n)
above_of n m h = omega (arith, h.0, h.1)

below_of : (n k m : ℕ) → 0 < n → k ≡ n - 1 → (256 * k ≤ m) × (m ≤ 256 * (k + 1)) → Below m (256 * n)
below_of n k m l e h = omega (arith, h.0, h.1)

same_of : (n k m : ℕ) → k ≡ n → (256 * k ≤ m) × (m ≤ 256 * (k + 1)) → Above m (256 * n)
same_of n k m e h = omega (arith, h.0, h.1)

-- where the four cells stand
pub record Stands (a : Axis) (p : GridPoint) : Type 0 where
  pub a2 : along a (cell2 (edge a p)) ≡ along a p
  pub b2 : along (axis_b a) (cell2 (edge a p)) ≡ along (axis_b a) p - 1
  pub c2 : along (axis_c a) (cell2 (edge a p)) ≡ along (axis_c a) p
  pub a3 : along a (cell3 (edge a p)) ≡ along a p
  pub b3 : along (axis_b a) (cell3 (edge a p)) ≡ along (axis_b a) p
  pub c3 : along (axis_c a) (cell3 (edge a p)) ≡ along (axis_c a) p - 1
  pub a4 : along a (cell4 (edge a p)) ≡ along a p
  pub b4 : along (axis_b a) (cell4 (edge a p)) ≡ along (axis_b a) p - 1
  pub c4 : along (axis_c a) (cell4 (edge a p)) ≡ along (axis_c a) p - 1

pub stands : (a : Axis) (p : GridPoint) → Stands a p
stands axis_x p = record { a2 = refl; b2 = refl; c2 = refl; a3 = refl; b3 = refl; c3 = refl; a4 = refl; b4 = refl; c4 = refl }
stands axis_y p = record { a2 = refl; b2 = refl; c2 = refl; a3 = refl; b3 = refl; c3 = refl; a4 = refl; b4 = refl; c4 = refl }
stands axis_z p = record { a2 = refl; b2 = refl; c2 = refl; a3 = refl; b3 = refl; c3 = refl; a4 = refl; b4 = refl; c4 = refl }

module _ (v : Placing) (w : InCells v) (a : Axis) (p : GridPoint) (hb : 0 < along (axis_b a) p) (hc : 0 < along (axis_c a) p) where
  abbrev u : (Edge → GridPoint) → Corner
  u cell = v (cell (edge a p))

  cells-seen : Cells (see_point a p) (see a (u cell1)) (see a (u cell2)) (see a (u cell3)) (see a (u cell4))
  cells-seen =
      let t = stands a p in
      record {
        x1 = above_of (along a p) (on_axis a (u cell1)) (w p a);
        x2 = same_of (along a p) (along a (cell2 (edge a p))) (on_axis a (u cell2)) t.a2 (w (cell2 (edge a p)) a);
        x3 = same_of (along a p) (along a (cell3 (edge a p))) (on_axis a (u cell3)) t.a3 (w (cell3 (edge a p)) a);
        x4 = same_of (along a p) (along a (cell4 (edge a p))) (on_axis a (u cell4)) t.a4 (w (cell4 (edge a p)) a);
        y1 = above_of (along (axis_b a) p) (on_axis (axis_b a) (u cell1)) (w p (axis_b a));
        z1 = above_of (along (axis_c a) p) (on_axis (axis_c a) (u cell1)) (w p (axis_c a));
        y2 = below_of (along (axis_b a) p) (along (axis_b a) (cell2 (edge a p))) (on_axis (axis_b a) (u cell2)) hb t.b2 (w (cell2 (edge a p)) (axis_b a));
        z2 = same_of (along (axis_c a) p) (along (axis_c a) (cell2 (edge a p))) (on_axis (axis_c a) (u cell2)) t.c2 (w (cell2 (edge a p)) (axis_c a));
        y3 = same_of (along (axis_b a) p) (along (axis_b a) (cell3 (edge a p))) (on_axis (axis_b a) (u cell3)) t.b3 (w (cell3 (edge a p)) (axis_b a));
        z3 = below_of (along (axis_c a) p) (along (axis_c a) (cell3 (edge a p))) (on_axis (axis_c a) (u cell3)) hc t.c3 (w (cell3 (edge a p)) (axis_c a));
        y4 = below_of (along (axis_b a) p) (along (axis_b a) (cell4 (edge a p))) (on_axis (axis_b a) (u cell4)) hb t.b4 (w (cell4 (edge a p)) (axis_b a));
        z4 = below_of (along (axis_c a) p) (along (axis_c a) (cell4 (edge a p))) (on_axis (axis_c a) (u cell4)) hc t.c4 (w (cell4 (edge a p)) (axis_c a));
      }

  pub edge-weighs : (s : Bool) → Weighs s (in_steps p) (in_steps (step_up a p)) (u cell1) (u cell2) (u cell3) (u cell4) (round v (area_round a p) (edge a p))
  unfolding turning
  edge-weighs s =
      weighs-seen a (u cell1) (u cell2) (u cell3) (u cell4) s (in_steps p) (in_steps (step_up a p)) (round v (area_round a p) (edge a p))
      (subst₂ (λ (m n : Corner). Weighs s m n (see a (u cell1)) (see a (u cell2)) (see a (u cell3)) (see a (u cell4)) (round v (area_round a p) (edge a p)))
      (sym (point-seen a p)) (sym (end_seen a p)) (face-weighs (see_point a p) (see a (u cell1)) (see a (u cell2)) (see a (u cell3)) (see a (u cell4)) cells-seen s))
