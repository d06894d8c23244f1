-- A face whose four corners are level with a point weighs nothing from there: its pyramid has no height. Assumes nothing.
use Prim.Native.Nat.{ℕ, ◌+◌}
use native.Mathlib.Omega.{arith}
use mathlib.Core.Bool.{Bool, true, false}
use mathlib.Core.Path.{◌≡◌, sym, subst}
use Rattle.rules.specs.Grid.{Axis, axis_x, axis_y, axis_z}
use Rattle.volume.specs.declared.Corner.{Corner}
use Rattle.volume.specs.Volume.{corner, falling}
use Rattle.weighed_mesh.specs.Facing.{on_axis}
use Rattle.bounded_mesh.specs.Round.{quad_fall, quad_rise, sides, sides_back}

-- a triangle and its three sides turned back with the point, against the triangle turned round and its sides
abbrev Level : Corner → Corner → Corner → Corner → Type 0
Level p u v w = falling u v w + (falling p v u + falling p w v + falling p u w) ≡ falling u w v + (falling p u v + falling p v w + falling p w u)

module _ (n β γ b1 c1 b2 c2 b3 c3 : ℕ) where
  level-x : Level (corner n β γ) (corner n b1 c1) (corner n b2 c2) (corner n b3 c3)
  level-x = omega arith

  level-y : Level (corner β n γ) (corner b1 n c1) (corner b2 n c2) (corner b3 n c3)
  level-y = omega arith

  level-z : Level (corner β γ n) (corner b1 c1 n) (corner b2 c2 n) (corner b3 c3 n)
  level-z = omega arith

level : (a : Axis) (p u v w : Corner) → on_axis a u ≡ on_axis a p → on_axis a v ≡ on_axis a p → on_axis a w ≡ on_axis a p → Level p u v w
level axis_x p u v w e f g =
    subst (λ (t : Corner × Corner × Corner). Level p t.0 t.1 t.2)
    (λ i. (corner (sym e i) u.y u.z, corner (sym f i) v.y v.z, corner (sym g i) w.y w.z))
    (level-x p.x p.y p.z u.y u.z v.y v.z w.y w.z)
level axis_y p u v w e f g =
    subst (λ (t : Corner × Corner × Corner). Level p t.0 t.1 t.2)
    (λ i. (corner u.x (sym e i) u.z, corner v.x (sym f i) v.z, corner w.x (sym g i) w.z))
    (level-y p.y p.x p.z u.x u.z v.x v.z w.x w.z)
level axis_z p u v w e f g =
    subst (λ (t : Corner × Corner × Corner). Level p t.0 t.1 t.2)
    (λ i. (corner u.x u.y (sym e i), corner v.x v.y (sym f i), corner w.x w.y (sym g i)))
    (level-z p.z p.x p.y u.x u.y v.x v.y w.x w.y)

-- two triangles with a common side
joined : (f r f' r' s12 s21 s24 s42 s43 s34 s31 s13 s14 s41 : ℕ)
    → f + (s21 + s42 + s14) ≡ r + (s12 + s24 + s41) → f' + (s41 + s34 + s13) ≡ r' + (s14 + s43 + s31) → f + f' + (s21 + s42 + s34 + s13) ≡ r + r' + (s12 + s24 + s43 + s31)
joined f r f' r' s12 s21 s24 s42 s43 s34 s31 s13 s14 s41 e e' = omega arith

rolled : (f r f' r' s12 s21 s24 s42 s43 s34 s31 s13 s23 s32 : ℕ)
    → f + (s42 + s34 + s23) ≡ r + (s24 + s43 + s32) → f' + (s32 + s13 + s21) ≡ r' + (s23 + s31 + s12) → f + f' + (s21 + s42 + s34 + s13) ≡ r + r' + (s12 + s24 + s43 + s31)
rolled f r f' r' s12 s21 s24 s42 s43 s34 s31 s13 s23 s32 e e' = omega arith

-- all four are level with the point on the axis: cut either way
module _ (a : Axis) (p v1 v2 v3 v4 : Corner) (e1 : on_axis a v1 ≡ on_axis a p) (e2 : on_axis a v2 ≡ on_axis a p) (e3 : on_axis a v3 ≡ on_axis a p) (e4 : on_axis a v4 ≡ on_axis a p) where
  pub flat-face : (s : Bool) → quad_fall s v1 v2 v3 v4 + sides_back p v1 v2 v3 v4 ≡ quad_rise s v1 v2 v3 v4 + sides p v1 v2 v3 v4
  unfolding quad_fall quad_rise sides sides_back
  flat-face true =
      joined (falling v1 v2 v4) (falling v1 v4 v2) (falling v1 v4 v3) (falling v1 v3 v4) (falling p v1 v2) (falling p v2 v1) (falling p v2 v4) (falling p v4 v2)
      (falling p v4 v3) (falling p v3 v4) (falling p v3 v1) (falling p v1 v3) (falling p v1 v4) (falling p v4 v1) (level a p v1 v2 v4 e1 e2 e4) (level a p v1 v4 v3 e1 e4 e3)
  flat-face false =
      rolled (falling v2 v4 v3) (falling v2 v3 v4) (falling v2 v3 v1) (falling v2 v1 v3) (falling p v1 v2) (falling p v2 v1) (falling p v2 v4) (falling p v4 v2)
      (falling p v4 v3) (falling p v3 v4) (falling p v3 v1) (falling p v1 v3) (falling p v2 v3) (falling p v3 v2) (level a p v2 v4 v3 e2 e4 e3) (level a p v2 v3 v1 e2 e3 e1)
