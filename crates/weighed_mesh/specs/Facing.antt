-- README: "A triangle that faces the wrong way subtracts sludge". Which way a face faces: its corners in steps, seen along its edge, in the plane of the two
-- other axes B and C. Definitions only. Assumes nothing.
use Rattle.std.specs.Prelude.{ℕ, ◌+◌, ◌*◌, not, List, [], ◌∷◌, map, T, ℤ, pos, ◌+ℤ◌, ◌-ℤ◌, ◌*ℤ◌, ◌≤ℤ◌}
use Rattle.rules.specs.Grid.{GridPoint, Axis, axis_x, axis_y, axis_z, Field, along, value}
use Rattle.rules.specs.Cell.{Vector, negative}
use Rattle.rules.specs.Vertices.{vertex_position}
use Rattle.rules.specs.Faces.{axis_b, axis_c, cell1, cell2, cell3, cell4}
use Rattle.rules.specs.Cutting.{Face, Corner as Seen}
use Rattle.volume.specs.declared.Corner.{Corner}
use Rattle.volume.specs.Steps.{steps}
use Rattle.volume.specs.Volume.{corner}

-- a position in steps
abbrev pub steps_of : Vector → Corner
steps_of v = corner (steps v.x) (steps v.y) (steps v.z)

-- a corner's coordinate on an axis
abbrev pub on_axis : Axis → Corner → ℕ
on_axis axis_x a = a.x
on_axis axis_y a = a.y
on_axis axis_z a = a.z

-- ---- the area

-- twice the signed area of a triangle seen along the axis a: above zero where u, v, w go round from B to C
abbrev pub area : Axis → Corner → Corner → Corner → ℤ
area a u v w =
    pos (on_axis (axis_b a) u * on_axis (axis_c a) v + on_axis (axis_b a) v * on_axis (axis_c a) w + on_axis (axis_b a) w * on_axis (axis_c a) u)
    -ℤ pos (on_axis (axis_c a) u * on_axis (axis_b a) v + on_axis (axis_c a) v * on_axis (axis_b a) w + on_axis (axis_c a) w * on_axis (axis_b a) u)

-- of all triangles of a list of corners, three each
unfoldable pub areas : Axis → List Corner → ℤ
areas a [] = pos 0
areas a (u ∷ []) = pos 0
areas a (u ∷ v ∷ []) = pos 0
areas a (u ∷ v ∷ w ∷ cs) = area a u v w +ℤ areas a cs

-- of a face
abbrev pub face_area : Face → ℤ
face_area f = areas f.edge.axis (map (λ (c : Seen). steps_of c.position) f.corners)

-- ---- the four vertices round an edge

-- a corner's coordinate on an axis, from that of a grid point
abbrev pub from : Axis → GridPoint → Corner → ℤ
from a p u = pos (on_axis a u) -ℤ pos (256 * along a p)

-- the cross product of two corners as seen from p, along the axis a: not negative where the second is not before the first, going round from B to C
abbrev pub cross : Axis → GridPoint → Corner → Corner → ℤ
cross a p u v = from (axis_b a) p u *ℤ from (axis_c a) p v -ℤ from (axis_c a) p u *ℤ from (axis_b a) p v

-- v1 v2 v4 v3 go round p1 from B to C
pub record GoesRound (a : Axis) (p : GridPoint) (v1 v2 v3 v4 : Corner) : Type 0 where
  pub first : pos 0 ≤ℤ cross a p v1 v2
  pub second : pos 0 ≤ℤ cross a p v2 v4
  pub third : pos 0 ≤ℤ cross a p v4 v3
  pub fourth : pos 0 ≤ℤ cross a p v3 v1

abbrev pub vertex_steps : Field → GridPoint → Corner
vertex_steps g c = steps_of (vertex_position g c)

-- a face that faces out of the sludge, or has no area as seen along its edge: from p1 to p2 if p1 is negative, and else from p2 to p1
pub record FacesOut (g : Field) (f : Face) : Type 0 where
  pub round : GoesRound f.edge.axis f.edge.from (vertex_steps g (cell1 f.edge)) (vertex_steps g (cell2 f.edge)) (vertex_steps g (cell3 f.edge))
      (vertex_steps g (cell4 f.edge))
  pub up : T (negative (value g f.edge.from)) → pos 0 ≤ℤ face_area f
  pub down : T (not (negative (value g f.edge.from))) → face_area f ≤ℤ pos 0
