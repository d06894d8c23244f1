-- The vertices round a grid point and round a grid edge, in steps: what the faces of its edges weigh, and their areas. Definitions only.
-- Assumes nothing.
use Rattle.std.specs.Prelude.{ℕ, ◌+◌, ◌-◌, ◌*◌, ◌≤◌, Bool, true, false}
use Rattle.rules.specs.Grid.{GridPoint, Axis, along}
use Rattle.rules.specs.Faces.{Edge, axis_b, axis_c, cell1, cell2, cell3, cell4}
use Rattle.volume.specs.declared.Corner.{Corner}
use Rattle.volume.specs.Volume.{corner, falling}
use Rattle.weighed_mesh.specs.Facing.{on_axis}

-- how far two numbers are from each other
abbrev pub away : ℕ → ℕ → ℕ
away m n = (m - n) + (n - m)

-- a grid point in steps
abbrev pub in_steps : GridPoint → Corner
in_steps p = corner (256 * p.x) (256 * p.y) (256 * p.z)

-- ---- the two triangles of a face that looks up along its edge: cut from v1 to v4 or from v2 to v3, as document 01 writes them

-- the products of their determinants that fall
unfoldable pub quad_fall : Bool → Corner → Corner → Corner → Corner → ℕ
quad_fall true v1 v2 v3 v4 = falling v1 v2 v4 + falling v1 v4 v3
quad_fall false v1 v2 v3 v4 = falling v2 v4 v3 + falling v2 v3 v1

-- and those that rise, which are those that fall of the triangles turned round
unfoldable pub quad_rise : Bool → Corner → Corner → Corner → Corner → ℕ
quad_rise true v1 v2 v3 v4 = falling v1 v4 v2 + falling v1 v3 v4
quad_rise false v1 v2 v3 v4 = falling v2 v3 v4 + falling v2 v1 v3

-- the triangles of a point with the face's four sides, and with the sides turned back
unfoldable pub sides : Corner → Corner → Corner → Corner → Corner → ℕ
sides p v1 v2 v3 v4 = falling p v1 v2 + falling p v2 v4 + falling p v4 v3 + falling p v3 v1

unfoldable pub sides_back : Corner → Corner → Corner → Corner → Corner → ℕ
sides_back p v1 v2 v3 v4 = falling p v2 v1 + falling p v4 v2 + falling p v3 v4 + falling p v1 v3

-- ---- round the edge from p up along the axis a

-- how far a vertex is from a grid point on an axis
abbrev pub distance : Axis → GridPoint → Corner → ℕ
distance a p u = away (on_axis a u) (256 * along a p)

-- the cross product of two neighbours round the edge, as it is seen along the edge: never below zero, since they stand in neighbouring quadrants
unfoldable pub turning : Axis → GridPoint → Corner → Corner → ℕ
turning a p u w = distance (axis_b a) p u * distance (axis_c a) p w + distance (axis_c a) p u * distance (axis_b a) p w

-- twice the area of the face, seen so
abbrev pub area_round : Axis → GridPoint → Corner → Corner → Corner → Corner → ℕ
area_round a p v1 v2 v3 v4 = turning a p v1 v2 + turning a p v2 v4 + turning a p v4 v3 + turning a p v3 v1

-- a vertex in every cell
abbrev pub Placing : Type 0
Placing = GridPoint → Corner

-- each within its cell
abbrev pub InCells : Placing → Type 0
InCells v = (c : GridPoint) (a : Axis) → (256 * along a c ≤ on_axis a (v c)) × (on_axis a (v c) ≤ 256 * (along a c + 1))

-- what is said of four vertices, of those of the four cells round an edge
abbrev pub round : {A : Type 0} → Placing → (Corner → Corner → Corner → Corner → A) → Edge → A
round v f e = f (v (cell1 e)) (v (cell2 e)) (v (cell3 e)) (v (cell4 e))
