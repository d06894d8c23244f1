-- A grid's whole box, a wall that is far, and where a vertex then stands. Definitions only. Assumes nothing.
use Rattle.std.specs.Prelude.{ℕ, ◌+◌, ◌-◌, ◌*◌, ◌^◌, ◌≤◌, ◌<◌, List, ◌⊎◌, ◌≡◌, T, Float, length, get_or}
use Rattle.std.specs.Float.{nan}
use Rattle.std.specs.Float.Ieee.Positive.{num, den}
use Rattle.rules.specs.Grid.{GridPoint, Axis, axis_x, axis_y, axis_z, Box, Field, along}
use Rattle.rules.specs.Cell.{Vector, float, negative}
use Rattle.rules.specs.Vertices.{vertex_position}
use Rattle.closing.specs.Wall.{wall_at}

-- from 0, 0, 0 to the dimensions less 1
abbrev pub whole_box : GridPoint → Box
whole_box d = record { low = record { x = 0; y = 0; z = 0 }; high = record { x = d.x - 1; y = d.y - 1; z = d.z - 1 } }

-- 2 ^ 25 times the magnitude of d is at most the wall: a float's magnitude is the fraction num / den
abbrev pub Deep : Float → Float → Type 0
Deep wall d = num d * 2 ^ 25 * den wall ≤ num wall * den d

-- the wall is a power of two, from 2 ^ -124 to 2 ^ 124, and so far for each distance below zero; the others do not matter
pub record FarWall (wall : Float) (sdf : List Float) : Type 0 where
  pub exponent : ℕ
  pub few : exponent < 249
  pub power : wall ≡ wall_at exponent
  pub deep : (i : ℕ) → i < length sdf → T (negative (get_or sdf i nan)) → Deep wall (get_or sdf i nan)

abbrev pub component : Axis → Vector → Float
component axis_x v = v.x
component axis_y v = v.y
component axis_z v = v.z

-- The vertex of a cell of the closed grid stands on the plane of the outermost points of the open one, whose dimensions are d, on each axis on which the cell
-- lies in the border: its position is 1.0 where the cell's coordinate is 0, and n where it is n, n being the open grid's last point in closed coordinates.
pub record Stands (d : GridPoint) (g : Field) (c : GridPoint) : Type 0 where
  pub low : (a : Axis) → along a c ≡ 0 → component a (vertex_position g c) ≡ float 1
  pub high : (a : Axis) → along a c ≡ along a d → component a (vertex_position g c) ≡ float (along a d)

-- none of the cell's corners is in the border
abbrev pub Inside : GridPoint → GridPoint → Type 0
Inside d c = (a : Axis) → (1 ≤ along a c) × (along a c + 1 ≤ along a d)

-- the cell is one of the border on some axis: at 0 there, or at the open grid's last point
pub record OnBorder (d : GridPoint) (c : GridPoint) : Type 0 where
  pub axis : Axis
  pub end : (along axis c ≡ 0) ⊎ (along axis c ≡ along axis d)

-- ---- the same of the lists that a mesh call wrote, three numbers a vertex

-- which of the three is the axis's
abbrev pub axis_place : Axis → ℕ
axis_place axis_x = 0
axis_place axis_y = 1
axis_place axis_z = 2

-- n is the cell's coordinate and x the position on an axis of `last` open points
pub record StandsAt (last n : ℕ) (x : Float) : Type 0 where
  pub low : n ≡ 0 → x ≡ float 1
  pub high : n ≡ last → x ≡ float last
