-- Document 01, "What is ported, what is added" and "The call": points of the grid, their index, the box, and the distance at a point.
-- Definitions only. Assumes nothing.
use Rattle.std.specs.Prelude.{ℕ, ◌+◌, ◌-◌, ◌*◌, ◌/◌, ◌%◌, Bool, ◌&&◌, leb, eqb, Float}
use Rattle.lists.specs.Lists.{below}

-- a point of the grid; dimensions and the corners of a box are written so too
pub record GridPoint : Type 0 where
  pub x : ℕ
  pub y : ℕ
  pub z : ℕ

pub data Axis : Type 0 where
  axis_x axis_y axis_z : Axis

-- a point's coordinate on an axis
abbrev pub along : Axis → GridPoint → ℕ
along axis_x p = p.x
along axis_y p = p.y
along axis_z p = p.z

-- the point with another coordinate on one axis
abbrev pub moved : Axis → ℕ → GridPoint → GridPoint
moved axis_x n p = record { x = n; y = p.y; z = p.z }
moved axis_y n p = record { x = p.x; y = n; z = p.z }
moved axis_z n p = record { x = p.x; y = p.y; z = n }

-- one step up, and one step down, on an axis
abbrev pub step_up : Axis → GridPoint → GridPoint
step_up a p = moved a (along a p + 1) p

abbrev pub step_down : Axis → GridPoint → GridPoint
step_down a p = moved a (along a p - 1) p

-- x to y to z to x
abbrev pub turned : Axis → Axis
turned axis_x = axis_y
turned axis_y = axis_z
turned axis_z = axis_x

abbrev pub same_point : GridPoint → GridPoint → Bool
same_point p q = eqb p.x q.x && (eqb p.y q.y && eqb p.z q.z)

-- "Index of (x, y, z) in dimensions (X, Y, Z): x + X·y + X·Y·z."
abbrev pub index : GridPoint → GridPoint → ℕ
index dims p = p.x + dims.x * p.y + dims.x * dims.y * p.z

-- the point that has an index: its only one among the points within the dimensions
abbrev pub point_at : GridPoint → ℕ → GridPoint
point_at dims j = record { x = j % dims.x; y = j / dims.x % dims.y; z = j / (dims.x * dims.y) }

-- the box with the corners min and max
pub record Box : Type 0 where
  pub low : GridPoint
  pub high : GridPoint

-- from low to high, both counted
abbrev pub between : ℕ → ℕ → ℕ → Bool
between low high n = leb low n && leb n high

-- a point of the box, both corners included
abbrev pub in_box : Box → GridPoint → Bool
in_box b p = between b.low.x b.high.x p.x && (between b.low.y b.high.y p.y && between b.low.z b.high.z p.z)

-- the lowest corner of a cell of the box: min up to max - 1 on each axis
abbrev pub is_cell : Box → GridPoint → Bool
is_cell b p = below b.low.x b.high.x p.x && (below b.low.y b.high.y p.y && below b.low.z b.high.z p.z)

-- the dimensions, and the distance at each index
pub record Field : Type 0 where
  pub dims : GridPoint
  pub dist : ℕ → Float

-- the distance at a point
abbrev pub value : Field → GridPoint → Float
value g p = g.dist (index g.dims p)
