-- A cell none of whose corners is in the border has the eight distances that the open grid's cell has, one step down on each axis: so it is a surface cell where that one is, with the same
-- crossings, centroid and normal. Closing changes nothing inside. Assumes nothing.
use Prim.Native.Nat.{ℕ, ◌+◌, ◌-◌, ◌/◌, ◌%◌, ◌≤◌, ◌<◌}
use native.Mathlib.Omega.{arith}
use mathlib.Core.Bool.{◌&&◌}
use mathlib.Core.List.{List}
use mathlib.Core.Path.{◌≡◌, ap, ◌∙◌}
use lib.Dec.{T, leb, le→leb}
use lib.Ieee.{Float}
use lib.Ieee.Bits.{is_true}
use lib.Ieee.Fits.{and_i}
use Rattle.lists.proofs.Lists.{all_then, map_same}
use Rattle.rules.specs.Grid.{GridPoint, Axis, axis_x, axis_y, axis_z, along, between, in_box, value}
use Rattle.rules.specs.Cell.{corner_of, values}
use Rattle.rules.proofs.Indexes.{in-box, same_point_lem}
use Rattle.closing.specs.Closed.{closed_dims, in_open, open_point, open_field, closed_list}
use Rattle.closed_bed.specs.Standing.{whole_box, Inside}
use Rattle.closed_bed.proofs.Values.{closed-point, value-open}
use Rattle.closed_bed.proofs.Standing.{corner-along}
use Rattle.closed_bed.proofs.Tank.{all-eight, side-few}

within : (n m : ℕ) → (1 ≤ m) × (m ≤ n) → T (between 1 n m)
within n m q = and_i (leb 1 m) (leb m n) (le→leb 1 m q.0) (le→leb m n q.1)

module _ (d c : GridPoint) (h : Inside d c) where
  corner-inside : (a : Axis) (i : ℕ) → i < 8 → (1 ≤ along a (corner_of c i)) × (along a (corner_of c i) ≤ along a d)
  corner-inside a i k = let s = side-few a i k in let q = h a in let e = corner-along a c i in (omega arith, omega arith)

  corner-open : (i : ℕ) → i < 8 → T (in_open d (corner_of c i))
  corner-open i k =
      let p = corner_of c i in
      and_i (between 1 d.x p.x) (between 1 d.y p.y && between 1 d.z p.z) (within d.x p.x (corner-inside axis_x i k))
      (and_i (between 1 d.y p.y) (between 1 d.z p.z) (within d.y p.y (corner-inside axis_y i k)) (within d.z p.z (corner-inside axis_z i k)))

  corner-boxed : (i : ℕ) → i < 8 → T (in_box (whole_box (closed_dims d)) (corner_of c i))
  corner-boxed i k =
      let x = corner-inside axis_x i k in
      let y = corner-inside axis_y i k in
      let z = corner-inside axis_z i k in
      in-box (whole_box (closed_dims d)) (corner_of c i) (record { x = (omega arith, omega arith); y = (omega arith, omega arith); z = (omega arith, omega arith) })

  corner-moved : (i : ℕ) → open_point (corner_of c i) ≡ corner_of (open_point c) i
  corner-moved i =
      let x = h axis_x in
      let y = h axis_y in
      let z = h axis_z in
      same_point_lem (less c.x (i % 2) x.0, less c.y (i / 2 % 2) y.0, less c.z (i / 4) z.0)
    where
      less : (n s : ℕ) → 1 ≤ n → n + s - 1 ≡ n - 1 + s
      less n s l = omega arith

  pub inside-kept : (sdf : List Float) (wall : Float)
      → values (open_field (closed_dims d) (closed_list (open_field d sdf) wall)) c ≡ values (open_field d sdf) (open_point c)
  inside-kept sdf wall =
      map_same (all_then (λ i k.
      closed-point d sdf wall (corner_of c i) (corner-boxed i k)
      ∙ value-open (open_field d sdf) wall (corner_of c i) (is_true (in_open d (corner_of c i)) (corner-open i k))
      ∙ ap (value (open_field d sdf)) (corner-moved i)) all-eight)
