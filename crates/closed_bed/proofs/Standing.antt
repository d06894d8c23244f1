-- Where the wall stands. If the wall is a power of two and at least 2 ^ 25 times the magnitude of every distance below zero, the vertices of a cell of the border
-- lie, bit for bit, on the plane of the outermost points: the position is 1 where the cell's coordinate is 0, and on an axis of n points it is n where the
-- cell's coordinate is n. Distances that are not below zero do not matter. Assumes nothing.
use Prim.Native.Nat.{ℕ, ◌+◌, ◌*◌, ◌^◌, ◌≤◌, ◌<◌}
use native.Mathlib.Omega.{arith}
use native.Mathlib.Nat.{le_trans, le_of_eq}
use mathlib.Core.Bool.{Bool, true, false, not, ◌||◌}
use mathlib.Core.List.{List}
use mathlib.Core.Path.{◌≡◌, refl, sym, ap, subst, ◌∙◌}
use lib.Dec.{T, ltb}
use lib.Ieee.{Float, binary32, fits}
use lib.Ieee.Bits.{is_true}
use lib.ListN.{length}
use Rattle.lists.specs.Floats.{Binary32}
use Rattle.lists.proofs.Tests.{is_false, failed, nor-left, nor-right}
use Rattle.lists.proofs.Lists.{All, all_then}
use Rattle.rules.specs.Grid.{GridPoint, Axis, axis_x, axis_y, axis_z, Field, along, index, in_box, is_cell, value}
use Rattle.rules.specs.Cell.{float, negative, corner, corner_of, values}
use Rattle.rules.specs.Vertices.{surface_cell, vertices}
use Rattle.rules.specs.Call.{bad_dimension, bad_dimensions, bad_distance}
use Rattle.grid.proofs.Tests.{positive-dimension}
use Rattle.rules.proofs.Indexes.{Small, small, volume, right-length, index_below, corner-in-box}
use Rattle.rules.proofs.FourCells.{corner-value}
use Rattle.rules.proofs.Inside.{vertices-all}
use Rattle.cube.proofs.Corners.{Cell}
use Rattle.cube.proofs.Finite.{capped-cell}
use Rattle.cube.proofs.UnderCaps.{capped-corners}
use Rattle.closing.specs.Closed.{closed_dims, in_open, open_point, open_field, closed_value, closed_list}
use Rattle.closing.specs.Wall.{wall_at}
use Rattle.closing.proofs.Answers.{Accepted}
use Rattle.closed_bed.specs.Standing.{whole_box, Deep, FarWall, Stands}
use Rattle.closed_bed.proofs.Values.{closed-point, value-open, value-wall, wall-above}
use Rattle.closed_bed.proofs.Enclosing.{open-point, negative-open, not_negative, closed-box, closed-length}
use Rattle.closed_bed.proofs.Fractions.{wall-held}
use Rattle.closed_bed.proofs.Sides.{side_of, low-position, high-position}

-- ---- corners

pub corner-along : (a : Axis) (c : GridPoint) (i : ℕ) → along a (corner_of c i) ≡ along a c + side_of a i
corner-along axis_x c i = refl
corner-along axis_y c i = refl
corner-along axis_z c i = refl

-- outside the open grid on one axis
beyond-low : (a : Axis) (d p : GridPoint) → along a p ≡ 0 → in_open d p ≡ false
beyond-low axis_x d p e = is_false (in_open d p) (λ t. let o = (open-point d p t).x in omega arith)
beyond-low axis_y d p e = is_false (in_open d p) (λ t. let o = (open-point d p t).y in omega arith)
beyond-low axis_z d p e = is_false (in_open d p) (λ t. let o = (open-point d p t).z in omega arith)

pub beyond-high : (a : Axis) (d p : GridPoint) → along a d < along a p → in_open d p ≡ false
beyond-high axis_x d p e = is_false (in_open d p) (λ t. let o = (open-point d p t).x in omega arith)
beyond-high axis_y d p e = is_false (in_open d p) (λ t. let o = (open-point d p t).y in omega arith)
beyond-high axis_z d p e = is_false (in_open d p) (λ t. let o = (open-point d p t).z in omega arith)

pub record Positive (d : GridPoint) : Type 0 where
  pub x : 1 ≤ d.x
  pub y : 1 ≤ d.y
  pub z : 1 ≤ d.z

positive : (d : GridPoint) → T (not (bad_dimensions d)) → Positive d
unfolding bad_dimensions
positive d h =
    let three = nor-left (bad_dimension d.x || (bad_dimension d.y || bad_dimension d.z)) (ltb 1073741824 (d.x * d.y * d.z)) h in
    let two = nor-right (bad_dimension d.x) (bad_dimension d.y || bad_dimension d.z) three in
    record {
      x = positive-dimension d.x (unfailed (bad_dimension d.x) (nor-left (bad_dimension d.x) (bad_dimension d.y || bad_dimension d.z) three));
      y = positive-dimension d.y (unfailed (bad_dimension d.y) (nor-left (bad_dimension d.y) (bad_dimension d.z) two));
      z = positive-dimension d.z (unfailed (bad_dimension d.z) (nor-right (bad_dimension d.y) (bad_dimension d.z) two));
    }
  where
    unfailed : (t : Bool) → T (not t) → t ≡ false
    unfailed true h = absurd h
    unfailed false h = refl

-- a dimension is at least 1, and the closed one is within condition 1
module _ (a : Axis) (d : GridPoint) where
  dimension-some : (dims : T (not (bad_dimensions d))) → 1 ≤ along a d
  dimension-some dims = go a (positive d dims)
    where
      go : (a : Axis) → Positive d → 1 ≤ along a d
      go axis_x p = p.x
      go axis_y p = p.y
      go axis_z p = p.z

  dimension-few : T (not (bad_dimensions (closed_dims d))) → along a d + 1 ≤ 2 ^ 24
  dimension-few dims = go a (small (closed_dims d) dims)
    where
      go : (a : Axis) → Small (closed_dims d) → along a d + 1 ≤ 2 ^ 24
      go axis_x s = omega (arith, s.x)
      go axis_y s = omega (arith, s.y)
      go axis_z s = omega (arith, s.z)

-- ---- the closed grid

module _ (d : GridPoint) (sdf : List Float) (wall : Float) (room : ℕ) (ok : Accepted d (length sdf) wall room) (far : FarWall wall sdf)
    (fine : T (not (bad_distance (open_field (closed_dims d) (closed_list (open_field d sdf) wall)) (whole_box (closed_dims d)))))
    (numbers : Binary32 (closed_list (open_field d sdf) wall)) where
  abbrev closed : Field
  closed = open_field (closed_dims d) (closed_list (open_field d sdf) wall)

  -- what stands at a point of the whole box
  at : (p : GridPoint) → T (in_box (whole_box (closed_dims d)) p) → value closed p ≡ closed_value (open_field d sdf) wall p
  at p t = closed-point d sdf wall p t

  shut-is : (p : GridPoint) → T (in_box (whole_box (closed_dims d)) p) → in_open d p ≡ false → value closed p ≡ wall_at far.exponent
  shut-is p t e = at p t ∙ value-wall (open_field d sdf) wall p e ∙ far.power

  deep_is : (p : GridPoint) → T (in_box (whole_box (closed_dims d)) p) → T (negative (value closed p)) → Deep (wall_at far.exponent) (value closed p)
  deep_is p t n =
      let open' = negative-open d sdf wall ok.far p (subst (λ (v : Float). T (negative v)) (at p t) n) in
      let o = open-point d p open' in
      let here : value closed p ≡ value (open_field d sdf) (open_point p) = at p t ∙ value-open (open_field d sdf) wall p (is_true (in_open d p) open') in
      let inside : index d (open_point p) < length sdf =
      le_trans (volume d (open_point p) (omega arith) (omega arith) (omega arith)) (le_of_eq (sym (right-length d (length sdf) (failed refl ok.sized)))) in
      subst (λ (w : Float). Deep w (value closed p)) far.power
      (subst (Deep wall) (sym here) (far.deep (index d (open_point p)) inside (subst (λ (v : Float). T (negative v)) here n)))

  values32 : (p : GridPoint) → T (in_box (whole_box (closed_dims d)) p) → T (fits binary32 (value closed p))
  values32 p t =
      numbers (index (closed_dims d) p)
      (index_below (closed_dims d) (whole_box (closed_dims d)) (length (closed_list (open_field d sdf) wall)) p (failed refl (closed-box d sdf wall ok.far))
      (failed refl (closed-length d sdf wall ok.far)) t)

  module _ (c : GridPoint) (is-cell : T (is_cell (whole_box (closed_dims d)) c)) (is-surface : T (surface_cell closed c)) where
    in-box : (i : ℕ) → i < 8 → T (in_box (whole_box (closed_dims d)) (corner_of c i))
    in-box i h = corner-in-box (whole_box (closed_dims d)) c i is-cell h

    cell : Cell (values closed c)
    cell = capped-cell (values closed c) refl (capped-corners closed (whole_box (closed_dims d)) c values32 fine is-cell)

    above : negative (wall_at far.exponent) ≡ false
    above = ap negative (sym far.power) ∙ not_negative wall (wall-above wall ok.far)

    deep-corner : (i : ℕ) → i < 8 → T (negative (corner (values closed c) i)) → Deep (wall_at far.exponent) (corner (values closed c) i)
    deep-corner i h n =
        let e = corner-value closed c i h in
        subst (Deep (wall_at far.exponent)) (sym e) (deep_is (corner_of c i) (in-box i h) (subst (λ (v : Float). T (negative v)) e n))

    shut-corner : (i : ℕ) → i < 8 → in_open d (corner_of c i) ≡ false → corner (values closed c) i ≡ wall_at far.exponent
    shut-corner i h e = corner-value closed c i h ∙ shut-is (corner_of c i) (in-box i h) e

    pub stands : Stands d closed c
    stands =
        record {
          low = λ a e. low-position far.exponent far.few (wall-held far.exponent far.few) above (values closed c) cell deep-corner a
              (λ i h s. shut-corner i h (beyond-low a d (corner_of c i) (corner-along a c i ∙ low_sum e s))) c e is-surface;
          high = λ a e. high-position far.exponent far.few (wall-held far.exponent far.few) above (values closed c) cell deep-corner a
              (λ i h s. shut-corner i h (beyond-high a d (corner_of c i) (le_trans (high_sum e s) (le_of_eq (sym (corner-along a c i)))))) c
              (le_trans (dimension-some a d (failed refl ok.dims)) (le_of_eq (sym e)))
              (le_trans (le_of_eq (ap (λ (n : ℕ). n + 1) e)) (dimension-few a d (failed refl ok.closable))) is-surface
              ∙ ap float e;
        }
      where
        low_sum : {m n : ℕ} → m ≡ 0 → n ≡ 0 → m + n ≡ 0
        low_sum e s = omega arith

        high_sum : {m n k : ℕ} → m ≡ k → n ≡ 1 → k < m + n
        high_sum e s = omega arith

  -- every vertex of the closed grid's whole box
  pub all-stand : All (Stands d closed) (vertices closed (whole_box (closed_dims d)))
  all-stand = all_then (λ c h. stands c h.0 h.1) (vertices-all closed (whole_box (closed_dims d)))
