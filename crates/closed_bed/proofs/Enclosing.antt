-- Every closed grid is enclosed in its whole box: what is negative there is a point of the open grid, and these lie "from min + 1 to max - 2 on each axis"
-- (document 02, request 8). So the test says yes. Assumes nothing.
use Prim.Native.Nat.{ℕ, ◌*◌, ◌≤◌}
use native.Mathlib.Nat.{zero-mul}
use native.Mathlib.Omega.{arith}
use mathlib.Core.Bool.{Bool, true, false, not, ◌&&◌, cond, true≢false}
use mathlib.Core.List.{List}
use mathlib.Core.Path.{◌≡◌, refl, sym, ap, subst, ◌∙◌}
use borrow.Author.Tests.{eq-eqb, le-ltb}
use lib.Dec.{T, leb, leb→le}
use lib.IntN.{pos}
use lib.Ieee.{Float, nan, inf, fin, lt, up, down}
use lib.Ieee.Bits.{is_true}
use lib.Ieee.Fits.{and_l, and_r}
use lib.ListN.{length}
use Rattle.lists.proofs.Tests.{is-test}
use Rattle.rules.specs.Grid.{GridPoint, axis_x, axis_y, axis_z, between}
use Rattle.rules.specs.Cell.{zero32, negative}
use Rattle.rules.specs.Call.{bad_box, bad_length}
use Rattle.rules.proofs.Indexes.{not-bad-box}
use Rattle.skin.specs.Enclosed.{Inner, Enclosed, enclosed}
use Rattle.skin.specs.Scan.{answers, judged}
use Rattle.skin.proofs.Premise.{enclosed-if}
use Rattle.closing.specs.Closed.{closed_dims, point_count, in_open, open_field, closed_value, closed_list}
use Rattle.closing.specs.Answers.{bad_wall, bad_closed}
use Rattle.closed_bed.specs.Standing.{whole_box}
use Rattle.closed_bed.proofs.Values.{closed-long, closed-point, value-wall, wall-above}

-- ---- what is above zero is not below it

pub not_negative : (w : Float) → lt zero32 w ≡ true → negative w ≡ false
unfolding lt
not_negative nan h = absurd (true≢false (sym h))
not_negative (inf true) h = absurd (true≢false (sym h))
not_negative (inf false) h = refl
not_negative (fin true m e) h = absurd (true≢false (sym h))
not_negative (fin false m e) h = le-ltb (m * up e * down (pos 0)) (0 * up (pos 0) * down e) (omega (arith, zero-mul (down e)))

-- ---- on one axis

pub open-side : (n k : ℕ) → T (between 1 n k) → (1 ≤ k) × (k ≤ n)
open-side n k t = (leb→le 1 k (and_l (leb 1 k) (leb k n) t), leb→le k n (and_r (leb 1 k) (leb k n) t))

-- a point of the open grid, on each axis
pub record OpenPoint (d p : GridPoint) : Type 0 where
  pub x : (1 ≤ p.x) × (p.x ≤ d.x)
  pub y : (1 ≤ p.y) × (p.y ≤ d.y)
  pub z : (1 ≤ p.z) × (p.z ≤ d.z)

pub open-point : (d p : GridPoint) → T (in_open d p) → OpenPoint d p
open-point d p t =
    let yz : T (between 1 d.y p.y && between 1 d.z p.z) = and_r (between 1 d.x p.x) (between 1 d.y p.y && between 1 d.z p.z) t in
    record {
      x = open-side d.x p.x (and_l (between 1 d.x p.x) (between 1 d.y p.y && between 1 d.z p.z) t);
      y = open-side d.y p.y (and_l (between 1 d.y p.y) (between 1 d.z p.z) yz);
      z = open-side d.z p.z (and_r (between 1 d.y p.y) (between 1 d.z p.z) yz);
    }

-- ---- the closed grid

module _ (d : GridPoint) (sdf : List Float) (wall : Float) (far : bad_wall wall ≡ false) where
  -- what is negative is a point of the open grid
  pub negative-open : (p : GridPoint) → T (negative (closed_value (open_field d sdf) wall p)) → T (in_open d p)
  negative-open p n = go (in_open d p) refl
    where
      go : (t : Bool) → in_open d p ≡ t → T (in_open d p)
      go true e = is-test (in_open d p) e
      go false e =
          absurd (true≢false
          (sym (is_true (negative (closed_value (open_field d sdf) wall p)) n) ∙ ap negative (value-wall (open_field d sdf) wall p e) ∙ not_negative wall (wall-above wall far)))

  pub closed-enclosed : Enclosed (open_field (closed_dims d) (closed_list (open_field d sdf) wall)) (whole_box (closed_dims d))
  closed-enclosed p i n = inside
    where
      open' : OpenPoint d p
      open' = open-point d p (negative-open p (subst (λ (v : Float). T (negative v)) (closed-point d sdf wall p i) n))

      inside : Inner (whole_box (closed_dims d)) p
      inside axis_x = let h = open'.x in (omega arith, omega arith)
      inside axis_y = let h = open'.y in (omega arith, omega arith)
      inside axis_z = let h = open'.z in (omega arith, omega arith)

  -- ---- the test's answer

  pub closed-box : bad_box (closed_dims d) (whole_box (closed_dims d)) ≡ false
  closed-box = unfailed (bad_box (closed_dims d) (whole_box (closed_dims d))) (not-bad-box (closed_dims d) (whole_box (closed_dims d)) (record { x = (omega arith, omega arith); y = (omega arith, omega arith); z = (omega arith, omega arith) }))
    where
      unfailed : (t : Bool) → T (not t) → t ≡ false
      unfailed true h = absurd h
      unfailed false h = refl

  pub closed-length : bad_length (closed_dims d) (length (closed_list (open_field d sdf) wall)) ≡ false
  unfolding bad_length
  closed-length = ap not (eq-eqb (length (closed_list (open_field d sdf) wall)) (point_count (closed_dims d)) (closed-long d sdf wall))

  pub closed-judged : bad_closed d ≡ false
      → judged (open_field (closed_dims d) (closed_list (open_field d sdf) wall)) (whole_box (closed_dims d)) (length (closed_list (open_field d sdf) wall)) ≡ answers 0 true
  unfolding judged
  closed-judged small =
      let yes' : enclosed (open_field (closed_dims d) (closed_list (open_field d sdf) wall)) (whole_box (closed_dims d)) ≡ true =
      is_true (enclosed (open_field (closed_dims d) (closed_list (open_field d sdf) wall)) (whole_box (closed_dims d))) (enclosed-if _ _ closed-enclosed) in
      λ j. cond (small j) (answers 1 false) (cond (closed-box j) (answers 2 false) (cond (closed-length j) (answers 3 false) (answers 0 (yes' j))))
