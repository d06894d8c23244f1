-- The mesher lets the closed grid pass where it lets the open one's distances pass: conditions 1 to 5 of document 01, for the whole boxes. Assumes nothing.
use Prim.Native.Nat.{ℕ, ◌≤◌}
use native.Mathlib.Nat.{le_trans, le_of_eq}
use native.Mathlib.Omega.{arith}
use mathlib.Core.Bool.{Bool, true, false, not}
use mathlib.Core.List.{List}
use mathlib.Core.Path.{◌≡◌, refl, sym, subst}
use borrow.Author.Tests.{le-ltb}
use lib.Dec.{T}
use lib.Ieee.{Float}
use lib.ListN.{length}
use Rattle.lists.proofs.Tests.{is-test, failed}
use Rattle.rules.specs.Grid.{GridPoint, in_box}
use Rattle.rules.specs.Call.{beyond, bad_distance}
use Rattle.rules.proofs.Indexes.{in-box}
use Rattle.rules.proofs.Accepted.{Accepted, distances-ok, ok-distances}
use Rattle.closing.specs.Closed.{closed_dims, point_count, in_open, open_point, open_field, closed_value, closed_list}
use Rattle.closing.specs.Answers.{bad_wall, bad_closed}
use Rattle.closed_bed.specs.Standing.{whole_box}
use Rattle.closed_bed.proofs.Values.{closed-long, closed-point, value-open, value-wall, wall-within}
use Rattle.closed_bed.proofs.Enclosing.{open-point, closed-box, closed-length}

module _ (d : GridPoint) (sdf : List Float) (wall : Float) (far : bad_wall wall ≡ false) where
  -- where the open grid has a point, it is one of its whole box
  in-open-box : (p : GridPoint) → T (in_open d p) → T (in_box (whole_box d) (open_point p))
  in-open-box p t =
      let o = open-point d p t in
      in-box (whole_box d) (open_point p) (record { x = (omega arith, omega arith); y = (omega arith, omega arith); z = (omega arith, omega arith) })

  -- condition 5
  pub closed-distances : T (not (bad_distance (open_field d sdf) (whole_box d)))
      → T (not (bad_distance (open_field (closed_dims d) (closed_list (open_field d sdf) wall)) (whole_box (closed_dims d))))
  closed-distances fine =
      ok-distances (open_field (closed_dims d) (closed_list (open_field d sdf) wall)) (whole_box (closed_dims d))
      (λ p i. subst (λ (v : Float). T (not (beyond v))) (sym (closed-point d sdf wall p i)) (at p (in_open d p) refl))
    where
      at : (p : GridPoint) (t : Bool) → in_open d p ≡ t → T (not (beyond (closed_value (open_field d sdf) wall p)))
      at p true e =
          subst (λ (v : Float). T (not (beyond v))) (sym (value-open (open_field d sdf) wall p e))
          (distances-ok (open_field d sdf) (whole_box d) fine (open_point p) (in-open-box p (is-test (in_open d p) e)))
      at p false e = subst (λ (v : Float). T (not (beyond v))) (sym (value-wall (open_field d sdf) wall p e)) (failed refl (wall-within wall far))

  -- conditions 1 to 5
  pub closed-passes : bad_closed d ≡ false → T (not (bad_distance (open_field d sdf) (whole_box d))) → (entries : ℕ) → point_count (closed_dims d) ≤ entries
      → Accepted (open_field (closed_dims d) (closed_list (open_field d sdf) wall)) (length (closed_list (open_field d sdf) wall)) entries (whole_box (closed_dims d))
  closed-passes small fine entries h =
      record {
        dims = failed refl small;
        box = failed refl (closed-box d sdf wall far);
        length = failed refl (closed-length d sdf wall far);
        map = failed refl (le-ltb entries (length (closed_list (open_field d sdf) wall)) (le_trans (le_of_eq (closed-long d sdf wall)) h));
        distance = closed-distances fine;
      }
