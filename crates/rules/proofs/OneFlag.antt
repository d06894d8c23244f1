-- Document 02, request 4: "All three set, or none, give document 01's two cases." Document 01's rule with its one yes/no, and that ownership by three
-- flags alike is that rule, for every box and edge. Assumes nothing.
use Prim.Native.Nat.{◌-◌}
use mathlib.Core.Bool.{Bool, ◌&&◌, ◌||◌, not}
use mathlib.Core.Path.{◌≡◌, refl, ap}
use lib.Dec.{eqb}
use Rattle.rules.specs.Grid.{Axis, axis_x, axis_y, axis_z, Box, is_cell, along}
use Rattle.rules.specs.Faces.{Edge, all_three, flag, axis_b, axis_c, above_low, owned}

-- "An edge is owned if p1 is the lowest corner of a cell of the box, is above min on B and C and, unless max plane, p1's coordinate along the edge is
-- not max - 1."
abbrev pub owned_by_one : Box → Bool → Edge → Bool
owned_by_one b plane e =
    is_cell b e.from
    && (above_low (axis_b e.axis) b e.from
    && (above_low (axis_c e.axis) b e.from && (plane || not (eqb (along e.axis e.from) (along e.axis b.high - 1)))))

flag-alike : (a : Axis) (plane : Bool) → flag a (all_three plane) ≡ plane
flag-alike axis_x plane = refl
flag-alike axis_y plane = refl
flag-alike axis_z plane = refl

pub all-or-none : (b : Box) (plane : Bool) (e : Edge) → owned b (all_three plane) e ≡ owned_by_one b plane e
unfolding owned
all-or-none b plane e =
    ap
    (λ (f : Bool).
    is_cell b e.from
    && (above_low (axis_b e.axis) b e.from
    && (above_low (axis_c e.axis) b e.from && (f || not (eqb (along e.axis e.from) (along e.axis b.high - 1))))))
    (flag-alike e.axis plane)
