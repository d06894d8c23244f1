-- `volume::sum::triangle` meets its contract: the determinant of the three corners, each from 0 to 2^15 steps. Assumes nothing.
use Prim.Native.Nat.{◌≤◌, ◌^◌}
use native.Mathlib.Omega.{arith}
use mathlib.Core.Path.{◌≡◌}
use lib.IntN.{nat_abs}
use mir.Syntax.{w64}
use mir.Val.{to_z, of_z}
use mir.Facts.{to_z-of_z}
use Rattle.volume.proofs.Bounds.{determinant-most, fits-64}
use Rattle.volume.proofs.Corners.{near_corner}
use Rattle.volume.proofs.sum.triangle.Goals as goal

pub returns-clause-result_bound : goal.returns-clause-result_bound
returns-clause-result_bound c =
    let r = c.requires in
    let h : nat_abs c.determinant.result ≤ 2 ^ 46 = rw (c.determinant.ensures, c.corner_at.ensures, c.corner_at-2.ensures, c.corner_at-3.ensures)
    (determinant-most _ _ _ (near_corner _ _ r.a_in_bounds r.positions_value) (near_corner _ _ r.b_in_bounds r.positions_value) (near_corner _ _ r.c_in_bounds r.positions_value)) in
    let e : to_z w64 (of_z w64 c.determinant.result) ≡ c.determinant.result = to_z-of_z {w = w64} (fits-64 c.determinant.result (omega arith)) in rw e h
