-- A row of wall, the rows, and two rows of wall. Assumes nothing.
use Prim.Native.Nat.{◌+◌, ◌*◌}
use mathlib.Core.Path.{refl}
use native.Mathlib.Omega.{arith}
use Rattle.closing.specs.Runs.{row_value}
use Rattle.closing.proofs.Borders.{border-stored}
use Rattle.closing.proofs.runs.close_plane.Goals as goal

pub returns : goal.returns
returns g c =
    let a = c.args in
    border-stored a.closed.now a.at (a.n + 3) a.m a.wall
    (λ y. row_value (g.D.Distance.floats a.layer.now) a.wall a.n (0 + a.n * y)) (omega arith)
    c.put_wall.ensures refl c.close_rows.ensures refl c.put_wall-2.ensures
