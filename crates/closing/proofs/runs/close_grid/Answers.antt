-- A layer of wall, the layers, and two layers of wall. Assumes nothing.
use Prim.Native.Nat.{ℕ, ◌+◌, ◌*◌}
use mathlib.Core.Path.{sym, ap}
use native.Mathlib.Nat.{mul-pos, zero-add}
use native.Mathlib.Omega.{arith}
use Rattle.closing.specs.Runs.{layer_value}
use Rattle.closing.proofs.Borders.{border-stored}
use Rattle.closing.proofs.runs.close_grid.Given.{Over}
use Rattle.closing.proofs.runs.close_grid.Goals as goal
use Rattle.closing.proofs.runs.close_grid.Goals.{Start}

abbrev plane-of : (g : Over) → Start g → ℕ
plane-of g c = let a = c.args in (a.n + 3) * (a.m + 3)

pub returns : goal.returns
returns g c =
    let a = c.args in
    border-stored a.closed.now 0 (plane-of g (goal.at.returns g c).Start) a.l a.wall
    (λ z. layer_value (g.D.Distance.floats a.sdf.now) a.wall a.n a.m (a.n * a.m * z)) (mul-pos (omega arith) (omega arith))
    c.put_wall.ensures (sym (zero-add (plane-of g (goal.at.returns g c).Start))) c.close_planes.ensures (ap (λ (k : ℕ). k + plane-of g (goal.at.returns g c).Start * a.l) (sym (zero-add (plane-of g (goal.at.returns g c).Start)))) c.put_wall-2.ensures
