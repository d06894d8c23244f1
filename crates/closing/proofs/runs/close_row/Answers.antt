-- Wall, the distances, and wall. Assumes nothing.
use Rattle.std.proofs.Common.{◌+◌, ℕ, length, refl, sym, ap, ◌∙◌}
use lib.Ieee.{nan}
use lib.ListN.{get_or}
use lib.Seq.{sets}
use Rattle.grid.proofs.Places.{as-long}
use Rattle.closing.proofs.Spread.{spread-list}
use Rattle.closing.proofs.Borders.{row-stored}
use Rattle.closing.proofs.runs.close_row.Goals as goal

pub returns : goal.returns
returns g c =
    let a = c.args in
    let row = g.D.Distance.floats a.row.now in
    row-stored a.closed.now a.at (length row) a.wall
    (λ x. get_or row (0 + x) nan)
    c.put_wall.ensures refl (c.copy_run.ensures ∙ ap (sets c.put_wall.new.closed (a.at + 1)) (spread-list row))
    (ap (λ (n : ℕ). a.at + 1 + n) (sym (as-long g.met.D.Distance.floats_are a.row.now))) c.put_wall-2.ensures
