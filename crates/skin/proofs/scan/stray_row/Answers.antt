-- Where the row lies inside, its two ends; and else the whole of it. Assumes nothing.
use Prim.Native.Nat.{◌≤◌}
use native.Mathlib.Omega.{arith}
use mathlib.Core.Path.{sym, ◌∙◌}
use Rattle.grid.specs.Block.{box_of, field_of}
use Rattle.grid.proofs.Bounds.{fits}
use Rattle.grid.proofs.Walks.{end_fits, point-spans}
use Rattle.skin.proofs.Scans.{row-whole, row_ends}
use Rattle.skin.proofs.scan.stray_row.Given.{Over}
use Rattle.skin.proofs.scan.stray_row.Goals as goal
use Rattle.skin.proofs.scan.stray_row.Goals.{Start}

order : (g : Over) (c : Start g) → c.args.f.low.x ≤ c.args.f.high.x
order g c = (fits (g.D.Distance.floats c.args.sdf.now) c.args.f c.requires.inside).x.0

pub overflow_sub-last : goal.overflow_sub-last
overflow_sub-last g c = order g (goal.at.overflow_sub-last g c).Start

pub overflow_add-last : goal.overflow_add-last
overflow_add-last g c = end_fits (point-spans c.requires.inside).x

pub stray_part-requires-clause-x_le_from : goal.stray_part-requires-clause-x_le_from
stray_part-requires-clause-x_le_from g c =
    let o = order g (goal.at.stray_part-requires-clause-x_le_from g c).Start in (omega arith, omega arith, omega arith)

pub returns-then-not-is_middle : goal.returns-then-not-is_middle
returns-then-not-is_middle g c =
    let a = c.args in
    row-whole (field_of (g.D.Distance.floats a.sdf.now) a.f) (box_of a.f) (box_of a.k) a.place a.z a.y c.requires.x_value c.stray_part.ensures

pub overflow_add-last-2 : goal.overflow_add-last-2
overflow_add-last-2 g c = end_fits (point-spans c.requires.inside).x

pub returns : goal.returns
returns g c =
    let a = c.args in
    row_ends (field_of (g.D.Distance.floats a.sdf.now) a.f) (box_of a.f) (box_of a.k) a.place a.z a.y c.requires.x_value
    (sym c.is_middle.ensures ∙ c.if-not-is_middle.false) c.stray_part-first.ensures c.stray_part-rest.ensures c.either.ensures
