-- Where the two rows of points are kept their codes class the cells as the distances would; else the distances do. Assumes nothing.
use native.Mathlib.Omega.{arith}
use mathlib.Core.Path.{ap, ◌∙◌}
use lib.Seq.{sets}
use Rattle.row_signs.specs.Signs.{row_start}
use Rattle.row_signs.proofs.Keeping.{kept_small}
use Rattle.layer_vertices.proofs.Rows.{classed-alike}
use Rattle.layer_vertices.proofs.class_points.Goals as goal

pub class_codes-requires-clause-small_from : goal.class_codes-requires-clause-small_from
class_codes-requires-clause-small_from g c =
    let near = c.requires.kept in
    let far = c.requires.kept_2 in
    let rooms = c.requires.here_in_bounds in
    let n = c.if-n-lt1024.true in (kept_small (omega arith) rooms.0 near, kept_small (omega arith) rooms.1 far)

pub returns-then-n-lt1024 : goal.returns-then-n-lt1024
returns-then-n-lt1024 g c =
    let a = c.args in
    let n = c.if-n-lt1024.true in
    c.class_codes.ensures ∙ ap (sets a.map.now (row_start a.k a.y)) (classed-alike (omega arith) c.requires.kept c.requires.kept_2)
