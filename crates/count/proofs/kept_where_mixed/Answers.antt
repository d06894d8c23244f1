-- The two branches are the two cases of the row's count. Assumes nothing.
use mathlib.Core.Path.{sym, ◌∙◌}
use Rattle.count.proofs.Kept.{nothing-kept, mixed-kept}
use Rattle.count.proofs.kept_where_mixed.Goals as goal

pub returns-then-one_sign : goal.returns-then-one_sign
returns-then-one_sign c =
    let a = c.args in
    nothing-kept a.codes.now a.here a.there a.k a.y a.z a.negative_points (sym c.one_sign.ensures ∙ c.if-one_sign.true)

pub returns : goal.returns
returns c =
    let a = c.args in
    c.count_kept.ensures
    ∙ mixed-kept a.codes.now a.here a.there a.k a.y a.z a.negative_points (sym c.one_sign.ensures ∙ c.if-one_sign.false)
