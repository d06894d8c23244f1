-- `marks::map_kept` meets its contract: its loop passes the places that are kept (Kept), those of cells being skipped. Assumes nothing.
use Rattle.std.proofs.Common.{inl, inr, rules, sym, ◌∙◌, eq-eqb, ne_eqb}
use Rattle.grid.specs.Block.{point, box_of}
use Rattle.marks.proofs.Cells.{cell-here}
use Rattle.marks.proofs.Kept.{pass-more, kept-not, kept-all}
use Rattle.marks.proofs.map_kept.Goals as goal
use Rattle.marks.proofs.map_kept.Goals.{else-not-is_inside-via-then-not-is_inside+else-entry-unless_inside, else-not-is_inside-via-else-not-is_inside}

pub returns-then-entry-unless_inside : goal.returns-then-entry-unless_inside
returns-then-entry-unless_inside c =
    let k = c.args.k in
    kept-not _ _ _ c.loop-j.invariant (search rules) 0
    (sym (c.is_inside.ensures ∙ cell-here (point k.dims) (box_of k) c.loop-j.j) ∙ c.if-not-is_inside.true)
    (ne_eqb _ _ (λ e. c.if-entry-unless_inside.true (e ∙ sym c.unless_inside.ensures)))

pub loop-j-preserved : goal.loop-j-preserved
loop-j-preserved c =
    let k = c.args.k in
    pass-more _ _ _ c.loop-j.invariant (search rules) c.next-mark.ensures 0
    (elim c.else-not-is_inside.branch [
      | else-not-is_inside-via-then-not-is_inside+else-entry-unless_inside w ↦ inl (eq-eqb _ _ (w.if-entry-unless_inside.false ∙ w.unless_inside.ensures))
      | else-not-is_inside-via-else-not-is_inside w ↦
          inr (sym (c.is_inside.ensures ∙ cell-here (point k.dims) (box_of k) c.loop-j.j) ∙ w.if-not-is_inside.false)
    ])

pub returns : goal.returns
returns c = kept-all _ _ _ c.loop-j.invariant (search rules)
