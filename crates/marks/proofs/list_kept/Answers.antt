-- `marks::list_kept` meets its contract: its loop passes the places that are kept (Kept). Assumes nothing.
use Rattle.std.proofs.Common.{◌≡◌, ℕ, true, false, eqb, inl, inr, rules, sym, ap, ◌∙◌, le-ltb, lt-ltb, eq-eqb, ne_eqb}
use Rattle.marks.proofs.Kept.{pass-more, kept-not, kept-all}
use Rattle.marks.proofs.list_kept.Goals as goal
use Rattle.marks.proofs.list_kept.Goals.{else-from-j-via-then-from-j+else-bits, else-from-j-via-else-from-j}

-- two are compared by their bits: x, which stands in the list as y, and the mark m
module _ {A : Type 0} (bits : A → ℕ) {x y m : A} {a b : ℕ} (there : x ≡ y) (of : a ≡ bits x) (mark : b ≡ bits m) where
  unlike : (a ≡ b → ⊥) → eqb (bits y) (bits m) ≡ false
  unlike n = ne_eqb _ _ (λ s. n (of ∙ ap bits there ∙ s ∙ sym mark))

  alike : a ≡ b → eqb (bits y) (bits m) ≡ true
  alike e = eq-eqb _ _ (sym (of ∙ ap bits there) ∙ e ∙ mark)

pub returns-then-bits : goal.returns-then-bits
returns-then-bits g c =
    kept-not _ _ _ c.loop-j.invariant (search rules) c.index-list-j.result (le-ltb c.loop-j.j c.args.from (search rules))
    (unlike g.M.Mark.bits c.index-list-j.is c.bits.ensures c.bits-then-from-j.ensures c.if-bits.true)

pub loop-j-preserved : goal.loop-j-preserved
loop-j-preserved g c =
    pass-more _ _ _ c.loop-j.invariant (search rules) c.next-mark.ensures c.index-list-j.result
    (elim c.else-from-j.branch [
      | else-from-j-via-then-from-j+else-bits w ↦ inl (alike g.M.Mark.bits c.index-list-j.is w.bits.ensures w.bits-then-from-j.ensures w.if-bits.false)
      | else-from-j-via-else-from-j w ↦ inr (lt-ltb _ _ w.if-from-j.false)
    ])

pub returns : goal.returns
returns g c = kept-all _ _ _ c.loop-j.invariant (search rules)
