-- All numbers are copied. Assumes nothing.
use Rattle.std.proofs.Common.{◌≡◌, List, [], ◌∷◌, ◌++◌, length, take, arith, sym, ap, ◌∙◌, ℕ}
use Rattle.std.proofs.lemmas.List.{take_more, take_more_set}
use lib.Ieee.{Float, nan}
use lib.ListN.{get_or}
use lib.Seq.{take-length}
use Rattle.layers.proofs.keeping.copy.Goals as goal

pub loop-i-preserved : goal.loop-i-preserved
loop-i-preserved c =
    let w = c.loop-i in
    let from = c.args.from.now in (
      omega (arith, c.loop-i-test.true),
      take_more_set w.to w.i (get_or from w.i nan) (omega (arith, c.loop-i-test.true, c.requires, w.auto.to))
          ∙ ap (λ (l : List Float). l ++ get_or from w.i nan ∷ []) w.invariant.1
          ∙ sym (take_more from w.i nan c.loop-i-test.true),
    )

pub returns : goal.returns
returns c =
    let w = c.loop-i in
    let from = c.args.from.now in
    let all : w.i ≡ length from = omega (arith, c.loop-i-test.false, w.invariant.0) in
    let long : length w.to ≡ w.i = omega (arith, all, c.requires, w.auto.to) in
    sym (take-length w.to) ∙ ap (λ (n : ℕ). take n w.to) long ∙ w.invariant.1 ∙ ap (λ (n : ℕ). take n from) all ∙ take-length from
