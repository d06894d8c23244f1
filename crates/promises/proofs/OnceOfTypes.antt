-- Document 01, "What a claim has to settle", as in Once, of the public functions of marks and stores over any type: one outcome alone fits the contract, whatever
-- the type of the numbers is. Assumes nothing.
use mathlib.Core.Path.{sym, ◌∙◌}
use mir.Syntax.{Dict}
use denote.RattleType.{RattleType}
use denote.Param.Laws.{Laws, IsCopy}
use Rattle.std.specs.declared.clone.Clone as clone
use Rattle.marks.specs.declared.Mark as mark
use Rattle.promises.proofs.OneOutcome.{OneOutcome}
use Rattle.marks.proofs.fill.Kinds as fill-kinds
use Rattle.marks.proofs.fill.Reads as fill
use Rattle.marks.proofs.list_kept.Kinds as list-kept-kinds
use Rattle.marks.proofs.list_kept.Reads as list_kept
use Rattle.marks.proofs.stored.begins_with.Kinds as begins-with-kinds
use Rattle.marks.proofs.stored.begins_with.Reads as begins_with
use Rattle.stores.proofs.put_three.Kinds as put-three-kinds
use Rattle.stores.proofs.put_three.Reads as put_three
use Rattle.stores.proofs.put_six.Kinds as put-six-kinds
use Rattle.stores.proofs.put_six.Reads as put_six

-- ---- the marks of the test programs

module _ (M : RattleType) (L : Laws M) (C : IsCopy M) (G : mark.Ghosts M.Denot) (D : Dict) (K : clone.Ghosts M.Denot) (E : Dict) where
  pub fill-once : OneOutcome 2 (fill-kinds.ps M L C) (fill-kinds.r M L C) (fill.Learnt M L C G D K E)
  fill-once κs a o o' l l' = let s = l ∙ sym l' in λ i. record { result = tt; last = (s i, (tt, tt)) }

  pub list-kept-once : OneOutcome 2 (list-kept-kinds.ps M L C) (list-kept-kinds.r M L C) (list_kept.Learnt M L C G D K E)
  list-kept-once κs a o o' l l' = let s = l ∙ sym l' in λ i. record { result = s i; last = o.last }

  -- of a type that has a value
  pub begins-with-once : M.Denot → OneOutcome 3 (begins-with-kinds.ps M L C) (begins-with-kinds.r M L C) (begins_with.Learnt M L C G D K E)
  begins-with-once x κs a o o' l l' = let s = l x ∙ sym (l' x) in λ i. record { result = s i; last = o.last }

-- ---- a few numbers in a row

module _ (T : RattleType) (L : Laws T) (C : IsCopy T) (K : clone.Ghosts T.Denot) (E : Dict) where
  pub put-three-once : OneOutcome 2 (put-three-kinds.ps T L C) (put-three-kinds.r T L C) (put_three.Learnt T L C K E)
  put-three-once κs a o o' l l' = let s = l ∙ sym l' in λ i. record { result = tt; last = (s i, (tt, (tt, (tt, (tt, tt))))) }

  pub put-six-once : OneOutcome 2 (put-six-kinds.ps T L C) (put-six-kinds.r T L C) (put_six.Learnt T L C K E)
  put-six-once κs a o o' l l' = let s = l ∙ sym l' in λ i. record { result = tt; last = (s i, (tt, (tt, (tt, (tt, (tt, (tt, (tt, tt)))))))) }
