-- `volume::asked::past_in` meets its contract: the fold is the search. Assumes nothing.
use Rattle.std.proofs.Common.{◌||◌, false, ◌∙◌, rules, tests}
use Rattle.std.proofs.lemmas.Iterator.{YieldsList-from_slice}
use Rattle.std.proofs.lemmas.Iterator.Consumers.{fold_from_yields_List}
use Rattle.volume.specs.Steps.{is_past}
use Rattle.volume.proofs.Searching.{some_by_fold}
use Rattle.volume.proofs.asked.past_in.Goals as goal

pub returns : goal.returns
returns c =
    fold_from_yields_List _ (λ t x. t || is_past c.args.most x) false _ c.fold.ensures.ran (YieldsList-from_slice c.args.part.now cc) (λ t x r q k. search (rules, tests))
    ∙ some_by_fold (is_past c.args.most) c.args.part.now
