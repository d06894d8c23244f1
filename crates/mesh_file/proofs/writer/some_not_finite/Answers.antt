-- `mesh_file::writer::some_not_finite` meets its contract. The chain's search is the definition's. Assumes nothing.
use Rattle.std.proofs.Common.{rules, tests, ◌∙◌}
use Rattle.std.proofs.lemmas.Iterator.{YieldsList-from_slice}
use Rattle.std.proofs.lemmas.Iterator.Search.{any_from_yields_List}
use Rattle.mesh_file.specs.Writing.{not_finite}
use Rattle.mesh_file.proofs.Searching.{any-some}
use Rattle.mesh_file.proofs.writer.some_not_finite.Goals as goal

pub returns : goal.returns
returns c =
    any_from_yields_List not_finite _ _ c.any.result c.any.ensures.ran (YieldsList-from_slice c.args.xs.now (cc)) (λ x b q k. search (rules, tests))
    ∙ any-some not_finite c.args.xs.now
