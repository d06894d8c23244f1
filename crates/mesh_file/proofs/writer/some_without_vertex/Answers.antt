-- `mesh_file::writer::some_without_vertex` meets its contract. The chain's search is the definition's. Assumes nothing.
use Rattle.std.proofs.Common.{rules, tests, ◌∙◌}
use Rattle.std.proofs.lemmas.Iterator.{YieldsList-from_slice}
use Rattle.std.proofs.lemmas.Iterator.Search.{any_from_yields_List}
use Rattle.mesh_file.specs.Writing.{no_vertex}
use Rattle.mesh_file.proofs.Searching.{any-some}
use Rattle.mesh_file.proofs.writer.some_without_vertex.Goals as goal

pub returns : goal.returns
returns c =
    let p = no_vertex c.args.vertices in
    any_from_yields_List p _ _ c.any.result c.any.ensures.ran (YieldsList-from_slice c.args.indices.now (cc)) (λ x b q k. search (rules, tests))
    ∙ any-some p c.args.indices.now
