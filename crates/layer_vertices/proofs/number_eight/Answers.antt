-- Where none is marked nothing changes; else one by one. Assumes nothing.
use mathlib.Core.Path.{sym, ◌∙◌}
use Rattle.layer_vertices.proofs.Numbering.{eight-left}
use Rattle.layer_vertices.proofs.number_eight.Goals as goal

pub returns-then-none_of : goal.returns-then-none_of
returns-then-none_of c = eight-left c.requires.numbering (sym c.none_of.ensures ∙ c.if-none_of.true)
