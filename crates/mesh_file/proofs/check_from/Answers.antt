-- `mesh_file::check_from` meets its contract. A place past the end leaves nothing, which is a cut file; the part of the slice from the place on is
-- the list without what stands before it.
-- Assumes nothing.
use Rattle.std.proofs.Common.{sym, ap}
use Rattle.mesh_file.proofs.Progressing.{past_end}
use Rattle.mesh_file.specs.Reading.{checked}
use Rattle.mesh_file.proofs.check_from.Goals as goal

pub returns-then-src-at : goal.returns-then-src-at
returns-then-src-at c = ap checked (sym (past_end _ _ c.if-src-at.true))
