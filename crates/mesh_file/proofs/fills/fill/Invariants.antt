-- `mesh_file::fills::fill` meets its contract. After k turns the first k triples are laid over the list. Assumes nothing.
use Rattle.std.proofs.Common.{◌≡◌, ◌+◌, ◌*◌}
use Rattle.mesh_file.specs.Record.{each, laid}
use Rattle.mesh_file.specs.Reading.{three_at}
use Rattle.mesh_file.proofs.fills.fill.Given as goal

abbrev pub invariant-loop-k : goal.invariant-loop-k
invariant-loop-k g l = l.out ≡ laid (each (λ i. three_at g.S.Stored.of_word l.file (32 * i + l.first)) l.k) 0 l.initial.out
