-- `mesh_record::write_record` meets its contract. After k turns the first k words are laid over the file. Assumes nothing.
use Rattle.std.proofs.Common.{◌≡◌, take}
use Rattle.lists.specs.Lists.{joined}
use Rattle.mesh_record.specs.Record.{bytes_of, laid}
use Rattle.mesh_record.proofs.write_record.Given as goal

abbrev pub invariant-loop-k : goal.invariant-loop-k
invariant-loop-k l = l.file ≡ laid (joined bytes_of (take l.k l.word-items)) l.at l.initial.file
