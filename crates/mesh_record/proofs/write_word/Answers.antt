-- `mesh_record::write_word` meets its contract. The four bytes, the lowest first, are the definition's. Assumes nothing.
use Rattle.std.proofs.Common.{◌≡◌, ◌+◌, ◌-◌, length, arith}
use Rattle.mesh_record.specs.Record.{bytes_of}
use Rattle.mesh_record.proofs.Laying.{mid-laid}
use Rattle.mesh_record.proofs.write_word.Goals as goal

pub returns : goal.returns
unfolding bytes_of
returns c =
    let a = c.args in
    let n : a.at + 4 - a.at ≡ length (bytes_of a.word) = omega arith in
    rw (c.copy_from_slice.ensures.after, c.to_le_bytes.ensures) (mid-laid a.at (a.at + 4 - a.at) (bytes_of a.word) a.file.now n)
