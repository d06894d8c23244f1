-- `mesh_file::writer::bits_at` meets its contract. A finite float is no not-a-number, so its bits are defined.
-- Assumes nothing.
use Rattle.mesh_record.proofs.OneWord.{finite-is-number}
use Rattle.mesh_file.proofs.writer.bits_at.Goals as goal

pub float_to_bits-result : goal.float_to_bits-result
float_to_bits-result c = finite-is-number _ c.requires.t
