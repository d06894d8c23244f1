-- `mesh_record::finite_bits` meets its contract. The exponent's field says whether the float is finite (`field-finite`).
-- Assumes nothing.
use Rattle.mesh_record.proofs.OneWord.{field-finite}
use Rattle.mesh_record.proofs.finite_bits.Goals as goal

pub returns : goal.returns
returns c = field-finite c.args.word
