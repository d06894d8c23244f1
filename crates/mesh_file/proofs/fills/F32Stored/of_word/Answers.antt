-- The float of a word: a finite float's word is no not-a-number's, so the float is defined. Assumes nothing.
use Rattle.mesh_record.proofs.OneWord.{finite-has-bits}
use Rattle.mesh_file.proofs.fills.F32Stored.of_word.Goals as goal

pub float_from_bits-result : goal.float_from_bits-result
float_from_bits-result c = finite-has-bits _ c.requires
