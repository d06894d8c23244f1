-- A pattern whose magnitude is at most that of infinity is no not-a-number's. Assumes nothing.
use Rattle.std.proofs.lemmas.Float.{not_nan_f32_bits}
use Rattle.replay.proofs.list.distance.Goals as goal

pub float_from_bits-result : goal.float_from_bits-result
float_from_bits-result c = not_nan_f32_bits c.args.bits c.if-bits-gt2139095040.false
