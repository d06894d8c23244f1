-- The version of the library and of include/bed.h, 0.2.0, as one number: major * 65536 + minor * 256 + patch. Definitions only. Assumes nothing.
use Rattle.std.specs.Prelude.{ℕ, ◌+◌, ◌*◌}

abbrev pub version : ℕ
version = 0 * 65536 + 2 * 256 + 0
