-- A whole number with a sign in two words of 64 bits, as a machine keeps one of 128: `high_of z` times 2^64 and `low_of z`, which is from 0 to 2^64 - 1, are
-- together z. Definitions only. Assumes nothing.
use Rattle.std.specs.Prelude.{ℕ, ◌-◌, ◌/◌, ◌%◌, ◌^◌, ℤ, pos, negsuc, ◌+ℤ◌, ◌*ℤ◌}

-- `negsuc n` is -(n + 1)
unfoldable pub high_of : ℤ → ℤ
high_of (pos n) = pos (n / 2 ^ 64)
high_of (negsuc n) = negsuc (n / 2 ^ 64)

unfoldable pub low_of : ℤ → ℕ
low_of (pos n) = n % 2 ^ 64
low_of (negsuc n) = 2 ^ 64 - 1 - n % 2 ^ 64

-- the whole number that two words make
abbrev pub words_as : ℤ → ℕ → ℤ
words_as high low = high *ℤ pos (2 ^ 64) +ℤ pos low
