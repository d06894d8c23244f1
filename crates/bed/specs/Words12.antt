-- Dimensions, box and max plane as twelve words of 32 bits, which include/bed.h calls a `bed_box`: words 0 to 2 are the dimensions, 3 to 5 min, 6 to 8 max and
-- 9 to 11 the max plane, each in the order x, y, z; a flag is set by any word but 0. Definitions only. Assumes nothing.
use Rattle.std.specs.Prelude.{ℕ, Bool, not, List, eqb, get_or}
use Rattle.grid.specs.declared.Extent.{Extent}
use Rattle.grid.specs.declared.EachAxis.{EachAxis}
use Rattle.grid.specs.declared.Block.{Block}

-- the words at three places
abbrev pub words_from : List ℕ → ℕ → ℕ → ℕ → Extent
words_from words x y z = record { x = get_or words x 0; y = get_or words y 0; z = get_or words z 0 }

abbrev pub dims_asked : List ℕ → Extent
dims_asked words = words_from words 0 1 2

abbrev pub low_asked : List ℕ → Extent
low_asked words = words_from words 3 4 5

abbrev pub high_asked : List ℕ → Extent
high_asked words = words_from words 6 7 8

abbrev pub is_set : List ℕ → ℕ → Bool
is_set words i = not (eqb (get_or words i 0) 0)

abbrev pub planes_asked : List ℕ → EachAxis
planes_asked words = record { x = is_set words 9; y = is_set words 10; z = is_set words 11 }

abbrev pub block_words : List ℕ → Block
block_words words =
    record { dims = dims_asked words; low = low_asked words; high = high_asked words; max_plane = planes_asked words }
