-- The columns of a box, x innermost, and the level of each: of the whole grid, and after one more layer of X·Y distances. Definitions only.
-- Assumes nothing.
use Rattle.std.specs.Prelude.{ℕ, ◌+◌, ◌-◌, ◌*◌, ◌/◌, ◌%◌, cond, List, ◌==◌, slice_index_or, Float}
use Rattle.std.specs.Float.{nan}
use Rattle.lists.specs.Lists.{placed, below}
use Rattle.rules.specs.Grid.{GridPoint, Box, Field, value}
use Rattle.grid.specs.Layers.{in_layer}
use Rattle.levels.specs.Column.{first_level, level_step, level_up_to}

-- how many points the box has in x, both corners counted, and how many columns
abbrev pub across : Box → ℕ
across b = b.high.x + 1 - b.low.x

abbrev pub columns : Box → ℕ
columns b = (b.high.y + 1 - b.low.y) * across b

-- the point at height z of the column number j, counted with x innermost
abbrev pub in_column : Box → ℕ → ℕ → GridPoint
in_column b j z = record { x = b.low.x + j % across b; y = b.low.y + j / across b; z = z }

-- the level of the column number j, over all of the box's points in it
unfoldable pub level_of : Field → Box → ℕ → Float
level_of g b j = level_up_to (λ (z : ℕ). value g (in_column b j z)) b.low.z (b.high.z - b.low.z)

-- the same after the layer z, by the layer below it, which is not read at min z, and the level before
unfoldable pub layer_level : GridPoint → Box → List Float → List Float → ℕ → ℕ → Float → Float
layer_level d b lower upper z j old =
    cond (z == b.low.z) (first_level z (slice_index_or upper (in_layer d (in_column b j z)) nan))
    (level_step z (slice_index_or lower (in_layer d (in_column b j z)) nan) (slice_index_or upper (in_layer d (in_column b j z)) nan) old)

-- a list with its numbers at the places from `from` up to `to` changed, each by its place and itself, and the others kept
unfoldable pub changed : (ℕ → Float → Float) → ℕ → ℕ → List Float → List Float
changed f from to l = placed (λ j old. cond (below from to j) (f j old) old) 0 l
