-- What the inner functions say of themselves: a run of numbers stored one behind the other, and a border around it on one axis. Definitions only.
-- Assumes nothing.
use Rattle.std.specs.Prelude.{ℕ, ◌+◌, ◌-◌, ◌*◌, ◌/◌, ◌%◌, cond, List, map, Float, get_or}
use Rattle.std.specs.Float.{nan}
use Rattle.lists.specs.Lists.{run}
use Rattle.rules.specs.Grid.{between}

-- the numbers f 0, f 1, .. f (n - 1)
unfoldable pub spread : (ℕ → Float) → ℕ → List Float
spread f n = map f (run n)

-- what stands at k of a border around n things: one before, two behind
abbrev pub bordered : ℕ → Float → (ℕ → Float) → ℕ → Float
bordered n wall f k = cond (between 1 n k) (f (k - 1)) wall

-- a row of n distances from `from` on, in its border
abbrev pub row_value : List Float → Float → ℕ → ℕ → ℕ → Float
row_value grid wall n from i = bordered n wall (λ x. get_or grid (from + x) nan) i

-- rows of n distances one behind the other, each in its border
abbrev pub rows_value : List Float → Float → ℕ → ℕ → ℕ → Float
rows_value grid wall n from i = row_value grid wall n (from + n * (i / (n + 3))) (i % (n + 3))

-- a layer of m such rows, in its border
abbrev pub layer_value : List Float → Float → ℕ → ℕ → ℕ → ℕ → Float
layer_value grid wall n m from i = bordered m wall (λ y. row_value grid wall n (from + n * y) (i % (n + 3))) (i / (n + 3))

-- layers of n by m distances one behind the other, each in its border
abbrev pub layers_value : List Float → Float → ℕ → ℕ → ℕ → Float
layers_value grid wall n m i = layer_value grid wall n m (n * m * (i / ((n + 3) * (m + 3)))) (i % ((n + 3) * (m + 3)))

-- l of them, in their border
abbrev pub grid_value : List Float → Float → ℕ → ℕ → ℕ → ℕ → Float
grid_value grid wall n m l i =
    bordered l wall (λ z. layer_value grid wall n m (n * m * z) (i % ((n + 3) * (m + 3)))) (i / ((n + 3) * (m + 3)))
