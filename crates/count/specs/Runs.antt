-- What the code counts in a row, from runs of distances: surface cells and edges with exactly one negative end; and how many edges of the row the box
-- owns. These follow the code and stand in no contract that another crate sees. Definitions only. Assumes nothing.
use Rattle.std.specs.Prelude.{ℕ, ◌-◌, Bool, not, ◌&&◌, ◌||◌, cond, List, ltb, eqb, Float}
use Rattle.std.specs.Float.Ieee.{unlike}
use Rattle.lists.specs.Lists.{many, run}
use Rattle.rules.specs.Grid.{Box}
use Rattle.rules.specs.Faces.{Flags}
use Rattle.grid.specs.Signs.{surface_at}
use Rattle.row_signs.specs.Signs.{negative_at, row_length}
use Rattle.count.specs.declared.OwnedEdges.{OwnedEdges}

abbrev pub surface_run : List Float → List Float → ℕ → ℕ → ℕ → ℕ
surface_run lower upper at row n = many (surface_at lower upper at row) (run n)

-- whether exactly one of two distances is negative: the j-th of the first list from p on, and the j-th of the second from q on
abbrev pub changes_at : List Float → ℕ → List Float → ℕ → ℕ → Bool
changes_at l p l' q j = unlike (negative_at l p j) (negative_at l' q j)

abbrev pub changes_run : List Float → ℕ → List Float → ℕ → ℕ → ℕ
changes_run l p l' q n = many (changes_at l p l' q) (run n)

-- of the row (y, z): its x edges but the last, which is owned with the max plane alone, and its y and z edges but the first, whose x is min
unfoldable pub owned_edges : Box → Flags → ℕ → ℕ → OwnedEdges
owned_edges b m y z =
    record {
      x = cond (ltb b.low.y y && ltb b.low.z z) (cond m.x (row_length b) (row_length b - 1)) 0;
      y = cond (ltb b.low.z z && (m.y || not (eqb y (b.high.y - 1)))) (row_length b - 1) 0;
      z = cond (ltb b.low.y y && (m.z || not (eqb z (b.high.z - 1)))) (row_length b - 1) 0;
    }
