-- What the code counts in a row from the codes of its points alone: the near points' codes stand in a list from one place on, the far ones' from another.
-- These follow the code and stand in no contract that another crate sees. Definitions only. Assumes nothing.
use Rattle.std.specs.Prelude.{ℕ, suc, ◌+◌, ◌-◌, ◌*◌, ◌%◌, ◌/◌, Bool, cond, List, eqb, get_or}
use Rattle.lists.specs.Lists.{one, many, run}
use Rattle.grid.specs.declared.Block.{Block}
use Rattle.grid.specs.Block.{box_of, flags_of}
use Rattle.row_signs.specs.Signs.{row_length, one_sign}
use Rattle.row_signs.specs.Codes.{four_codes, mixed_code}
use Rattle.count.specs.declared.OwnedEdges.{OwnedEdges}
use Rattle.count.specs.declared.CodeCounts.{CodeCounts}
use Rattle.count.specs.declared.Tally.{Tally}
use Rattle.count.specs.Runs.{owned_edges}

-- whether exactly one of two codes is odd, which is that of a negative lower point
abbrev pub one_odd : ℕ → ℕ → Bool
one_odd a b = eqb ((a + b) % 2) 1

-- of the j-th cell of a row: whether it is a surface cell, and whether its x, y and z edge has exactly one negative end
abbrev pub surface_code : List ℕ → ℕ → ℕ → ℕ → Bool
surface_code codes here there j = mixed_code (four_codes codes here there j)

abbrev pub x_code : List ℕ → ℕ → ℕ → Bool
x_code codes here j = one_odd (get_or codes (here + j) 0) (get_or codes (here + j + 1) 0)

abbrev pub y_code : List ℕ → ℕ → ℕ → ℕ → Bool
y_code codes here there j = one_odd (get_or codes (here + j) 0) (get_or codes (there + j) 0)

abbrev pub z_code : List ℕ → ℕ → ℕ → Bool
z_code codes here j = one_odd (get_or codes (here + j) 0) (get_or codes (here + j) 0 / 8)

-- 1 for each yes, of the cell whose codes stand from p and q on
unfoldable pub cell_codes : List ℕ → ℕ → ℕ → CodeCounts
cell_codes codes p q =
    record {
      surface = one (mixed_code ((get_or codes p 0 + get_or codes (p + 1) 0) + (get_or codes q 0 + get_or codes (q + 1) 0)));
      x = one (one_odd (get_or codes p 0) (get_or codes (p + 1) 0));
      y = one (one_odd (get_or codes p 0) (get_or codes q 0));
      z = one (one_odd (get_or codes p 0) (get_or codes p 0 / 8));
    }

-- and added up over n cells
unfoldable pub counted_codes : List ℕ → ℕ → ℕ → ℕ → CodeCounts
counted_codes codes here there n =
    record {
      surface = many (surface_code codes here there) (run n);
      x = many (x_code codes here) (run n);
      y = many (y_code codes here there) (run n);
      z = many (z_code codes here) (run n);
    }

-- of n edges with `all` changes, those of the first or last `own`, which are all, none, or all but one; that one has `left` changes
unfoldable pub owned_part : ℕ → ℕ → ℕ → ℕ → ℕ
owned_part all left n own = cond (eqb own 0) 0 (cond (eqb own n) all (all - left))

-- the count of a row of n cells: the owned x edges are the first, the owned y and z edges those after the first
unfoldable pub kept_tally : List ℕ → ℕ → ℕ → ℕ → OwnedEdges → Tally
kept_tally codes here there n own =
    record {
      vertices = many (surface_code codes here there) (run n);
      indices = 6
          * (many (x_code codes here) (run own.x) + many (λ (j : ℕ). y_code codes here there (suc j)) (run own.y)
          + many (λ (j : ℕ). z_code codes here (suc j)) (run own.z));
    }

-- the count of the row (y, z), where it is not told to be nothing by how many of its points are negative
unfoldable pub kept_where_mixed : List ℕ → ℕ → ℕ → Block → ℕ → ℕ → ℕ → Tally
kept_where_mixed codes here there k y z n =
    cond (one_sign k n) (record { vertices = 0; indices = 0 })
    (kept_tally codes here there (row_length (box_of k)) (owned_edges (box_of k) (flags_of k) y z))
