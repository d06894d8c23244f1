-- A row of points as codes: 1 for a negative point of the lower layer and 8 for one of the upper layer, so that the sum of a cell's four codes tells
-- whether its eight corners have one sign. These follow the code and stand in no contract that a user sees. Definitions only. Assumes nothing.
use Rattle.std.specs.Prelude.{ℕ, ◌+◌, ◌*◌, ◌≤◌, ◌<◌, Bool, not, ◌&&◌, cond, List, map, ◌≡◌, ◌⊎◌, leb, eqb, length, get_or, Float}
use Rattle.std.proofs.lemmas.List.Edits.{sets}
use Rattle.lists.specs.Lists.{one, up_to}
use Rattle.grid.specs.declared.Block.{Block}
use Rattle.row_signs.specs.Signs.{negative_at, row_start, row_points}

-- the code of the j-th place from p on
abbrev pub code_at : List Float → List Float → ℕ → ℕ → ℕ
code_at lower upper p j = one (negative_at lower p j) + 8 * one (negative_at upper p j)

-- those of n places from p on
abbrev pub codes_run : List Float → List Float → ℕ → ℕ → List ℕ
codes_run lower upper p n = map (code_at lower upper p) (up_to 0 n)

-- a list of codes once the row y is read: a row of at most 1,024 points stands in it from a place on, and of a longer one nothing is kept
unfoldable pub row_kept : List Float → List Float → Block → ℕ → ℕ → List ℕ → List ℕ
row_kept lower upper k y from codes = cond (leb (row_points k) 1024) (sets codes from (codes_run lower upper (row_start k y) (row_points k))) codes

-- what is known of the row y then
pub record Kept (lower upper : List Float) (k : Block) (y from : ℕ) (codes : List ℕ) : Type 0 where
  pub at : row_points k ≤ 1024 → (j : ℕ) → j < row_points k → get_or codes (from + j) 0 ≡ code_at lower upper (row_start k y) j

-- two rows are kept in the two halves of a list, each in the half that the other is not in
abbrev pub Half : ℕ → Type 0
Half place = (place ≡ 0) ⊎ (place ≡ 1024)

-- the four codes of the j-th cell between two rows, added up, and whether they are those of a surface cell: neither none of its corners is negative nor
-- are all
abbrev pub four_codes : List ℕ → ℕ → ℕ → ℕ → ℕ
four_codes codes near far j = (get_or codes (near + j) 0 + get_or codes (near + j + 1) 0) + (get_or codes (far + j) 0 + get_or codes (far + j + 1) 0)

abbrev pub mixed_code : ℕ → Bool
mixed_code sum = not (eqb sum 0) && not (eqb sum 36)

-- n numbers from p on are in the list, and none of them is more than a code can be: four of them are added up in 32 bits
pub record SmallFrom (codes : List ℕ) (p n : ℕ) : Type 0 where
  pub held : p + n ≤ length codes
  pub small : (i : ℕ) → p ≤ i → i < p + n → get_or codes i 0 ≤ 9
