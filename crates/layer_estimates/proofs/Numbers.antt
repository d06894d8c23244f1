-- The numbers of a turn: the place of a cell in its list, of its vertex in the lists of vertices and of its corner values in the two layers are numbers
-- of 64 bits, and lie within. Over bare numbers, so that no need of a function looks for them. Assumes nothing.
use Prim.Native.Nat.{ℕ, ◌+◌, ◌*◌, ◌-◌, ◌≤◌, ◌<◌, ◌^◌}
use native.Mathlib.Omega.{arith}
use mathlib.Core.Path.{◌≡◌}
use mir.Syntax.{w32, w64}
use mir.Val.{Fits}

-- the three numbers of the cell from + j, in a list of this many
pub record OfCell (from j long : ℕ) : Type 0 where
  pub counted : Fits w64 (from + j)
  pub first : Fits w64 (3 * (from + j))
  pub first_byte : Fits w64 (3 * (from + j) * 4)
  pub second : Fits w64 (3 * (from + j) + 1)
  pub second-byte : Fits w64 ((3 * (from + j) + 1) * 4)
  pub within : 3 * (from + j) < long
  pub second-within : 3 * (from + j) + 1 < long
  pub third-within : 3 * (from + j) + 2 < long

pub of-cell : {from j n long : ℕ} → j < n → 3 * (from + n) ≤ long → long * 4 < 2 ^ 63 → OfCell from j long
of-cell h e l =
    record {
      counted = omega arith;
      first = omega arith;
      first_byte = omega arith;
      second = omega arith;
      second-byte = omega arith;
      within = omega arith;
      second-within = omega arith;
      third-within = omega arith;
    }

-- a turn of at most 32
pub record OfTurn (j n : ℕ) : Type 0 where
  pub lane : j < 32
  pub next : Fits w64 (j + 1)
  pub taken : j + 1 ≤ n
  pub less : n - (j + 1) < n - j

pub of-turn : {j n : ℕ} → j < n → n ≤ 32 → OfTurn j n
of-turn h e = record { lane = omega arith; next = omega arith; taken = omega arith; less = omega arith }

-- a number of 32 bits is one of 64
pub word_fits : {x : ℕ} → Fits w32 x → Fits w64 x
word_fits h = omega arith

-- the vertex place + j, in a list of p positions, m normals and x numbers of crossings
pub record OfVertex (place j p m x : ℕ) : Type 0 where
  pub counted : Fits w64 (place + j)
  pub first : Fits w64 (3 * (place + j))
  pub positions : 3 * (place + j) + 2 < p
  pub normals : 3 * (place + j) + 2 < m
  pub crossings : place + j < x

pub of-vertex : {place j n p p' m x : ℕ} → j < n → 3 * (place + n) ≤ p → 3 * (place + n) ≤ m → place + n ≤ x → p' * 4 < 2 ^ 63 → p ≡ p' → OfVertex place j p m x
of-vertex h e f g l k = record { counted = omega arith; first = omega arith; positions = omega arith; normals = omega arith; crossings = omega arith }

-- the corner values of a cell in the column x of the row y, both of whose sides lie in layers of this many values
pub record OfSides (x row y lower upper : ℕ) : Type 0 where
  pub row-start : Fits w64 (row * y)
  pub low : Fits w64 (x + row * y)
  pub high : Fits w64 (x + row * y + 1)
  pub low-within : (x + row * y + row < lower) × (x + row * y + row < upper)
  pub high-within : (x + row * y + 1 + row < lower) × (x + row * y + 1 + row < upper)

pub of-sides : {x row y lower upper : ℕ} → (x + row * y + 1 + row < lower) × (x + row * y + 1 + row < upper) → lower < 2 ^ 64 → OfSides x row y lower upper
of-sides h l = record { row-start = omega arith; low = omega arith; high = omega arith; low-within = (omega arith, omega arith); high-within = h }
