-- The numbers that the code works out for the parts that it lends, over bare numbers, so that what the code owes of each part is one law of a range, and
-- no search through what is known at that place. Assumes nothing.
use Prim.Native.Nat.{ℕ, ◌+◌, ◌*◌, ◌≤◌}
use native.Mathlib.Nat.{le_refl, le_trans}
use native.Mathlib.Omega.{arith}
use mathlib.Core.Path.{◌≡◌}
use mir.Syntax.{w32, w64}
use mir.Val.{Fits}
use Rattle.grid.proofs.Places.{Range}
use Rattle.layer_vertices.specs.Marked.{Lists, Room}
use Rattle.whole_box.specs.Layers.{Lendable}

-- ---- a part of a list: where it begins and ends, also in bytes

module _ {a e n : ℕ} (r : Range a e n) where
  pub from-fits : Fits w64 a
  from-fits = omega arith

  pub to-fits : Fits w64 e
  to-fits = omega arith

  pub from-fours : Fits w64 (a * 4)
  from-fours = omega arith

  -- the part before it, from a place on
  pub before-it : {u : ℕ} → u ≤ a → Range u a n
  before-it h = record { ordered = h; within = le_trans r.ordered r.within; few = le_trans r.ordered r.few }

  -- it can be lent, and so can all that is left behind it
  pub lendable : Lendable a e n
  lendable = record { ordered = r.ordered; within = r.within; few = omega arith }

  pub rest-lendable : Lendable e n n
  rest-lendable = record { ordered = r.within; within = le_refl n; few = omega arith }

-- how long it is
pub length-fits : (a p n : ℕ) → Range a (a + p) n → Fits w64 p
length-fits a p n r = omega arith

-- ---- the vertices of a layer and of the one below, in lists of three numbers each

-- `count` vertices from the number `first` on, and before them those from `below` on, in lists of such lengths
pub record Numbers (first below count cells positions : ℕ) : Type 0 where
  pub few : first + count ≤ 1073741824
  pub back : below ≤ first
  pub cells_hold : 3 * (first + count) ≤ cells
  pub positions_hold : 3 * (first + count) ≤ positions

module _ {first below count cells positions : ℕ} (w : Numbers first below count cells positions) where
  pub below_word : Fits w32 below
  below_word = omega arith

  pub first_word : Fits w32 first
  first_word = omega arith

  pub below-fits : Fits w64 (3 * below)
  below-fits = omega arith

  pub first_fits : Fits w64 (3 * first)
  first_fits = omega arith

  pub count_fits : Fits w64 (3 * count)
  count_fits = omega arith

  pub last_fits : Fits w64 (3 * first + 3 * count)
  last_fits = omega arith

  -- their numbers, and those of the vertices below
  pub cells-lent : Lendable (3 * first) (3 * first + 3 * count) cells
  cells-lent = record { ordered = omega arith; within = omega arith; few = omega arith }

  pub positions-lent : Lendable (3 * first) (3 * first + 3 * count) positions
  positions-lent = record { ordered = omega arith; within = omega arith; few = omega arith }

  pub below-lent : Lendable (3 * below) (3 * first) positions
  below-lent = record { ordered = omega arith; within = omega arith; few = omega arith }

-- the first number of vertices for which there is room
pub number_fits : {first count : ℕ} {l : Lists} → Room (record { place = first; number = first }) count l → Fits w32 first
number_fits r = omega (arith, r.numbers)

-- room for so many more numbers, counted otherwise
pub room_of : (at : ℕ) {n m size : ℕ} → at + n ≤ size → m ≡ n → at + m ≤ size
room_of at h e = omega arith
