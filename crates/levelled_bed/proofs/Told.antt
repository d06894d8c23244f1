-- What an answered call says of each column: -1.0 exactly where no point of it is below zero, and else the level that its highest point below zero tells, which
-- is from that point's z to the next. Over the equations of the contract. Assumes nothing.
use Prim.Native.Nat.{ℕ, ◌+◌, ◌-◌, ◌*◌, ◌/◌, ◌%◌, ◌^◌, ◌≤◌, ◌<◌, zero-le}
use native.Mathlib.Nat.{
  mod-lt,
  div-lt_iff_lt-mul,
  mod-eq_of_lt,
  div-eq_of_lt,
  add-mul-mod_self_left,
  add-mul-div_left,
  lt_of_lt_of_le,
  mul-le-mul_right,
  mul_comm,
  add-mul,
  one-mul,
}
use native.Mathlib.Omega.{arith}
use mathlib.Core.Bool.{Bool, true, false, cond}
use mathlib.Core.List.{List}
use mathlib.Core.Logic.{◌⊎◌, inl, inr}
use mathlib.Core.Path.{◌≡◌, refl, sym, ap, ap₂, subst, ◌∙◌}
use borrow.Author.Tests.{eqb-false, eq-eqb}
use lib.Dec.{T, eqb}
use lib.ListN.{length, get_or}
use lib.Ieee.{Float, nan, binary32}
use Rattle.lists.specs.Floats.{Binary32}
use Rattle.lists.proofs.Tests.{failed}
use Rattle.rounding.specs.Values.{plain, Held, Between}
use Rattle.rules.specs.Grid.{GridPoint, Box, index, value, in_box}
use Rattle.rules.specs.Cell.{◌⊕◌, float, fraction}
use Rattle.rules.proofs.Indexes.{in-box, box-fits, small, index_below}
use Rattle.rules.proofs.Accepted.{distances-ok}
use Rattle.cube.proofs.Finite.{not_beyond}
use Rattle.levels.specs.Column.{no_level, level_up_to}
use Rattle.levels.specs.Columns.{across, columns, in_column, level_of, changed}
use Rattle.levels.specs.Call.{grid_of, levels_answer, levels_after}
use Rattle.levels.proofs.Changed.{changed-in}
use Rattle.levels.proofs.Answering.{Accepted, levels-accepted}
use Rattle.levelled_bed.specs.Highest.{Highest, NoneBelow, told_from, Told}
use Rattle.levelled_bed.proofs.Columns.{Silent, Tells, column-told}
use Rattle.levelled_bed.proofs.Bounds.{crossing-between, top-between}

-- ---- one column, whose distances are finite values of binary32

module _ (d : ℕ → Float) (low high : ℕ) (counted : high ≤ 2 ^ 24) (held : (z : ℕ) → low ≤ z → z ≤ high → Held binary32 (d z)) where
  told-within : {z : ℕ} → Highest d low high z → Between z (z + 1) (told_from d high z)
  told-within {z} h = go (eqb z high) refl
    where
      go : (t : Bool) → eqb z high ≡ t → Between z (z + 1) (cond t (float z) (float z ⊕ fraction (d z) (d (z + 1))))
      go true e = top-between z (omega (arith, h.to))
      go false e =
          let apart = eqb-false z high e in
          let under : z < high = below z high h.to apart in
          crossing-between z (d z) (d (z + 1)) (omega arith) (held z h.from h.to) (held (z + 1) (omega (arith, h.from)) (omega arith)) h.negative-here
          (h.none_above (z + 1) (omega arith) (omega arith))
        where
          below : (z high : ℕ) → z ≤ high → (z ≡ high → ⊥) → z < high
          below z high h n = omega (arith, n)

  pub column-tells : (n : ℕ) → low + n ≡ high → Told d low high (level_up_to d low n)
  column-tells n e = go (subst (λ (m : ℕ). Silent d low m (level_up_to d low n) ⊎ Tells d low m (level_up_to d low n)) e (column-told d low n))
    where
      go : Silent d low high (level_up_to d low n) ⊎ Tells d low high (level_up_to d low n) → Told d low high (level_up_to d low n)
      go (inl s) = inl (record { none_below = s.none_below; same = s.same })
      go (inr t) =
          inr (record {
            z = t.z;
            highest = t.highest;
            same = t.same;
            within = subst (Between t.z (t.z + 1)) (sym t.same) (told-within t.highest);
          })

-- "-1.0 exactly if no point of the column is below zero": a level that is told from a point has a clear sign
pub silent-only : {d : ℕ → Float} {low high : ℕ} {level : Float} → Told d low high level → level ≡ no_level → NoneBelow d low high
silent-only (inl s) e = s.none_below
silent-only (inr t) e = absurd (subst (λ (x : Float). T (plain x)) e t.within.0)

-- ---- the columns of a box

-- the column number j is one of the box
module _ (b : Box) (j : ℕ) (some : 0 < across b) (h : j < columns b) where
  pub column-in : (z : ℕ) → b.low.z ≤ z → z ≤ b.high.z → b.low.x ≤ b.high.x → b.low.y ≤ b.high.y → T (in_box b (in_column b j z))
  column-in z l u ox oy =
      let x : j % across b < across b = mod-lt j some in
      let y : j / across b < b.high.y + 1 - b.low.y = (div-lt_iff_lt-mul some).1 h in
      in-box b (in_column b j z) (record { x = (omega arith, omega arith); y = (omega arith, omega arith); z = (l, u) })

-- and each column of the box has a number
abbrev pub column_number : Box → ℕ → ℕ → ℕ
column_number b x y = x - b.low.x + across b * (y - b.low.y)

module _ (b : Box) (x y : ℕ) (xs : (b.low.x ≤ x) × (x ≤ b.high.x)) (ys : (b.low.y ≤ y) × (y ≤ b.high.y)) where
  short : x - b.low.x < across b
  short = omega arith

  some-across : 0 < across b
  some-across = omega arith

  pub number-column : (z : ℕ) → in_column b (column_number b x y) z ≡ record { x = x; y = y; z = z }
  number-column z =
      let n = across b in
      let i = x - b.low.x in
      let r = y - b.low.y in
      let across-is : b.low.x + column_number b x y % n ≡ x =
      ap (λ (m : ℕ). b.low.x + m) (add-mul-mod_self_left i n r ∙ mod-eq_of_lt short) ∙ (let e : b.low.x + (x - b.low.x) ≡ x = omega arith in e) in
      let along-is : b.low.y + column_number b x y / n ≡ y =
      ap (λ (m : ℕ). b.low.y + m) (add-mul-div_left i r some-across ∙ ap (λ (m : ℕ). m + r) (div-eq_of_lt short)) ∙ (let e : b.low.y + (0 + (y - b.low.y)) ≡ y = omega arith in e) in
      ap₂ (λ (s t : ℕ). record { x = s; y = t; z = z }) across-is along-is

  pub number-below : column_number b x y < columns b
  number-below =
      let n = across b in
      let r = y - b.low.y in
      let rows : r + 1 ≤ b.high.y + 1 - b.low.y = omega arith in
      let all : (r + 1) * n ≤ columns b = mul-le-mul_right n rows in
      let row : (r + 1) * n ≡ n * r + n = add-mul r 1 n ∙ ap₂ ◌+◌ (mul_comm r n) (one-mul n) in
      within (x - b.low.x) n (n * r) ((r + 1) * n) (columns b) short row all
    where
      within : (i n p q c : ℕ) → i < n → q ≡ p + n → q ≤ c → i + p < c
      within i n p q c h e l = omega arith

-- ---- an answered call

-- the distances of a column
abbrev pub column : List Float → GridPoint → Box → ℕ → ℕ → Float
column sdf d b j z = value (grid_of sdf d) (in_column b j z)

module _ (sdf : List Float) (d : GridPoint) (b : Box) {room : ℕ} (a : Accepted sdf d b room) (numbers : Binary32 sdf) where
  pub held_in : (p : GridPoint) → T (in_box b p) → Held binary32 (value (grid_of sdf d) p)
  held_in p t = (
    numbers (index d p) (index_below d b (length sdf) p (failed refl a.faultless.box) (failed refl a.faultless.size) t),
    (not_beyond (value (grid_of sdf d) p) (distances-ok (grid_of sdf d) b (failed refl a.distances) p t)).0,
  )

  pub level-told : (j : ℕ) → j < columns b → Told (column sdf d b j) b.low.z b.high.z (level_of (grid_of sdf d) b j)
  unfolding level_of
  level-told j h =
      let f = box-fits d b (failed refl a.faultless.box) in
      let s = small d (failed refl a.faultless.dims) in
      let some : 0 < across b = omega arith in
      let up : b.low.z + (b.high.z - b.low.z) ≡ b.high.z = omega arith in
      let counted : b.high.z ≤ 2 ^ 24 = omega arith in
      column-tells (column sdf d b j) b.low.z b.high.z counted
      (λ z l u. held_in (in_column b j z) (column-in b j some h z l u f.x.0 f.y.0)) (b.high.z - b.low.z) up

-- what the contract of a call says, with the answer 0
pub record Levelled (sdf : List Float) (d : GridPoint) (b : Box) (entry exit : List Float) : Type 0 where
  pub done : levels_answer sdf d b (length entry) ≡ 0
  pub left : exit ≡ levels_after sdf d b entry
  pub numbers : Binary32 sdf

pub when-levelled : (sdf : List Float) (d : GridPoint) (b : Box) (old : List Float) → levels_answer sdf d b (length old) ≡ 0
    → levels_after sdf d b old ≡ changed (λ j _. level_of (grid_of sdf d) b j) 0 (columns b) old
unfolding levels_after
when-levelled sdf d b old e = rw (eq-eqb (levels_answer sdf d b (length old)) 0 e)

module _ {sdf : List Float} {d : GridPoint} {b : Box} {entry exit : List Float} (l : Levelled sdf d b entry exit) where
  accepted : Accepted sdf d b (length entry)
  accepted = levels-accepted sdf d b (length entry) l.done

  exit-is : exit ≡ changed (λ j _. level_of (grid_of sdf d) b j) 0 (columns b) entry
  exit-is = l.left ∙ when-levelled sdf d b entry l.done

  -- each column's number is the level that its highest point below zero tells, or -1.0
  pub levels-told : (j : ℕ) → j < columns b → Told (column sdf d b j) b.low.z b.high.z (get_or exit j nan)
  levels-told j h =
      let e : get_or exit j nan ≡ level_of (grid_of sdf d) b j =
      ap (λ (m : List Float). get_or m j nan) exit-is
      ∙ changed-in (λ j _. level_of (grid_of sdf d) b j) 0 (columns b) entry j (lt_of_lt_of_le h accepted.room-holds) zero-le h in
      subst (Told (column sdf d b j) b.low.z b.high.z) (sym e) (level-told sdf d b accepted l.numbers j h)

  -- -1.0 exactly where no point of the column is below zero
  pub levels-silent : (j : ℕ) → j < columns b → get_or exit j nan ≡ no_level → NoneBelow (column sdf d b j) b.low.z b.high.z
  levels-silent j h e = silent-only (levels-told j h) e

  pub silent-levels : (j : ℕ) → j < columns b → NoneBelow (column sdf d b j) b.low.z b.high.z → get_or exit j nan ≡ no_level
  silent-levels j h none = go (levels-told j h)
    where
      go : Told (column sdf d b j) b.low.z b.high.z (get_or exit j nan) → get_or exit j nan ≡ no_level
      go (inl s) = s.same
      go (inr t) = absurd (none t.z t.highest.from t.highest.to t.highest.negative-here)

  -- the same by the column's x and y
  pub levels-at : (x y : ℕ) → (b.low.x ≤ x) × (x ≤ b.high.x) → (b.low.y ≤ y) × (y ≤ b.high.y)
      → Told (λ (z : ℕ). value (grid_of sdf d) (record { x = x; y = y; z = z })) b.low.z b.high.z (get_or exit (column_number b x y) nan)
  levels-at x y xs ys =
      subst (λ (f : ℕ → Float). Told f b.low.z b.high.z (get_or exit (column_number b x y) nan))
      (λ i z. value (grid_of sdf d) (number-column b x y xs ys z i)) (levels-told (column_number b x y) (number-below b x y xs ys))
