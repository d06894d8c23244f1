-- A row of cells whose points are all negative, or none of them: no cell of it is a surface cell. How many of the points are negative tells it.
-- Assumes nothing.
use Prim.Native.Nat.{ℕ, ◌+◌, ◌-◌, ◌*◌, ◌≤◌, ◌<◌}
use native.Mathlib.Nat.{add_assoc, mul-add, mul-one}
use native.Mathlib.Omega.{arith}
use mathlib.Core.Bool.{Bool, true, false, ◌&&◌, ◌||◌}
use mathlib.Core.List.{List}
use mathlib.Core.Path.{◌≡◌, refl, sym, ap, ◌∙◌}
use mir.Syntax.{w64}
use mir.Val.{Fits}
use lib.Dec.{leb, eqb}
use lib.ListN.{length, get_or}
use lib.Ieee.{Float, nan}
use borrow.Author.Tests.{eqb-true}
use Rattle.lists.specs.Lists.{one}
use Rattle.rules.specs.Cell.{negative}
use Rattle.grid.specs.declared.Block.{Block}
use Rattle.grid.specs.Block.{point, box_of}
use Rattle.grid.specs.Corners.{side_between}
use Rattle.grid.specs.Signs.{side_negatives, surface_at}
use Rattle.grid.specs.Layers.{InLayers}
use Rattle.grid.proofs.Bounds.{small}
use Rattle.grid.proofs.Layers.{in_order, layers-fit}
use Rattle.grid.proofs.Sides.{surface-by-sides}
use Rattle.row_signs.specs.Signs.{negative_at, negatives_run, row_length, row_start, row_points, row_negatives, cells_negatives, one_sign}
use Rattle.row_signs.proofs.Runs.{run-most, run_none, run-all}

-- ---- a run of distances of one sign

-- the n distances from p on are all negative, or none of them, as `sign` says
pub record Alike (sign : Bool) (l : List Float) (p n : ℕ) : Type 0 where
  pub at : (i : ℕ) → p ≤ i → i < p + n → negative (get_or l i nan) ≡ sign

alike : {sign : Bool} {l : List Float} {p n : ℕ} → ((j : ℕ) → j < n → negative_at l p j ≡ sign) → Alike sign l p n
alike {sign} {l} {p} {n} each = record { at = λ i low high. ap (λ (m : ℕ). negative (get_or l m nan)) (there i low) ∙ each (i - p) (omega arith) }
  where
    there : (i : ℕ) → p ≤ i → i ≡ p + (i - p)
    there i low = omega arith

-- by the number of its negatives
none_alike : (l : List Float) (p n : ℕ) → negatives_run l p n ≡ 0 → Alike false l p n
none_alike l p n e = alike (run_none (negative_at l p) n e)

all_alike : (l : List Float) (p n : ℕ) → negatives_run l p n ≡ n → Alike true l p n
all_alike l p n e = alike (run-all (negative_at l p) n e)

-- ---- the points of a row of cells

pub record OneSign (sign : Bool) (lower upper : List Float) (k : Block) (y : ℕ) : Type 0 where
  pub near-lower : Alike sign lower (row_start k y) (row_points k)
  pub near-upper : Alike sign upper (row_start k y) (row_points k)
  pub far-lower : Alike sign lower (row_start k (y + 1)) (row_points k)
  pub far-upper : Alike sign upper (row_start k (y + 1)) (row_points k)

negatives-few : (lower upper : List Float) (k : Block) (y : ℕ) → row_negatives lower upper k y ≤ 2 * row_points k
unfolding row_negatives
negatives-few lower upper k y = omega (arith, run-most (negative_at lower (row_start k y)) (row_points k), run-most (negative_at upper (row_start k y)) (row_points k))

none-negative : (lower upper : List Float) (k : Block) (y : ℕ) → cells_negatives lower upper k y ≡ 0 → OneSign false lower upper k y
unfolding row_negatives
none-negative lower upper k y e =
    record {
      near-lower = none_alike lower (row_start k y) (row_points k) (omega arith);
      near-upper = none_alike upper (row_start k y) (row_points k) (omega arith);
      far-lower = none_alike lower (row_start k (y + 1)) (row_points k) (omega arith);
      far-upper = none_alike upper (row_start k (y + 1)) (row_points k) (omega arith);
    }

all-negative : (lower upper : List Float) (k : Block) (y : ℕ) → cells_negatives lower upper k y ≡ 4 * row_points k → OneSign true lower upper k y
unfolding row_negatives
all-negative lower upper k y e =
    let most : (l : List Float) (y' : ℕ) → negatives_run l (row_start k y') (row_points k) ≤ row_points k = λ l y'. run-most (negative_at l (row_start k y')) (row_points k) in
    let nl = most lower y in
    let nu = most upper y in
    let fl = most lower (y + 1) in
    let fu = most upper (y + 1) in
    record {
      near-lower = all_alike lower (row_start k y) (row_points k) (omega arith);
      near-upper = all_alike upper (row_start k y) (row_points k) (omega arith);
      far-lower = all_alike lower (row_start k (y + 1)) (row_points k) (omega arith);
      far-upper = all_alike upper (row_start k (y + 1)) (row_points k) (omega arith);
    }

-- told by how many are negative
pub told : {lower upper : List Float} {k : Block} {y n : ℕ} → n ≡ cells_negatives lower upper k y → one_sign k n ≡ true → (sign : Bool) × OneSign sign lower upper k y
told {lower} {upper} {k} {y} {n} e t = go (eqb n 0) (eqb n (4 * row_points k)) refl refl t
  where
    go : (none all : Bool) → eqb n 0 ≡ none → eqb n (4 * row_points k) ≡ all → (none || all) ≡ true → (sign : Bool) × OneSign sign lower upper k y
    go true all h h' t' = (false, none-negative lower upper k y (sym e ∙ eqb-true n 0 h))
    go false all h h' t' = (true, all-negative lower upper k y (sym e ∙ eqb-true n (4 * row_points k) (h' ∙ t')))

-- eight corners of one sign
no-surface : (sign : Bool) → 0 ≡ one (leb 1 (4 * one sign + 4 * one sign) && leb (4 * one sign + 4 * one sign) 7)
no-surface true = refl
no-surface false = refl

-- the next row of points
pub next_row : (k : Block) (y : ℕ) → row_start k (y + 1) ≡ row_start k y + k.dims.x
next_row k y = omega (arith, mul-add k.dims.x y 1, mul-one k.dims.x)

module _ {sign : Bool} {lower upper : List Float} {k : Block} {y : ℕ} (o : OneSign sign lower upper k y) where
  side : (j : ℕ) → j < row_points k → 4 * one sign ≡ side_negatives (side_between lower upper (row_start k y + j) k.dims.x)
  side j h =
      let start = row_start k y in
      let n = next_row k y in
      let a = o.near-lower.at (start + j) (omega arith) (omega arith) in
      let b = o.far-lower.at (start + j + k.dims.x) (omega arith) (omega arith) in
      let c = o.near-upper.at (start + j) (omega arith) (omega arith) in
      let d = o.far-upper.at (start + j + k.dims.x) (omega arith) (omega arith) in
      omega (arith, ap one a, ap one b, ap one c, ap one d)

  -- no cell of the row is a surface cell
  pub no_cell : (j : ℕ) → j < row_length (box_of k) → one (surface_at lower upper (row_start k y) k.dims.x j) ≡ 0
  no_cell j h =
      let next = side (j + 1) (omega arith) ∙ ap (λ (i : ℕ). side_negatives (side_between lower upper i k.dims.x)) (sym (add_assoc (row_start k y) j 1)) in
      sym (surface-by-sides lower upper (row_start k y) k.dims.x j (side j (omega arith)) next (no-surface sign))

-- ---- where a row of points ends

module _ {lower upper : List Float} {k : Block} {z : ℕ} (i : InLayers lower upper k z) where
  points-few : (k.low.x ≤ k.high.x) × (row_points k ≤ 16777217)
  points-few = let f = layers-fit i in let s = small (point k.dims) i.dims in (omega arith, omega arith)

  -- the row lies in both lists
  pub points-lent : {y : ℕ} → y ≤ k.high.y
      → ((k.low.x ≤ k.high.x) × (row_points k ≤ 16777217)) × ((row_start k y + row_points k ≤ length lower) × (row_start k y + row_points k ≤ length upper))
  points-lent {y} h =
      let few = points-few in
      let last = in_order (point k.dims) (record { x = k.high.x; y = y; z = z }) (point k.high) (omega arith) h in
      let l = i.lower_holds in
      let u = i.upper_holds in
      (few, (omega arith, omega arith))

  -- and the negatives of two rows are counted in 64 bits
  pub cells-few : (y : ℕ) {low high : ℕ} → low ≡ row_negatives lower upper k y → high ≡ row_negatives lower upper k (y + 1) → Fits w64 (low + high)
  cells-few y e e' =
      let few = points-few in
      omega (arith, negatives-few lower upper k y, negatives-few lower upper k (y + 1))
