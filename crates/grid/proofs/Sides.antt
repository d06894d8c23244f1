-- A cell's negative corners are those of its two sides, and they say whether it is a surface cell. Assumes nothing.
use Prim.Native.Nat.{ℕ, ◌+◌}
use native.Mathlib.Omega.{arith}
use mathlib.Core.Bool.{◌&&◌}
use mathlib.Core.List.{List}
use mathlib.Core.Path.{◌≡◌, ap, ◌∙◌}
use lib.Dec.{leb}
use lib.Ieee.{Float}
use Rattle.lists.specs.Lists.{one, many}
use Rattle.rules.specs.Cell.{negatives}
use Rattle.grid.specs.declared.corners.Side.{Side}
use Rattle.grid.specs.Corners.{side_between, eight_of}
use Rattle.grid.specs.Signs.{side_negatives, surface_at}

-- the negatives of a cell are those of its two sides
pub both-sides : (low high : Side) → negatives (eight_of low high) ≡ side_negatives low + side_negatives high
unfolding many
both-sides low high = omega arith

-- the j-th cell of a row, by the negatives of its sides
pub surface-by-sides : (lower upper : List Float) (at row j : ℕ) {low high count : ℕ} → low ≡ side_negatives (side_between lower upper (at + j) row)
    → high ≡ side_negatives (side_between lower upper (at + j + 1) row)
    → count ≡ one (leb 1 (low + high) && leb (low + high) 7) → count ≡ one (surface_at lower upper at row j)
surface-by-sides lower upper at row j {low} {high} el eh e =
    let side : ℕ → Side = λ (i : ℕ). side_between lower upper i row in
    let all : low + high ≡ negatives (eight_of (side (at + j)) (side (at + j + 1))) = omega (arith, both-sides (side (at + j)) (side (at + j + 1))) in
    e ∙ ap (λ (n : ℕ). one (leb 1 n && leb n 7)) all
