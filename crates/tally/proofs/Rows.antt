-- A row of cells by its run of distances in two layers: its cells with eight negative corners. Assumes nothing.
use Prim.Native.Nat.{ℕ, ◌+◌, ◌-◌, ◌<◌, ◌≤◌}
use native.Mathlib.Omega.{arith}
use mathlib.Core.List.{List}
use mathlib.Core.Path.{◌≡◌, refl, ap, ◌∙◌}
use lib.Dec.{eqb}
use lib.Ieee.{Float}
use Rattle.lists.specs.Lists.{one, many, up_to}
use Rattle.lists.proofs.Lists.{many-map}
use Rattle.rules.specs.Grid.{GridPoint}
use Rattle.rules.specs.Cell.{negatives}
use Rattle.rules.specs.Vertices.{row_cells}
use Rattle.grid.specs.declared.Block.{Block}
use Rattle.grid.specs.declared.corners.Side.{Side}
use Rattle.grid.specs.Block.{point, box_of}
use Rattle.grid.specs.Corners.{side_between, eight_of}
use Rattle.grid.specs.Layers.{in_layer, two_layers, InLayers}
use Rattle.grid.specs.Signs.{side_negatives}
use Rattle.grid.proofs.Layers.{values-between, layers-fit}
use Rattle.grid.proofs.Sides.{both-sides}
use Rattle.row_signs.specs.Signs.{row_length}
use Rattle.count.proofs.Runs.{many-run}
use Rattle.tally.specs.Cells.{all_negative}
use Rattle.tally.specs.Runs.{whole_at, whole_run}

-- the j-th cell of a row, by the negatives of its sides
pub whole-by-sides : (lower upper : List Float) (at row j : ℕ) {low high count : ℕ} → low ≡ side_negatives (side_between lower upper (at + j) row)
    → high ≡ side_negatives (side_between lower upper (at + j + 1) row) → count ≡ one (eqb (low + high) 8) → count ≡ one (whole_at lower upper at row j)
whole-by-sides lower upper at row j {low} {high} el eh e =
    let side : ℕ → Side = λ (i : ℕ). side_between lower upper i row in
    let all : low + high ≡ negatives (eight_of (side (at + j)) (side (at + j + 1))) = omega (arith, both-sides (side (at + j)) (side (at + j + 1))) in
    e ∙ ap (λ (n : ℕ). one (eqb n 8)) all

module _ (lower upper : List Float) (k : Block) {y z : ℕ} (i : InLayers lower upper k z) (ys : (k.low.y ≤ y) × (y < k.high.y)) where
  abbrev at : ℕ → GridPoint
  at x = record { x = x; y = y; z = z }

  pub row-whole : {start : ℕ} → start ≡ in_layer (point k.dims) (record { x = k.low.x; y = y; z = z })
      → many (all_negative (two_layers lower upper k z)) (row_cells (box_of k) z y) ≡ whole_run lower upper start k.dims.x (row_length (box_of k))
  unfolding row_cells
  row-whole {start} e =
      let f = layers-fit i in
      many-map (all_negative (two_layers lower upper k z)) at (up_to k.low.x k.high.x)
      ∙ many-run (λ (x : ℕ). all_negative (two_layers lower upper k z) (at x)) (whole_at lower upper start k.dims.x) k.low.x k.high.x
      (λ x low high.
      ap (λ (v : List Float). eqb (negatives v) 8)
      (values-between lower upper k z (at x) refl (omega arith) (omega arith) (start + (x - k.low.x)) k.dims.x (omega arith) refl))
