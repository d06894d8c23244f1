-- Which indexes are a cell's and which a point's of the box, by the tests that the code makes one after the other. Assumes nothing.
use Rattle.std.proofs.Common.{◌≡◌, ℕ, ◌/◌, ◌%◌, Bool, true, false, cond, not, ◌&&◌, T, eqb, sym, refl, ap, ◌∙◌, add-zero, arith, ne_eqb}
use native.Mathlib.Nat.{div-div-eq-div-mul}
use Rattle.lists.specs.Lists.{below}
use Rattle.rules.specs.Grid.{GridPoint, Box, point_at, is_cell, in_box}
use Rattle.rules.specs.Vertices.{edge_entry}
use Rattle.lists.proofs.Tests.{same_test}
use Rattle.rules.proofs.Indexes.{within, in-box, cell-within, is-cell}
use Rattle.marks.specs.Marks.{cell_at, box_at, reaching, no_cell_entry}
use Rattle.marks.proofs.Begins.{fails-second}

module _ (dims : GridPoint) (b : Box) (j : ℕ) where
  pub zero-x : dims.x ≡ 0 → false ≡ cell_at dims b j
  unfolding cell_at
  zero-x e = rw e

  pub zero-y : dims.y ≡ 0 → false ≡ cell_at dims b j
  unfolding cell_at
  zero-y e = rw e (fails-second (not (eqb dims.x 0)) false refl)

  module _ (x : dims.x ≡ 0 → ⊥) (y : dims.y ≡ 0 → ⊥) where
    pub cell_is : cell_at dims b j ≡ (below b.low.x b.high.x (j % dims.x) &&
        (below b.low.y b.high.y (j / dims.x % dims.y) && below b.low.z b.high.z (j / dims.x / dims.y)))
    unfolding cell_at
    cell_is = rw (ne_eqb dims.x 0 x, ne_eqb dims.y 0 y, div-div-eq-div-mul j dims.x dims.y)

-- ---- with max 1 further, the points of the box; with max where it is, the cells

module _ (dims : GridPoint) (b : Box) (j : ℕ) where
  pub cell-here : cell_at dims (reaching 0 b) j ≡ cell_at dims b j
  cell-here = simp add-zero

  pub point-here : cell_at dims (reaching 1 b) j ≡ box_at dims b j
  unfolding cell_at box_at
  point-here = ap (λ (t : Bool). not (eqb dims.x 0) && (not (eqb dims.y 0) && t)) (same_test (is_cell (reaching 1 b) p) (in_box b p) to from)
    where
      p : GridPoint
      p = point_at dims j

      to : T (is_cell (reaching 1 b) p) → T (in_box b p)
      to t = let w = cell-within (reaching 1 b) p t in in-box b p (omega arith)

      from : T (in_box b p) → T (is_cell (reaching 1 b) p)
      from t = let w = within b p t in is-cell (reaching 1 b) p (omega arith)

  -- an entry that is no cell's
  pub blank-inside : (mark : ℕ) → cell_at dims (reaching 1 b) j ≡ true → edge_entry ≡ no_cell_entry dims b j mark
  unfolding no_cell_entry
  blank-inside mark e = sym (ap (λ (t : Bool). cond t edge_entry mark) (sym point-here ∙ e))

  pub mark-outside : (mark : ℕ) → cell_at dims (reaching 1 b) j ≡ false → mark ≡ no_cell_entry dims b j mark
  unfolding no_cell_entry
  mark-outside mark e = sym (ap (λ (t : Bool). cond t edge_entry mark) (sym point-here ∙ e))
