-- A row of cells whose points are all negative, or none of them, counts nothing: no edge of it changes sign, as no cell of it is a surface cell.
-- Assumes nothing.
use Prim.Native.Nat.{ℕ, ◌+◌, ◌≤◌}
use native.Mathlib.Omega.{arith}
use mathlib.Core.Bool.{Bool, true, false}
use mathlib.Core.List.{List}
use mathlib.Core.Path.{◌≡◌, refl, sym, ap₂, ◌∙◌}
use lib.Ieee.{Float, unlike}
use Rattle.lists.specs.Lists.{one}
use Rattle.rules.specs.Vertices.{row_cells}
use Rattle.grid.specs.declared.Block.{Block}
use Rattle.grid.specs.Block.{box_of, flags_of}
use Rattle.grid.specs.Signs.{surface_at}
use Rattle.grid.specs.Layers.{two_layers}
use Rattle.grid.proofs.LayerWalks.{Row}
use Rattle.row_signs.specs.Signs.{row_length, row_start, cells_negatives, one_sign}
use Rattle.row_signs.proofs.Runs.{run-never}
use Rattle.row_signs.proofs.OneSign.{Alike, OneSign, told, next_row, no_cell}
use Rattle.count.specs.declared.Tally.{Tally}
use Rattle.count.specs.Runs.{changes_at, changes_run, surface_run, owned_edges}
use Rattle.count.specs.Tally.{tally_of}
use Rattle.count.proofs.Rows.{reach, row-tally}

same_sign : (sign : Bool) → one (unlike sign sign) ≡ 0
same_sign true = refl
same_sign false = refl

-- no edge from a part of one such run to a part of another changes sign
no-changes : {sign : Bool} {l l' : List Float} {p n q n' : ℕ} → Alike sign l p n → Alike sign l' q n' → (p' q' m : ℕ) → p ≤ p' → p' + m ≤ p + n → q ≤ q' → q' + m ≤ q + n'
    → 0 ≡ changes_run l p' l' q' m
no-changes {sign} {l} {l'} a a' p' q' m low high low' high' =
    sym (run-never (changes_at l p' l' q') m
    (λ j h. ap₂ (λ (s t : Bool). one (unlike s t)) (a.at (p' + j) (omega arith) (omega arith)) (a'.at (q' + j) (omega arith) (omega arith)) ∙ same_sign sign))

module _ {lower upper : List Float} {k : Block} {y z : ℕ} (r : Row lower upper k y z) where
  abbrev start : ℕ
  start = row_start k y

  module _ {sign : Bool} (o : OneSign sign lower upper k y) where
    no_cells : 0 ≡ surface_run lower upper start k.dims.x (row_length (box_of k))
    no_cells = sym (run-never (surface_at lower upper start k.dims.x) (row_length (box_of k)) (no_cell o))

    nothing : ◌≡◌ {A = Tally} (record { vertices = 0; indices = 0 }) (tally_of (two_layers lower upper k z) (box_of k) (flags_of k) (row_cells (box_of k) z y))
    nothing =
        let n = next_row k y in
        let own = owned_edges (box_of k) (flags_of k) y z in
        let t = reach r refl in
        row-tally lower upper k r.layers r.along-y refl refl no_cells
        (no-changes o.near-lower o.near-lower start (start + 1) own.x (omega arith) (omega arith) (omega arith) (omega arith))
        (no-changes o.near-lower o.far-lower (start + 1) (start + 1 + k.dims.x) own.y (omega arith) (omega arith) (omega arith) (omega arith))
        (no-changes o.near-lower o.near-upper (start + 1) (start + 1) own.z (omega arith) (omega arith) (omega arith) (omega arith))

  -- what a row counts of whose points none are negative, or all
  pub one-sign-counts-nothing : {n : ℕ} → n ≡ cells_negatives lower upper k y → one_sign k n ≡ true
      → ◌≡◌ {A = Tally} (record { vertices = 0; indices = 0 }) (tally_of (two_layers lower upper k z) (box_of k) (flags_of k) (row_cells (box_of k) z y))
  one-sign-counts-nothing e t = nothing (told e t).1
