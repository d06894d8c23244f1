-- The invariant: the row's part of the map is what the first j cells leave. No code is above 9, so that the sum of four fits. Assumes nothing.
use Prim.Native.Nat.{ℕ}
use mathlib.Core.Path.{ap, ◌∙◌}
use native.Mathlib.Omega.{arith}
use Rattle.row_signs.specs.Codes.{four_codes, mixed_code}
use Rattle.row_signs.proofs.Stores.{stores-none}
use Rattle.layer_vertices.specs.Cells.{class_of}
use Rattle.layer_vertices.proofs.Rows.{coded-more}
use Rattle.layer_vertices.proofs.class_codes.Goals as goal

-- ---- the needs
pub loop-j-init : goal.loop-j-init
loop-j-init c =
    let a = c.args in
    (omega arith, stores-none (λ (j : ℕ). class_of (mixed_code (four_codes a.codes.now a.here a.there j))) a.map.now a.at)

pub loop-j-preserved : goal.loop-j-preserved
loop-j-preserved c =
    let a = c.args in
    let w = c.loop-j in
    (omega arith, coded-more a.codes.now a.here a.there a.at w.j a.map.now w.invariant.1 (c.class_entry.ensures ∙ ap class_of c.mixed_code.ensures))
