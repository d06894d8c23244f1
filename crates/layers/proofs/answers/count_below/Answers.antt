-- No cells below the first layer; below any other those between its kept layer and itself. Assumes nothing.
use mathlib.Core.List.{List}
use mathlib.Core.Path.{◌≡◌, sym, ap, subst, ◌∙◌}
use native.Mathlib.Omega.{arith}
use lib.Ieee.{Float}
use Rattle.rules.specs.Vertices.{layer_cells}
use Rattle.grid.specs.Block.{box_of, flags_of}
use Rattle.grid.specs.Layers.{two_layers, InLayers}
use Rattle.count.specs.Tally.{tally_of}
use Rattle.count.proofs.Tallies.{none-counted}
use Rattle.layers.specs.Offer.{before, cells_at, between}
use Rattle.layers.specs.Memory.{half_of}
use Rattle.layers.proofs.Cells.{cells-first, cells-later, in-layers, kept_read, two-layers}
use Rattle.layers.proofs.answers.count_below.Goals as goal
use Rattle.layers.proofs.answers.count_below.Goals.{After-half_of-lower}

lower-is : (c : After-half_of-lower) → let a = c.args in c.half_of-lower.result.now ≡ half_of a.s.block (before a.s) a.distances.now
lower-is c = let a = c.args in kept_read a.s.block (before a.s) a.distances.now c.requires.offered.long c.half_of-lower.ensures

-- ---- the needs
pub returns-then-s-eq0 : goal.returns-then-s-eq0
returns-then-s-eq0 c =
    let a = c.args in
    let g = between a.s a.layer.now a.distances.now in
    sym (ap (tally_of g (box_of a.s.block) (flags_of a.s.block)) (cells-first a.s c.if-s-eq0.true) ∙ none-counted g (box_of a.s.block) (flags_of a.s.block))

pub half_of-lower-requires : goal.half_of-lower-requires
half_of-lower-requires c = let r = c.requires in two-layers r r.kept

pub count_layer-requires : goal.count_layer-requires
count_layer-requires c =
    let a = c.args in
    let no = c.if-s-eq0.false in
    let e = lower-is (goal.at.count_layer-requires c).After-half_of-lower in
    subst (λ (lower : List Float). InLayers lower a.layer.now a.s.block (cells_at a.s)) (sym e) (in-layers c.requires (omega arith))

pub returns : goal.returns
returns c =
    let a = c.args in
    let k = a.s.block in
    let no = c.if-s-eq0.false in
    c.count_layer.ensures
    ∙ ap (λ (lower : List Float). tally_of (two_layers lower a.layer.now k (cells_at a.s)) (box_of k) (flags_of k) (layer_cells (box_of k) (cells_at a.s)))
    (lower-is (goal.at.returns c).After-half_of-lower)
    ∙ ap (tally_of (between a.s a.layer.now a.distances.now) (box_of k) (flags_of k)) (sym (cells-later a.s (omega arith)))
