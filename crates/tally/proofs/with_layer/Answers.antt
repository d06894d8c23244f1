-- What the cells between the two layers count is small, so that the sums fit. Assumes nothing.
use Prim.Native.Nat.{ℕ, ◌+◌, ◌≤◌}
use native.Mathlib.Omega.{arith}
use mathlib.Core.Path.{◌∙◌}
use mir.Syntax.{w64}
use mir.Val.{Fits}
use Rattle.rules.specs.Grid.{Field}
use Rattle.grid.specs.Block.{box_of, flags_of}
use Rattle.grid.specs.Layers.{two_layers}
use Rattle.tally.specs.Call.{counted}
use Rattle.tally.proofs.Boxes.{layer-tally, Few, layer-few}
use Rattle.tally.proofs.with_layer.Given.{Over}
use Rattle.tally.proofs.with_layer.Goals as goal
use Rattle.tally.proofs.with_layer.Goals.{After-whole_layer-whole, Start}

fit : (n m : ℕ) → n ≤ 1152921504606846976 → m ≤ 19327352832 → Fits w64 (n + m)
fit n m h l = omega arith

wide : (m : ℕ) → m ≤ 1073741824 → m ≤ 19327352832
wide m h = omega arith

abbrev field_of : (g : Over) → After-whole_layer-whole g → Field
field_of g c =
    let a = c.args in
    two_layers (g.D.Distance.floats a.below.now) (g.D.Distance.floats a.layer.now) a.k a.z

few : (g : Over) (c : After-whole_layer-whole g) → Few c.whole_layer-whole.result c.count_layer-t.result.vertices c.count_layer-t.result.indices
few g c = layer-few c.requires.in_layers (field_of g c) c.whole_layer-whole.ensures c.count_layer-t.ensures

abbrev field_of-2 : (g : Over) → Start g → Field
field_of-2 g c =
    let a = c.args in
    two_layers (g.D.Distance.floats a.below.now) (g.D.Distance.floats a.layer.now) a.k a.z

pub overflow_add-cells : goal.overflow_add-cells
overflow_add-cells g c =
    fit _ _ c.requires.so_far_bound.0 (wide _ (few g (goal.at.overflow_add-cells g c).After-whole_layer-whole).whole)

pub overflow_add-vertices : goal.overflow_add-vertices
overflow_add-vertices g c =
    fit _ _ c.requires.so_far_bound.1.0 (wide _ (few g (goal.at.overflow_add-vertices g c).After-whole_layer-whole).vertices)

pub overflow_add-indices : goal.overflow_add-indices
overflow_add-indices g c =
    fit _ _ c.requires.so_far_bound.1.1 (few g (goal.at.overflow_add-indices g c).After-whole_layer-whole).indices

pub returns : goal.returns
returns g c =
    let k = c.args.k in
    let o = c.args.so_far in
    let a = c.whole_layer-whole.ensures in
    let t = c.count_layer-t.ensures ∙ layer-tally (field_of-2 g (goal.at.returns g c).Start) (box_of k) (flags_of k) c.args.z in
    λ i. counted (o.whole + a i) (o.vertices + (t i).vertices) (o.indices + (t i).indices)
