-- The conditions in their order, and then the scan of the layer as a grid one layer high. Assumes nothing.
use Prim.Native.Nat.{◌*◌}
use mathlib.Core.Bool.{false, not}
use mathlib.Core.List.{List}
use mathlib.Core.Path.{◌≡◌, sym, ap, ◌∙◌}
use lib.Ieee.{Float}
use lib.ListN.{length}
use Rattle.rules.specs.Grid.{Box, Field}
use Rattle.rules.specs.Call.{bad_dimensions, bad_box}
use Rattle.grid.specs.Block.{point}
use Rattle.grid.proofs.Places.{as-long}
use Rattle.skin.specs.Scan.{box_from, outside, layer_grid}
use Rattle.skin.proofs.LayerByLayer.{flat-inside, flat-strays, layer-1, layer-2, layer-outside, layer-3, layer-0}
use Rattle.skin.proofs.layer.is_enclosed_layer.Given.{Over}
use Rattle.skin.proofs.layer.is_enclosed_layer.Goals as goal
use Rattle.skin.proofs.layer.is_enclosed_layer.Goals.{Start, Else-bad_dimensions, Else-bad_box, Else-is_outside, Else-layer-plane}

-- ---- the layer and its box, and what the tests said on the way
abbrev list-of : (g : Over) → Start g → List Float
list-of g c = g.D.Distance.floats c.args.layer.now

abbrev grid-of : (g : Over) → Start g → Field
grid-of g c = layer_grid (list-of g c) c.args.dims c.args.z

abbrev box-of : (g : Over) → Start g → Box
box-of g c = box_from c.args.low c.args.high

dims-ok : (g : Over) (c : Else-bad_dimensions g) → bad_dimensions (point c.args.dims) ≡ false
dims-ok g c = sym c.bad_dimensions.ensures ∙ c.if-bad_dimensions.false

box-ok : (g : Over) (c : Else-bad_box g) → let a = c.args in bad_box (point a.dims) (box_from a.low a.high) ≡ false
box-ok g c = sym c.bad_box.ensures ∙ c.if-bad_box.false

height-ok : (g : Over) (c : Else-is_outside g) → let a = c.args in outside (box_from a.low a.high) a.z ≡ false
height-ok g c = sym c.is_outside.ensures ∙ c.if-is_outside.false

long : (g : Over) (c : Else-layer-plane g) → let a = c.args in length (g.D.Distance.floats a.layer.now) ≡ a.dims.x * a.dims.y
long g c = as-long g.met.D.Distance.floats_are c.args.layer.now ∙ c.if-layer-plane.false

-- ---- the needs
pub returns-then-bad_dimensions : goal.returns-then-bad_dimensions
returns-then-bad_dimensions g c =
    let s = (goal.at.returns-then-bad_dimensions g c).Start in
    layer-1 (grid-of g s) (box-of g s) (length (list-of g s)) c.args.z (sym c.bad_dimensions.ensures ∙ c.if-bad_dimensions.true)

pub returns-then-bad_box : goal.returns-then-bad_box
returns-then-bad_box g c =
    let at = goal.at.returns-then-bad_box g c in
    layer-2 (grid-of g at.Start) (box-of g at.Start) (length (list-of g at.Start)) c.args.z (dims-ok g at.Else-bad_dimensions)
    (sym c.bad_box.ensures ∙ c.if-bad_box.true)

pub returns-then-is_outside : goal.returns-then-is_outside
returns-then-is_outside g c =
    let at = goal.at.returns-then-is_outside g c in
    layer-outside (grid-of g at.Start) (box-of g at.Start) (length (list-of g at.Start)) c.args.z (dims-ok g at.Else-bad_dimensions) (box-ok g at.Else-bad_box)
    (sym c.is_outside.ensures ∙ c.if-is_outside.true)

pub returns-then-layer-plane : goal.returns-then-layer-plane
returns-then-layer-plane g c =
    let at = goal.at.returns-then-layer-plane g c in
    layer-3 (grid-of g at.Start) (box-of g at.Start) (length (list-of g at.Start)) c.args.z (dims-ok g at.Else-bad_dimensions) (box-ok g at.Else-bad_box)
    (height-ok g at.Else-is_outside) (λ q. c.if-layer-plane.true (sym (as-long g.met.D.Distance.floats_are c.args.layer.now) ∙ q))

pub stray_layer-requires-clause-inside : goal.stray_layer-requires-clause-inside
stray_layer-requires-clause-inside g c =
    let at = goal.at.stray_layer-requires-clause-inside g c in
    flat-inside c.args.dims c.args.low c.args.high (list-of g at.Start) (dims-ok g at.Else-bad_dimensions) (box-ok g at.Else-bad_box) (long g at.Else-layer-plane)

pub returns : goal.returns
returns g c =
    let a = c.args in
    let at = goal.at.returns g c in
    layer-0 (grid-of g at.Start) (box-of g at.Start) (length (list-of g at.Start)) a.z (dims-ok g at.Else-bad_dimensions) (box-ok g at.Else-bad_box)
    (height-ok g at.Else-is_outside) (long g at.Else-layer-plane) c.stray_layer.result
    (ap not c.stray_layer.ensures ∙ flat-strays (list-of g at.Start) a.dims a.low a.high a.z)
