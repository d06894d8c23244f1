-- Each edge by whether the box owns it and the signs that were read at its ends. Assumes nothing.
use Rattle.std.proofs.Common.{◌+◌, ◌≤◌, List, refl, ap, ◌∙◌, arith}
use lib.Ieee.{Float}
use Rattle.rules.specs.Grid.{Field, axis_x, axis_y, axis_z}
use Rattle.rules.specs.Cell.{negative}
use Rattle.grid.specs.Block.{point, box_of, flags_of}
use Rattle.grid.specs.Layers.{in_layer, two_layers}
use Rattle.layer_faces.proofs.Signs.{gives-is, cell-at, sign-here, sign-x, sign-y, sign-z}
use Rattle.layer_faces.proofs.giving.Given.{Over}
use Rattle.layer_faces.proofs.giving.Goals as goal
use Rattle.layer_faces.proofs.giving.Goals.{Start}

-- ---- the cell's place, and those of its edges' other ends
near : (g : Over) (c : Start g) → let a = c.args in in_layer (point a.k.dims) (point a.c) + 1 + a.k.dims.x ≤ in_layer (point a.k.dims) (point a.k.high)
near g c = cell-at c.requires.in_layers (point c.args.c) c.requires.t refl

-- the two layers of distances, and the field that they are
abbrev lower_of : (g : Over) → Start g → List Float
lower_of g c = let a = c.args in g.D.Distance.floats a.lower.now

abbrev upper_of : (g : Over) → Start g → List Float
upper_of g c = let a = c.args in g.D.Distance.floats a.upper.now

abbrev grid-of : (g : Over) → Start g → Field
grid-of g c = two_layers (lower_of g c) (upper_of g c) c.args.k c.args.c.z

pub value_at-requires-3 : goal.value_at-requires-3
value_at-requires-3 g c = omega (arith, near g (goal.at.value_at-requires-3 g c).Start, c.requires.in_layers.lower_holds)

pub value_at-requires-4 : goal.value_at-requires-4
value_at-requires-4 g c = omega (arith, near g (goal.at.value_at-requires-4 g c).Start, c.requires.in_layers.upper_holds)

pub returns-clause-z_value : goal.returns-clause-z_value
returns-clause-z_value g c =
    let a = c.args in
    let p = point a.c in
    let b = box_of a.k in
    let m = flags_of a.k in
    let here = c.negative-n.ensures ∙ ap negative (c.value_at.ensures ∙ sign-here c.requires.in_layers p c.requires.t refl) in
    let x = c.negative-nx.ensures ∙ ap negative (c.value_at-2.ensures ∙ sign-x c.requires.in_layers p c.requires.t refl) in
    let y = c.negative-ny.ensures ∙ ap negative (c.value_at-3.ensures ∙ sign-y c.requires.in_layers p c.requires.t refl) in
    let z = c.negative-nz.ensures ∙ ap negative (c.value_at-4.ensures ∙ sign-z c.requires.in_layers p c.requires.t refl) in gives-is (grid-of g (goal.at.returns-clause-z_value g c).Start) b m axis_z p c.owned_at-own.ensures.z_value here z

pub returns-clause-y_value : goal.returns-clause-y_value
returns-clause-y_value g c =
    let a = c.args in
    let p = point a.c in
    let b = box_of a.k in
    let m = flags_of a.k in
    let here = c.negative-n.ensures ∙ ap negative (c.value_at.ensures ∙ sign-here c.requires.in_layers p c.requires.t refl) in
    let x = c.negative-nx.ensures ∙ ap negative (c.value_at-2.ensures ∙ sign-x c.requires.in_layers p c.requires.t refl) in
    let y = c.negative-ny.ensures ∙ ap negative (c.value_at-3.ensures ∙ sign-y c.requires.in_layers p c.requires.t refl) in
    let z = c.negative-nz.ensures ∙ ap negative (c.value_at-4.ensures ∙ sign-z c.requires.in_layers p c.requires.t refl) in gives-is (grid-of g (goal.at.returns-clause-y_value g c).Start) b m axis_y p c.owned_at-own.ensures.y_value here y

pub returns-clause-x_value : goal.returns-clause-x_value
returns-clause-x_value g c =
    let a = c.args in
    let p = point a.c in
    let b = box_of a.k in
    let m = flags_of a.k in
    let here = c.negative-n.ensures ∙ ap negative (c.value_at.ensures ∙ sign-here c.requires.in_layers p c.requires.t refl) in
    let x = c.negative-nx.ensures ∙ ap negative (c.value_at-2.ensures ∙ sign-x c.requires.in_layers p c.requires.t refl) in
    let y = c.negative-ny.ensures ∙ ap negative (c.value_at-3.ensures ∙ sign-y c.requires.in_layers p c.requires.t refl) in
    let z = c.negative-nz.ensures ∙ ap negative (c.value_at-4.ensures ∙ sign-z c.requires.in_layers p c.requires.t refl) in gives-is (grid-of g (goal.at.returns-clause-x_value g c).Start) b m axis_x p c.owned_at-own.ensures.x_value here x
