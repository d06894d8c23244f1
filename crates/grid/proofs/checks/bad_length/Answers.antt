-- The length is divided by the product of two dimensions: none, with a rest, or without one. Assumes nothing.
use Prim.Native.Nat.{◌*◌}
use Rattle.rules.specs.Call.{bad_length}
use Rattle.grid.proofs.Lengths.{no-layer, part-layer, whole-layers}
use Rattle.grid.proofs.checks.bad_length.Goals as goal

pub returns-then-plane-eq0 : goal.returns-then-plane-eq0
unfolding bad_length
returns-then-plane-eq0 c =
    let a = c.args in
    no-layer (a.d.x * a.d.y) a.length a.d.z c.if-plane-eq0.true

pub returns-then-length-plane-ne0 : goal.returns-then-length-plane-ne0
unfolding bad_length
returns-then-length-plane-ne0 c =
    let a = c.args in
    part-layer (a.d.x * a.d.y) a.length a.d.z c.if-length-plane-ne0.true

pub returns : goal.returns
unfolding bad_length
returns c =
    let a = c.args in
    whole-layers (a.d.x * a.d.y) a.length a.d.z c.if-plane-eq0.false c.if-length-plane-ne0.false
