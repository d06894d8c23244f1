-- Each test in turn; where the product of two dimensions is above the limit, so is that of three. Assumes nothing.
use mathlib.Core.Bool.{false}
use mathlib.Core.Path.{◌≡◌, sym, ◌∙◌}
use Prim.Native.Nat.{◌*◌}
use lib.Dec.{ltb}
use borrow.Author.Tests.{lt-ltb}
use Rattle.rules.specs.Call.{bad_dimension, bad_dimensions}
use Rattle.grid.specs.Block.{point}
use Rattle.grid.proofs.Tests.{first, second, third, last, grows, positive-dimension}
use Rattle.grid.proofs.checks.bad_dimensions.Goals as goal
use Rattle.grid.proofs.checks.bad_dimensions.Goals.{Else-bad_dimension, Else-bad_dimension-2, Else-bad_dimension-3}

x-good : (c : Else-bad_dimension) → bad_dimension c.args.d.x ≡ false
x-good c = sym c.bad_dimension.ensures ∙ c.if-bad_dimension.false

y-good : (c : Else-bad_dimension-2) → bad_dimension c.args.d.y ≡ false
y-good c = sym c.bad_dimension-2.ensures ∙ c.if-bad_dimension-2.false

z-good : (c : Else-bad_dimension-3) → bad_dimension c.args.d.z ≡ false
z-good c = sym c.bad_dimension-3.ensures ∙ c.if-bad_dimension-3.false

x-good-2 : (c : Else-bad_dimension-3) → bad_dimension c.args.d.x ≡ false
x-good-2 c = sym c.bad_dimension.ensures ∙ c.if-bad_dimension.false

y-good-2 : (c : Else-bad_dimension-3) → bad_dimension c.args.d.y ≡ false
y-good-2 c = sym c.bad_dimension-2.ensures ∙ c.if-bad_dimension-2.false

-- then only the product is left
product-left : (c : Else-bad_dimension-3) → let d = point c.args.d in ltb 1073741824 (d.x * d.y * d.z) ≡ bad_dimensions d
unfolding bad_dimensions
product-left c =
    let d = c.args.d in
    last (ltb 1073741824 (d.x * d.y * d.z)) (x-good-2 c) (y-good-2 c) (z-good c)

pub returns-then-bad_dimension : goal.returns-then-bad_dimension
unfolding bad_dimensions
returns-then-bad_dimension c =
    let d = c.args.d in
    first (bad_dimension d.y) (bad_dimension d.z) (ltb 1073741824 (d.x * d.y * d.z)) (sym c.bad_dimension.ensures ∙ c.if-bad_dimension.true)

pub returns-then-bad_dimension-2 : goal.returns-then-bad_dimension-2
unfolding bad_dimensions
returns-then-bad_dimension-2 c =
    let d = c.args.d in
    second (bad_dimension d.z) (ltb 1073741824 (d.x * d.y * d.z)) (x-good (goal.at.returns-then-bad_dimension-2 c).Else-bad_dimension) (sym c.bad_dimension-2.ensures ∙ c.if-bad_dimension-2.true)

pub returns-then-bad_dimension-3 : goal.returns-then-bad_dimension-3
unfolding bad_dimensions
returns-then-bad_dimension-3 c =
    let d = c.args.d in
    third (ltb 1073741824 (d.x * d.y * d.z)) (x-good (goal.at.returns-then-bad_dimension-3 c).Else-bad_dimension) (y-good (goal.at.returns-then-bad_dimension-3 c).Else-bad_dimension-2) (sym c.bad_dimension-3.ensures ∙ c.if-bad_dimension-3.true)

pub returns-then-plane-gt1073741824 : goal.returns-then-plane-gt1073741824
returns-then-plane-gt1073741824 c =
    let d = c.args.d in
    sym (lt-ltb _ _ (grows d.z (positive-dimension d.z (z-good (goal.at.returns-then-plane-gt1073741824 c).Else-bad_dimension-3)) c.if-plane-gt1073741824.true)) ∙ product-left (goal.at.returns-then-plane-gt1073741824 c).Else-bad_dimension-3

pub returns : goal.returns
returns c = product-left (goal.at.returns c).Else-bad_dimension-3
