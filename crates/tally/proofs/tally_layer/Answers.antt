-- Each way out by what was found of the layers, and by the counts so far. Assumes nothing.
use native.Mathlib.Omega.{arith}
use mathlib.Core.Bool.{false}
use mathlib.Core.List.{List}
use mathlib.Core.Path.{◌≡◌, ap, sym, ◌∙◌}
use lib.Ieee.{Float}
use Rattle.grid.proofs.Faults.{err-is}
use Rattle.tally.specs.Call.{told_of, too_many}
use Rattle.tally.proofs.Answering.{Good, unless-good, unless-other, good-first, good-92, good-0, layer-refused, layer-done, taken-first, taken_next, one_below, cells-below}
use Rattle.tally.proofs.tally_layer.Given.{Over}
use Rattle.tally.proofs.tally_layer.Goals as goal
use Rattle.tally.proofs.tally_layer.Goals.{In_ok-unless_room, Else-too_many, Start}

abbrev lower_of : (g : Over) → Start g → List Float
lower_of g c = let a = c.args in g.D.Distance.floats a.below.now

abbrev upper_of : (g : Over) → Start g → List Float
upper_of g c = let a = c.args in g.D.Distance.floats a.layer.now

good : (g : Over) (c : In_ok-unless_room g) → let a = c.args in Good (g.D.Distance.floats a.below.now) (g.D.Distance.floats a.layer.now) a.k a.z
good g c = let a = c.args in unless-good (g.D.Distance.floats a.below.now) (g.D.Distance.floats a.layer.now) a.k a.z c.levels_layer-found.result c.levels_layer-found.ensures.value (sym c.in_ok-unless_room.ensures)

few : (g : Over) (c : Else-too_many g) → too_many c.args.so_far ≡ false
few g c = sym c.too_many.ensures ∙ c.if-too_many.false

-- ---- the goals
pub returns-in_err-unless_room : goal.returns-in_err-unless_room
returns-in_err-unless_room g c =
    let a = c.args in
    let lower = g.D.Distance.floats a.below.now in
    let upper = g.D.Distance.floats a.layer.now in
    let w = unless-other lower upper a.k a.z c.levels_layer-found.result c.levels_layer-found.ensures.value (sym c.in_err-unless_room.ensures) a.so_far in
    ap (told_of a.so_far) (err-is c.from_residual.result c.from_residual.ensures.1) ∙ layer-refused lower upper a.k a.z a.so_far w.0 w.1

pub returns-then-z-k : goal.returns-then-z-k
returns-then-z-k g c =
    let a = c.args in
    let s = (goal.at.returns-then-z-k g c).Start in
    layer-done (lower_of g s) (upper_of g s) a.k a.z a.so_far (good-first (good g (goal.at.returns-then-z-k g c).In_ok-unless_room) a.so_far c.if-z-k.true)
    (taken-first (lower_of g s) (upper_of g s) a.k a.z a.so_far c.if-z-k.true)

pub returns-then-too_many : goal.returns-then-too_many
returns-then-too_many g c =
    let a = c.args in
    let s = (goal.at.returns-then-too_many g c).Start in
    layer-refused (lower_of g s) (upper_of g s) a.k a.z a.so_far
    (good-92 (good g (goal.at.returns-then-too_many g c).In_ok-unless_room) a.so_far c.if-z-k.false (sym c.too_many.ensures ∙ c.if-too_many.true)) (omega arith)

pub overflow_sub-z : goal.overflow_sub-z
overflow_sub-z g c = one_below (good g (goal.at.overflow_sub-z g c).In_ok-unless_room) c.if-z-k.false

pub with_layer-requires-clause-in_layers : goal.with_layer-requires-clause-in_layers
with_layer-requires-clause-in_layers g c =
    cells-below (good g (goal.at.with_layer-requires-clause-in_layers g c).In_ok-unless_room) c.if-z-k.false

pub returns : goal.returns
returns g c =
    let a = c.args in
    let s = (goal.at.returns g c).Start in
    let n = c.if-z-k.false in
    layer-done (lower_of g s) (upper_of g s) a.k a.z a.so_far (good-0 (good g (goal.at.returns g c).In_ok-unless_room) a.so_far n (few g (goal.at.returns g c).Else-too_many))
    (c.with_layer.ensures ∙ taken_next (lower_of g s) (upper_of g s) a.k a.z a.so_far n)
