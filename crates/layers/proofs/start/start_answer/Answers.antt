-- The conditions in their order: each way out by the tests that led there. Assumes nothing.
use Prim.Native.Nat.{ℕ}
use mathlib.Core.Bool.{false}
use mathlib.Core.Path.{◌≡◌, refl, sym, ap, ◌∙◌}
use Rattle.rules.specs.Call.{bad_dimensions, bad_box}
use Rattle.lists.proofs.Tests.{failed}
use Rattle.grid.specs.Block.{point, box_of}
use Rattle.layers.specs.Answer.{number_of}
use Rattle.layers.specs.Memory.{Lengths}
use Rattle.layers.proofs.Judging.{plane-few, start-1, start-2, start-4, start-0, memory-tested}
use Rattle.layers.proofs.start.start_answer.Goals as goal
use Rattle.layers.proofs.start.start_answer.Goals.{Else-bad_box, Else-bad_dimensions}

abbrev lent : (distances map positions : ℕ) → Lengths
lent distances map positions = record { distances = distances; map = map; positions = positions }

dims-ok : (c : Else-bad_dimensions) → bad_dimensions (point c.args.k.dims) ≡ false
dims-ok c = sym c.bad_dimensions.ensures ∙ c.if-bad_dimensions.false

box-ok : (c : Else-bad_box) → let k = c.args.k in bad_box (point k.dims) (box_of k) ≡ false
box-ok c = sym c.bad_box.ensures ∙ c.if-bad_box.false

-- ---- the needs
pub returns-then-bad_dimensions : goal.returns-then-bad_dimensions
returns-then-bad_dimensions c =
    let a = c.args in
    ap number_of c.from.ensures ∙ start-1 a.k (lent a.distances a.map a.positions) (sym c.bad_dimensions.ensures ∙ c.if-bad_dimensions.true)

pub returns-then-bad_box : goal.returns-then-bad_box
returns-then-bad_box c =
    let a = c.args in
    ap number_of c.from-then-bad_box.ensures
    ∙ start-2 a.k (lent a.distances a.map a.positions) (dims-ok (goal.at.returns-then-bad_box c).Else-bad_dimensions) (sym c.bad_box.ensures ∙ c.if-bad_box.true)

pub short_memory-requires : goal.short_memory-requires
short_memory-requires c =
    let at = goal.at.short_memory-requires c in plane-few c.args.k (failed refl (dims-ok at.Else-bad_dimensions)) (failed refl (box-ok at.Else-bad_box))

pub returns-then-short_memory : goal.returns-then-short_memory
returns-then-short_memory c =
    let a = c.args in
    let at = goal.at.returns-then-short_memory c in
    let r = lent a.distances a.map a.positions in
    start-4 a.k r (dims-ok at.Else-bad_dimensions) (box-ok at.Else-bad_box) (memory-tested a.k r c.short_memory.ensures ∙ c.if-short_memory.true)

pub returns : goal.returns
returns c =
    let a = c.args in
    let at = goal.at.returns c in
    let r = lent a.distances a.map a.positions in
    start-0 a.k r (dims-ok at.Else-bad_dimensions) (box-ok at.Else-bad_box) (memory-tested a.k r c.short_memory.ensures ∙ c.if-short_memory.false)
