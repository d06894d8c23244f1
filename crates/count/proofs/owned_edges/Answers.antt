-- Ownership of the row's edges, less the test of the cell's x, which the lengths stand for. Assumes nothing.
use Prim.Native.Nat.{ℕ}
use mathlib.Core.Bool.{Bool, ◌&&◌, cond, and-true}
use mathlib.Core.Path.{ap, ap₂, ◌∙◌}
use lib.Dec.{ltb}
use Rattle.grid.specs.Block.{box_of}
use Rattle.row_signs.specs.Signs.{row_length}
use Rattle.count.specs.Runs.{owned_edges}
use Rattle.count.proofs.owned_edges.Goals as goal

pub returns : goal.returns
unfolding owned_edges
returns c =
    let a = c.args in
    let b = box_of a.k in
    let where-owned : Bool → ℕ → ℕ = λ (t : Bool) (n : ℕ). cond t n 0 in
    let inner = c.all_but_one-inner.ensures in
    let along-x = c.pick-along.ensures ∙ ap (cond a.k.max_plane.x (row_length b)) inner in
    let above = c.owns.ensures ∙ ap (λ (t : Bool). ltb b.low.y a.y && t) (and-true (ltb b.low.z a.z)) in
    let x = c.pick.ensures ∙ ap₂ where-owned above along-x in
    let y = c.pick-2.ensures ∙ ap₂ where-owned c.owns-2.ensures inner in
    let z = c.pick-3.ensures ∙ ap₂ where-owned c.owns-3.ensures inner in
    λ i. record { x = x i; y = y i; z = z i }
