-- The invariant: the lists are what the vertices of the lanes before j leave. A turn writes the vertex of the lane j behind them. Assumes nothing.
use Prim.Native.Nat.{◌+◌, ◌*◌, zero-le}
use mathlib.Core.List.{◌∷◌, [], map}
use mathlib.Core.Path.{refl, ap, ◌∙◌}
use lib.Seq.{sets}
use Rattle.lists.proofs.Runs.{up_to-none}
use Rattle.rules.specs.Cell.{Vector, position}
use Rattle.rules.specs.Cutting.{point_in}
use Rattle.layer_estimates.specs.Estimates.{vertex_at}
use Rattle.layer_estimates.proofs.Numbers.{OfTurn, of-turn}
use Rattle.layer_estimates.proofs.Writing.{wrote_none, wrote_one, wrote-next}
use Rattle.layer_estimates.proofs.put.Goals as goal
use Rattle.layer_estimates.proofs.put.Goals.{In-loop-j}

turn : (c : In-loop-j) → OfTurn c.loop-j.j c.args.n
turn c = of-turn c.loop-j-test.true c.requires.n_bound.0

-- ---- the needs
pub loop-j-init : goal.loop-j-init
loop-j-init c =
    let a = c.args in
    let f = vertex_at a.cells.now a.from a.centroids.now a.gradients.now a.counts.now in
    (zero-le, wrote_none (ap (map f) (up_to-none 0 0 zero-le)))

pub loop-j-preserved : goal.loop-j-preserved
loop-j-preserved c =
    let a = c.args in
    let w = c.loop-j in
    let f = vertex_at a.cells.now a.from a.centroids.now a.gradients.now a.counts.now in
    let at = 3 * (a.place + w.j) in (
      (turn (goal.at.loop-j-preserved c).In-loop-j).taken,
      wrote-next f w.j w.invariant.1
          (wrote_one (f w.j)
          (c.put_vector.ensures
          ∙ ap (λ (v : Vector). sets w.positions at (v.x ∷ v.y ∷ v.z ∷ []))
          (c.position_at.ensures ∙ ap (position (point_in a.cells.now (a.from + w.j))) c.lane-s.ensures))
          (c.put_vector-in-loop-j.ensures ∙ ap (λ (v : Vector). sets w.normals at (v.x ∷ v.y ∷ v.z ∷ [])) c.lane.ensures) refl),
    )
