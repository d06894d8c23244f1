-- The invariant: the indices are the faces of the vertices before `done`, batch after batch; after the last, those of the layer. Assumes nothing.
use Rattle.std.proofs.Common.{◌≡◌, ℕ, ◌+◌, ◌/◌, ◌<◌, ◌≤◌, List, length, ◌∙◌, subst, arith}
use lib.Ieee.{Float}
use Rattle.rules.specs.Grid.{Field}
use Rattle.rules.specs.Vertices.{layer_vertices}
use Rattle.grid.specs.Block.{box_of, flags_of}
use Rattle.grid.specs.Layers.{two_layers}
use Rattle.layer_faces.specs.Below.{Kept}
use Rattle.layer_faces.proofs.Lookups.{kept_of}
use Rattle.layer_faces.proofs.Vertices.{Faced, count-is, faced-none, faced-more, faced-room, faced-all}
use Rattle.layer_faces.proofs.face_layer.Given.{Over}
use Rattle.layer_faces.proofs.face_layer.Goals as goal
use Rattle.layer_faces.proofs.face_layer.Goals.{After-min-n, Start, else-loop-done-test, then-loop-done-test+else-count-done-gt32}

record Size (done count n : ℕ) : Type 0 where
  few : n ≤ 32
  within : done + n ≤ count
  some : 0 < n

-- the two layers of distances, and the field that they are
abbrev lower_of : (g : Over) → Start g → List Float
lower_of g c = let a = c.args in g.D.Distance.floats a.lower.now

abbrev upper_of : (g : Over) → Start g → List Float
upper_of g c = let a = c.args in g.D.Distance.floats a.upper.now

abbrev grid-of : (g : Over) → Start g → Field
grid-of g c = two_layers (lower_of g c) (upper_of g c) c.args.k c.args.z

abbrev kept_at : (g : Over) → Start g → Kept
kept_at g c = let a = c.args in kept_of a.first a.map_below.now a.positions_below.now

size : (g : Over) (c : After-min-n g) → Size c.loop-done.done (length c.args.cells.now / 3) c.min-n.result
size g c =
    let n = c.min-n.ensures in
    let h = c.loop-done-test.true in
    record { few = omega arith; within = omega arith; some = omega arith }

count : (g : Over) (c : Start g) → length c.args.cells.now / 3 ≡ length (layer_vertices (grid-of g c) (box_of c.args.k) c.args.z)
count g c = let a = c.args in count-is (grid-of g c) (box_of a.k) a.z a.cells.now c.requires.standing.cells

-- ---- the needs
pub loop-done-init : goal.loop-done-init
loop-done-init g c =
    let a = c.args in
    faced-none (grid-of g (goal.at.loop-done-init g c).Start) (box_of a.k) (flags_of a.k) a.first.here a.z (kept_at g (goal.at.loop-done-init g c).Start) a.indices.now a.at

pub face_some-used-requires-clause-batch : goal.face_some-used-requires-clause-batch
face_some-used-requires-clause-batch g c =
    let a = c.args in
    let n = size g (goal.at.face_some-used-requires-clause-batch g c).After-min-n in faced-room (grid-of g (goal.at.face_some-used-requires-clause-batch g c).Start) (box_of a.k) (flags_of a.k) a.first.here a.z (kept_at g (goal.at.face_some-used-requires-clause-batch g c).Start) c.loop-done.invariant c.min-n.result
    (omega (arith, count g (goal.at.face_some-used-requires-clause-batch g c).Start, n.within)) n.few c.requires.z_in_bounds

pub loop-done-preserved : goal.loop-done-preserved
loop-done-preserved g c =
    let a = c.args in
    let full : c.min-n.result ≡ 32 = omega (arith, c.min-n.ensures) in
    subst (λ (n : ℕ). Faced (grid-of g (goal.at.loop-done-preserved g c).Start) (box_of a.k) (flags_of a.k) a.first.here a.z (kept_at g (goal.at.loop-done-preserved g c).Start) a.indices.now a.at (c.loop-done.done + n) c.face_some-used.result
    c.face_some-used.new.indices) full
    (faced-more (grid-of g (goal.at.loop-done-preserved g c).Start) (box_of a.k) (flags_of a.k) a.first.here a.z (kept_at g (goal.at.loop-done-preserved g c).Start) c.loop-done.invariant c.min-n.result
    c.face_some-used.ensures.indices_after c.face_some-used.ensures.value)

pub returns-clause-indices_after : goal.returns-clause-indices_after
returns-clause-indices_after g c =
    let a = c.args in
    let known = count g (goal.at.returns-clause-indices_after g c).Start in
    elim c.loop-done-test.branch [
      | else-loop-done-test w ↦
          let past = w.loop-done-test.false in
          w.indices-is ∙ (faced-all (grid-of g (goal.at.returns-clause-indices_after g c).Start) (box_of a.k) (flags_of a.k) a.first.here a.z (kept_at g (goal.at.returns-clause-indices_after g c).Start) c.loop-done.invariant (omega (arith, known, past))).0
      | then-loop-done-test+else-count-done-gt32 w ↦
          let n = w.min-n.ensures in
          w.indices-is ∙ (faced-all (grid-of g (goal.at.returns-clause-indices_after g c).Start) (box_of a.k) (flags_of a.k) a.first.here a.z (kept_at g (goal.at.returns-clause-indices_after g c).Start)
          (faced-more (grid-of g (goal.at.returns-clause-indices_after g c).Start) (box_of a.k) (flags_of a.k) a.first.here a.z (kept_at g (goal.at.returns-clause-indices_after g c).Start) c.loop-done.invariant w.min-n.result
          w.face_some-used.ensures.indices_after w.face_some-used.ensures.value) (omega (arith, known, n))).0
    ]

pub returns-clause-value : goal.returns-clause-value
returns-clause-value g c =
    let a = c.args in
    let known = count g (goal.at.returns-clause-value g c).Start in
    elim c.loop-done-test.branch [
      | else-loop-done-test w ↦
          let past = w.loop-done-test.false in
          omega (arith, w.used-is, (faced-all (grid-of g (goal.at.returns-clause-value g c).Start) (box_of a.k) (flags_of a.k) a.first.here a.z (kept_at g (goal.at.returns-clause-value g c).Start) c.loop-done.invariant (omega (arith, known, past))).1)
      | then-loop-done-test+else-count-done-gt32 w ↦
          let n = w.min-n.ensures in
          omega (
            arith,
            w.used-is,
            (faced-all (grid-of g (goal.at.returns-clause-value g c).Start) (box_of a.k) (flags_of a.k) a.first.here a.z (kept_at g (goal.at.returns-clause-value g c).Start)
                (faced-more (grid-of g (goal.at.returns-clause-value g c).Start) (box_of a.k) (flags_of a.k) a.first.here a.z (kept_at g (goal.at.returns-clause-value g c).Start) c.loop-done.invariant w.min-n.result
                w.face_some-used.ensures.indices_after w.face_some-used.ensures.value) (omega (arith, known, n))).1,
          )
    ]
