-- The invariant: the indices are what they were with the faces of the first q entries, each put at its place. A turn makes one: four vertices, the first
-- by its number and three looked up, as the caller owes, and their quad is put. Assumes nothing.
use Rattle.std.proofs.Common.{◌≡◌, ℕ, ◌+◌, List, get_or, ap, ◌∙◌, zero-le, arith}
use lib.Ieee.{Float}
use Rattle.rules.specs.Cell.{negative}
use Rattle.layer_faces.specs.Quads.{quad_at}
use Rattle.layer_faces.specs.Filing.{along, faces_put}
use Rattle.layer_faces.proofs.Chosen.{quad-looked}
use Rattle.layer_faces.proofs.Putting.{put-none, put_on}
use Rattle.layer_faces.proofs.put_faces.Given.{Over}
use Rattle.layer_faces.proofs.put_faces.Goals as goal
use Rattle.layer_faces.proofs.put_faces.Goals.{In-loop-q, Start}

-- the layer of distances; a place in it is a number of 64 bits
abbrev lower_of : (g : Over) → Start g → List Float
lower_of g c = let a = c.args in g.D.Distance.floats a.lower.now

abbrev quad-of : (g : Over) → Start g → ℕ → List ℕ
quad-of g c =
    let a = c.args in
    λ v. quad_at a.first a.map.now a.positions.now a.map_below.now a.positions_below.now (lower_of g c) a.row a.cells.now v (along a.axis)

-- ---- a turn
abbrev vertex-of : (g : Over) → In-loop-q g → ℕ
vertex-of g c = let a = c.args in a.from + get_or a.who.now (c.first_entry-start.result + c.loop-q.q) 0

pub loop-q-init : goal.loop-q-init
loop-q-init g c =
    let a = c.args in
    (zero-le, put-none (quad-of g (goal.at.loop-q-init g c).Start) a.who.now a.rank.now c.first_entry-start.result a.from a.at a.indices.now)

pub loop-q-preserved : goal.loop-q-preserved
loop-q-preserved g c =
    let a = c.args in
    let w = c.loop-q in
    let sign = c.negative.ensures ∙ ap negative c.value_at.ensures in (
      omega (arith, c.loop-q-test.true),
      put_on (quad-of g (goal.at.loop-q-preserved g c).Start) a.who.now a.rank.now c.first_entry-start.result a.from a.at w.q a.indices.now w.invariant.1
          (quad-looked a.first a.map.now a.positions.now a.map_below.now a.positions_below.now (lower_of g (goal.at.loop-q-preserved g c).Start) a.row a.cells.now (vertex-of g (goal.at.loop-q-preserved g c).In-loop-q)
          (along a.axis) c.place_of-cell.ensures sign c.second_way-second.ensures c.third_way-third.ensures c.fourth_way-fourth.ensures
          c.own_vertex-v1.ensures c.look-v2.ensures c.look-v3.ensures c.look-v4.ensures)
          c.make_quad.ensures,
    )

pub returns : goal.returns
returns g c =
    let a = c.args in
    let w = c.loop-q in
    let all : w.q ≡ a.count = omega (arith, w.invariant.0, c.loop-q-test.false) in
    w.invariant.1
    ∙ (λ i. faces_put (quad-of g (goal.at.returns g c).Start) a.who.now a.rank.now (c.first_entry-start.ensures i) a.from a.at (all i) a.indices.now)
