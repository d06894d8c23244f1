-- The first layer brings out nothing; any other its vertices, then its faces, and its positions are kept. Assumes nothing.
use Prim.Native.Nat.{◌*◌, ◌≤◌}
use native.Mathlib.Omega.{arith}
use mathlib.Core.List.{List, ◌++◌}
use mathlib.Core.Path.{sym, ap, ◌∙◌}
use lib.Ieee.{Float}
use lib.ListN.{length, take, drop}
use lib.Seq.{length-take-le}
use Rattle.layers.specs.Offer.{output}
use Rattle.layers.proofs.Halves.{front-stored}
use Rattle.layers.proofs.Cells.{vertices-few, edges_room, new-room}
use Rattle.layers.proofs.Brought.{MarkedNew, brought-first, brought-later, stands-new, positions-part}
use Rattle.layers.proofs.bringing.bring_out.Goals as goal
use Rattle.layers.proofs.bringing.bring_out.Goals.{After-mark_kept-count, Else-s-eq0}

-- ---- a layer after the first, and that its positions can be kept
new : (c : Else-s-eq0) → let a = c.args in
    MarkedNew a.s a.layer.now a.distances.now (output a.positions.now a.normals.now a.cells.now a.strides.now a.crossings.now a.indices.now) a.map.now
new c =
    let r = c.requires.roomy in
    let no = c.if-s-eq0.false in
    record { ready = r.ready; later = omega arith; long = r.map; cells = r.cells; positions = r.positions }

fits : (c : After-mark_kept-count) → 3 * c.mark_kept-count.result ≤ length c.args.kept.now
fits c =
    let r = c.requires.roomy in
    let v = vertices-few r.ready in
    omega (arith, c.mark_kept-count.ensures.value, r.keeps)

-- ---- the needs
pub returns-then-s-eq0 : goal.returns-then-s-eq0
returns-then-s-eq0 c =
    let a = c.args in
    brought-first a.s a.layer.now a.distances.now a.map.now a.kept.now
    (output a.positions.now a.normals.now a.cells.now a.strides.now a.crossings.now a.indices.now) c.if-s-eq0.true

pub mark_kept-count-requires-clause-room : goal.mark_kept-count-requires-clause-room
mark_kept-count-requires-clause-room c = new-room c.requires.roomy c.requires.number_value

pub face_kept-requires-clause-standing : goal.face_kept-requires-clause-standing
face_kept-requires-clause-standing c =
    let e = c.mark_kept-count.ensures in
    stands-new (new (goal.at.face_kept-requires-clause-standing c).Else-s-eq0) e.map_value c.requires.number_value e.value

pub face_kept-requires-clause-s_in_bounds : goal.face_kept-requires-clause-s_in_bounds
face_kept-requires-clause-s_in_bounds c =
    let n = new (goal.at.face_kept-requires-clause-s_in_bounds c).Else-s-eq0 in edges_room c.requires.roomy n.later

pub slice_bounds-copy-end : goal.slice_bounds-copy-end
slice_bounds-copy-end c = fits (goal.at.slice_bounds-copy-end c).After-mark_kept-count

pub slice_bounds-copy-end-2 : goal.slice_bounds-copy-end-2
slice_bounds-copy-end-2 c =
    sym (length-take-le (3 * c.mark_kept-count.result) c.args.kept.now (fits (goal.at.slice_bounds-copy-end-2 c).After-mark_kept-count))

pub copy-requires : goal.copy-requires
copy-requires c =
    let at = goal.at.copy-requires c in
    let e = c.mark_kept-count.ensures in
    length-take-le (3 * c.mark_kept-count.result) c.args.kept.now (fits at.After-mark_kept-count) ∙ positions-part (new at.Else-s-eq0) e.map_value e.value

pub returns : goal.returns
returns c =
    let at = goal.at.returns c in
    let e = c.mark_kept-count.ensures in
    let last = 3 * c.mark_kept-count.result in
    let kept = c.args.kept.now in
    let n = new at.Else-s-eq0 in
    let long = positions-part n e.map_value e.value in
    let room : last ≤ length kept = fits at.After-mark_kept-count in
    brought-later n e.map_value c.requires.number_value e.value kept c.face_kept.ensures
    (ap (λ (l : List Float). l ++ drop last kept) c.copy.ensures ∙ front-stored kept (take last _) (omega arith) last long)
