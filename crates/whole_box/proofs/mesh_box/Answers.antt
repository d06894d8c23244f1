-- The invariant: the lists are what the layers before z leave; after the last layer of cells and the layer of points behind it, that is what the
-- documents say. Assumes nothing.
use Prim.Native.Nat.{ℕ}
use native.Mathlib.Omega.{arith}
use mathlib.Core.List.{List}
use mathlib.Core.Path.{ap, ◌∙◌}
use lib.Ieee.{Float}
use Rattle.rules.specs.Call.{Buffers}
use Rattle.grid.specs.Block.{call_of}
use Rattle.grid.proofs.Bounds.{fits}
use Rattle.grid.proofs.Walks.{begun, ended, cell-spans, AtLayer, at-layer}
use Rattle.whole_box.specs.LentLists.{buffers, buffers_given}
use Rattle.whole_box.specs.Layers.{written_to}
use Rattle.whole_box.proofs.Steps.{SameLengths, written_none, written_all, written-lengths}
use Rattle.whole_box.proofs.Lent.{plane-up, written-room}
use Rattle.whole_box.proofs.Last.{in_map}
use Rattle.whole_box.proofs.Layer.{stands-marked, indices-room, vertices-fit, indices-fit, layer-next}
use Rattle.whole_box.proofs.mesh_box.Given.{Over}
use Rattle.whole_box.proofs.mesh_box.Goals as goal
use Rattle.whole_box.proofs.mesh_box.Goals.{At-loop-z, In-loop-z, Start}

abbrev grid-of : (g : Over) → Start g → List Float
grid-of g c = let a = c.args in g.D.Distance.floats a.sdf.now

-- the lists as they are lent
abbrev lent_of : (g : Over) → Start g → Buffers
lent_of g c = let a = c.args in buffers_given a.positions a.normals a.cells a.strides a.crossings a.map a.indices

-- ---- the layer of a turn
here : (g : Over) (c : In-loop-z g) → AtLayer c.args.k c.loop-z.z
here g c = at-layer c.requires.inside c.loop-z.invariant.0 c.loop-z-test.true

-- the lists as they are lent
abbrev lent_of-2 : (g : Over) → At-loop-z g → Buffers
lent_of-2 g c = let a = c.args in buffers_given a.positions a.normals a.cells a.strides a.crossings a.map a.indices

abbrev grid-of-2 : (g : Over) → At-loop-z g → List Float
grid-of-2 g c = let a = c.args in g.D.Distance.floats a.sdf.now

lengths : (g : Over) (c : At-loop-z g) → let w = c.loop-z in
    SameLengths (buffers w.positions w.normals w.cells w.strides w.crossings w.map w.indices) (lent_of-2 g c)
lengths g c = let w = c.loop-z in written-lengths (call_of (grid-of-2 g c) c.args.k) w.z w.invariant.0.low w.invariant.0.high w.invariant.1

-- ---- the needs
pub loop-z-init : goal.loop-z-init
loop-z-init g c =
    let a = c.args in
    (begun (cell-spans c.requires.inside).z, written_none (call_of (grid-of g (goal.at.loop-z-init g c).Start) a.k) (lent_of g (goal.at.loop-z-init g c).Start) c.requires.roomy)

pub mark_part-count-requires-clause-room : goal.mark_part-count-requires-clause-room
mark_part-count-requires-clause-room g c =
    let k = c.args.k in
    let w = c.loop-z in
    let zs = (here g (goal.at.mark_part-count-requires-clause-room g c).In-loop-z).turn.here in written-room (grid-of g (goal.at.mark_part-count-requires-clause-room g c).Start) k c.requires.inside w.z zs w.invariant.1

pub face_part-used-requires-clause-z_in_bounds : goal.face_part-used-requires-clause-z_in_bounds
face_part-used-requires-clause-z_in_bounds g c =
    let w = c.loop-z in
    indices-room (grid-of g (goal.at.face_part-used-requires-clause-z_in_bounds g c).Start) c.args.k c.requires.inside w.z (here g (goal.at.face_part-used-requires-clause-z_in_bounds g c).In-loop-z).turn.here w.invariant.1

pub face_part-used-requires-clause-stands : goal.face_part-used-requires-clause-stands
face_part-used-requires-clause-stands g c =
    let w = c.loop-z in
    stands-marked (grid-of g (goal.at.face_part-used-requires-clause-stands g c).Start) c.args.k c.requires.inside w.z (here g (goal.at.face_part-used-requires-clause-stands g c).In-loop-z).turn.here w.invariant.1 c.mark_part-count.ensures.map_value

pub overflow_add-state : goal.overflow_add-state
overflow_add-state g c =
    let w = c.loop-z in
    vertices-fit (grid-of g (goal.at.overflow_add-state g c).Start) c.args.k c.requires.inside w.z (here g (goal.at.overflow_add-state g c).In-loop-z).turn.here w.invariant.1 c.mark_part-count.ensures.value

pub overflow_add-state-in-loop-z : goal.overflow_add-state-in-loop-z
overflow_add-state-in-loop-z g c =
    let w = c.loop-z in
    indices-fit (grid-of g (goal.at.overflow_add-state-in-loop-z g c).Start) c.args.k c.requires.inside w.z (here g (goal.at.overflow_add-state-in-loop-z g c).In-loop-z).turn.here w.invariant.1 c.face_part-used.ensures.value (omega arith)

pub loop-z-preserved : goal.loop-z-preserved
loop-z-preserved g c =
    let w = c.loop-z in
    ((here g (goal.at.loop-z-preserved g c).In-loop-z).turn.next, layer-next (grid-of g (goal.at.loop-z-preserved g c).Start) c.args.k c.requires.inside w.z (here g (goal.at.loop-z-preserved g c).In-loop-z).turn.here w.invariant.1 c.mark_part-count.ensures.map_value c.face_part-used.ensures.indices_after c.mark_part-count.ensures.value c.face_part-used.ensures.value)

pub clear_part-requires : goal.clear_part-requires
clear_part-requires g c =
    in_map c.requires.inside (omega (arith, (lengths g (goal.at.clear_part-requires g c).At-loop-z).map, c.requires.roomy.map))

pub returns : goal.returns
returns g c =
    let a = c.args in
    let w = c.loop-z in
    let call = call_of (grid-of g (goal.at.returns g c).Start) a.k in
    let before = lent_of g (goal.at.returns g c).Start in
    let f = fits (grid-of g (goal.at.returns g c).Start) a.k c.requires.inside in
    let layers = w.invariant.1.same ∙ ap (λ (n : ℕ). written_to call n before) (ended w.invariant.0 c.loop-z-test.false) in
    written_all call (omega (arith, f.x.1)) (omega (arith, f.y.1)) (plane-up (grid-of g (goal.at.returns g c).Start) a.k c.requires.inside) before layers c.clear_part.ensures
