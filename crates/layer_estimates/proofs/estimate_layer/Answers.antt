-- The invariant: the lists are what the vertices of the first `done` cells leave. A turn is a batch; the last one takes what is left, and then the cells
-- are all of the layer's. Assumes nothing.
use Prim.Native.Nat.{ℕ, ◌+◌, ◌*◌, ◌/◌, ◌≤◌, zero-le}
use native.Mathlib.Omega.{arith}
use mathlib.Core.List.{List, map}
use mathlib.Core.Path.{◌≡◌, ap, ◌∙◌}
use lib.Ieee.{Float}
use lib.ListN.{length}
use lib.Seq.{sets}
use Rattle.lists.specs.Lists.{up_to}
use Rattle.lists.proofs.Runs.{up_to-none}
use Rattle.rules.specs.Grid.{Field, GridPoint}
use Rattle.rules.specs.Vertices.{layer_vertices, vertex_position, vertex_normal, vertex_crossings}
use Rattle.rules.specs.Cutting.{Vertex}
use Rattle.rules.specs.Call.{flat_vectors}
use Rattle.grid.specs.Block.{box_of}
use Rattle.grid.specs.Layers.{two_layers}
use Rattle.layer_estimates.specs.Estimates.{Lists, estimated}
use Rattle.layer_estimates.proofs.Reading.{vertices-counted, vertices-estimated, batch-of}
use Rattle.layer_estimates.proofs.Writing.{Wrote, wrote_none, wrote-run, wrote-up, wrote-lengths, room-left, wrote-cells}
use Rattle.layer_estimates.proofs.estimate_layer.Given.{Over}
use Rattle.layer_estimates.proofs.estimate_layer.Goals as goal
use Rattle.layer_estimates.proofs.estimate_layer.Goals.{After-min-n, Start}

-- the two layers of distances
abbrev lower_of : (g : Over) → Start g → List Float
lower_of g c = let a = c.args in g.D.Distance.floats a.lower.now

abbrev upper_of : (g : Over) → Start g → List Float
upper_of g c = let a = c.args in g.D.Distance.floats a.upper.now

-- the vertex of each cell of the list
abbrev vertex-of : (g : Over) → Start g → ℕ → Vertex
vertex-of g c = estimated (lower_of g c) (upper_of g c) c.args.k.dims.x c.args.cells.now

-- the layer's distances, and its surface cells
abbrev field_of : (g : Over) → Start g → Field
field_of g c = two_layers (lower_of g c) (upper_of g c) c.args.k c.args.z

abbrev cells_of : (g : Over) → Start g → List GridPoint
cells_of g c = layer_vertices (field_of g c) (box_of c.args.k) c.args.z

-- ---- how many cells a turn takes
within : (g : Over) (c : After-min-n g) → let w = c.loop-done in let n = c.min-n.result in (n ≤ 32) × (w.done + n ≤ length c.args.cells.now / 3)
within g c =
    let t = c.loop-done-test.true in
    let e = c.min-n.ensures in
    (omega arith, omega arith)

-- ---- what the vertices of all cells leave
whole : (g : Over) (c : Start g) {n : ℕ} {s s' : Lists} → Wrote c.args.place s (map (vertex-of g c) (up_to 0 n)) s' → n ≡ length c.args.cells.now / 3
    → (s'.positions ≡ sets s.positions (3 * c.args.place) (flat_vectors (map (vertex_position (field_of g c)) (cells_of g c))))
    × ((s'.normals ≡ sets s.normals (3 * c.args.place) (flat_vectors (map (vertex_normal (field_of g c)) (cells_of g c))))
    × (s'.crossings ≡ sets s.crossings c.args.place (map (vertex_crossings (field_of g c)) (cells_of g c))))
whole g c h e =
    let i = c.requires.in_layers in
    let v = c.requires.cells_value in
    wrote-cells (field_of g c) (cells_of g c) h (ap (λ (m : ℕ). map (vertex-of g c) (up_to 0 m)) (e ∙ vertices-counted i v) ∙ vertices-estimated i v)

pub loop-done-init : goal.loop-done-init
loop-done-init g c =
    (omega arith, wrote_none (ap (map (vertex-of g (goal.at.loop-done-init g c).Start)) (up_to-none 0 0 zero-le)))

pub estimate_some-requires-clause-room_for : goal.estimate_some-requires-clause-room_for
estimate_some-requires-clause-room_for g c =
    let w = c.loop-done in
    let h = within g (goal.at.estimate_some-requires-clause-room_for g c).After-min-n in
    let i = c.requires.in_layers in
    let e = c.requires.cells_value in room-left c.requires.room_for (wrote-lengths w.invariant.1) (omega (arith, h.1, vertices-counted i e))

pub estimate_some-requires-clause-batch : goal.estimate_some-requires-clause-batch
estimate_some-requires-clause-batch g c =
    let w = c.loop-done in
    let h = within g (goal.at.estimate_some-requires-clause-batch g c).After-min-n in
    let i = c.requires.in_layers in
    let e = c.requires.cells_value in batch-of i e h.0 h.1

pub loop-done-preserved : goal.loop-done-preserved
loop-done-preserved g c =
    let w = c.loop-done in
    let vertex = vertex-of g (goal.at.loop-done-preserved g c).Start in
    let e : w.done + c.min-n.result ≡ w.done + 32 = omega arith in
    (omega arith, wrote-up vertex (wrote-run vertex w.done c.min-n.result w.invariant.1 (record { same = c.estimate_some.ensures })) e)

pub returns-clause-positions_after : goal.returns-clause-positions_after
returns-clause-positions_after g c =
    let w = c.loop-done in
    let e : w.done ≡ length c.args.cells.now / 3 = omega (arith, w.invariant.0, c.loop-done-test.false) in
    (whole g (goal.at.returns-clause-positions_after g c).Start w.invariant.1 e).0

pub returns-clause-normals_after : goal.returns-clause-normals_after
returns-clause-normals_after g c =
    let w = c.loop-done in
    let e : w.done ≡ length c.args.cells.now / 3 = omega (arith, w.invariant.0, c.loop-done-test.false) in
    (whole g (goal.at.returns-clause-normals_after g c).Start w.invariant.1 e).1.0

pub returns-clause-crossings_after : goal.returns-clause-crossings_after
returns-clause-crossings_after g c =
    let w = c.loop-done in
    let e : w.done ≡ length c.args.cells.now / 3 = omega (arith, w.invariant.0, c.loop-done-test.false) in
    (whole g (goal.at.returns-clause-crossings_after g c).Start w.invariant.1 e).1.1

pub returns-2-clause-positions_after : goal.returns-2-clause-positions_after
returns-2-clause-positions_after g c =
    let w = c.loop-done in
    let here = (goal.at.returns-2-clause-positions_after g c).Start in
    let e : w.done + c.min-n.result ≡ length c.args.cells.now / 3 = omega arith in
    (whole g here (wrote-run (vertex-of g here) w.done c.min-n.result w.invariant.1 (record { same = c.estimate_some.ensures })) e).0

pub returns-2-clause-normals_after : goal.returns-2-clause-normals_after
returns-2-clause-normals_after g c =
    let w = c.loop-done in
    let here = (goal.at.returns-2-clause-normals_after g c).Start in
    let e : w.done + c.min-n.result ≡ length c.args.cells.now / 3 = omega arith in
    (whole g here (wrote-run (vertex-of g here) w.done c.min-n.result w.invariant.1 (record { same = c.estimate_some.ensures })) e).1.0

pub returns-2-clause-crossings_after : goal.returns-2-clause-crossings_after
returns-2-clause-crossings_after g c =
    let w = c.loop-done in
    let here = (goal.at.returns-2-clause-crossings_after g c).Start in
    let e : w.done + c.min-n.result ≡ length c.args.cells.now / 3 = omega arith in
    (whole g here (wrote-run (vertex-of g here) w.done c.min-n.result w.invariant.1 (record { same = c.estimate_some.ensures })) e).1.1
