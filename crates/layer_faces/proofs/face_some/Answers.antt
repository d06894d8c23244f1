-- The edges of the batch are filed by their axes, and the faces along each put, each at its place: together those are the faces of the batch in their
-- order. Assumes nothing.
use Rattle.std.proofs.Common.{◌≡◌, ℕ, ◌+◌, ◌*◌, ◌<◌, ◌≤◌, List, length, refl, ap, ◌∙◌}
use lib.Ieee.{Float}
use lib.Seq.{sets}
use Rattle.rules.specs.Grid.{Field}
use Rattle.grid.specs.Block.{box_of, flags_of}
use Rattle.grid.specs.Layers.{two_layers}
use Rattle.layer_faces.specs.Quads.{axis_of, listed, quad_at, some_edges}
use Rattle.layer_faces.specs.Filing.{Filed, AllReady, faces_put}
use Rattle.layer_faces.proofs.Chosen.{length-quad_at}
use Rattle.layer_faces.proofs.Vertices.{vertex-is, vertex-cells}
use Rattle.layer_faces.proofs.Listing.{listed-length}
use Rattle.layer_faces.proofs.Batches.{batch-along, batch-faces}
use Rattle.layer_faces.proofs.Putting.{all-put}
use Rattle.layer_faces.proofs.Numbers.{room-same, room_of, word_below, along-0, along-1, along-2}
use Rattle.layer_faces.proofs.face_some.Given.{Over}
use Rattle.layer_faces.proofs.face_some.Goals as goal
use Rattle.layer_faces.proofs.face_some.Goals.{After-list_edges-m, After-put_faces, After-put_faces-2, After-put_faces-3, Start}

-- the indices after each axis, each by those after the one before
onto : (f : List ℕ → List ℕ) {l l' l'' : List ℕ} → l'' ≡ f l' → l' ≡ l → l'' ≡ f l
onto f p q = p ∙ ap f q

-- the two layers of distances, and the field that they are
abbrev lower_of : (g : Over) → Start g → List Float
lower_of g c = let a = c.args in g.D.Distance.floats a.lower.now

abbrev upper_of : (g : Over) → Start g → List Float
upper_of g c = let a = c.args in g.D.Distance.floats a.upper.now

abbrev grid-of : (g : Over) → Start g → Field
grid-of g c = two_layers (lower_of g c) (upper_of g c) c.args.k c.args.z

-- the two layers of distances, and the field that they are
abbrev lower_of-2 : (g : Over) → After-list_edges-m g → List Float
lower_of-2 g c = let a = c.args in g.D.Distance.floats a.lower.now

abbrev upper_of-2 : (g : Over) → After-list_edges-m g → List Float
upper_of-2 g c = let a = c.args in g.D.Distance.floats a.upper.now

abbrev grid-of-2 : (g : Over) → After-list_edges-m g → Field
grid-of-2 g c = two_layers (lower_of-2 g c) (upper_of-2 g c) c.args.k c.args.z

abbrev codes-of : (g : Over) → After-list_edges-m g → List ℕ
codes-of g c = let a = c.args in listed (grid-of-2 g c) (box_of a.k) (flags_of a.k) a.cells.now a.z a.from (3 * a.n)

-- the entries
abbrev who-of : (g : Over) → After-list_edges-m g → List ℕ
who-of g c = c.list_edges-m.new.who

abbrev rank-of : (g : Over) → After-list_edges-m g → List ℕ
rank-of g c = c.list_edges-m.new.rank

count : (g : Over) (c : After-list_edges-m g) → let a = c.args in length (codes-of g c) ≡ length (some_edges (grid-of-2 g c) (box_of a.k) (flags_of a.k) a.z a.from a.n)
count g c =
    let a = c.args in
    listed-length (grid-of-2 g c) (box_of a.k) (flags_of a.k) a.z a.from a.n a.cells.now c.requires.batch.within
    (vertex-is (grid-of-2 g c) (box_of a.k) a.z a.cells.now c.requires.standing.cells)

room : (g : Over) (c : After-list_edges-m g) → c.args.at + 6 * length (codes-of g c) ≤ length c.args.indices.now
room g c = room-same c.args.at c.requires.batch.room (count g c)

-- what the faces along one axis are made of
along : (g : Over) (c : After-list_edges-m g) → {axis count : ℕ} (indices : ℕ) → let a = c.args in axis < 3
    → Filed (codes-of g c) (who-of g c) (rank-of g c) axis count → indices ≡ length a.indices.now
    → AllReady (lower_of-2 g c) a.k.dims.x a.first.here a.cells.now a.map.now a.positions.now a.map_below.now (who-of g c) (rank-of g c) a.from
    axis count a.at indices
along g c indices three f same =
    let a = c.args in
    batch-along c.requires.in_layers a.first a.cells.now a.map.now a.positions.now a.map_below.now a.positions_below.now c.requires.standing a.from a.n
    c.requires.batch.within (λ j. word_below (c.type_inv.map j)) c.requires.high_in_bounds three f a.at indices (room_of (room g c) same)

long1 : (g : Over) (c : After-put_faces g) → length c.put_faces.new.indices
    ≡ length c.args.indices.now
long1 g c = c.put_faces.auto.indices

long1-2 : (g : Over) (c : After-put_faces-2 g) → length c.put_faces.new.indices
    ≡ length c.args.indices.now
long1-2 g c = c.put_faces.auto.indices

long2 : (g : Over) (c : After-put_faces-2 g) → length c.put_faces-2.new.indices
    ≡ length c.args.indices.now
long2 g c = c.put_faces-2.auto.indices ∙ long1-2 g c

-- the two layers of distances, and the field that they are
abbrev lower_of-3 : (g : Over) → After-put_faces-3 g → List Float
lower_of-3 g c = let a = c.args in g.D.Distance.floats a.lower.now

-- the quad of an edge along the axis a from the cell of the vertex v
abbrev quad-of : (g : Over) → After-put_faces-3 g → ℕ → ℕ → List ℕ
quad-of g c a v =
    let r = c.args in
    quad_at r.first r.map.now r.positions.now r.map_below.now r.positions_below.now (lower_of-3 g c) r.k.dims.x r.cells.now v (axis_of a)

-- the entries
abbrev who-of-2 : (g : Over) → After-put_faces-3 g → List ℕ
who-of-2 g c = c.list_edges-m.new.who

abbrev rank-of-2 : (g : Over) → After-put_faces-3 g → List ℕ
rank-of-2 g c = c.list_edges-m.new.rank

put1 : (g : Over) (c : After-put_faces-3 g) → let a = c.args in
    ◌≡◌ {A = List ℕ} c.put_faces.new.indices
    (faces_put (quad-of g c 0) (who-of-2 g c) (rank-of-2 g c) (32 * 0) a.from a.at c.list_edges-m.result.x a.indices.now)
put1 g c = c.put_faces.ensures

put2 : (g : Over) (c : After-put_faces-3 g) → let a = c.args in
    ◌≡◌ {A = List ℕ} c.put_faces-2.new.indices
    (faces_put (quad-of g c 1) (who-of-2 g c) (rank-of-2 g c) (32 * 1) a.from a.at c.list_edges-m.result.y
    (faces_put (quad-of g c 0) (who-of-2 g c) (rank-of-2 g c) (32 * 0) a.from a.at c.list_edges-m.result.x a.indices.now))
put2 g c =
    let a = c.args in
    onto (faces_put (quad-of g c 1) (who-of-2 g c) (rank-of-2 g c) (32 * 1) a.from a.at c.list_edges-m.result.y) c.put_faces-2.ensures (put1 g c)

put3 : (g : Over) (c : After-put_faces-3 g) → let a = c.args in
    ◌≡◌ {A = List ℕ} c.put_faces-3.new.indices
    (faces_put (quad-of g c 2) (who-of-2 g c) (rank-of-2 g c) (32 * 2) a.from a.at c.list_edges-m.result.z
    (faces_put (quad-of g c 1) (who-of-2 g c) (rank-of-2 g c) (32 * 1) a.from a.at c.list_edges-m.result.y
    (faces_put (quad-of g c 0) (who-of-2 g c) (rank-of-2 g c) (32 * 0) a.from a.at c.list_edges-m.result.x a.indices.now)))
put3 g c =
    let a = c.args in
    onto (faces_put (quad-of g c 2) (who-of-2 g c) (rank-of-2 g c) (32 * 2) a.from a.at c.list_edges-m.result.z) c.put_faces-3.ensures (put2 g c)

-- the quad of an edge along the axis a from the cell of the vertex v
abbrev quad-of-2 : (g : Over) → Start g → ℕ → ℕ → List ℕ
quad-of-2 g c a v =
    let r = c.args in
    quad_at r.first r.map.now r.positions.now r.map_below.now r.positions_below.now (lower_of g c) r.k.dims.x r.cells.now v (axis_of a)

abbrev codes-of-2 : (g : Over) → Start g → List ℕ
codes-of-2 g c = let a = c.args in listed (grid-of g c) (box_of a.k) (flags_of a.k) a.cells.now a.z a.from (3 * a.n)

count-2 : (g : Over) (c : Start g) → let a = c.args in length (codes-of-2 g c) ≡ length (some_edges (grid-of g c) (box_of a.k) (flags_of a.k) a.z a.from a.n)
count-2 g c =
    let a = c.args in
    listed-length (grid-of g c) (box_of a.k) (flags_of a.k) a.z a.from a.n a.cells.now c.requires.batch.within
    (vertex-is (grid-of g c) (box_of a.k) a.z a.cells.now c.requires.standing.cells)

room-2 : (g : Over) (c : Start g) → c.args.at + 6 * length (codes-of-2 g c) ≤ length c.args.indices.now
room-2 g c = room-same c.args.at c.requires.batch.room (count-2 g c)

pub list_edges-m-requires-clause-cells : goal.list_edges-m-requires-clause-cells
list_edges-m-requires-clause-cells g c =
    let a = c.args in
    let b = c.requires.batch in vertex-cells (grid-of g (goal.at.list_edges-m-requires-clause-cells g c).Start) (box_of a.k) a.z a.cells.now c.requires.standing.cells (a.from + a.n) c.requires.in_layers.here b.within

pub put_faces-requires : goal.put_faces-requires
put_faces-requires g c =
    along g (goal.at.put_faces-requires g c).After-list_edges-m (length c.args.indices.now) along-0 c.list_edges-m.ensures.along-x refl

pub put_faces-requires-2 : goal.put_faces-requires-2
put_faces-requires-2 g c =
    along g (goal.at.put_faces-requires-2 g c).After-list_edges-m (length c.put_faces.new.indices) along-1 c.list_edges-m.ensures.along-y (long1 g (goal.at.put_faces-requires-2 g c).After-put_faces)

pub put_faces-requires-3 : goal.put_faces-requires-3
put_faces-requires-3 g c =
    along g (goal.at.put_faces-requires-3 g c).After-list_edges-m (length c.put_faces-2.new.indices) along-2 c.list_edges-m.ensures.along-z (long2 g (goal.at.put_faces-requires-3 g c).After-put_faces-2)

pub returns-clause-indices_after : goal.returns-clause-indices_after
returns-clause-indices_after g c =
    let a = c.args in put3 g (goal.at.returns-clause-indices_after g c).After-put_faces-3
    ∙ all-put (quad-of-2 g (goal.at.returns-clause-indices_after g c).Start) (λ axis v. length-quad_at a.first a.map.now a.positions.now a.map_below.now a.positions_below.now (lower_of g (goal.at.returns-clause-indices_after g c).Start) a.k.dims.x
    a.cells.now v (axis_of axis)) (codes-of-2 g (goal.at.returns-clause-indices_after g c).Start) (who-of g (goal.at.returns-clause-indices_after g c).After-list_edges-m) (rank-of g (goal.at.returns-clause-indices_after g c).After-list_edges-m) a.from a.at a.indices.now (room-2 g (goal.at.returns-clause-indices_after g c).Start) c.list_edges-m.ensures
    ∙ ap (sets a.indices.now a.at)
    (batch-faces c.requires.in_layers a.first a.cells.now a.map.now a.positions.now a.map_below.now a.positions_below.now c.requires.standing a.from a.n
    c.requires.batch.within)

pub returns-clause-value : goal.returns-clause-value
returns-clause-value g c =
    let a = c.args in ap (λ (n : ℕ). a.at + 6 * n) (◌∙◌ {b = length (codes-of-2 g (goal.at.returns-clause-value g c).Start)} c.list_edges-m.ensures.count (count-2 g (goal.at.returns-clause-value g c).Start))
