-- The invariant: the edges that give a face, of the j vertices so far, are filed by their axes. A turn stores three, each of which counts on if it gives
-- one. Assumes nothing.
use Rattle.std.proofs.Common.{◌≡◌, ℕ, ◌+◌, ◌*◌, ◌<◌, Bool, List, refl, ap, ◌∙◌, subst, zero-le, le_antisymm, arith}
use lib.Ieee.{Float}
use Rattle.lists.specs.Lists.{run, keep}
use Rattle.rules.specs.Grid.{Field}
use Rattle.rules.specs.Faces.{edge, gives}
use Rattle.grid.specs.Block.{box_of, flags_of}
use Rattle.grid.specs.Layers.{two_layers}
use Rattle.layer_faces.specs.Quads.{axis_of, cell_at, edge_at, listed}
use Rattle.layer_faces.specs.Filing.{AllFiled}
use Rattle.layer_faces.proofs.Listing.{edge-at}
use Rattle.layer_faces.proofs.Filing.{Filing, filing-none, filing-few, filing-x, filing-y, filing-z}
use Rattle.layer_faces.proofs.Numbers.{OfTurn, of-turn}
use Rattle.layer_faces.proofs.list_edges.Given.{Over}
use Rattle.layer_faces.proofs.list_edges.Goals as goal
use Rattle.layer_faces.proofs.list_edges.Goals.{After-counted-one_z, After-list_edge-in-loop-j-2, Start}

-- the two layers of distances, and the field that they are
abbrev lower_of : (g : Over) → Start g → List Float
lower_of g c = let a = c.args in g.D.Distance.floats a.lower.now

abbrev upper_of : (g : Over) → Start g → List Float
upper_of g c = let a = c.args in g.D.Distance.floats a.upper.now

abbrev grid-of : (g : Over) → Start g → Field
grid-of g c = two_layers (lower_of g c) (upper_of g c) c.args.k c.args.z

abbrev test_of : (g : Over) → Start g → ℕ → Bool
test_of g c e = let a = c.args in gives (grid-of g c) (box_of a.k) (flags_of a.k) (edge_at a.cells.now a.z a.from e)

-- the two layers of distances, and the field that they are
abbrev lower_of-2 : (g : Over) → After-counted-one_z g → List Float
lower_of-2 g c = let a = c.args in g.D.Distance.floats a.lower.now

abbrev upper_of-2 : (g : Over) → After-counted-one_z g → List Float
upper_of-2 g c = let a = c.args in g.D.Distance.floats a.upper.now

abbrev grid-of-2 : (g : Over) → After-counted-one_z g → Field
grid-of-2 g c = two_layers (lower_of-2 g c) (upper_of-2 g c) c.args.k c.args.z

abbrev test_of-2 : (g : Over) → After-counted-one_z g → ℕ → Bool
test_of-2 g c e = let a = c.args in gives (grid-of-2 g c) (box_of a.k) (flags_of a.k) (edge_at a.cells.now a.z a.from e)

-- the vertices so far, and the edges of each axis, with those that count
turn : (g : Over) (c : After-counted-one_z g) → let w = c.loop-j in
    OfTurn w.j c.args.n w.x w.y w.along_z w.all
    c.counted-one_x.result c.counted-one_y.result c.counted-one_z.result
turn g c =
    let w = c.loop-j in
    of-turn c.loop-j-test.true c.requires.n_bound w.invariant.1.1 (filing-few (test_of-2 g c) w.invariant.1.0) c.counted-one_x.ensures.upper_bound
    c.counted-one_y.ensures.upper_bound c.counted-one_z.ensures.upper_bound

-- the two layers of distances, and the field that they are
abbrev lower_of-3 : (g : Over) → After-list_edge-in-loop-j-2 g → List Float
lower_of-3 g c = let a = c.args in g.D.Distance.floats a.lower.now

abbrev upper_of-3 : (g : Over) → After-list_edge-in-loop-j-2 g → List Float
upper_of-3 g c = let a = c.args in g.D.Distance.floats a.upper.now

abbrev grid-of-3 : (g : Over) → After-list_edge-in-loop-j-2 g → Field
grid-of-3 g c = two_layers (lower_of-3 g c) (upper_of-3 g c) c.args.k c.args.z

abbrev test_of-3 : (g : Over) → After-list_edge-in-loop-j-2 g → ℕ → Bool
test_of-3 g c e = let a = c.args in gives (grid-of-3 g c) (box_of a.k) (flags_of a.k) (edge_at a.cells.now a.z a.from e)

-- whether the edge with the number 3 j + a counts
counts : (g : Over) (c : After-list_edge-in-loop-j-2 g) → (a : ℕ) {e : ℕ} {y : Bool} → let r = c.args in
    y ≡ gives (grid-of-3 g c) (box_of r.k) (flags_of r.k)
    (edge (axis_of a) (cell_at r.cells.now r.z (r.from + c.loop-j.j))) → a < 3 → e ≡ 3 * c.loop-j.j + a → y ≡ test_of-3 g c e
counts g c a e h k =
    let r = c.args in
    e ∙ ap (gives (grid-of-3 g c) (box_of r.k) (flags_of r.k))
    (edge-at r.cells.now r.z r.from c.loop-j.j a h k)

-- the vertices so far, and the edges of each axis, with those that count
turn-2 : (g : Over) (c : After-list_edge-in-loop-j-2 g) → let w = c.loop-j in
    OfTurn w.j c.args.n w.x w.y w.along_z w.all
    c.counted-one_x.result c.counted-one_y.result c.counted-one_z.result
turn-2 g c =
    let w = c.loop-j in
    of-turn c.loop-j-test.true c.requires.n_bound w.invariant.1.1 (filing-few (test_of-3 g c) w.invariant.1.0) c.counted-one_x.ensures.upper_bound
    c.counted-one_y.ensures.upper_bound c.counted-one_z.ensures.upper_bound

filed1 : (g : Over) (c : After-list_edge-in-loop-j-2 g) → let w = c.loop-j in
    Filing (test_of-3 g c) (3 * w.j + 1) c.list_edge.new.who c.list_edge.new.rank
    (w.x + c.counted-one_x.result) w.y w.along_z (w.all + c.counted-one_x.result)
filed1 g c =
    let w = c.loop-j in
    let one-x = c.counted-one_x.ensures.value in
    filing-x (test_of-3 g c) w.invariant.1.0
    (counts g c 0 {e = 3 * w.j} c.giving-t.ensures.x_value (omega arith) (omega arith)) refl (ap (λ (n : ℕ). w.all + n) one-x)
    w.j (turn-2 g c).low_x refl c.list_edge.ensures.who_after c.list_edge.ensures.rank_after (ap (λ (n : ℕ). w.x + n) one-x)

filed2 : (g : Over) (c : After-list_edge-in-loop-j-2 g) → let w = c.loop-j in
    Filing (test_of-3 g c) (3 * w.j + 2) c.list_edge-in-loop-j.new.who c.list_edge-in-loop-j.new.rank
    (w.x + c.counted-one_x.result) (w.y + c.counted-one_y.result) w.along_z
    (w.all + c.counted-one_x.result + c.counted-one_y.result)
filed2 g c =
    let w = c.loop-j in
    let one-y = c.counted-one_y.ensures.value in
    filing-y (test_of-3 g c) (filed1 g c)
    (counts g c 1 c.giving-t.ensures.y_value (omega arith) refl) (omega arith) (ap (λ (n : ℕ). w.all + c.counted-one_x.result + n) one-y)
    w.j (turn-2 g c).low-y refl c.list_edge-in-loop-j.ensures.who_after c.list_edge-in-loop-j.ensures.rank_after (ap (λ (n : ℕ). w.y + n) one-y)

filed3 : (g : Over) (c : After-list_edge-in-loop-j-2 g) → let w = c.loop-j in
    Filing (test_of-3 g c) (3 * (w.j + 1)) c.list_edge-in-loop-j-2.new.who c.list_edge-in-loop-j-2.new.rank
    (w.x + c.counted-one_x.result) (w.y + c.counted-one_y.result) (w.along_z + c.counted-one_z.result)
    (w.all + c.counted-one_x.result + c.counted-one_y.result + c.counted-one_z.result)
filed3 g c =
    let w = c.loop-j in
    let one-z = c.counted-one_z.ensures.value in
    filing-z (test_of-3 g c) (filed2 g c)
    (counts g c 2 c.giving-t.ensures.z_value (omega arith) refl) (omega arith)
    (ap (λ (n : ℕ). w.all + c.counted-one_x.result + c.counted-one_y.result + n) one-z)
    w.j (turn-2 g c).low-z refl c.list_edge-in-loop-j-2.ensures.who_after c.list_edge-in-loop-j-2.ensures.rank_after (ap (λ (n : ℕ). w.along_z + n) one-z)

-- ---- the needs
pub loop-j-init : goal.loop-j-init
loop-j-init g c =
    (zero-le, (filing-none (test_of g (goal.at.loop-j-init g c).Start) c.requires.who_len.0 c.requires.who_len.1, record { along-x = zero-le; along-y = zero-le; along-z = zero-le }))

pub overflow_add-all : goal.overflow_add-all
overflow_add-all g c = (turn g (goal.at.overflow_add-all g c).After-counted-one_z).all-x

pub overflow_add-all-in-loop-j : goal.overflow_add-all-in-loop-j
overflow_add-all-in-loop-j g c = (turn g (goal.at.overflow_add-all-in-loop-j g c).After-counted-one_z).all-y

pub overflow_add-all-in-loop-j-2 : goal.overflow_add-all-in-loop-j-2
overflow_add-all-in-loop-j-2 g c = (turn g (goal.at.overflow_add-all-in-loop-j-2 g c).After-counted-one_z).all-z

pub loop-j-preserved : goal.loop-j-preserved
loop-j-preserved g c = let t = turn g (goal.at.loop-j-preserved g c).After-counted-one_z in (t.taken, (filed3 g c, t.few))

pub returns : goal.returns
unfolding listed
returns g c =
    let w = c.loop-j in
    subst (λ (j : ℕ). AllFiled (keep (test_of g (goal.at.returns g c).Start) (run (3 * j))) w.who w.rank w.x w.y w.along_z w.all) (le_antisymm w.invariant.0 c.loop-j-test.false)
    w.invariant.1.0.filed
