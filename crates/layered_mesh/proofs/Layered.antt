-- Document 02, request 1: "All output joined, with vertex numbers running on, equals that of an accepted whole call, its map apart, if kept memory and
-- state were not touched between layers". By one induction over the layers. Assumes nothing.
use Prim.Native.Nat.{ℕ, zero, suc, ◌+◌, ◌-◌, ◌*◌, ◌≤◌, ◌<◌}
use native.Mathlib.Nat.{zero-add}
use native.Mathlib.Omega.{arith}
use mathlib.Core.Bool.{Bool, true, false, not, cond}
use mathlib.Core.List.{List, map}
use mathlib.Core.Logic.{◌⊎◌, inl, inr}
use mathlib.Core.Path.{◌≡◌, refl, sym, ap, ap₂, subst, ◌∙◌}
use borrow.Author.Tests.{le-ltb, le-leb}
use lib.Dec.{T, leb, nltb→le}
use lib.Ieee.{Float}
use lib.Ieee.Bits.{is_true}
use lib.ListN.{length, get_or, take, drop, length-map}
use lib.Seq.{take_at}
use Rattle.lists.specs.Lists.{over}
use Rattle.rules.specs.Grid.{GridPoint, index, is_cell, in_box}
use Rattle.rules.specs.Vertices.{vertices, vertex_position, vertex_normal, vertex_crossings, null_vertex, cell_entry, map_entry}
use Rattle.rules.specs.Faces.{indices}
use Rattle.rules.specs.Call.{Buffers, Answer, Room, room, answers, answer, room_answer, bad_distance, vertex_count, index_count, written, afterwards, flat_vectors}
use Rattle.rules.specs.Call.{flat_points, bad_dimensions, bad_box}
use Rattle.lists.proofs.Tests.{failed, is_false, less-or-not}
use Rattle.lists.proofs.Lists.{get_d-placed}
use Rattle.rules.proofs.Indexes.{within, cell-within, point-back}
use Rattle.rules.proofs.Accepted.{done-accepted, done-counted, accepted-answer, ok-distances}
use Rattle.rules.proofs.Locality.{when-done}
use Rattle.rules.proofs.Seen.{length-points, length-vectors}
use Rattle.grid.specs.declared.Block.{Block}
use Rattle.grid.specs.Block.{point, box_of, flags_of, field_of, call_of}
use Rattle.grid.specs.Inside.{Inside}
use Rattle.grid.specs.Layers.{in_layer}
use Rattle.grid.proofs.Bounds.{fits, below_length}
use Rattle.layers.specs.declared.State.{State}
use Rattle.layers.specs.Memory.{Memory, plane, half, half_of}
use Rattle.layers.specs.Offer.{begun, Output, output, room_in, Left, finished, layer_answer, state_after, leaves}
use Rattle.layers.proofs.Halves.{half-again}
use Rattle.layers.proofs.Judging.{layer-8}
use Rattle.layers.proofs.Left.{refused-state, refused-left}
use Rattle.layered_mesh.specs.Fed.{Offered, first_of, joined_with, nothing, map_apart, layer_of, Fed, started, taken, refused, points_in_z}
use Rattle.layered_mesh.proofs.Step.{mesh_of, mesh_to, Shows, Blank, Good, Holds, state-next, left-next, mesh-next, holds-next, state-first, left-first, mesh-first}
use Rattle.layered_mesh.proofs.Step.{holds-first}

-- ---- what an accepted call says of its grid

pub inside_of : (sdf : List Float) (k : Block) (t : Buffers) → (answer (call_of sdf k) (room t)).number ≡ 0 → Inside sdf k
inside_of sdf k t e = let a = done-accepted (call_of sdf k) (room t) e in record { dims = a.dims; box = a.box; size = a.length }

pub not_so : (t : Bool) → T (not t) → t ≡ false
not_so true h = absurd h
not_so false h = refl

-- ---- how far a bed is

pub data Progress (sdf : List Float) (k : Block) : ℕ → State → Memory → Output → Type 0 where
  none : {m : Memory} → Progress sdf k zero (begun k) m nothing
  some : {n : ℕ} {s : State} {m : Memory} {out : Output} → s.block ≡ k → s.taken ≡ suc n → Holds sdf s m out → Progress sdf k (suc n) s m out

-- the same after a state, memory and lists that are equal
carried : {sdf : List Float} {k : Block} {n : ℕ} {s s' : State} {l l' : Left} (out : Output) {x x' : Output} → s ≡ s' → l ≡ l' → x ≡ x'
    → Progress sdf k n s' l'.memory (joined_with out x') → Progress sdf k n s l.memory (joined_with out x)
carried {sdf} {k} {n} {s} {s'} {l} {l'} out {x} {x'} es el ex p =
    subst (λ (a : State). Progress sdf k n a l.memory (joined_with out x)) (sym es)
    (subst (λ (a : Left). Progress sdf k n s' a.memory (joined_with out x)) (sym el)
    (subst (λ (a : Output). Progress sdf k n s' l'.memory (joined_with out a)) (sym ex) p))

module _ (sdf : List Float) (k : Block) (i : Inside sdf k) where
  step : {n : ℕ} {s : State} {m : Memory} {out : Output} → Progress sdf k n s m out → (layer : List Float) (o : Output) (a : Answer) → a ≡ layer_answer s layer m (room_in m o)
      → a.number ≡ 0
      → layer ≡ layer_of sdf k (k.low.z + n)
      → Progress sdf k (suc n) (state_after s layer m o) (leaves s layer m o).memory (joined_with out (first_of a.vertices a.indices (leaves s layer m o).output))
  step {m = m} none layer o a ea ok el =
      let e = ap (λ (t : Answer). t.number) (sym ea) ∙ ok in
      carried nothing (state-first sdf k layer m o e el) (left-first sdf k layer m o e el) (mesh-first sdf k layer m o e el a ea)
      (some refl refl (holds-first sdf k layer m o e el))
  step {n = suc n} {s = s} {m = m} {out = out} (some eb et h) layer o a ea ok el =
      let e = ap (λ (t : Answer). t.number) (sym ea) ∙ ok in
      let inside = subst (Inside sdf) (sym eb) i in
      let same = el ∙ ap₂ (λ (b : Block) (t : ℕ). layer_of sdf b (b.low.z + t)) (sym eb) (sym et) in
      carried out (state-next sdf s layer m o inside e same h) (left-next sdf s layer m o inside e same h) (mesh-next sdf s layer m o inside e same h a ea)
      (some eb (omega arith) (holds-next sdf s layer m o inside e same h))

  pub progress : {n : ℕ} {s : State} {m : Memory} {out : Output} → Fed sdf k n s m out → Progress sdf k n s m out
  progress (started m a) = none
  progress {out = out} (refused {n = n} {s = s} {m = m} f u es em otherwise) =
      let never : (layer_answer u.state u.layer u.memory (room_in u.memory u.lent)).number ≡ 0
      → ⊥ = λ e. otherwise (ap (λ (t : Answer). t.number) u.answered ∙ e) in
      let back : u.next ≡ s = u.moved ∙ refused-state u.state u.layer u.memory u.lent never ∙ es in
      let kept : u.after.memory ≡ m = ap (λ (l : Left). l.memory) (u.left ∙ refused-left u.state u.layer u.memory u.lent never) ∙ em in
      subst (λ (a : State). Progress sdf k n a u.after.memory out) (sym back) (subst (λ (a : Memory). Progress sdf k n s a out) (sym kept) (progress f))
  progress (taken {n = n} {s = s} {m = m} {out = out} f u es em el ok) =
      let said = u.answered ∙ ap₂ (λ (a : State) (b : Memory). layer_answer a u.layer b (room_in b u.lent)) es em in
      let on = u.moved ∙ ap₂ (λ (a : State) (b : Memory). state_after a u.layer b u.lent) es em in
      let after = u.left ∙ ap₂ (λ (a : State) (b : Memory). leaves a u.layer b u.lent) es em in
      carried out on after (ap (λ (l : Left). first_of u.says.vertices u.says.indices l.output) after) (step (progress f) u.layer u.lent u.says said ok el)

  -- ---- after the last layer

  pub low-high : k.low.z ≤ k.high.z
  low-high = let f = fits sdf k i in omega arith

  all : {n : ℕ} {s : State} {m : Memory} {out : Output} → Progress sdf k n s m out → n ≡ points_in_z k
      → (out ≡ mesh_to sdf k k.high.z) × ((s.block ≡ k) × (s.taken ≡ points_in_z k))
  all none e = absurd (omega arith)
  all {n = suc n} {s = s} (some eb et h) e =
      let l = low-high in
      let at : s.block.low.z + (s.taken - 1) ≡ k.high.z = ap (λ (b : Block). b.low.z + (s.taken - 1)) eb ∙ omega arith in
      (h.mesh ∙ ap₂ (mesh_to sdf) eb at, (eb, et ∙ e))

-- ---- the whole call

taken-over : {A : Type 0} (new old : List A) (n : ℕ) → length new ≡ n → take n (over new old) ≡ new
taken-over new old n e = take_at new (drop (length new) old) n e

pub whole-mesh : (sdf : List Float) (k : Block) (t : Buffers) → (answer (call_of sdf k) (room t)).number ≡ 0
    → first_of (answer (call_of sdf k) (room t)).vertices (answer (call_of sdf k) (room t)).indices (map_apart (afterwards (call_of sdf k) t)) ≡ mesh_to sdf k k.high.z
unfolding written vertices indices
whole-mesh sdf k t e =
    let c = call_of sdf k in
    let a = answer c (room t) in
    let g = field_of sdf k in
    let vs = vertices g (box_of k) in
    let is = indices g (box_of k) (flags_of k) in
    let v : a.vertices ≡ length vs = (done-counted c (room t) e).0 in
    let n : a.indices ≡ length is = (done-counted c (room t) e).1 in
    ap (λ (s : Buffers). first_of a.vertices a.indices (map_apart s)) (when-done c t e)
    ∙ (λ j.
    output (taken-over (flat_vectors (map (vertex_position g) vs)) t.positions (3 * a.vertices) (omega (arith, length-vectors (vertex_position g) vs)) j)
    (taken-over (flat_vectors (map (vertex_normal g) vs)) t.normals (3 * a.vertices) (omega (arith, length-vectors (vertex_normal g) vs)) j)
    (taken-over (flat_points vs) t.cells (3 * a.vertices) (omega (arith, length-points vs)) j)
    (taken-over (map (index g.dims) vs) t.strides a.vertices (omega (arith, length-map vs (index g.dims))) j)
    (taken-over (map (vertex_crossings g) vs) t.crossings a.vertices (omega (arith, length-map vs (vertex_crossings g))) j)
    (taken-over is t.indices a.indices (omega arith) j))

-- ---- the theorem

-- what came out is the mesh of document 01's rules, whatever a whole call would be lent
pub layered-mesh : (sdf : List Float) (k : Block) → Inside sdf k → {n : ℕ} {s : State} {m : Memory} {out : Output} → Fed sdf k n s m out → n ≡ points_in_z k
    → out ≡ mesh_of (field_of sdf k) (vertices (field_of sdf k) (box_of k)) (indices (field_of sdf k) (box_of k) (flags_of k))
unfolding vertices indices
layered-mesh sdf k i f all_in = (all sdf k i (progress sdf k i f) all_in).0

-- start and all layers of a grid, refused offers between them or not: what came out, joined, is the mesh of a whole call that is answered 0
pub layered : (sdf : List Float) (k : Block) (t : Buffers) → (answer (call_of sdf k) (room t)).number ≡ 0 → {n : ℕ} {s : State} {m : Memory} {out : Output} → Fed sdf k n s m out
    → n ≡ points_in_z k
    → out ≡ first_of (answer (call_of sdf k) (room t)).vertices (answer (call_of sdf k) (room t)).indices (map_apart (afterwards (call_of sdf k) t))
layered sdf k t e f all_in = (all sdf k (inside_of sdf k t e) (progress sdf k (inside_of sdf k t e) f) all_in).0 ∙ sym (whole-mesh sdf k t e)

-- what came out after some layers of points: the mesh of the layers of cells between them
pub mesh-so-far : (sdf : List Float) (k : Block) → Inside sdf k → {n : ℕ} {s : State} {m : Memory} {out : Output} → Fed sdf k (suc n) s m out → out ≡ mesh_to sdf k (k.low.z + n)
mesh-so-far sdf k i {n} {s} {m} {out} f = go (progress sdf k i f)
  where
    go : Progress sdf k (suc n) s m out → out ≡ mesh_to sdf k (k.low.z + n)
    go (some eb et h) = h.mesh ∙ ap₂ (mesh_to sdf) eb (ap (λ (b : Block). b.low.z + (s.taken - 1)) eb ∙ omega arith)

-- a grid all of whose layers were answered 0 passes condition 5 as a whole
pub all-distances : (sdf : List Float) (k : Block) → Inside sdf k → {n : ℕ} {s : State} {m : Memory} {out : Output} → Fed sdf k n s m out → n ≡ points_in_z k
    → T (not (bad_distance (field_of sdf k) (box_of k)))
all-distances sdf k i f all_in = go (progress sdf k i f) all_in
  where
    go : {n : ℕ} {s : State} {m : Memory} {out : Output} → Progress sdf k n s m out → n ≡ points_in_z k → T (not (bad_distance (field_of sdf k) (box_of k)))
    go none a = absurd (omega arith)
    go {n = suc n} {s = s} (some eb et held) a =
        let l = low-high sdf k i in
        let all-good : Good sdf k (k.low.z + (s.taken - 1)) = subst (λ (b : Block). Good sdf b (b.low.z + (s.taken - 1))) eb held.good in
        ok-distances (field_of sdf k) (box_of k) (λ p t. let w = within (box_of k) p t in all-good.good p t (omega arith))

-- so a call on it with a map as long asks for room alone
pub whole-accepted : (sdf : List Float) (k : Block) → Inside sdf k → {n : ℕ} {s : State} {m : Memory} {out : Output} → Fed sdf k n s m out → n ≡ points_in_z k
    → (r : Room) → length sdf ≤ r.map → answer (call_of sdf k) r ≡ room_answer r (vertex_count (call_of sdf k)) (index_count (call_of sdf k))
whole-accepted sdf k i f all_in r long =
    accepted-answer (call_of sdf k) r
    (record { dims = i.dims; box = i.box; length = i.size; map = failed refl (le-ltb r.map (length sdf) long); distance = all-distances sdf k i f all_in })

-- "a further layer gets 8 with 0, 0", whatever it is and whatever is lent
pub one_more : (sdf : List Float) (k : Block) → Inside sdf k → {n : ℕ} {s : State} {m : Memory} {out : Output} → Fed sdf k n s m out → n ≡ points_in_z k
    → (u : Offered) → u.state ≡ s → u.says ≡ answers 8 0 0
one_more sdf k i {s = s} f all_in u es =
    let w = (all sdf k i (progress sdf k i f) all_in).1 in
    let block : u.state.block ≡ k = ap (λ (a : State). a.block) es ∙ w.0 in
    let many : u.state.taken ≡ points_in_z k = ap (λ (a : State). a.taken) es ∙ w.1 in
    let over-all : finished u.state ≡ true = ap₂ (λ (b : Block) (n : ℕ). leb (b.high.z - b.low.z + 1) n) block many ∙ le-leb (points_in_z k) (points_in_z k) (omega arith) in
    let dims = ap (λ (b : Block). bad_dimensions (point b.dims)) block ∙ not_so (bad_dimensions (point k.dims)) i.dims in
    let box = ap (λ (b : Block). bad_box (point b.dims) (box_of b)) block ∙ not_so (bad_box (point k.dims) (box_of k)) i.box in
    u.answered ∙ sym (layer-8 u.state u.layer u.memory (room_in u.memory u.lent) dims box over-all)

-- ---- the kept map: request 7, "In request 1 the kept layers follow the same rule."

-- of a point of the box that is no cell
edge-shows : (sdf : List Float) (k : Block) → Inside sdf k → (p : GridPoint) → T (in_box (box_of k) p) → p.z ≡ k.high.z → (old : ℕ)
    → null_vertex ≡ map_entry (field_of sdf k) (box_of k) (index (point k.dims) p) old
unfolding map_entry
edge-shows sdf k i p t e old =
    let g = field_of sdf k in
    let b = box_of k in
    let f = fits sdf k i in
    let w = within b p t in
    let no : is_cell b p ≡ false = is_false (is_cell b p) (λ c. let v = cell-within b p c in omega arith) in
    sym (ap (λ (q : GridPoint). cond (is_cell b q) (cell_entry g b q) (cond (in_box b q) null_vertex old)) (point-back (point k.dims) p (omega arith) (omega arith))
    ∙ ap₂ (λ (x y : Bool). cond x (cell_entry g b p) (cond y null_vertex old)) no (is_true (in_box b p) t))

-- of a whole call, at a point of the box
whole-shows : (sdf : List Float) (k : Block) (t : Buffers) → (answer (call_of sdf k) (room t)).number ≡ 0 → (p : GridPoint) → T (in_box (box_of k) p)
    → get_or (afterwards (call_of sdf k) t).map (index (point k.dims) p) 0
    ≡ map_entry (field_of sdf k) (box_of k) (index (point k.dims) p) (get_or t.map (index (point k.dims) p) 0)
unfolding written
whole-shows sdf k t e p h =
    let c = call_of sdf k in
    let j = index (point k.dims) p in
    let a = done-accepted c (room t) e in
    let long = nltb→le (length t.map) (length sdf) a.map in
    let here = below_length sdf k (inside_of sdf k t e) p h in
    let entry = map_entry (field_of sdf k) (box_of k) in
    ap (λ (s : Buffers). get_or s.map j 0) (when-done c t e) ∙ get_d-placed entry 0 t.map j 0 (omega arith) ∙ ap (λ (n : ℕ). entry n (get_or t.map j 0)) (zero-add j)

-- both halves, after the last layer, at each point of the box in its two last layers
pub kept_map : (sdf : List Float) (k : Block) (t : Buffers) → (answer (call_of sdf k) (room t)).number ≡ 0 → {n : ℕ} {s : State} {m : Memory} {out : Output} → Fed sdf k n s m out
    → n ≡ points_in_z k
    → (p : GridPoint) → T (in_box (box_of k) p) → k.high.z ≤ p.z + 1
    → get_or (half_of k (p.z - k.low.z) m.map) (in_layer (point k.dims) p) 0 ≡ get_or (afterwards (call_of sdf k) t).map (index (point k.dims) p) 0
kept_map sdf k t e {m = m} f all_in p h near = go (progress sdf k inside f) all_in ∙ sym (whole-shows sdf k t e p h)
  where
    inside : Inside sdf k
    inside = inside_of sdf k t e

    old : ℕ
    old = get_or t.map (index (point k.dims) p) 0

    place : ℕ
    place = in_layer (point k.dims) p

    go : {n : ℕ} {s : State} {m : Memory} {out : Output} → Progress sdf k n s m out → n ≡ points_in_z k
        → get_or (half_of k (p.z - k.low.z) m.map) place 0 ≡ map_entry (field_of sdf k) (box_of k) (index (point k.dims) p) old
    go none a = absurd (omega arith)
    go {n = suc n} {s = s} {m = m} (some eb et held) a =
        let l = low-high sdf k inside in
        let w = within (box_of k) p h in
        let shown : Shows sdf k (k.low.z + (s.taken - 1)) (half_of k s.taken m.map) =
        subst (λ (b : Block). Shows sdf b (b.low.z + (s.taken - 1)) (half_of b s.taken m.map)) eb held.entries in
        let blanked : Blank k (k.low.z + (s.taken - 1)) (half_of k (s.taken - 1) m.map) =
        subst (λ (b : Block). Blank b (b.low.z + (s.taken - 1)) (half_of b (s.taken - 1) m.map)) eb held.cleared in
        by (less-or-not p.z k.high.z) shown blanked
      where
        by : (p.z < k.high.z) ⊎ (k.high.z ≤ p.z) → Shows sdf k (k.low.z + (s.taken - 1)) (half_of k s.taken m.map)
            → Blank k (k.low.z + (s.taken - 1)) (half_of k (s.taken - 1) m.map)
            → get_or (half_of k (p.z - k.low.z) m.map) place 0 ≡ map_entry (field_of sdf k) (box_of k) (index (point k.dims) p) old
        by (inl less) shown blanked =
            let w = within (box_of k) p h in
            let on : s.taken ≡ p.z - k.low.z + 2 = omega arith in
            ap (λ (x : ℕ). get_or (take (plane k) (drop x m.map)) place 0) (sym (ap (half k) on ∙ half-again k (p.z - k.low.z)))
            ∙ shown.shows p h (omega arith) old
        by (inr last) shown blanked =
            let w = within (box_of k) p h in
            let on : s.taken - 1 ≡ p.z - k.low.z = omega arith in
            ap (λ (x : ℕ). get_or (half_of k x m.map) place 0) (sym on) ∙ blanked.blank p h (omega arith) ∙ edge-shows sdf k inside p h (omega arith) old
