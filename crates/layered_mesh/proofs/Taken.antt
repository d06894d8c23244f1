-- Document 02, request 1, the other way round: where a whole call is accepted, a layer of its grid that is offered in its turn, state and kept memory untouched, is answered by its
-- room alone, and with room for its own V and I, or with lists as long as the whole call's, it is answered 0. So the layers offered one after the other all come out, and each
-- brings out its own cells and no others. Assumes nothing.
use Prim.Native.Nat.{ℕ, zero, suc, ◌+◌, ◌-◌, ◌*◌, ◌≤◌, ◌<◌}
use native.Mathlib.Nat.{mul-zero, mul-one, mul-add, mul-le-mul_left, le_of_eq}
use native.Mathlib.Omega.{arith}
use mathlib.Core.Bool.{Bool, true, false, not}
use mathlib.Core.List.{List, map}
use mathlib.Core.Logic.{◌⊎◌, inl, inr}
use mathlib.Core.Path.{◌≡◌, refl, sym, ap, ap₂, subst, ◌∙◌}
use borrow.Author.Tests.{le-ltb}
use lib.Dec.{T}
use lib.Ieee.{Float, nan}
use lib.ListN.{length, get_or, drop, replicate, length-replicate, length-drop, length-append}
use lib.Seq.{length-sets, length-take-le}
use Rattle.lists.specs.Lists.{joined, placed}
use Rattle.lists.proofs.Tests.{less-or-not}
use Rattle.rules.specs.Grid.{GridPoint, index, in_box, value}
use Rattle.rules.specs.Vertices.{vertices, layer_vertices, first_vertex, vertex_position}
use Rattle.rules.specs.Faces.{indices, layer_indices}
use Rattle.rules.specs.Call.{Buffers, Room, Answer, answers, answer, room_answer, room, afterwards, beyond, bad_dimensions, bad_box, bad_distance, flat_vectors}
use Rattle.rules.proofs.Indexes.{within, in-box, right-length}
use Rattle.rules.proofs.Accepted.{done-accepted, distances-ok, ok-distances}
use Rattle.grid.specs.declared.Block.{Block}
use Rattle.grid.specs.Block.{point, box_of, flags_of, field_of, call_of}
use Rattle.grid.specs.Inside.{Inside}
use Rattle.grid.specs.Layers.{in_layer}
use Rattle.grid.proofs.Bounds.{fits}
use Rattle.grid.proofs.Layers.{in-plane}
use Rattle.judge.proofs.Judging.{Enough, room-enough, done-enough}
use Rattle.whole_box.specs.Layers.{vertices_to, indices_to}
use Rattle.whole_box.proofs.Steps.{vertices-more, indices-more, vertices-within, indices-within}
use Rattle.layers.specs.declared.State.{State}
use Rattle.layers.specs.Memory.{Memory, lengths, plane, half, half_of, bad_memory, start_answer}
use Rattle.layers.specs.Offer.{begun, Output, output, room_in, Left, before, between, new_vertices, new_indices, new_lists, with_half, bad_layer_length, bad_points}
use Rattle.layers.specs.Offer.{marked_out, brought_out, layer_answer, layer_kept, leaves}
use Rattle.layer_vertices.specs.Marked.{last_entry}
use Rattle.layers.proofs.Brought.{brought-is, brought-first}
use Rattle.layers.proofs.Cells.{vertices-first, indices-first}
use Rattle.layers.proofs.Judging.{flat, flat-points, start-0, start-4, not-finished, right-length as layer-length, layer-room}
use Rattle.layers.proofs.Left.{Accepted, refused-left, done-left}
use Rattle.layered_mesh.specs.Fed.{Offered, first_of, wrote, joined_with, nothing, map_apart, layer_of, Fed, started, taken, refused, vertices_with, indices_with, points_in_z}
use Rattle.layered_mesh.proofs.Agree.{layer-at}
use Rattle.layered_mesh.proofs.Step.{mesh_of, vertices-are, indices-new, mesh-next, mesh-first}
use Rattle.layered_mesh.proofs.Layered.{inside_of, not_so, Progress, none, some, progress, low-high, layered}

-- ---- no offer changes the length of a list of kept memory

module _ (s : State) (layer : List Float) (m : Memory) (o : Output) where
  brought-lengths : lengths (brought_out s layer m o).memory ≡ lengths m
  unfolding marked_out
  brought-lengths = go (less-or-not 0 s.taken)
    where
      go : (0 < s.taken) ⊎ (s.taken ≤ 0) → lengths (brought_out s layer m o).memory ≡ lengths m
      go (inl h) =
          let new = flat_vectors (map (vertex_position (between s layer m.distances)) (new_vertices s layer m.distances)) in
          let marks = (new_lists s layer m.distances (with_half s m.map o)).map in
          ap (λ (l : Left). lengths l.memory) (brought-is s layer m o h)
          ∙ (λ j.
          record {
            distances = length m.distances;
            map = length-sets m.map (half s.block (before s)) marks j;
            positions = length-sets m.positions 0 new j;
          })
      go (inr h) = sym (ap (λ (l : Left). lengths l.memory) (brought-first s layer m.distances m.map m.positions o (omega arith)))

  kept-lengths : lengths (layer_kept s layer m) ≡ lengths m
  unfolding layer_kept
  kept-lengths =
      let k = s.block in
      let entry = last_entry (point k.dims) (box_of k) in
      λ j.
      record {
        distances = length-sets m.distances (half k s.taken) layer j;
        map = length-sets m.map (half k s.taken) (placed entry 0 (half_of k s.taken m.map)) j;
        positions = length m.positions;
      }

lengths-kept : (s : State) (layer : List Float) (m : Memory) (o : Output) → lengths (leaves s layer m o).memory ≡ lengths m
lengths-kept s layer m o = go (less-or-not 0 (layer_answer s layer m (room_in m o)).number)
  where
    go : (0 < (layer_answer s layer m (room_in m o)).number) ⊎ ((layer_answer s layer m (room_in m o)).number ≤ 0) → lengths (leaves s layer m o).memory ≡ lengths m
    go (inl h) = ap (λ (l : Left). lengths l.memory) (refused-left s layer m o (λ e. omega arith))
    go (inr h) =
        ap (λ (l : Left). lengths l.memory) (done-left s layer m o (omega arith))
        ∙ kept-lengths s layer (brought_out s layer m o).memory o ∙ brought-lengths s layer m o

pub memory-lengths : (u : Offered) → lengths u.after.memory ≡ lengths u.memory
memory-lengths u = ap (λ (l : Left). lengths l.memory) u.left ∙ lengths-kept u.state u.layer u.memory u.lent

-- so what the start found long enough stays so
pub memory-stays : (sdf : List Float) (k : Block) → Inside sdf k → {n : ℕ} {s : State} {m : Memory} {out : Output} → Fed sdf k n s m out → bad_memory k (lengths m) ≡ false
memory-stays sdf k i (started m a) = go (bad_memory k (lengths m)) refl
  where
    go : (t : Bool) → bad_memory k (lengths m) ≡ t → bad_memory k (lengths m) ≡ false
    go true e =
        let four = start-4 k (lengths m) (not_so (bad_dimensions (point k.dims)) i.dims) (not_so (bad_box (point k.dims) (box_of k)) i.box) e in
        absurd (omega (arith, four, a))
    go false e = e
memory-stays sdf k i (taken f u es em el ok) = ap (bad_memory k) (memory-lengths u ∙ ap lengths em) ∙ memory-stays sdf k i f
memory-stays sdf k i (refused f u es em otherwise) = ap (bad_memory k) (memory-lengths u ∙ ap lengths em) ∙ memory-stays sdf k i f

-- ---- a layer of the grid in its turn

module _ (sdf : List Float) (k : Block) (i : Inside sdf k) where
  layer-long : (z : ℕ) → z ≤ k.high.z → length (layer_of sdf k z) ≡ plane k
  layer-long z h =
      let f = fits sdf k i in
      let all : length sdf ≡ plane k * k.dims.z = right-length (point k.dims) (length sdf) i.size in
      let some : plane k * (z + 1) ≤ plane k * k.dims.z = mul-le-mul_left (plane k) (omega arith) in
      let one : plane k * (z + 1) ≡ plane k * z + plane k = mul-add (plane k) z 1 ∙ ap (λ (n : ℕ). plane k * z + n) (mul-one (plane k)) in
      length-take-le (plane k) (drop (plane k * z) sdf) (omega (arith, length-drop (plane k * z) sdf))

  points-good : T (not (bad_distance (field_of sdf k) (box_of k))) → (z : ℕ) → k.low.z ≤ z → z ≤ k.high.z → bad_points k (layer_of sdf k z) ≡ false
  points-good good z l h =
      let layer = layer_of sdf k z in
      sym (flat-points k layer) ∙ not_so (bad_distance (field_of layer (flat k)) (box_of (flat k))) (ok-distances (field_of layer (flat k)) (box_of (flat k)) one)
    where
      one : (q : GridPoint) → T (in_box (box_of (flat k)) q) → T (not (beyond (value (field_of (layer_of sdf k z) (flat k)) q)))
      one q t =
          let w = within (box_of (flat k)) q t in
          let f = fits sdf k i in
          let d = point k.dims in
          let p : GridPoint = record { x = q.x; y = q.y; z = z } in
          let there : T (in_box (box_of k) p) = in-box (box_of k) p (record { x = w.x; y = w.y; z = (l, h) }) in
          let bottom : plane k * q.z ≡ 0 = ap (λ (n : ℕ). plane k * n) (let e : q.z ≡ 0 = omega arith in e) ∙ mul-zero (plane k) in
          let at : index (point (flat k).dims) q ≡ in_layer d p = omega arith in
          let same : value (field_of (layer_of sdf k z) (flat k)) q ≡ value (field_of sdf k) p =
          ap (λ (n : ℕ). get_or (layer_of sdf k z) n nan) at ∙ layer-at sdf k f z p refl (in-plane d p (omega arith) (omega arith)) in
          subst (λ (x : Float). T (not (beyond x))) (sym same) (distances-ok (field_of sdf k) (box_of k) good p there)

  -- how far a bed is
  place : {n : ℕ} {s : State} {m : Memory} {out : Output} → Progress sdf k n s m out → (s.block ≡ k) × (s.taken ≡ n)
  place none = (refl, refl)
  place (some eb et h) = (eb, et)

  -- none of the conditions 1, 2, 8, 3, 4 and 5 applies
  turn-accepted : T (not (bad_distance (field_of sdf k) (box_of k))) → {n : ℕ} {s : State} {m : Memory} {out : Output} → Progress sdf k n s m out → n < points_in_z k
      → bad_memory k (lengths m) ≡ false → Accepted s (layer_of sdf k (k.low.z + n)) m
  turn-accepted good {n} {s} {m} p more kept =
      let at = place p in
      let l = low-high sdf k i in
      let z = k.low.z + n in
      let b = at.0 in
      record {
        dims = ap (λ (b : Block). bad_dimensions (point b.dims)) b ∙ not_so (bad_dimensions (point k.dims)) i.dims;
        box = ap (λ (b : Block). bad_box (point b.dims) (box_of b)) b ∙ not_so (bad_box (point k.dims) (box_of k)) i.box;
        more = not-finished s (omega (arith, at.1, ap (λ (b : Block). b.high.z - b.low.z) b));
        long = ap (λ (b : Block). bad_layer_length b (layer_of sdf k z)) b ∙ layer-length k (layer_of sdf k z) (layer-long z (omega arith));
        kept = ap (λ (b : Block). bad_memory b (lengths m)) b ∙ kept;
        points = ap (λ (b : Block). bad_points b (layer_of sdf k z)) b ∙ points-good good z (omega arith) (omega arith);
      }

  -- lists with room for so many
  abbrev room_for : ℕ → ℕ → Output
  room_for v n = output (replicate (3 * v) nan) (replicate (3 * v) nan) (replicate (3 * v) 0) (replicate v 0) (replicate v 0) (replicate n 0)

  room_for_lem : (m : Memory) (v n : ℕ) → Enough (room_in m (room_for v n)) v n
  room_for_lem m v n =
      record {
        positions = le_of_eq (sym (length-replicate (3 * v) nan));
        normals = le_of_eq (sym (length-replicate (3 * v) nan));
        cells = le_of_eq (sym (length-replicate (3 * v) 0));
        strides = le_of_eq (sym (length-replicate v 0));
        crossings = le_of_eq (sym (length-replicate v 0));
        indices = le_of_eq (sym (length-replicate n 0));
      }

  enough-done : {r : Room} {v n : ℕ} → Enough r v n → room_answer r v n ≡ answers 0 v n
  enough-done {r} {v} {n} e = sym (room-enough r v n e.positions e.normals e.cells e.strides e.crossings e.indices)

  -- V and I do not depend on the lists lent: they are counted as if there were room
  turn-brings : {n : ℕ} {s : State} {m : Memory} {out : Output} → Progress sdf k n s m out → Accepted s (layer_of sdf k (k.low.z + n)) m
      → (new_vertices s (layer_of sdf k (k.low.z + n)) m.distances ≡ vertices_with sdf k n) × (new_indices s (layer_of sdf k (k.low.z + n)) m ≡ indices_with sdf k n)
  turn-brings {m = m} none a = (vertices-first (begun k) (layer_of sdf k (k.low.z + 0)) m.distances refl, indices-first (begun k) (layer_of sdf k (k.low.z + 0)) m refl)
  turn-brings {n = suc n} {s = s} {m = m} (some eb et h) a =
      let layer = layer_of sdf k (k.low.z + suc n) in
      let v = length (new_vertices s layer m.distances) in
      let c = length (new_indices s layer m) in
      let o = room_for v c in
      let e : (layer_answer s layer m (room_in m o)).number ≡ 0 =
      ap (λ (x : Answer). x.number) (sym (layer-room s layer m (room_in m o) a.dims a.box a.more a.long a.kept a.points) ∙ enough-done (room_for_lem m v c)) in
      let inside = subst (Inside sdf) (sym eb) i in
      let same : layer ≡ layer_of sdf s.block (s.block.low.z + s.taken) = ap₂ (λ (b : Block) (t : ℕ). layer_of sdf b (b.low.z + t)) (sym eb) (sym et) in
      let before : s.taken - 1 ≡ n = omega arith in (
        vertices-are sdf s layer m o inside e same h ∙ ap₂ (λ (b : Block) (t : ℕ). layer_vertices (field_of sdf b) (box_of b) (b.low.z + t)) eb before,
        indices-new sdf s layer m o inside e same h
            ∙ ap₂ (λ (b : Block) (t : ℕ). layer_indices (field_of sdf b) (box_of b) (flags_of b) (first_vertex (field_of sdf b) (box_of b) (b.low.z + t)) (b.low.z + t)) eb before,
      )

  -- ---- an offer in its turn

  module _ (good : T (not (bad_distance (field_of sdf k) (box_of k)))) {n : ℕ} {s : State} {m : Memory} {out : Output} (fed : Fed sdf k n s m out) (more : n < points_in_z k)
      (u : Offered) (es : u.state ≡ s) (em : u.memory ≡ m) (el : u.layer ≡ layer_of sdf k (k.low.z + n)) where
    accepted : Accepted s (layer_of sdf k (k.low.z + n)) m
    accepted = turn-accepted good (progress sdf k i fed) more (memory-stays sdf k i fed)

    -- only the room for the layer's own vertices and indices is still asked for
    pub room-alone : u.says ≡ room_answer (room_in u.memory u.lent) (length (vertices_with sdf k n)) (length (indices_with sdf k n))
    room-alone =
        let a = accepted in
        let r = room_in u.memory u.lent in
        let new = turn-brings (progress sdf k i fed) a in
        u.answered ∙ (λ j. layer_answer (es j) (el j) (em j) r)
        ∙ sym (layer-room s (layer_of sdf k (k.low.z + n)) m r a.dims a.box a.more a.long a.kept a.points)
        ∙ ap₂ (λ (vs : List GridPoint) (is : List ℕ). room_answer r (length vs) (length is)) new.0 new.1

    -- with that much it is taken
    pub layer-taken : Enough (room_in u.memory u.lent) (length (vertices_with sdf k n)) (length (indices_with sdf k n))
        → u.says ≡ answers 0 (length (vertices_with sdf k n)) (length (indices_with sdf k n))
    layer-taken e = room-alone ∙ enough-done e

    -- and it brings out its own cells and no others
    pub layer-brings : u.says.number ≡ 0 → wrote u ≡ mesh_of (field_of sdf k) (vertices_with sdf k n) (indices_with sdf k n)
    unfolding joined
    layer-brings ok =
        let said = u.answered ∙ ap₂ (λ (a : State) (b : Memory). layer_answer a u.layer b (room_in b u.lent)) es em in
        let after = u.left ∙ ap₂ (λ (a : State) (b : Memory). leaves a u.layer b u.lent) es em in
        ap (λ (l : Left). first_of u.says.vertices u.says.indices l.output) after ∙ go (progress sdf k i fed) u.layer u.lent u.says said ok el
      where
        go : {n : ℕ} {s : State} {m : Memory} {out : Output} → Progress sdf k n s m out → (layer : List Float) (o : Output) (a : Answer) → a ≡ layer_answer s layer m (room_in m o)
            → a.number ≡ 0 → layer ≡ layer_of sdf k (k.low.z + n)
            → first_of a.vertices a.indices (leaves s layer m o).output ≡ mesh_of (field_of sdf k) (vertices_with sdf k n) (indices_with sdf k n)
        go {m = m} none layer o a ea ok el = mesh-first sdf k layer m o (ap (λ (t : Answer). t.number) (sym ea) ∙ ok) el a ea
        go {n = suc n} {s = s} {m = m} (some eb et h) layer o a ea ok el =
            let e = ap (λ (t : Answer). t.number) (sym ea) ∙ ok in
            let inside = subst (Inside sdf) (sym eb) i in
            let same = el ∙ ap₂ (λ (b : Block) (t : ℕ). layer_of sdf b (b.low.z + t)) (sym eb) (sym et) in
            let before : s.taken - 1 ≡ n = omega arith in
            mesh-next sdf s layer m o inside e same h a ea
            ∙ ap₂ (λ (b : Block) (t : ℕ). mesh_of (field_of sdf b) (layer_vertices (field_of sdf b) (box_of b) (b.low.z + t))
            (layer_indices (field_of sdf b) (box_of b) (flags_of b) (first_vertex (field_of sdf b) (box_of b) (b.low.z + t)) (b.low.z + t))) eb before

  -- ---- beside the whole box: a layer has no more vertices and indices than the box

  layer-fewer : (n : ℕ) → n < points_in_z k → (length (vertices_with sdf k n) ≤ length (vertices (field_of sdf k) (box_of k)))
      × (length (indices_with sdf k n) ≤ length (indices (field_of sdf k) (box_of k) (flags_of k)))
  layer-fewer zero h = (omega arith, omega arith)
  layer-fewer (suc n) h =
      let l = low-high sdf k i in
      let g = field_of sdf k in
      let b = box_of k in
      let z = k.low.z + n in (
        omega (
          arith,
          vertices-within g b (flags_of k) (z + 1) (omega arith) (omega arith),
          ap length (vertices-more g b (flags_of k) z (omega arith)),
          length-append (vertices_to g b z) (layer_vertices g b z),
        ),
        omega (
          arith,
          indices-within g b (flags_of k) (z + 1) (omega arith) (omega arith),
          ap length (indices-more g b (flags_of k) z (omega arith)),
          length-append (indices_to g b (flags_of k) z) (layer_indices g b (flags_of k) (first_vertex g b z) z),
        ),
      )

-- ---- beside an accepted whole call

-- lists as long as a whole call's
pub record AsLong (o : Output) (t : Buffers) : Type 0 where
  pub positions : length t.positions ≤ length o.positions
  pub normals : length t.normals ≤ length o.normals
  pub cells : length t.cells ≤ length o.cells
  pub strides : length t.strides ≤ length o.strides
  pub crossings : length t.crossings ≤ length o.crossings
  pub indices : length t.indices ≤ length o.indices

module _ (sdf : List Float) (k : Block) (t : Buffers) (done : (answer (call_of sdf k) (room t)).number ≡ 0) where
  inside : Inside sdf k
  inside = inside_of sdf k t done

  good : T (not (bad_distance (field_of sdf k) (box_of k)))
  good = (done-accepted (call_of sdf k) (room t) done).distance

  whole_room : (m : Memory) (o : Output) → AsLong o t → (n : ℕ) → n < points_in_z k → Enough (room_in m o) (length (vertices_with sdf k n)) (length (indices_with sdf k n))
  whole_room m o long n more =
      let w = done-enough (call_of sdf k) (room t) done in
      let f = layer-fewer sdf k inside n more in
      record {
        positions = omega (arith, w.positions, f.0, long.positions);
        normals = omega (arith, w.normals, f.0, long.normals);
        cells = omega (arith, w.cells, f.0, long.cells);
        strides = omega (arith, w.strides, f.0, long.strides);
        crossings = omega (arith, w.crossings, f.0, long.crossings);
        indices = omega (arith, w.indices, f.1, long.indices);
      }

  -- a layer in its turn
  pub taken-beside : {n : ℕ} {s : State} {m : Memory} {out : Output} → Fed sdf k n s m out → n < points_in_z k → (u : Offered) → u.state ≡ s → u.memory ≡ m
      → u.layer ≡ layer_of sdf k (k.low.z + n) → AsLong u.lent t → u.says ≡ answers 0 (length (vertices_with sdf k n)) (length (indices_with sdf k n))
  taken-beside {n} fed more u es em el long = layer-taken sdf k inside good fed more u es em el (whole_room u.memory u.lent long n more)

  -- ---- all layers in turn

  -- the start takes memory of two layers, two layers of map and the positions of one
  pub start-taken : (m : Memory) → 2 * plane k ≤ length m.distances → 2 * plane k ≤ length m.map → 3 * plane k ≤ length m.positions → start_answer k (lengths m) ≡ 0
  unfolding bad_memory
  start-taken m d mp p =
      sym (start-0 k (lengths m) (not_so (bad_dimensions (point k.dims)) inside.dims) (not_so (bad_box (point k.dims) (box_of k)) inside.box) long)
    where
      long : bad_memory k (lengths m) ≡ false
      long = simp (le-ltb (length m.distances) (2 * plane k) d, le-ltb (length m.map) (2 * plane k) mp, le-ltb (length m.positions) (3 * plane k) p)

  -- offers, one for each layer, each to the state and the memory that the one before left, with lists as long as the whole call's
  pub record InTurn (m : Memory) (made : ℕ → Offered) : Type 0 where
    pub began : start_answer k (lengths m) ≡ 0
    pub first-state : (made 0).state ≡ begun k
    pub first-memory : (made 0).memory ≡ m
    pub next-state : (n : ℕ) → suc n < points_in_z k → (made (suc n)).state ≡ (made n).next
    pub next-memory : (n : ℕ) → suc n < points_in_z k → (made (suc n)).memory ≡ (made n).after.memory
    pub layer : (n : ℕ) → n < points_in_z k → (made n).layer ≡ layer_of sdf k (k.low.z + n)
    pub long : (n : ℕ) → n < points_in_z k → AsLong (made n).lent t

  module _ (m : Memory) (made : ℕ → Offered) (in-turn : InTurn m made) where
    state_at : ℕ → State
    state_at zero = begun k
    state_at (suc n) = (made n).next

    memory_at : ℕ → Memory
    memory_at zero = m
    memory_at (suc n) = (made n).after.memory

    -- what came out with the first n
    pub out_at : ℕ → Output
    out_at zero = nothing
    out_at (suc n) = joined_with (out_at n) (wrote (made n))

    state-at : (n : ℕ) → n < points_in_z k → (made n).state ≡ state_at n
    unfolding state_at
    state-at zero h = in-turn.first-state
    state-at (suc n) h = in-turn.next-state n h

    memory-at : (n : ℕ) → n < points_in_z k → (made n).memory ≡ memory_at n
    unfolding memory_at
    memory-at zero h = in-turn.first-memory
    memory-at (suc n) h = in-turn.next-memory n h

    fed-to : (n : ℕ) → n ≤ points_in_z k → Fed sdf k n (state_at n) (memory_at n) (out_at n)
    unfolding state_at memory_at out_at
    fed-to zero h = started m in-turn.began
    fed-to (suc n) h =
        let f = fed-to n (omega arith) in
        let more : n < points_in_z k = omega arith in
        let said = taken-beside f more (made n) (state-at n more) (memory-at n more) (in-turn.layer n more) (in-turn.long n more) in
        taken f (made n) (state-at n more) (memory-at n more) (in-turn.layer n more) (ap (λ (a : Answer). a.number) said)

    -- each is answered 0
    pub all-taken : (n : ℕ) → n < points_in_z k → (made n).says ≡ answers 0 (length (vertices_with sdf k n)) (length (indices_with sdf k n))
    all-taken n h = taken-beside (fed-to n (omega arith)) h (made n) (state-at n h) (memory-at n h) (in-turn.layer n h) (in-turn.long n h)

    -- and after the last of them the whole call's mesh came out
    pub all-out : out_at (points_in_z k) ≡ first_of (answer (call_of sdf k) (room t)).vertices (answer (call_of sdf k) (room t)).indices (map_apart (afterwards (call_of sdf k) t))
    all-out = layered sdf k t done (fed-to (points_in_z k) (omega arith)) refl
