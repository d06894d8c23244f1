-- What an answer of 0 says of a layer, and what the layer leaves by its answer. Assumes nothing.
use Prim.Native.Nat.{ℕ, ◌+◌, ◌-◌, ◌<◌}
use native.Mathlib.Omega.{arith}
use mathlib.Core.Bool.{Bool, true, false, cond}
use mathlib.Core.List.{List}
use mathlib.Core.Path.{◌≡◌, refl, sym, ap, ap₂, ◌∙◌}
use borrow.Author.Tests.{eqb-true, leb-false, eq-eqb, ne_eqb, not-false}
use lib.Dec.{eqb}
use lib.ListN.{length}
use lib.Ieee.{Float}
use Rattle.rules.specs.Call.{Answer, Room, answers, room_answer, bad_dimensions, bad_box, bad_vertex_room, bad_index_room}
use Rattle.lists.proofs.Tests.{failed}
use Rattle.rules.proofs.Indexes.{box-fits, small}
use Rattle.grid.specs.Block.{point, box_of}
use Rattle.judge.proofs.Judging.{room-done}
use Rattle.layers.specs.declared.State.{State}
use Rattle.layers.specs.Memory.{Memory, memory, lengths, put_half, bad_memory}
use Rattle.layers.specs.Offer.{Output, output, room_in, Left, left, advanced, new_vertices, new_indices, new_first, finished, bad_layer_length, bad_points, layer_answer}
use Rattle.layers.specs.Offer.{runs_on, state_after, brought_out, cleared, layer_kept, leaves}
use Rattle.layers.specs.Ready.{Roomy}
use Rattle.layers.proofs.Judging.{layer-1, layer-2, layer-8, layer-3, layer-4, layer-5, layer-room, memory-enough}

-- ---- an answer of 0

-- none of the conditions 1, 2, 8, 3, 4 and 5 applies
pub record Accepted (s : State) (layer : List Float) (m : Memory) : Type 0 where
  pub dims : bad_dimensions (point s.block.dims) ≡ false
  pub box : bad_box (point s.block.dims) (box_of s.block) ≡ false
  pub more : finished s ≡ false
  pub long : bad_layer_length s.block layer ≡ false
  pub kept : bad_memory s.block (lengths m) ≡ false
  pub points : bad_points s.block layer ≡ false

-- a test that would have answered otherwise did not pass
not-then : (t : Bool) {n : ℕ} {a : Answer} → 0 < n → a.number ≡ 0 → (t ≡ true → answers n 0 0 ≡ a) → t ≡ false
not-then true h e says = let z = ap (λ (b : Answer). b.number) (says refl) in absurd (omega arith)
not-then false h e says = refl

module _ (s : State) (layer : List Float) (m : Memory) (r : Room) (e : (layer_answer s layer m r).number ≡ 0) where
  pub done-accepted : Accepted s layer m
  done-accepted =
      let a = not-then (bad_dimensions (point s.block.dims)) (omega arith) e (layer-1 s layer m r) in
      let b = not-then (bad_box (point s.block.dims) (box_of s.block)) (omega arith) e (layer-2 s layer m r a) in
      let c = not-then (finished s) (omega arith) e (layer-8 s layer m r a b) in
      let d = not-then (bad_layer_length s.block layer) (omega arith) e (layer-3 s layer m r a b c) in
      let f = not-then (bad_memory s.block (lengths m)) (omega arith) e (layer-4 s layer m r a b c d) in
      let g = not-then (bad_points s.block layer) (omega arith) e (layer-5 s layer m r a b c d f) in
      record { dims = a; box = b; more = c; long = d; kept = f; points = g }

  -- V and I are the layer's
  pub done-counted : layer_answer s layer m r ≡ room_answer r (length (new_vertices s layer m.distances)) (length (new_indices s layer m))
  done-counted = let a = done-accepted in sym (layer-room s layer m r a.dims a.box a.more a.long a.kept a.points)

  pub room-left : (room_answer r (length (new_vertices s layer m.distances)) (length (new_indices s layer m))).number ≡ 0
  room-left = ap (λ (a : Answer). a.number) (sym done-counted) ∙ e

counts-said : (r : Room) (v i : ℕ) → ((room_answer r v i).vertices ≡ v) × ((room_answer r v i).indices ≡ i)
unfolding room_answer
counts-said r v i = go (bad_vertex_room r v) (bad_index_room r i)
  where
    go : (t u : Bool) → let a = cond t (answers 6 v i) (cond u (answers 7 v i) (answers 0 v i)) in (a.vertices ≡ v) × (a.indices ≡ i)
    go true u = (refl, refl)
    go false true = (refl, refl)
    go false false = (refl, refl)

module _ (s : State) (layer : List Float) (m : Memory) (o : Output) (e : (layer_answer s layer m (room_in m o)).number ≡ 0) where
  pub done-roomy : Roomy s layer m o
  done-roomy =
      let a = done-accepted s layer m (room_in m o) e in
      let h = room-done (room_in m o) (length (new_vertices s layer m.distances)) (length (new_indices s layer m)) (room-left s layer m (room_in m o) e) in
      let k = memory-enough s.block (lengths m) a.kept in
      let z = leb-false (s.block.high.z - s.block.low.z + 1) s.taken a.more in
      record {
        ready = record {
          offered = record {
            dims = failed refl a.dims;
            box = failed refl a.box;
            long = eqb-true (length layer) _
                (not-false (eqb (length layer) _) a.long);
          };
          more = omega arith;
          kept = k.distances;
        };
        map = k.map;
        keeps = k.positions;
        positions = h.positions;
        normals = h.normals;
        cells = h.cells;
        strides = h.strides;
        crossings = h.crossings;
        indices = h.indices;
      }

  said : ((layer_answer s layer m (room_in m o)).vertices ≡ length (new_vertices s layer m.distances)) ×
      ((layer_answer s layer m (room_in m o)).indices ≡ length (new_indices s layer m))
  said =
      let c = done-counted s layer m (room_in m o) e in
      let t = counts-said (room_in m o) (length (new_vertices s layer m.distances)) (length (new_indices s layer m)) in
      (ap (λ (a : Answer). a.vertices) c ∙ t.0, ap (λ (a : Answer). a.indices) c ∙ t.1)

  pub done-vertices : (layer_answer s layer m (room_in m o)).vertices ≡ length (new_vertices s layer m.distances)
  done-vertices = said.0

  pub done-indices : (layer_answer s layer m (room_in m o)).indices ≡ length (new_indices s layer m)
  done-indices = said.1

  -- what is left
  pub done-state : state_after s layer m o ≡ advanced s (new_first s layer m.distances) (length (new_vertices s layer m.distances))
  unfolding state_after
  done-state = rw (eq-eqb (layer_answer s layer m (room_in m o)).number 0 e)

  -- by the code's first number and count
  pub state-next : {t : State} (count : ℕ) → t ≡ advanced s (runs_on s.next count) count → count ≡ length (new_vertices s layer m.distances) → t ≡ state_after s layer m o
  state-next count e n = e ∙ ap₂ (advanced s) (ap (runs_on s.next) n) n ∙ sym done-state

  pub done-left : leaves s layer m o ≡ left (layer_kept s layer (brought_out s layer m o).memory) (brought_out s layer m o).output
  unfolding leaves
  done-left = rw (eq-eqb (layer_answer s layer m (room_in m o)).number 0 e)

  -- from what the two steps of the code say of the lists
  pub kept_whole : {ds : List Float} {mp mp' : List ℕ} {kept p n : List Float} {c st cr ix : List ℕ}
      → left (memory m.distances mp kept) (output p n c st cr ix) ≡ brought_out s layer m o
      → ds ≡ put_half s.block s.taken layer m.distances → mp' ≡ cleared s.block s.taken mp → left (memory ds mp' kept) (output p n c st cr ix) ≡ leaves s layer m o
  unfolding layer_kept
  kept_whole {kept = kept} {p = p} {n = n} {c = c} {st = st} {cr = cr} {ix = ix} b k q =
      ap₂ (λ (l : List Float) (t : List ℕ). left (memory l t kept) (output p n c st cr ix)) k q
      ∙ ap (λ (l : Left). left (layer_kept s layer l.memory) l.output) b
      ∙ sym done-left

-- ---- any other answer

module _ (s : State) (layer : List Float) (m : Memory) (o : Output) (e : (layer_answer s layer m (room_in m o)).number ≡ 0 → ⊥) where
  pub refused-state : state_after s layer m o ≡ s
  unfolding state_after
  refused-state = rw (ne_eqb (layer_answer s layer m (room_in m o)).number 0 e)

  pub refused-left : leaves s layer m o ≡ left m o
  unfolding leaves
  refused-left = rw (ne_eqb (layer_answer s layer m (room_in m o)).number 0 e)

-- a layer that is taken is one of the box's
pub advances : {s : State} {layer : List Float} {m : Memory} {o : Output} → Roomy s layer m o → s.taken < 4294967295
advances {s} r =
    let f = box-fits (point s.block.dims) (box_of s.block) r.ready.offered.box in
    let d = small (point s.block.dims) r.ready.offered.dims in
    omega (arith, r.ready.more)
