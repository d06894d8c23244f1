-- One layer more: what holds of the state, of kept memory and of what came out, once a layer was taken, holds with the next one too. Assumes nothing.
use Prim.Native.Nat.{ℕ, suc, ◌+◌, ◌-◌, ◌*◌, ◌≤◌, ◌<◌}
use native.Mathlib.Nat.{zero-add}
use native.Mathlib.Omega.{arith}
use mathlib.Core.Bool.{Bool, true, false, not, cond}
use mathlib.Core.List.{List, [], ◌++◌, map, map-append}
use mathlib.Core.Logic.{◌⊎◌, inl, inr}
use mathlib.Core.Path.{◌≡◌, refl, sym, ap, ap₂, subst, ◌∙◌}
use lib.Dec.{T}
use lib.Ieee.{Float, nan}
use lib.Ieee.Bits.{is_true}
use lib.ListN.{length, get_or, take, drop, length-map}
use lib.Seq.{sets, length-sets}
use Rattle.lists.specs.Lists.{up_to, joined, placed}
use Rattle.rules.specs.Grid.{GridPoint, Box, Field, index, is_cell, in_box, value}
use Rattle.rules.specs.Vertices.{surface_cell, layer_vertices, first_vertex, vertex_number, vertex_position, vertex_normal, vertex_crossings, null_vertex, cell_entry, map_entry}
use Rattle.rules.specs.Faces.{layer_indices}
use Rattle.rules.specs.Call.{Answer, beyond, flat_vectors, flat_points}
use Rattle.lists.proofs.Tests.{failed, less-or-not}
use Rattle.rules.proofs.Accepted.{distances-ok}
use Rattle.lists.proofs.Lists.{length-placed, get_d-placed}
use Rattle.lists.proofs.Runs.{up_to-none}
use Rattle.rules.proofs.Seen.{length-points, length-vectors}
use Rattle.rules.proofs.Indexes.{BoxFits, box-fits, within, in-box, cell-within, point-back}
use Rattle.grid.specs.declared.Block.{Block}
use Rattle.grid.specs.Block.{point, box_of, flags_of, field_of}
use Rattle.grid.specs.Inside.{Inside}
use Rattle.grid.specs.Layers.{in_layer, layer_dist, two_layers}
use Rattle.grid.proofs.Bounds.{fits}
use Rattle.grid.proofs.Layers.{in-plane}
use Rattle.grid.proofs.Slab.{slab, layer-alike, positions-alike}
use Rattle.layer_vertices.specs.Marked.{lists, marked, cell_number, layer_entry, last_entry}
use Rattle.layer_vertices.proofs.Alike.{marked-alike}
use Rattle.layer_vertices.proofs.Entries.{place-back}
use Rattle.layer_vertices.proofs.Passing.{vectors-append, points-append}
use Rattle.layer_faces.specs.Below.{Kept, indices_over}
use Rattle.layer_faces.proofs.Alike.{Right, indices-are}
use Rattle.whole_box.specs.Layers.{vertices_to, indices_to}
use Rattle.whole_box.proofs.Steps.{vertices-more, indices-more, first_more}
use Rattle.whole_box.proofs.Layer.{first-few}
use Rattle.layers.specs.declared.State.{State}
use Rattle.layers.specs.Memory.{Memory, memory, plane, half, half_of, put_half}
use Rattle.layers.specs.Offer.{begun, Output, bad_points, output, with_indices, room_in, Left, left, before, cells_at, between, new_vertices, new_first, kept_below, new_indices, new_lists}
use Rattle.layers.specs.Offer.{with_half}
use Rattle.layers.specs.Offer.{marked_out, cleared, layer_kept, layer_answer, state_after, leaves}
use Rattle.layers.specs.Ready.{Roomy}
use Rattle.layers.proofs.Halves.{sets-front, half_length, half-here, half-apart, half-again}
use Rattle.layers.proofs.Judging.{flat, flat-points}
use Rattle.layers.proofs.Cells.{runs_on_lem, vertices-first, vertices-later, indices-first, indices-later, vertices-few}
use Rattle.layers.proofs.Brought.{entry-number, brought-is, brought-first}
use Rattle.layers.proofs.Left.{done-accepted, done-roomy, done-vertices, done-indices, done-state, done-left}
use Rattle.layered_mesh.specs.Fed.{first_of, joined_with, nothing, layer_of}
use Rattle.layered_mesh.proofs.Agree.{layer-at, layers-agree}

-- ---- a mesh

-- the lists of vertices and of indices
abbrev pub mesh_of : Field → List GridPoint → List ℕ → Output
mesh_of g vs is =
    output (flat_vectors (map (vertex_position g) vs)) (flat_vectors (map (vertex_normal g) vs)) (flat_points vs) (map (index g.dims) vs) (map (vertex_crossings g) vs) is

pub mesh-join : (g : Field) (vs ws : List GridPoint) (is js : List ℕ) → joined_with (mesh_of g vs is) (mesh_of g ws js) ≡ mesh_of g (vs ++ ws) (is ++ js)
mesh-join g vs ws is js =
    λ i. output (vectors-append (vertex_position g) vs ws i) (vectors-append (vertex_normal g) vs ws i) (points-append vs ws i) (sym (map-append (index g.dims) vs ws) i)
    (sym (map-append (vertex_crossings g) vs ws) i) (is ++ js)

-- the layers from min z up to z, which is left out
abbrev pub mesh_to : List Float → Block → ℕ → Output
mesh_to sdf k z = mesh_of (field_of sdf k) (vertices_to (field_of sdf k) (box_of k) z) (indices_to (field_of sdf k) (box_of k) (flags_of k) z)

-- what a layer writes, read from the lists
pub first-marked : (g : Field) (b : Box) (z number : ℕ) (o : Output) (mp is : List ℕ) (v i : ℕ) → v ≡ length (layer_vertices g b z) → i ≡ length is
    → 3 * v ≤ length o.positions → 3 * v ≤ length o.normals → 3 * v ≤ length o.cells → v ≤ length o.strides → v ≤ length o.crossings → i ≤ length o.indices
    → first_of v i (with_indices (marked g b z (record { place = 0; number = number }) (lists o.positions o.normals o.cells o.strides o.crossings mp))
    (sets o.indices 0 is))
    ≡ mesh_of g (layer_vertices g b z) is
unfolding marked
first-marked g b z number o mp is v i ev ei hp hn hc hs hr hi =
    let vs = layer_vertices g b z in
    let lp = length-vectors (vertex_position g) vs in
    let ln = length-vectors (vertex_normal g) vs in
    let lc = length-points vs in
    let ls = length-map vs (index g.dims) in
    let lr = length-map vs (vertex_crossings g) in
    λ j.
    output (sets-front o.positions (flat_vectors (map (vertex_position g) vs)) (omega arith) (3 * v) (omega arith) j)
    (sets-front o.normals (flat_vectors (map (vertex_normal g) vs)) (omega arith) (3 * v) (omega arith) j)
    (sets-front o.cells (flat_points vs) (omega arith) (3 * v) (omega arith) j)
    (sets-front o.strides (map (index g.dims) vs) (omega arith) v (omega arith) j)
    (sets-front o.crossings (map (vertex_crossings g) vs) (omega arith) v (omega arith) j)
    (sets-front o.indices is (omega arith) i (omega arith) j)

-- ---- the kept map

-- a half is the rules' map of the layer below z, at each point of the box, whatever stood there before
pub record Shows (sdf : List Float) (k : Block) (z : ℕ) (half : List ℕ) : Type 0 where
  pub shows : (p : GridPoint) → T (in_box (box_of k) p) → suc p.z ≡ z → (old : ℕ)
      → get_or half (in_layer (point k.dims) p) 0 ≡ map_entry (field_of sdf k) (box_of k) (index (point k.dims) p) old

-- no point of the box in the layer z has a vertex
pub record Blank (k : Block) (z : ℕ) (half : List ℕ) : Type 0 where
  pub blank : (p : GridPoint) → T (in_box (box_of k) p) → p.z ≡ z → get_or half (in_layer (point k.dims) p) 0 ≡ null_vertex

module _ (k : Block) (f : BoxFits (point k.dims) (box_of k)) (half : List ℕ) (long : length half ≡ plane k) where
  -- a layer's entries are the map's
  pub entries-show : (sdf : List Float) (z : ℕ) → Shows sdf k (z + 1) (placed (layer_entry (field_of sdf k) (box_of k) z (first_vertex (field_of sdf k) (box_of k) z)) 0 half)
  unfolding layer_entry map_entry cell_entry
  entries-show sdf z = record { shows = show }
    where
      g : Field
      g = field_of sdf k

      b : Box
      b = box_of k

      d : GridPoint
      d = point k.dims

      pick : (t : Bool) → (p : GridPoint) → p.z ≡ z → T (in_box b p) → (old old' : ℕ)
          → cond t (cell_number g b (first_vertex g b z) p) (cond (in_box b p) null_vertex old)
          ≡ cond t (cond (surface_cell g p) (vertex_number g b (first_vertex g b p.z) p) null_vertex) (cond (in_box b p) null_vertex old')
      pick true p e t old old' = ap (λ (y : ℕ). cond (surface_cell g p) (vertex_number g b (first_vertex g b y) p) null_vertex) (sym e)
      pick false p e t old old' = rw (is_true (in_box b p) t)

      show : (p : GridPoint) → T (in_box b p) → suc p.z ≡ z + 1 → (old : ℕ)
          → get_or (placed (layer_entry g b z (first_vertex g b z)) 0 half) (in_layer d p) 0 ≡ map_entry g b (index d p) old
      show p t ez old =
          let w = within b p t in
          let e : p.z ≡ z = omega arith in
          let j = in_layer d p in
          let inside : j < plane k = in-plane d p (omega arith) (omega arith) in
          get_d-placed (layer_entry g b z (first_vertex g b z)) 0 half j 0 (omega arith)
          ∙ ap (λ (n : ℕ). layer_entry g b z (first_vertex g b z) n (get_or half j 0)) (zero-add j)
          ∙ ap (λ (q : GridPoint). cond (is_cell b q) (cell_number g b (first_vertex g b z) q) (cond (in_box b q) null_vertex (get_or half j 0))) (place-back d z p (omega arith) e)
          ∙ pick (is_cell b p) p e t (get_or half j 0) old
          ∙ sym (ap (λ (q : GridPoint). cond (is_cell b q) (cond (surface_cell g q) (vertex_number g b (first_vertex g b q.z) q) null_vertex) (cond (in_box b q) null_vertex old))
          (point-back d p (omega arith) (omega arith)))

  -- a cleared half is blank
  pub cleared-blank : (z : ℕ) → Blank k z (placed (last_entry (point k.dims) (box_of k)) 0 half)
  unfolding last_entry
  cleared-blank z = record { blank = show }
    where
      b : Box
      b = box_of k

      d : GridPoint
      d = point k.dims

      show : (p : GridPoint) → T (in_box b p) → p.z ≡ z → get_or (placed (last_entry d b) 0 half) (in_layer d p) 0 ≡ null_vertex
      show p t ez =
          let w = within b p t in
          let j = in_layer d p in
          let q : GridPoint = record { x = p.x; y = p.y; z = k.high.z } in
          let inside : j < plane k = in-plane d p (omega arith) (omega arith) in
          let there : T (in_box b q) = in-box b q (record { x = w.x; y = w.y; z = (omega arith, omega arith) }) in
          get_d-placed (last_entry d b) 0 half j 0 (omega arith)
          ∙ ap (λ (n : ℕ). last_entry d b n (get_or half j 0)) (zero-add j)
          ∙ ap (λ (r : GridPoint). cond (in_box b r) null_vertex (get_or half j 0)) (place-back d k.high.z q (omega arith) refl)
          ∙ ap (λ (s : Bool). cond s null_vertex (get_or half j 0)) (is_true (in_box b q) there)

-- the half that was cleared
pub half-cleared : (k : Block) → BoxFits (point k.dims) (box_of k) → (t : ℕ) (mp : List ℕ) → 2 * plane k ≤ length mp → (z : ℕ) → Blank k z (half_of k t (cleared k t mp))
half-cleared k f t mp long z =
    let entry = last_entry (point k.dims) (box_of k) in
    let old = half_of k t mp in
    let size = half_length k t mp long in
    subst (Blank k z) (sym (half-here k t mp long (placed entry 0 old) (length-placed entry 0 old ∙ size))) (cleared-blank k f old size z)

-- ---- condition 5

-- no distance of the box up to the layer z is beyond the cap
pub record Good (sdf : List Float) (k : Block) (z : ℕ) : Type 0 where
  pub good : (p : GridPoint) → T (in_box (box_of k) p) → p.z ≤ z → T (not (beyond (value (field_of sdf k) p)))

-- a layer that passes condition 5
layer-good : (sdf : List Float) (k : Block) → BoxFits (point k.dims) (box_of k) → (z : ℕ) (layer : List Float) → layer ≡ layer_of sdf k z → bad_points k layer ≡ false
    → (p : GridPoint) → T (in_box (box_of k) p) → p.z ≡ z → T (not (beyond (value (field_of sdf k) p)))
layer-good sdf k f z layer el e p t ez =
    let w = within (box_of k) p t in
    let d = point k.dims in
    let q : GridPoint = record { x = p.x; y = p.y; z = 0 } in
    let there : T (in_box (box_of (flat k)) q) = in-box (box_of (flat k)) q (record { x = w.x; y = w.y; z = (omega arith, omega arith) }) in
    let one = distances-ok (field_of layer (flat k)) (box_of (flat k)) (failed refl (flat-points k layer ∙ e)) q there in
    let at : index (point (flat k).dims) q ≡ in_layer d p = omega arith in
    let same : value (field_of layer (flat k)) q ≡ value (field_of sdf k) p =
    ap₂ (λ (l : List Float) (n : ℕ). get_or l n nan) el at ∙ layer-at sdf k f z p ez (in-plane d p (omega arith) (omega arith)) in
    subst (λ (x : Float). T (not (beyond x))) same one

-- one layer more
good_more : (sdf : List Float) (k : Block) → BoxFits (point k.dims) (box_of k) → (z : ℕ) (layer : List Float) → layer ≡ layer_of sdf k (z + 1) → bad_points k layer ≡ false
    → Good sdf k z → Good sdf k (z + 1)
good_more sdf k f z layer el e h = record { good = λ p t l. go p t l (less-or-not p.z (z + 1)) }
  where
    go : (p : GridPoint) → T (in_box (box_of k) p) → p.z ≤ z + 1 → (p.z < z + 1) ⊎ (z + 1 ≤ p.z) → T (not (beyond (value (field_of sdf k) p)))
    go p t l (inl less) = h.good p t (omega arith)
    go p t l (inr last) = layer-good sdf k f (z + 1) layer el e p t (omega arith)

-- ---- what holds once a layer was taken

pub record Holds (sdf : List Float) (s : State) (m : Memory) (out : Output) : Type 0 where
  pub later : 0 < s.taken
  pub next : s.next ≡ first_vertex (field_of sdf s.block) (box_of s.block) (cells_at s)
  pub low : half_of s.block (before s) m.distances ≡ layer_of sdf s.block (cells_at s)
  pub right : Right (field_of sdf s.block) (box_of s.block) (first_vertex (field_of sdf s.block) (box_of s.block) (cells_at s)) (cells_at s)
      (kept_below s m.map m.positions)
  pub mesh : out ≡ mesh_to sdf s.block (cells_at s)
  pub entries : Shows sdf s.block (cells_at s) (half_of s.block s.taken m.map)
  pub cleared : Blank s.block (cells_at s) (half_of s.block (before s) m.map)
  pub good : Good sdf s.block (cells_at s)

-- ---- the next layer

module _ (sdf : List Float) (s : State) (layer : List Float) (m : Memory) (o : Output) (i : Inside sdf s.block) (e : (layer_answer s layer m (room_in m o)).number ≡ 0)
    (el : layer ≡ layer_of sdf s.block (s.block.low.z + s.taken)) {out : Output} (h : Holds sdf s m out) where
  abbrev k : Block
  k = s.block

  abbrev g : Field
  g = field_of sdf s.block

  abbrev b : Box
  b = box_of s.block

  abbrev z : ℕ
  z = cells_at s

  abbrev first : ℕ
  first = first_vertex (field_of sdf s.block) (box_of s.block) (cells_at s)

  abbrev vs : List GridPoint
  vs = layer_vertices (field_of sdf s.block) (box_of s.block) (cells_at s)

  abbrev is : List ℕ
  is = layer_indices (field_of sdf s.block) (box_of s.block) (flags_of s.block) (first_vertex (field_of sdf s.block) (box_of s.block) (cells_at s)) (cells_at s)

  abbrev two : ℕ → Float
  two = layer_dist (half_of s.block (before s) m.distances) layer (s.block.dims.x * s.block.dims.y) (cells_at s)

  roomy : Roomy s layer m o
  roomy = done-roomy s layer m o e

  here : (s.block.low.z ≤ cells_at s) × (cells_at s < s.block.high.z)
  here = let l = h.later in let r = roomy.ready.more in (omega arith, omega arith)

  up : s.block.low.z + s.taken ≡ cells_at s + 1
  up = let l = h.later in omega arith

  agree : (p : GridPoint) → T (in_box (slab (box_of s.block) (cells_at s)) p) → value (between s layer m.distances) p ≡ value (field_of sdf s.block) p
  agree p t =
      ap₂ (λ (lower upper : List Float). value (two_layers lower upper k z) p) h.low (el ∙ ap (layer_of sdf k) up) ∙ layers-agree sdf k (fits sdf k i) z p t

  pub vertices-are : new_vertices s layer m.distances ≡ vs
  vertices-are = vertices-later s layer m.distances h.later ∙ layer-alike (point k.dims) two g.dist b z agree

  count : length (new_vertices s layer m.distances) ≡ length vs
  count = ap length vertices-are

  first-is : new_first s layer m.distances ≡ first
  first-is = runs_on_lem s.next (length (new_vertices s layer m.distances)) (omega (arith, h.next, count, first-few sdf k i z here)) ∙ h.next

  pub indices-new : new_indices s layer m ≡ is
  indices-new =
      indices-later s layer m h.later
      ∙ ap (λ (n : ℕ). indices_over (between s layer m.distances) b (flags_of k) n z (kept_below s m.map m.positions)) first-is
      ∙ indices-are (point k.dims) two g.dist b (flags_of k) first z agree (kept_below s m.map m.positions) h.right

  lists-are : new_lists s layer m.distances (with_half s m.map o) ≡ marked g b z (record { place = 0; number = first }) (with_half s m.map o)
  lists-are =
      marked-alike (point k.dims) two g.dist b z agree (record { place = 0; number = new_first s layer m.distances }) (with_half s m.map o)
      ∙ ap (λ (n : ℕ). marked g b z (record { place = 0; number = n }) (with_half s m.map o)) first-is

  abbrev entries : List ℕ
  entries = placed (layer_entry (field_of sdf s.block) (box_of s.block) (cells_at s) first) 0 (half_of s.block (before s) m.map)

  abbrev kept : List Float
  kept = flat_vectors (map (vertex_position (field_of sdf s.block)) vs)

  -- ---- what the layer leaves

  abbrev next_state : State
  next_state = record { block = s.block; taken = s.taken + 1; next = first_vertex (field_of sdf s.block) (box_of s.block) (cells_at s + 1); first = first }

  abbrev next_map : List ℕ
  next_map = cleared s.block s.taken (put_half s.block (before s) entries m.map)

  abbrev next_memory : Memory
  next_memory = memory (put_half s.block s.taken layer m.distances) next_map (sets m.positions 0 kept)

  pub state-next : state_after s layer m o ≡ next_state
  state-next =
      done-state s layer m o e
      ∙ (λ j. record { block = s.block; taken = s.taken + 1; next = first-is j + count j; first = first-is j })
      ∙ ap (λ (n : ℕ). record { block = s.block; taken = s.taken + 1; next = n; first = first }) (sym (first_more g b (flags_of k) z here.0))

  positions-kept : flat_vectors (map (vertex_position (between s layer m.distances)) (new_vertices s layer m.distances)) ≡ kept
  positions-kept =
      ap (λ (l : List GridPoint). flat_vectors (map (vertex_position (between s layer m.distances)) l)) (vertices-later s layer m.distances h.later)
      ∙ ap flat_vectors (positions-alike (point k.dims) two g.dist b z agree)

  pub left-next : leaves s layer m o ≡ left next_memory (with_indices (marked g b z (record { place = 0; number = first }) (with_half s m.map o)) (sets o.indices 0 is))
  unfolding layer_kept marked_out marked
  left-next =
      done-left s layer m o e
      ∙ ap (λ (l : Left). left (layer_kept s layer l.memory) l.output) (brought-is s layer m o h.later)
      ∙ (λ j.
      left (memory (put_half k s.taken layer m.distances) (cleared k s.taken (put_half k (before s) (lists-are j).map m.map)) (sets m.positions 0 (positions-kept j)))
      (with_indices (lists-are j) (sets o.indices 0 (indices-new j))))

  pub mesh-next : (a : Answer) → a ≡ layer_answer s layer m (room_in m o) → first_of a.vertices a.indices (leaves s layer m o).output ≡ mesh_of g vs is
  mesh-next a ea =
      let ev : a.vertices ≡ length (new_vertices s layer m.distances) = ap (λ (t : Answer). t.vertices) ea ∙ done-vertices s layer m o e in
      let ei : a.indices ≡ length (new_indices s layer m) = ap (λ (t : Answer). t.indices) ea ∙ done-indices s layer m o e in
      let r = roomy in
      ap (λ (l : Left). first_of a.vertices a.indices l.output) left-next
      ∙ first-marked g b z first o (half_of k (before s) m.map) is a.vertices a.indices (ev ∙ count) (ei ∙ ap length indices-new)
      (omega (arith, r.positions)) (omega (arith, r.normals)) (omega (arith, r.cells)) (omega (arith, r.strides)) (omega (arith, r.crossings)) (omega (arith, r.indices))

  -- ---- and it holds again

  entries-long : length entries ≡ plane k
  entries-long = length-placed (layer_entry g b z first) 0 (half_of k (before s) m.map) ∙ half_length k (before s) m.map roomy.map

  abbrev marks : List ℕ
  marks = put_half s.block (before s) entries m.map

  marks-long : 2 * plane k ≤ length marks
  marks-long = omega (arith, roomy.map, length-sets m.map (half k (before s)) entries)

  -- the half of the layer of cells is its own, though that of the layer above was cleared
  half-kept : half_of k (s.taken + 1) next_map ≡ entries
  half-kept =
      let entry = last_entry (point k.dims) b in
      let old = half_of k s.taken marks in
      let on : s.taken + 1 ≡ before s + 2 = let l = h.later in omega arith in
      half-apart k s.taken marks marks-long (placed entry 0 old) (length-placed entry 0 old ∙ half_length k s.taken marks marks-long)
      ∙ ap (λ (t : ℕ). half_of k t marks) on
      ∙ ap (λ (a : ℕ). take (plane k) (drop a marks)) (half-again k (before s))
      ∙ half-here k (before s) m.map roomy.map entries entries-long

  abbrev below : Kept
  below = record { map = half_of k (s.taken + 1) next_map; positions = sets m.positions 0 kept; first = first }

  numbers : (c : GridPoint) → T (is_cell b c) → suc c.z ≡ z + 1 → T (surface_cell g c)
      → get_or (half_of k (s.taken + 1) next_map) (in_layer (point k.dims) c) 0 ≡ vertex_number g b first c
  numbers c t ez on =
      let d = point k.dims in
      let f = fits sdf k i in
      let w = cell-within b c t in
      let j = in_layer d c in
      let old = half_of k (before s) m.map in
      let inside : j < plane k = in-plane d c (omega arith) (omega arith) in
      ap (λ (l : List ℕ). get_or l j 0) half-kept
      ∙ get_d-placed (layer_entry g b z first) 0 old j 0 (omega (arith, half_length k (before s) m.map roomy.map))
      ∙ ap (λ (n : ℕ). layer_entry g b z first n (get_or old j 0)) (zero-add j)
      ∙ entry-number g b z first c (get_or old j 0) (omega arith) (omega arith) t on

  keeps : length kept ≤ length m.positions
  keeps = omega (arith, roomy.keeps, length-vectors (vertex_position g) vs, count, vertices-few roomy.ready)

  positions : (y : ℕ) → k.low.z ≤ y → suc y ≡ z + 1
      → take (3 * length (layer_vertices g b y)) (sets m.positions 0 kept) ≡ flat_vectors (map (vertex_position g) (layer_vertices g b y))
  positions y l ey =
      let same : y ≡ z = omega arith in
      subst (λ (n : ℕ). take (3 * length (layer_vertices g b n)) (sets m.positions 0 kept) ≡ flat_vectors (map (vertex_position g) (layer_vertices g b n))) (sym same)
      (sets-front m.positions kept keeps (3 * length vs) (length-vectors (vertex_position g) vs))

  right-next : Right g b (first_vertex g b (z + 1)) (z + 1) below
  right-next =
      record {
        numbers = numbers;
        positions = positions;
        before = λ y l ey. last-first y ey;
      }
    where
      last-first : (y : ℕ) → suc y ≡ z + 1 → first ≡ first_vertex g b (z + 1) - length (layer_vertices g b y)
      last-first y ey =
          let same : y ≡ z = omega arith in
          omega (arith, first_more g b (flags_of k) z here.0, ap (λ (n : ℕ). length (layer_vertices g b n)) same)

  pub holds-next : Holds sdf next_state next_memory (joined_with out (mesh_of g vs is))
  holds-next =
      let at : cells_at next_state ≡ z + 1 = let l = h.later in omega arith in
      let by : before next_state ≡ s.taken = omega arith in
      record {
        later = omega arith;
        next = ap (first_vertex g b) (sym at);
        low =
            ap (λ (t : ℕ). half_of k t (put_half k s.taken layer m.distances)) by
            ∙ half-here k s.taken m.distances roomy.ready.kept layer roomy.ready.offered.long
            ∙ el ∙ ap (layer_of sdf k) (up ∙ sym at);
        right = subst (λ (n : ℕ). Right g b (first_vertex g b n) n below) (sym at) right-next;
        mesh =
            ap (λ (a : Output). joined_with a (mesh_of g vs is)) h.mesh
            ∙ mesh-join g (vertices_to g b z) vs (indices_to g b (flags_of k) z) is
            ∙ ap₂ (mesh_of g) (sym (vertices-more g b (flags_of k) z here.0)) (sym (indices-more g b (flags_of k) z here.0))
            ∙ ap (mesh_to sdf k) (sym at);
        entries =
            subst (λ (n : ℕ). Shows sdf k n (half_of k (s.taken + 1) next_map)) (sym at)
            (subst (Shows sdf k (z + 1)) (sym half-kept) (entries-show k (fits sdf k i) (half_of k (before s) m.map) (half_length k (before s) m.map roomy.map) sdf z));
        good = subst (Good sdf k) (sym at) (good_more sdf k (fits sdf k i) z layer (el ∙ ap (layer_of sdf k) up) (done-accepted s layer m (room_in m o) e).points h.good);
        cleared = subst (λ (t : ℕ). Blank k (cells_at next_state) (half_of k t next_map)) (sym by) (half-cleared k (fits sdf k i) s.taken marks marks-long (cells_at next_state));
      }

-- ---- the first layer

module _ (sdf : List Float) (k : Block) (layer : List Float) (m : Memory) (o : Output) (e : (layer_answer (begun k) layer m (room_in m o)).number ≡ 0)
    (el : layer ≡ layer_of sdf k (k.low.z + 0)) where
  abbrev bed : State
  bed = begun k

  one : State
  one = record { block = k; taken = 1; next = 0; first = 0 }

  ready : Roomy (begun k) layer m o
  ready = done-roomy bed layer m o e

  none-new : new_vertices (begun k) layer m.distances ≡ []
  none-new = vertices-first bed layer m.distances refl

  none-faces : new_indices (begun k) layer m ≡ []
  none-faces = indices-first bed layer m refl

  first-zero : new_first (begun k) layer m.distances ≡ 0
  first-zero = runs_on_lem 0 (length (new_vertices bed layer m.distances)) (omega (arith, ap length none-new))

  pub state-first : state_after (begun k) layer m o ≡ record { block = k; taken = 1; next = 0; first = 0 }
  state-first = done-state bed layer m o e ∙ (λ j. record { block = k; taken = 1; next = first-zero j + length (none-new j); first = first-zero j })

  abbrev first_memory : Memory
  first_memory = memory (put_half k 0 layer m.distances) (cleared k 0 m.map) m.positions

  pub left-first : leaves (begun k) layer m o ≡ left first_memory o
  unfolding layer_kept
  left-first = done-left bed layer m o e
      ∙ ap (λ (l : Left). left (layer_kept bed layer l.memory) l.output) (sym (brought-first bed layer m.distances m.map m.positions o refl))

  pub mesh-first : (a : Answer) → a ≡ layer_answer (begun k) layer m (room_in m o) → first_of a.vertices a.indices (leaves (begun k) layer m o).output ≡ nothing
  mesh-first a ea =
      let ev : a.vertices ≡ 0 = ap (λ (t : Answer). t.vertices) ea ∙ done-vertices bed layer m o e ∙ ap length none-new in
      let ei : a.indices ≡ 0 = ap (λ (t : Answer). t.indices) ea ∙ done-indices bed layer m o e ∙ ap length none-faces in
      ap₂ (λ (v n : ℕ). first_of v n (leaves bed layer m o).output) ev ei

  pub holds-first : Holds sdf (record { block = k; taken = 1; next = 0; first = 0 }) first_memory nothing
  unfolding first_vertex joined
  holds-first =
      let f = box-fits (point k.dims) (box_of k) ready.ready.offered.box in
      let g = field_of sdf k in
      let b = box_of k in
      let at : k.low.z + (1 - 1) ≡ k.low.z = omega arith in
      let none : up_to k.low.z (k.low.z + (1 - 1)) ≡ [] = up_to-none k.low.z (k.low.z + (1 - 1)) (omega arith) in
      record {
        later = omega arith;
        next = sym (ap (λ (l : List ℕ). length (joined (layer_vertices g b) l)) none);
        low = half-here k 0 m.distances ready.ready.kept layer ready.ready.offered.long ∙ el ∙ ap (layer_of sdf k) (omega arith);
        right =
            record {
              numbers = λ c t ez on. absurd (let w = cell-within b c t in omega arith);
              positions = λ y l ey. absurd (omega arith);
              before = λ y l ey. absurd (omega arith);
            };
        entries = record { shows = λ p t ez old. absurd (let w = within b p t in omega arith) };
        good =
            record {
              good =
                  λ p t l.
                  let w = within b p t in
                  layer-good sdf k f (k.low.z + 0) layer el (done-accepted bed layer m (room_in m o) e).points p t (omega arith);
            };
        cleared = half-cleared k f 0 m.map ready.map (k.low.z + (1 - 1));
        mesh = sym (ap (λ (l : List ℕ). mesh_of g (joined (layer_vertices g b) l) (joined (λ (y : ℕ). layer_indices g b (flags_of k) (first_vertex g b y) y) l)) none);
      }
