-- A layer that is about to be taken: the cells below it lie between two layers of distances, they are few, and their count is that of what is brought
-- out. Assumes nothing.
use Prim.Native.Nat.{ℕ, ◌+◌, ◌-◌, ◌*◌, ◌%◌, ◌≤◌, ◌<◌}
use native.Mathlib.Nat.{mul-le-mul, le_trans, le_of_eq}
use native.Mathlib.Omega.{arith}
use mathlib.Core.Bool.{cond}
use mathlib.Core.List.{List, []}
use mathlib.Core.Logic.{◌⊎◌, inl, inr}
use mathlib.Core.Path.{◌≡◌, sym, ap, ap₂, ◌∙◌}
use borrow.Author.Tests.{eq-eqb, ne_eqb, lt-ltb, le-ltb}
use lib.Dec.{eqb}
use lib.ListN.{length, take, drop}
use lib.Ieee.{Float}
use Rattle.lists.specs.Lists.{keep}
use Rattle.rules.specs.Grid.{GridPoint, Box, Field}
use Rattle.rules.specs.Vertices.{layer_cells, surface_cell, layer_vertices, null_vertex}
use Rattle.rules.specs.Faces.{Flags, layer_edges}
use Rattle.lists.proofs.Tests.{less-or-not}
use Rattle.lists.proofs.Lists.{length-keep, many-most, joined_length}
use Rattle.rules.proofs.Indexes.{BoxFits, box-fits}
use Rattle.grid.specs.declared.Block.{Block}
use Rattle.grid.specs.Block.{point, box_of, flags_of}
use Rattle.grid.specs.Layers.{in_layer, InLayers}
use Rattle.grid.proofs.Order.{layer-length, layer-ends}
use Rattle.grid.proofs.Layers.{in-plane}
use Rattle.count.specs.declared.Tally.{Tally}
use Rattle.count.specs.Tally.{tally_of}
use Rattle.count.proofs.Tallies.{none-counted}
use Rattle.layer_faces.specs.Below.{Kept, indices_over, face_over}
use Rattle.layer_faces.proofs.Vertices.{length-face}
use Rattle.layers.specs.declared.State.{State}
use Rattle.layers.specs.Memory.{Memory, plane, half, half_of}
use Rattle.layer_vertices.specs.Marked.{lists, Room}
use Rattle.layers.specs.Offer.{Output, before, cells_at, between, new_vertices, new_first, runs_on, kept_below, new_indices}
use Rattle.layers.specs.Ready.{Ready, Roomy, new_cells}
use Rattle.layers.proofs.Halves.{half-ends, half_length}
use Rattle.layers.proofs.Judging.{plane-few}

-- ---- the numbers of new vertices

pub runs-short : (next count : ℕ) → count ≤ null_vertex → runs_on next count + count ≤ null_vertex
unfolding runs_on
runs-short next count h = go (less-or-not null_vertex (next + count))
  where
    go : (null_vertex < next + count) ⊎ (next + count ≤ null_vertex) → runs_on next count + count ≤ null_vertex
    go (inl l) = rw (lt-ltb null_vertex (next + count) l) (omega arith)
    go (inr l) = rw (le-ltb null_vertex (next + count) l) l

pub runs_on_lem : (next count : ℕ) → next + count ≤ null_vertex → runs_on next count ≡ next
unfolding runs_on
runs_on_lem next count h = rw (le-ltb null_vertex (next + count) h)

-- ---- how many indices there are

pub indices-count : (g : Field) (b : Box) (m : Flags) (first z : ℕ) (below : Kept) → length (indices_over g b m first z below) ≡ 6 * length (layer_edges g b m z)
unfolding indices_over
indices-count g b m first z below = joined_length (face_over g b first z below) 6 (length-face g b first z below) (layer_edges g b m z)

-- ---- the first layer, and any other

pick_first : {A : Type 0} (n : ℕ) (a b : A) → n ≡ 0 → cond (eqb n 0) a b ≡ a
pick_first n a b e = rw (eq-eqb n 0 e)

pick-later : {A : Type 0} (n : ℕ) (a b : A) → 0 < n → cond (eqb n 0) a b ≡ b
pick-later n a b h = let no : n ≡ 0 → ⊥ = λ e. omega arith in rw (ne_eqb n 0 no)

module _ (s : State) (layer : List Float) where
  pub vertices-first : (distances : List Float) → s.taken ≡ 0 → new_vertices s layer distances ≡ []
  unfolding new_vertices
  vertices-first distances e = pick_first s.taken [] (layer_vertices (between s layer distances) (box_of s.block) (cells_at s)) e

  pub vertices-later : (distances : List Float) → 0 < s.taken → new_vertices s layer distances ≡ layer_vertices (between s layer distances) (box_of s.block) (cells_at s)
  unfolding new_vertices
  vertices-later distances h = pick-later s.taken [] (layer_vertices (between s layer distances) (box_of s.block) (cells_at s)) h

  pub indices-first : (m : Memory) → s.taken ≡ 0 → new_indices s layer m ≡ []
  unfolding new_indices
  indices-first m e =
      pick_first s.taken [] (indices_over (between s layer m.distances) (box_of s.block) (flags_of s.block) (new_first s layer m.distances) (cells_at s)
      (kept_below s m.map m.positions)) e

  pub indices-later : (m : Memory) → 0 < s.taken → new_indices s layer m
      ≡ indices_over (between s layer m.distances) (box_of s.block) (flags_of s.block) (new_first s layer m.distances) (cells_at s) (kept_below s m.map m.positions)
  unfolding new_indices
  indices-later m h =
      pick-later s.taken [] (indices_over (between s layer m.distances) (box_of s.block) (flags_of s.block) (new_first s layer m.distances) (cells_at s)
      (kept_below s m.map m.positions)) h

pub cells-first : (s : State) → s.taken ≡ 0 → new_cells s ≡ []
unfolding new_cells
cells-first s e = pick_first s.taken [] (layer_cells (box_of s.block) (cells_at s)) e

pub cells-later : (s : State) → 0 < s.taken → new_cells s ≡ layer_cells (box_of s.block) (cells_at s)
unfolding new_cells
cells-later s h = pick-later s.taken [] (layer_cells (box_of s.block) (cells_at s)) h

-- ---- V and I are the counts of what is brought out

layer-tally : (g : Field) (b : Box) (m : Flags) (first z : ℕ) (below : Kept)
    → tally_of g b m (layer_cells b z) ≡ record { vertices = length (layer_vertices g b z); indices = length (indices_over g b m first z below) }
unfolding tally_of layer_vertices layer_edges
layer-tally g b m first z below = λ i. record { vertices = length (keep (surface_cell g) (layer_cells b z)); indices = sym (indices-count g b m first z below) i }

pub new-tally : (s : State) (layer : List Float) (m : Memory) → tally_of (between s layer m.distances) (box_of s.block) (flags_of s.block) (new_cells s)
    ≡ record { vertices = length (new_vertices s layer m.distances); indices = length (new_indices s layer m) }
new-tally s layer m = go (less-or-not 0 s.taken)
  where
    g : Field
    g = between s layer m.distances

    tally : List GridPoint → Tally
    tally = tally_of g (box_of s.block) (flags_of s.block)

    go : (0 < s.taken) ⊎ (s.taken ≤ 0) → tally (new_cells s) ≡ record { vertices = length (new_vertices s layer m.distances); indices = length (new_indices s layer m) }
    go (inl h) =
        let v = vertices-later s layer m.distances h in
        let i = indices-later s layer m h in
        ap tally (cells-later s h) ∙ layer-tally g (box_of s.block) (flags_of s.block) (new_first s layer m.distances) (cells_at s) (kept_below s m.map m.positions)
        ∙ (λ j. record { vertices = length (sym v j); indices = length (sym i j) })
    go (inr h) =
        let e : s.taken ≡ 0 = omega arith in
        let v = vertices-first s layer m.distances e in
        let i = indices-first s layer m e in
        ap tally (cells-first s e) ∙ none-counted g (box_of s.block) (flags_of s.block)
        ∙ (λ j. record { vertices = length (sym v j); indices = length (sym i j) })

-- ---- a layer that is ready

module _ {s : State} {layer distances : List Float} (r : Ready s layer distances) where
  fits : BoxFits (point s.block.dims) (box_of s.block)
  fits = box-fits (point s.block.dims) (box_of s.block) r.offered.box

  pub plane-small : plane s.block ≤ 1073741824
  plane-small = plane-few s.block r.offered.dims r.offered.box

  pub corner-low : in_layer (point s.block.dims) (point s.block.high) < plane s.block
  corner-low = let f = fits in in-plane (point s.block.dims) (point s.block.high) (omega arith) (omega arith)

  pub in-layers : 0 < s.taken → InLayers (half_of s.block (before s) distances) layer s.block (cells_at s)
  in-layers h =
      let f = fits in
      let c = corner-low in
      let m = r.more in
      record {
        dims = r.offered.dims;
        box = r.offered.box;
        here = (omega arith, omega arith);
        lower_holds = omega (arith, half_length s.block (before s) distances r.kept);
        upper_holds = omega (arith, r.offered.long);
      }

  layer-few : length (layer_cells (box_of s.block) (cells_at s)) ≤ plane s.block
  layer-few =
      let f = fits in
      let k = s.block in
      let a : k.high.x - k.low.x ≤ k.dims.x = omega arith in
      let b : k.high.y - k.low.y ≤ k.dims.y = omega arith in
      le_trans (le_of_eq (ap length (sym (layer-ends (box_of k) (cells_at s))) ∙ layer-length (box_of k) (cells_at s) k.high.y)) (mul-le-mul a b)

  kept-few : (g : Field) → length (layer_vertices g (box_of s.block) (cells_at s)) ≤ plane s.block
  unfolding layer_vertices
  kept-few g =
      let cs = layer_cells (box_of s.block) (cells_at s) in
      le_trans (le_of_eq (length-keep (surface_cell g) cs)) (le_trans (many-most (surface_cell g) cs) layer-few)

  pub vertices-few : length (new_vertices s layer distances) ≤ plane s.block
  vertices-few = go (less-or-not 0 s.taken)
    where
      go : (0 < s.taken) ⊎ (s.taken ≤ 0) → length (new_vertices s layer distances) ≤ plane s.block
      go (inl h) = omega (arith, ap length (vertices-later s layer distances h), kept-few (between s layer distances))
      go (inr h) = omega (arith, ap length (vertices-first s layer distances (omega arith)))

-- ---- how the code reads a half

pub half_is : (k : Block) (t : ℕ) {n at : ℕ} → n ≡ plane k → at ≡ n * (t % 2) → at ≡ half k t
half_is k t en ea = ea ∙ ap (λ (m : ℕ). m * (t % 2)) en

-- such a half, as a part that is lent of the list, and as the rules have it
pub kept-part : {A : Type 0} (n t : ℕ) (l : List A) {at : ℕ} → at ≡ n * (t % 2) → take (at + n - at) (drop at l) ≡ take n (drop (n * (t % 2)) l)
kept-part n t l {at} ea = let size : at + n - at ≡ n = omega arith in ap₂ (λ (m a : ℕ). take m (drop a l)) size ea

pub kept_read : {A : Type 0} (k : Block) (t : ℕ) (l : List A) {n : ℕ} {part : List A} → n ≡ plane k → part ≡ take n (drop (n * (t % 2)) l) → part ≡ half_of k t l
kept_read k t l en e = e ∙ ap (λ (m : ℕ). take m (drop (m * (t % 2)) l)) en

pub half-read : {A : Type 0} (k : Block) (t : ℕ) (l : List A) {n at : ℕ} → n ≡ plane k → at ≡ n * (t % 2) → take (at + n - at) (drop at l) ≡ half_of k t l
half-read k t l {n} en ea = kept_read k t l en (kept-part n t l ea)

pub half-end : (k : Block) (t : ℕ) {n at : ℕ} → n ≡ plane k → at ≡ n * (t % 2) → at + n ≤ 2 * plane k
half-end k t en ea = let e = half_is k t en ea in omega (arith, half-ends k t)

-- two layers as long as the one offered are there, where two of the state's are
pub two-layers : {s : State} {layer distances : List Float} → Ready s layer distances → {size : ℕ} → 2 * plane s.block ≤ size
    → (2 * length layer ≤ size) × (length layer ≤ 1073741824)
two-layers r h = let p = plane-small r in (omega (arith, r.offered.long), omega (arith, r.offered.long))

-- room for what is brought out, as the vertices ask for it
pub new-room : {s : State} {layer : List Float} {m : Memory} {o : Output} → Roomy s layer m o → {number : ℕ} → number ≡ new_first s layer m.distances
    → Room (record { place = 0; number = number }) (length (new_vertices s layer m.distances)) (lists o.positions o.normals o.cells o.strides o.crossings m.map)
new-room {s} {layer} {m} r e =
    let few = vertices-few r.ready in
    let small = plane-small r.ready in
    record {
      positions = omega (arith, r.positions);
      normals = omega (arith, r.normals);
      cells = omega (arith, r.cells);
      strides = omega (arith, r.strides);
      crossings = omega (arith, r.crossings);
      numbers = omega (arith, runs-short s.next (length (new_vertices s layer m.distances)) (omega arith));
    }

pub edges_room : {s : State} {layer : List Float} {m : Memory} {o : Output} → Roomy s layer m o → 0 < s.taken
    → 6 * length (layer_edges (between s layer m.distances) (box_of s.block) (flags_of s.block) (cells_at s)) ≤ length o.indices
edges_room {s} {layer} {m} r h =
    omega (
      arith,
      r.indices,
      ap length (indices-later s layer m h),
      indices-count (between s layer m.distances) (box_of s.block) (flags_of s.block) (new_first s layer m.distances) (cells_at s) (kept_below s m.map m.positions),
    )
