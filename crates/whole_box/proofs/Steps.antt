-- Layer after layer: the lists grow by the layer's vertices, entries and indices, begin as they were lent and end as document 01 says; and on the
-- way there is room, and what the faces of a layer look up stands. Assumes nothing.
use Prim.Native.Nat.{ℕ, ◌+◌, ◌-◌, ◌*◌, ◌≤◌, ◌<◌}
use native.Mathlib.Nat.{le_refl}
use native.Mathlib.Numerals.{add-one}
use native.Mathlib.Omega.{arith}
use mathlib.Core.List.{List, [], ◌++◌, map, map-append, append_assoc}
use mathlib.Core.Path.{◌≡◌, refl, sym, ap, ap₂, ◌∙◌}
use lib.Ieee.{Float}
use lib.ListN.{length, take, drop, length-append, length-map}
use lib.Seq.{sets, drop_at, take_at}
use Rattle.lists.specs.Lists.{up_to, joined, placed, over}
use Rattle.rules.specs.Grid.{GridPoint, Box, Field, index}
use Rattle.rules.specs.Cell.{Vector}
use Rattle.rules.specs.Vertices.{layer_vertices, vertices, first_vertex, vertex_position, vertex_normal, vertex_crossings}
use Rattle.rules.specs.Faces.{Flags, layer_indices, indices}
use Rattle.rules.specs.Call.{Call, Buffers, flat_vectors, flat_points, written}
use Rattle.lists.proofs.Lists.{joined-append, length-placed}
use Rattle.lists.proofs.Runs.{up_to-none, up_to-split, joined-last}
use Rattle.rules.proofs.Numbers.{first_vertex-next}
use Rattle.rules.proofs.Seen.{length-points, length-vectors}
use Rattle.stores.proofs.Runs.{length_over, sets_over}
use Rattle.layer_vertices.specs.Marked.{with_map}
use Rattle.layer_vertices.proofs.Passing.{vectors-append, points-append}
use Rattle.whole_box.specs.declared.Made.{Made}
use Rattle.whole_box.specs.LentLists.{lists_of, with_indices, Roomy}
use Rattle.whole_box.specs.Layers.{last_at, vertices_to, indices_to, entry_to, layer_marked, laid, written_to, made_to, Written, layer_written, layer_made}
use Rattle.whole_box.proofs.Map.{map_more, map-none, map_last}

-- ---- lists up to a layer

module _ (g : Field) (b : Box) (m : Flags) (z : ℕ) where
  pub vertices-more : b.low.z ≤ z → vertices_to g b (z + 1) ≡ vertices_to g b z ++ layer_vertices g b z
  vertices-more h = rw add-one (joined-last (layer_vertices g b) b.low.z z h)

  pub indices-more : b.low.z ≤ z → indices_to g b m (z + 1) ≡ indices_to g b m z ++ layer_indices g b m (first_vertex g b z) z
  indices-more h = rw add-one (joined-last (λ (y : ℕ). layer_indices g b m (first_vertex g b y) y) b.low.z z h)

  pub vertices-within : b.low.z ≤ z → z ≤ b.high.z → length (vertices_to g b z) ≤ length (vertices g b)
  unfolding vertices
  vertices-within l h =
      omega (
        arith,
        ap length (ap (joined (layer_vertices g b)) (up_to-split b.low.z z b.high.z l h) ∙ joined-append (layer_vertices g b) (up_to b.low.z z)
            (up_to z b.high.z)),
        length-append (vertices_to g b z) (joined (layer_vertices g b) (up_to z b.high.z)),
      )

  pub indices-within : b.low.z ≤ z → z ≤ b.high.z → length (indices_to g b m z) ≤ length (indices g b m)
  unfolding indices
  indices-within l h =
      let f : ℕ → List ℕ = λ y. layer_indices g b m (first_vertex g b y) y in
      omega (
        arith,
        ap length (ap (joined f) (up_to-split b.low.z z b.high.z l h) ∙ joined-append f (up_to b.low.z z) (up_to z b.high.z)),
        length-append
            (indices_to g b m z) (joined f (up_to z b.high.z)),
      )

  pub first-is : first_vertex g b z ≡ length (vertices_to g b z)
  unfolding first_vertex
  first-is = refl

  pub first_more : b.low.z ≤ z → first_vertex g b (z + 1) ≡ first_vertex g b z + length (layer_vertices g b z)
  first_more h = rw add-one (first_vertex-next g b z h)

-- the second of two lists, in front of others
pub part_of : {A : Type 0} (s t r : List A) (i n : ℕ) → length s ≡ i → length t ≡ n → take n (drop i ((s ++ t) ++ r)) ≡ t
part_of s t r i n e f = ap (λ (l : List _). take n (drop i l)) (append_assoc s t r) ∙ ap (take n) (drop_at s (t ++ r) i e) ∙ take_at t r n f

-- ---- one layer more

module _ (c : Call) (z : ℕ) (l : c.box.low.z ≤ z) (h : z < c.box.high.z) (xs : 0 < c.grid.dims.x) (ys : 0 < c.grid.dims.y)
    (up : 0 < c.grid.dims.x * c.grid.dims.y) where
  abbrev g : Field
  g = c.grid

  abbrev b : Box
  b = c.box

  abbrev m : Flags
  m = c.flags

  abbrev before : List GridPoint
  before = vertices_to c.grid c.box z

  abbrev L : List GridPoint
  L = layer_vertices c.grid c.box z

  grows : length before + length L ≤ length (vertices c.grid c.box)
  grows = omega (arith, vertices-within g b m (z + 1) (omega arith) (omega arith), ap length (vertices-more g b m z l), length-append before L)

  step : (t : Buffers) → Roomy c.grid c.box c.flags c.size t → layer_written c z (made_to c z) (written_to c z t) ≡ written_to c (z + 1) t
  unfolding layer_written layer_marked written_to
  step t r =
      (λ i.
      record {
        positions = vectors (vertex_position g) t.positions r.positions i;
        normals = vectors (vertex_normal g) t.normals r.normals i;
        cells = cells' i;
        strides = ones (index g.dims) t.strides r.strides i;
        crossings = ones (vertex_crossings g) t.crossings r.crossings i;
        map = map_more g b xs ys up z t.map i;
        indices = indices' i;
      })
      ∙ ap (λ (vs : List GridPoint). laid g vs (placed (entry_to g b (z + 1)) 0 t.map) (indices_to g b m (z + 1)) t) (sym (vertices-more g b m z l))
    where
      vectors : (f : GridPoint → Vector) (old : List Float) → 3 * length (vertices g b) ≤ length old
          → sets (over (flat_vectors (map f before)) old) (3 * first_vertex g b z) (flat_vectors (map f L)) ≡ over (flat_vectors (map f (before ++ L))) old
      vectors f old room =
          sets_over (flat_vectors (map f before)) old (flat_vectors (map f L)) (3 * first_vertex g b z) (omega (arith, first-is g b m z, length-vectors f before))
          (omega (arith, grows, length-vectors f before, length-vectors f L))
          ∙ ap (λ (s : List Float). over s old) (vectors-append f before L)

      cells' : sets (over (flat_points before) t.cells) (3 * first_vertex g b z) (flat_points L) ≡ over (flat_points (before ++ L)) t.cells
      cells' =
          sets_over (flat_points before) t.cells (flat_points L) (3 * first_vertex g b z) (omega (arith, first-is g b m z, length-points before))
          (omega (arith, grows, r.cells, length-points before, length-points L))
          ∙ ap (λ (s : List ℕ). over s t.cells) (points-append before L)

      ones : (f : GridPoint → ℕ) (old : List ℕ) → length (vertices g b) ≤ length old → sets (over (map f before) old) (first_vertex g b z) (map f L) ≡ over (map f (before ++ L)) old
      ones f old room =
          sets_over (map f before) old (map f L) (first_vertex g b z) (first-is g b m z ∙ sym (length-map before f)) (omega (arith, grows, length-map before f, length-map L f))
          ∙ ap (λ (s : List ℕ). over s old) (sym (map-append f before L))

      more : List ℕ
      more = layer_indices g b m (first_vertex g b z) z

      indices' : sets (over (indices_to g b m z) t.indices) (length (indices_to g b m z)) more ≡ over (indices_to g b m (z + 1)) t.indices
      indices' =
          sets_over (indices_to g b m z) t.indices more (length (indices_to g b m z)) refl
          (omega (arith, r.indices, indices-within g b m (z + 1) (omega arith) (omega arith), ap length (indices-more g b m z l), length-append (indices_to g b m z) more))
          ∙ ap (λ (s : List ℕ). over s t.indices) (sym (indices-more g b m z l))

  made_more : layer_made c z (made_to c z) ≡ made_to c (z + 1)
  made_more =
      let back : z ≡ z + 1 - 1 = omega arith in
      λ i.
      record {
        vertices = sym (first_more g b m z l) i;
        indices = sym (ap length (indices-more g b m z l) ∙ length-append (indices_to g b m z) (layer_indices g b m (first_vertex g b z) z)) i;
        below = first_vertex g b (back i);
      }

  module _ {t s : Buffers} {made : Made} (w : Written c z t made s) where
    pub written-more : Written c (z + 1) t (layer_made c z made) (layer_written c z made s)
    written-more =
        record {
          roomy = w.roomy;
          same = ap₂ (layer_written c z) w.on w.same ∙ step t w.roomy;
          on = ap (layer_made c z) w.on ∙ made_more;
        }

-- ---- no layer yet, and all of them, the last one too

-- the lists with another map
abbrev pub with-map : Buffers → List ℕ → Buffers
with-map s mp = with_indices s.indices (with_map mp (lists_of s))

pub written_none : (c : Call) (t : Buffers) → Roomy c.grid c.box c.flags c.size t → Written c c.box.low.z t (record { vertices = 0; indices = 0; below = 0 }) t
unfolding written_to joined first_vertex
written_none c t r =
    let z = c.box.low.z in
    let none : up_to z z ≡ [] = up_to-none z z (le_refl z) in
    let under : up_to z (z - 1) ≡ [] = up_to-none z (z - 1) (omega arith) in
    record {
      roomy = r;
      same =
          ap (with-map t) (sym (map-none c.grid c.box t.map))
          ∙ ap (λ (ys : List ℕ).
          laid c.grid (joined (layer_vertices c.grid c.box) ys) (placed (entry_to c.grid c.box z) 0 t.map)
          (joined (λ (y : ℕ). layer_indices c.grid c.box c.flags (first_vertex c.grid c.box y) y) ys) t) (sym none);
      on =
          ap₂ (λ (ys us : List ℕ).
          record {
            vertices = length (joined (layer_vertices c.grid c.box) ys);
            indices = length (joined (λ (y : ℕ). layer_indices c.grid c.box c.flags (first_vertex c.grid c.box y) y) ys);
            below = length (joined (layer_vertices c.grid c.box) us);
          }) (sym none) (sym under);
    }

pub written_all : (c : Call) → 0 < c.grid.dims.x → 0 < c.grid.dims.y → 0 < c.grid.dims.x * c.grid.dims.y → (t : Buffers) {s : Buffers} {mp : List ℕ}
    → s ≡ written_to c c.box.high.z t → mp ≡ placed (last_at c.grid.dims c.box) 0 s.map → with-map s mp ≡ written c t
unfolding written_to written vertices indices
written_all c xs ys up t {s} e f =
    ap (with-map s) f
    ∙ ap (λ (u : Buffers). with-map u (placed (last_at c.grid.dims c.box) 0 u.map)) e
    ∙ ap (with-map (written_to c c.box.high.z t)) (map_last c.grid c.box xs ys up t.map)

-- ---- lengths

pub record SameLengths (s t : Buffers) : Type 0 where
  pub positions : length s.positions ≡ length t.positions
  pub normals : length s.normals ≡ length t.normals
  pub cells : length s.cells ≡ length t.cells
  pub strides : length s.strides ≡ length t.strides
  pub crossings : length s.crossings ≡ length t.crossings
  pub map : length s.map ≡ length t.map
  pub indices : length s.indices ≡ length t.indices

pub written-lengths : (c : Call) (z : ℕ) → c.box.low.z ≤ z → z ≤ c.box.high.z → {t s : Buffers} {made : Made} → Written c z t made s → SameLengths s t
unfolding written_to
written-lengths c z l h {t} w =
    let v = vertices-within c.grid c.box c.flags z l h in
    let i = indices-within c.grid c.box c.flags z l h in
    let vs = vertices_to c.grid c.box z in
    let r = w.roomy in
    let e = w.same in
    record {
      positions = ap (λ (b : Buffers). length b.positions) e ∙ length_over (flat_vectors (map (vertex_position c.grid) vs)) t.positions
          (omega (arith, r.positions, length-vectors (vertex_position c.grid) vs));
      normals = ap (λ (b : Buffers). length b.normals) e ∙ length_over (flat_vectors (map (vertex_normal c.grid) vs)) t.normals
          (omega (arith, r.normals, length-vectors (vertex_normal c.grid) vs));
      cells = ap (λ (b : Buffers). length b.cells) e ∙ length_over (flat_points vs) t.cells (omega (arith, r.cells, length-points vs));
      strides = ap (λ (b : Buffers). length b.strides) e ∙ length_over (map (index c.grid.dims) vs) t.strides
          (omega (arith, r.strides, length-map vs (index c.grid.dims)));
      crossings =
          ap (λ (b : Buffers). length b.crossings) e
          ∙ length_over (map (vertex_crossings c.grid) vs) t.crossings (omega (arith, r.crossings, length-map vs (vertex_crossings c.grid)));
      map = ap (λ (b : Buffers). length b.map) e ∙ length-placed (entry_to c.grid c.box z) 0 t.map;
      indices = ap (λ (b : Buffers). length b.indices) e ∙ length_over (indices_to c.grid c.box c.flags z) t.indices (omega (arith, r.indices));
    }
