-- The cells of a layer's vertices, read from the list that holds them: each can be read between the two layers, the corner values that are read are its
-- own, and all of them one after the other are the list's points. With a batch worked out as the cells' vertices. Assumes nothing.
use Prim.Native.Nat.{ℕ, ◌+◌, ◌-◌, ◌/◌, ◌≤◌, ◌<◌}
use native.Mathlib.Omega.{arith}
use mathlib.Core.List.{List, map, map-id, map-map}
use mathlib.Core.Path.{◌≡◌, refl, sym, ap, subst, ◌∙◌}
use lib.Dec.{T}
use lib.ListN.{length, get_or}
use lib.Ieee.{Float}
use Rattle.lists.specs.Lists.{run, up_to}
use Rattle.lists.proofs.Lists.{All, all-at, all-each, all_then, map_same}
use Rattle.lists.proofs.Runs.{up_to-each}
use Rattle.rules.specs.Grid.{GridPoint, Field, is_cell}
use Rattle.rules.specs.Cell.{values, position}
use Rattle.rules.specs.Vertices.{layer_vertices, vertex_position, vertex_normal, vertex_crossings}
use Rattle.rules.specs.Call.{flat_points, flat_vectors}
use Rattle.rules.specs.Cutting.{Vertex, vertex_of, point_in, vector_in, vertices_seen}
use Rattle.rules.proofs.Indexes.{cell-within, is-cell}
use Rattle.rules.proofs.Seen.{length-points, three-at, vertices-seen}
use Rattle.grid.specs.declared.Block.{Block}
use Rattle.grid.specs.Block.{point, box_of}
use Rattle.grid.specs.Layers.{two_layers, InLayers}
use Rattle.grid.proofs.Layers.{corners-between}
use Rattle.grid.proofs.LayerWalks.{at-cell}
use Rattle.grid.proofs.Slab.{slab, vertices-in}
use Rattle.layer_estimates.specs.Estimates.{Reads, corners_of, vertex_by, estimated, Batch, Gathered, Solved, vertex_at}

-- ---- a batch

-- the cells from one on, counted from there
shifted : (from n : ℕ) → up_to from (from + n) ≡ map (λ (j : ℕ). from + j) (up_to 0 n)
unfolding up_to
shifted from n =
    ap (λ (m : ℕ). map (λ (j : ℕ). from + j) (run m)) (omega arith)
    ∙ map_same (all-each (λ j. ap (λ (i : ℕ). from + i) (omega arith)) (run (n - 0)))
    ∙ sym (map-map (λ (j : ℕ). from + j) (λ (j : ℕ). 0 + j) (run (n - 0)))

module _ {lower upper : List Float} {row : ℕ} {cells : List ℕ} {from n : ℕ} {corners centroids gradients : List Float} {counts : List ℕ} where
  pub vertices-at : n ≤ 32 → Gathered lower upper row cells from corners n → Solved corners centroids gradients counts 32
      → map (vertex_at cells from centroids gradients counts) (up_to 0 n) ≡ map (estimated lower upper row cells) (up_to from (from + n))
  vertices-at few g s =
      map_same (up_to-each 0 n (λ j low high. one j high))
      ∙ sym (map-map (estimated lower upper row cells) (λ (j : ℕ). from + j) (up_to 0 n))
      ∙ ap (map (estimated lower upper row cells)) (sym (shifted from n))
    where
      one : (j : ℕ) → j < n → vertex_at cells from centroids gradients counts j ≡ estimated lower upper row cells (from + j)
      one j h =
          let t = s.each j (omega arith) in
          (λ i.
          record {
            cell = point_in cells (from + j);
            position = position (point_in cells (from + j)) (t.average i);
            normal = t.gradient i;
            crossings = t.count i;
          })
          ∙ ap (λ (d : List Float). vertex_by d (point_in cells (from + j))) (g.each j h)

-- ---- the points of a list of cells

origin : GridPoint
origin = record { x = 0; y = 0; z = 0 }

point_at : (vs : List GridPoint) (m : ℕ) → m < length vs → point_in (flat_points vs) m ≡ get_or vs m origin
point_at vs m h =
    let t = three-at (λ (q : GridPoint). q.x) (λ (q : GridPoint). q.y) (λ (q : GridPoint). q.z) vs m 0 origin h in
    λ i. record { x = t.first i; y = t.second i; z = t.third i }

points-shown : (n : ℕ) (ns : List ℕ) (xs ys : List Float) (ms : List ℕ) → map (point_in ns) (up_to 0 n) ≡ map (λ (v : Vertex). v.cell) (vertices_seen n ns xs ys ms)
unfolding vertices_seen
points-shown n ns xs ys ms =
    sym (map-map (λ (v : Vertex). v.cell)
    (λ (v : ℕ). record { cell = point_in ns v; position = vector_in xs v; normal = vector_in ys v; crossings = get_or ms v 0 }) (up_to 0 n))

points-are : (g : Field) (vs : List GridPoint) → map (point_in (flat_points vs)) (up_to 0 (length vs)) ≡ vs
points-are g vs =
    points-shown (length vs) (flat_points vs) (flat_vectors (map (vertex_position g) vs)) (flat_vectors (map (vertex_normal g) vs)) (map (vertex_crossings g) vs)
    ∙ ap (map (λ (v : Vertex). v.cell)) (vertices-seen g vs) ∙ map-map (λ (v : Vertex). v.cell) (vertex_of g) vs ∙ map-id vs

-- ---- the vertices of a layer

module _ {lower upper : List Float} {k : Block} {z : ℕ} (i : InLayers lower upper k z) where
  abbrev g : Field
  g = two_layers lower upper k z

  abbrev vs : List GridPoint
  vs = layer_vertices (two_layers lower upper k z) (box_of k) z

  in-slab : All (λ c. T (is_cell (slab (box_of k) z) c)) (layer_vertices (two_layers lower upper k z) (box_of k) z)
  in-slab = vertices-in (point k.dims) g.dist g.dist (box_of k) z (λ p t. refl)

  cell-reads : (c : GridPoint) → T (is_cell (slab (box_of k) z) c) → Reads lower upper k.dims.x c
  cell-reads c t =
      let w = cell-within (slab (box_of k) z) c t in
      (at-cell (record { layers = i; along-y = w.y }) (record { count = omega arith; place = refl }) w.x.1).high-side

  cell-values : (c : GridPoint) → T (is_cell (slab (box_of k) z) c) → corners_of lower upper k.dims.x c ≡ values (two_layers lower upper k z) c
  cell-values c t =
      let w = cell-within (slab (box_of k) z) c t in
      let h = i.here in
      corners-between i c (is-cell (box_of k) c (omega arith)) (omega arith) refl refl refl refl

  vertices-read : {cells : List ℕ} → cells ≡ flat_points (layer_vertices (two_layers lower upper k z) (box_of k) z)
      → (m : ℕ) → m < length (layer_vertices (two_layers lower upper k z) (box_of k) z) → Reads lower upper k.dims.x (point_in cells m)
  vertices-read e m h =
      subst (Reads lower upper k.dims.x) (sym (ap (λ (l : List ℕ). point_in l m) e ∙ point_at vs m h)) (cell-reads (get_or vs m origin) (all-at in-slab m h origin))

  pub vertices-estimated : {cells : List ℕ} → cells ≡ flat_points (layer_vertices (two_layers lower upper k z) (box_of k) z)
      → map (estimated lower upper k.dims.x cells) (up_to 0 (length (layer_vertices (two_layers lower upper k z) (box_of k) z)))
      ≡ map (vertex_of (two_layers lower upper k z)) (layer_vertices (two_layers lower upper k z) (box_of k) z)
  vertices-estimated e =
      ap (λ (l : List ℕ). map (estimated lower upper k.dims.x l) (up_to 0 (length vs))) e
      ∙ sym (map-map read (point_in (flat_points vs)) (up_to 0 (length vs)))
      ∙ ap (map read) (points-are g vs)
      ∙ map_same (all_then (λ c t. ap (λ (d : List Float). vertex_by d c) (cell-values c t)) in-slab)
    where
      read : GridPoint → Vertex
      read c = vertex_by (corners_of lower upper k.dims.x c) c

  -- the number of cells, and a batch of them
  pub vertices-counted : {cells : List ℕ} → cells ≡ flat_points (layer_vertices (two_layers lower upper k z) (box_of k) z)
      → length cells / 3 ≡ length (layer_vertices (two_layers lower upper k z) (box_of k) z)
  vertices-counted e = omega (arith, ap length e ∙ length-points vs)

  pub batch-of : {cells : List ℕ} → cells ≡ flat_points (layer_vertices (two_layers lower upper k z) (box_of k) z) → {done n : ℕ} → n ≤ 32 → done + n ≤ length cells / 3
      → Batch lower upper k.dims.x cells done n
  batch-of e {done} few h =
      record { few = few; held = omega arith; reads = λ j l. vertices-read e (done + j) (omega (arith, vertices-counted e)) }
