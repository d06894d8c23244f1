-- "The answer and all that is written depend on the dimensions, box, max plane, all lengths, the grid's included, and the distances inside
-- the box. Distances outside the box and the map's old numbers never matter." With document 02's request 7 the map is new at each point of the box. From
-- the definitions. Assumes nothing.
use Prim.Native.Nat.{ℕ, zero, suc, ◌+◌, ◌-◌, ◌*◌, ◌≤◌, ◌<◌}
use mathlib.Core.Bool.{Bool, true, false, not, ◌&&◌, cond}
use mathlib.Core.List.{List, [], ◌∷◌, map}
use mathlib.Core.Path.{◌≡◌, refl, sym, ap, ap₂, ◌∙◌, fun_ext}
use native.Mathlib.Nat.{le_refl, zero-add, not-suc-le-zero}
use native.Mathlib.Omega.{arith}
use lib.Dec.{T, eqb, eqb→eq, eqb-suc-zero, lit<}
use lib.ListN.{length, get_or, take, drop, length-map}
use lib.Seq.{take_at}
use lib.Ieee.{Float, unlike}
use Rattle.lists.specs.Lists.{up_to, keep, joined, place, placed, over}
use Rattle.rules.specs.Grid.{GridPoint, Box, Field, step_up, same_point, index, point_at, in_box, is_cell, value}
use Rattle.rules.specs.Cell.{corner_of, values, surface, crossings, centroid, position, normal, negative}
use Rattle.rules.specs.Vertices.{
  layer_vertices,
  surface_cell,
  vertices,
  first_vertex,
  vertex_number,
  number_in,
  vertex_position,
  vertex_normal,
  vertex_crossings,
  null_vertex,
  cell_entry,
  edge_entry,
  map_entry,
}
use Rattle.rules.specs.Faces.{Edge, Flags, owned, changes, gives, edges_at, cell_edges, layer_edges, cell1, cell2, cell3, cell4, six, shorter, face_cells, layer_indices, indices}
use Rattle.rules.specs.Call.{
  Call,
  Buffers,
  Room,
  room,
  bad_dimensions,
  bad_box,
  beyond,
  bad_distance,
  Answer,
  answers,
  vertex_count,
  index_count,
  answer,
  flat_vectors,
  flat_points,
  written,
  afterwards,
}
use Rattle.lists.proofs.Lists.{all_then, map_same, joined_same, keep_same, length-placed, get_d-placed}
use Rattle.lists.proofs.Some.{some_same}
use Rattle.lists.proofs.Runs.{up_to-each}
use Rattle.rules.proofs.Indexes.{cell-within, cell-in-box, corner-in-box, box-within}
use Rattle.rules.proofs.FourCells.{Four, four-in}
use Rattle.rules.proofs.Numbers.{face-all}
use Rattle.rules.proofs.Inside.{layer-cells, vertices-all, points-all, distance_is, edge-cells, up-in-box}
use Rattle.rules.proofs.Accepted.{done-accepted}
use Rattle.rules.proofs.Seen.{length-points, length-vectors}

-- ---- a test in front hides what it refuses

and_same : (a x y : Bool) → (T a → x ≡ y) → (a && x) ≡ (a && y)
and_same true x y f = f tt
and_same false x y f = refl

cond_same : {A : Type 0} (a : Bool) (x y z : A) → (T a → x ≡ y) → cond a x z ≡ cond a y z
cond_same true x y z f = f tt
cond_same false x y z f = refl

cond-true : {A : Type 0} (a : Bool) (x y : A) → T a → cond a x y ≡ x
cond-true true x y t = refl
cond-true false x y t = absurd t

-- ---- two grids that agree on the box

module _ (g g' : Field) (b : Box) (agree : (p : GridPoint) → T (in_box b p) → value g p ≡ value g' p) where
  pub values_same : (c : GridPoint) → T (is_cell b c) → values g c ≡ values g' c
  values_same c t =
      λ i. at 0 (lit< tt) i ∷ at 1 (lit< tt) i ∷ at 2 (lit< tt) i ∷ at 3 (lit< tt) i ∷ at 4 (lit< tt) i ∷ at 5 (lit< tt) i ∷ at 6 (lit< tt) i ∷ at 7 (lit< tt) i ∷ []
    where
      at : (i : ℕ) → i < 8 → value g (corner_of c i) ≡ value g' (corner_of c i)
      at i h = agree (corner_of c i) (corner-in-box b c i t h)

  pub surface-same : (c : GridPoint) → T (is_cell b c) → surface_cell g c ≡ surface_cell g' c
  surface-same c t = ap surface (values_same c t)

  pub position-same : (c : GridPoint) → T (is_cell b c) → vertex_position g c ≡ vertex_position g' c
  position-same c t = ap (λ (d : List Float). position c (centroid d)) (values_same c t)

  pub normal-same : (c : GridPoint) → T (is_cell b c) → vertex_normal g c ≡ vertex_normal g' c
  normal-same c t = ap (λ (d : List Float). normal d (centroid d)) (values_same c t)

  pub crossed-same : (c : GridPoint) → T (is_cell b c) → vertex_crossings g c ≡ vertex_crossings g' c
  crossed-same c t = ap crossings (values_same c t)

  layer-same : (z : ℕ) → b.low.z ≤ z → z < b.high.z → layer_vertices g b z ≡ layer_vertices g' b z
  unfolding layer_vertices
  layer-same z l h = keep_same (all_then surface-same (layer-cells b z l h))

  -- the layers from min to a z that is not above max
  layers-same : (z : ℕ) → z ≤ b.high.z → joined (layer_vertices g b) (up_to b.low.z z) ≡ joined (layer_vertices g' b) (up_to b.low.z z)
  layers-same z h = joined_same (up_to-each b.low.z z (λ y l k. layer-same y l (omega arith)))

  pub vertices-same : vertices g b ≡ vertices g' b
  unfolding vertices
  vertices-same = layers-same b.high.z (le_refl b.high.z)

  first-same : (z : ℕ) → z ≤ b.high.z → first_vertex g b z ≡ first_vertex g' b z
  unfolding first_vertex
  first-same z h = ap {A = List GridPoint} length (layers-same z h)

  number_same : (c : GridPoint) → T (is_cell b c) → (first : ℕ) → vertex_number g b first c ≡ vertex_number g' b first c
  number_same c t first = let w = cell-within b c t in ap (λ (vs : List GridPoint). first + place (same_point c) vs) (layer-same c.z w.z.0 w.z.1)

  in-same : (z first : ℕ) (c : GridPoint) → T (is_cell b c) → number_in g b z first c ≡ number_in g' b z first c
  in-same z first c t =
      let w = cell-within b c t in
      ap (λ (vs : List GridPoint). cond (eqb c.z z) (first + place (same_point c) vs) (first - length vs + place (same_point c) vs)) (layer-same c.z w.z.0 w.z.1)

  -- ---- faces

  changes-same : (e : Edge) → T (is_cell b e.from) → changes g e ≡ changes g' e
  unfolding changes
  changes-same e t = ap₂ (λ (x y : Float). unlike (negative x) (negative y)) (agree e.from (cell-in-box b e.from t))
      (agree (step_up e.axis e.from) (up-in-box b e.axis e.from t))

  gives_same : (m : Flags) (e : Edge) → gives g b m e ≡ gives g' b m e
  gives_same m e = and_same (owned b m e) (changes g e) (changes g' e) (λ (t : T (owned b m e)). changes-same e (four-in b m e t).one)

  cell-edges-same : (m : Flags) (c : GridPoint) → cell_edges g b m c ≡ cell_edges g' b m c
  unfolding cell_edges
  cell-edges-same m c = ap (λ (f : Edge → Bool). keep f (edges_at c)) (fun_ext (gives_same m))

  layer-edges-same : (m : Flags) (z : ℕ) → b.low.z ≤ z → z < b.high.z → layer_edges g b m z ≡ layer_edges g' b m z
  unfolding layer_edges
  layer-edges-same m z l h = ap₂ (λ (f : GridPoint → List Edge) (vs : List GridPoint). joined f vs) (fun_ext (cell-edges-same m)) (layer-same z l h)

  -- ---- the index list

  shorter-same : (e : Edge) → Four (λ (c : GridPoint). T (is_cell b c)) e → shorter g e ≡ shorter g' e
  unfolding shorter
  shorter-same e f = cc (position-same (cell1 e) f.one, position-same (cell2 e) f.two, position-same (cell3 e) f.three, position-same (cell4 e) f.four)

  face-same : (e : Edge) → Four (λ (c : GridPoint). T (is_cell b c)) e → face_cells g e ≡ face_cells g' e
  unfolding face_cells
  face-same e f =
      ap₂ (λ (s n : Bool). six s n (cell1 e) (cell2 e) (cell3 e) (cell4 e)) (shorter-same e f)
      (ap negative (agree e.from (cell-in-box b e.from f.one)))

  numbers-same : (z first : ℕ) (e : Edge) → Four (λ (c : GridPoint). T (is_cell b c)) e → map (number_in g b z first) (face_cells g e) ≡ map (number_in g' b z first) (face_cells g' e)
  numbers-same z first e f = map_same (all_then (in-same z first) (face-all g e f)) ∙ ap (map (number_in g' b z first)) (face-same e f)

  layer-indices-same : (m : Flags) (first z : ℕ) → b.low.z ≤ z → z < b.high.z → layer_indices g b m first z ≡ layer_indices g' b m first z
  unfolding layer_indices
  layer-indices-same m first z l h =
      joined_same (all_then (numbers-same z first) (edge-cells g b m z))
      ∙ ap (joined (λ (e : Edge). map (number_in g' b z first) (face_cells g' e))) (layer-edges-same m z l h)

  pub indices-same : (m : Flags) → indices g b m ≡ indices g' b m
  unfolding indices
  indices-same m = joined_same (up_to-each b.low.z b.high.z one-layer)
    where
      one-layer : (z : ℕ) → b.low.z ≤ z → z < b.high.z → layer_indices g b m (first_vertex g b z) z ≡ layer_indices g' b m (first_vertex g' b z) z
      one-layer z l h = layer-indices-same m (first_vertex g b z) z l h ∙ ap (λ (n : ℕ). layer_indices g' b m n z) (first-same z (omega arith))

  -- ---- the vertices, and the map

  -- what is the same at each cell of the box is the same in vertex order
  from-cells : {B : Type 0} (f f' : GridPoint → B) → ((c : GridPoint) → T (is_cell b c) → f c ≡ f' c) → map f (vertices g b) ≡ map f' (vertices g' b)
  from-cells f f' h = map_same (all_then (λ c t. h c t.0) (vertices-all g b)) ∙ ap (map f') vertices-same

  pub positions-same : map (vertex_position g) (vertices g b) ≡ map (vertex_position g') (vertices g' b)
  positions-same = from-cells (vertex_position g) (vertex_position g') position-same

  pub normals-same : map (vertex_normal g) (vertices g b) ≡ map (vertex_normal g') (vertices g' b)
  normals-same = from-cells (vertex_normal g) (vertex_normal g') normal-same

  pub crossings-same : map (vertex_crossings g) (vertices g b) ≡ map (vertex_crossings g') (vertices g' b)
  crossings-same = from-cells (vertex_crossings g) (vertex_crossings g') crossed-same

  pub entry-same : (c : GridPoint) → T (is_cell b c) → cell_entry g b c ≡ cell_entry g' b c
  unfolding cell_entry
  entry-same c t =
      let w = cell-within b c t in
      ap₂ (λ (s : Bool) (n : ℕ). cond s n null_vertex) (surface-same c t)
      (number_same c t (first_vertex g b c.z) ∙ ap (λ (n : ℕ). vertex_number g' b n c) (first-same c.z (omega arith)))

  -- ---- condition 5

  pub distance-same : bad_distance g b ≡ bad_distance g' b
  distance-same = sym (distance_is g b) ∙ some_same (all_then (λ p t. ap beyond (agree p t)) (points-all b)) ∙ distance_is g' b

-- ---- two calls that differ only outside the box

-- the distances are the same at each point of the box that lies within the dimensions: a box that reaches beyond them is refused before a distance is read
pub record Alike (c c' : Call) : Type 0 where
  pub dims : c.grid.dims ≡ c'.grid.dims
  pub size : c.size ≡ c'.size
  pub box : c.box ≡ c'.box
  pub flags : c.flags ≡ c'.flags
  pub distances : (p : GridPoint) → T (in_box c.box p) → (p.x < c.grid.dims.x) × (p.y < c.grid.dims.y) × (p.z < c.grid.dims.z)
      → value c.grid p ≡ value c'.grid p

-- where condition 2 does not hold, each point of the box lies within them
module _ (c c' : Call) (same : Alike c c') (ok : T (not (bad_box c.grid.dims c.box))) where
  agree : (p : GridPoint) → T (in_box c.box p) → value c.grid p ≡ value c'.grid p
  agree p t = same.distances p t (box-within c.grid.dims c.box p ok t)

  pub calls-vertices : vertices c.grid c.box ≡ vertices c'.grid c'.box
  calls-vertices = vertices-same c.grid c'.grid c.box agree ∙ ap (vertices c'.grid) same.box

  pub calls-indices : indices c.grid c.box c.flags ≡ indices c'.grid c'.box c'.flags
  calls-indices = indices-same c.grid c'.grid c.box agree c.flags ∙ ap₂ (indices c'.grid) same.box same.flags

  pub calls-distance : bad_distance c.grid c.box ≡ bad_distance c'.grid c'.box
  calls-distance = distance-same c.grid c'.grid c.box agree ∙ ap (bad_distance c'.grid) same.box

  pub calls-positions : map (vertex_position c.grid) (vertices c.grid c.box) ≡ map (vertex_position c'.grid) (vertices c'.grid c'.box)
  calls-positions =
      positions-same c.grid c'.grid c.box agree ∙ ap (λ (b : Box). map (vertex_position c'.grid) (vertices c'.grid b)) same.box

  pub calls-normals : map (vertex_normal c.grid) (vertices c.grid c.box) ≡ map (vertex_normal c'.grid) (vertices c'.grid c'.box)
  calls-normals =
      normals-same c.grid c'.grid c.box agree ∙ ap (λ (b : Box). map (vertex_normal c'.grid) (vertices c'.grid b)) same.box

  pub calls-crossings : map (vertex_crossings c.grid) (vertices c.grid c.box) ≡ map (vertex_crossings c'.grid) (vertices c'.grid c'.box)
  calls-crossings =
      crossings-same c.grid c'.grid c.box agree ∙ ap (λ (b : Box). map (vertex_crossings c'.grid) (vertices c'.grid b)) same.box

  pub calls-entry : (j old : ℕ) → map_entry c.grid c.box j old ≡ map_entry c'.grid c'.box j old
  unfolding map_entry
  calls-entry j old =
      let p : GridPoint = point_at c.grid.dims j in
      cond_same (is_cell c.box p) (cell_entry c.grid c.box p) (cell_entry c'.grid c.box p) (cond (in_box c.box p) edge_entry old)
      (entry-same c.grid c'.grid c.box agree p)
      ∙ ap₂ {A = Box} {B = GridPoint} (λ b d. cond (is_cell b (point_at d j)) (cell_entry c'.grid b (point_at d j)) (cond (in_box b (point_at d j)) edge_entry old)) same.box
      same.dims

  -- distances outside the box never matter: with the same old numbers, every list holds the same afterwards
  pub written-local : (s : Buffers) → written c s ≡ written c' s
  unfolding written
  written-local s = λ i.
      record {
        positions = over (flat_vectors (calls-positions i)) s.positions;
        normals = over (flat_vectors (calls-normals i)) s.normals;
        cells = over (flat_points (calls-vertices i)) s.cells;
        strides = over (map (index (same.dims i)) (calls-vertices i)) s.strides;
        crossings = over (calls-crossings i) s.crossings;
        map = placed (λ (j old : ℕ). calls-entry j old i) 0 s.map;
        indices = over (calls-indices i) s.indices;
      }

-- "The answer .. depend[s] on the dimensions, box, max plane, all lengths, .. and the distances inside the box."
pub answer-local : (c c' : Call) → Alike c c' → (r : Room) → answer c r ≡ answer c' r
unfolding answer
answer-local c c' same r = go (bad_box c.grid.dims c.box) refl
  where
    boxes : bad_box c.grid.dims c.box ≡ bad_box c'.grid.dims c'.box
    boxes = ap₂ bad_box same.dims same.box

    go : (t : Bool) → bad_box c.grid.dims c.box ≡ t → answer c r ≡ answer c' r
    go true e =
        let e' : bad_box c'.grid.dims c'.box ≡ true = sym boxes ∙ e in
        rw (e, e') (ap (λ (d : GridPoint). cond (bad_dimensions d) (answers 1 0 0) (answers 2 0 0)) same.dims)
    go false e =
        let ok : T (not (bad_box c.grid.dims c.box)) = rw e tt in
        cc (calls-vertices c c' same ok, calls-indices c c' same ok, calls-distance c c' same ok, same.dims, same.size, same.box)

pub afterwards-local : (c c' : Call) → Alike c c' → (s : Buffers) → afterwards c s ≡ afterwards c' s
unfolding afterwards
afterwards-local c c' same s =
    let n : ℕ = (answer c (room s)).number in
    cond_same (eqb n 0) (written c s) (written c' s) s (λ t. written-local c c' same (done-accepted c (room s) (eqb→eq n 0 t)).box s)
    ∙ ap (λ (a : Answer). cond (eqb a.number 0) (written c' s) s) (answer-local c c' same (room s))

-- ---- the old numbers never matter

-- two outcomes of a call hold the same numbers where it writes: the first 3V, 3V, 3V, V, V and I, and the map at each point of the box
pub record SameWritten (c : Call) (t t' : Buffers) : Type 0 where
  pub positions : take (3 * vertex_count c) t.positions ≡ take (3 * vertex_count c) t'.positions
  pub normals : take (3 * vertex_count c) t.normals ≡ take (3 * vertex_count c) t'.normals
  pub cells : take (3 * vertex_count c) t.cells ≡ take (3 * vertex_count c) t'.cells
  pub strides : take (vertex_count c) t.strides ≡ take (vertex_count c) t'.strides
  pub crossings : take (vertex_count c) t.crossings ≡ take (vertex_count c) t'.crossings
  pub map : (j : ℕ) → j < length t.map → T (in_box c.box (point_at c.grid.dims j)) → get_or t.map j 0 ≡ get_or t'.map j 0
  pub indices : take (index_count c) t.indices ≡ take (index_count c) t'.indices

-- a cell's entry, and that of a point of the box that is no cell, whatever stood there
pub map_at : (c : Call) (s : Buffers) (j : ℕ) → j < length s.map → T (in_box c.box (point_at c.grid.dims j))
    → get_or (written c s).map j 0 ≡ cond (is_cell c.box (point_at c.grid.dims j)) (cell_entry c.grid c.box (point_at c.grid.dims j)) edge_entry
unfolding written map_entry
map_at c s j h t =
    let p : GridPoint = point_at c.grid.dims j in
    get_d-placed (map_entry c.grid c.box) 0 s.map j 0 h
    ∙ ap (λ (k : ℕ). map_entry c.grid c.box k (get_or s.map j 0)) (zero-add j)
    ∙ ap (cond (is_cell c.box p) (cell_entry c.grid c.box p)) (cond-true (in_box c.box p) edge_entry (get_or s.map j 0) t)

pub old-numbers : (c : Call) (s s' : Buffers) → length s.map ≡ length s'.map → SameWritten c (written c s) (written c s')
unfolding written
old-numbers c s s' long =
    record {
      positions = start (flat_vectors (map (vertex_position c.grid) vs)) (length-vectors (vertex_position c.grid) vs) s.positions s'.positions;
      normals = start (flat_vectors (map (vertex_normal c.grid) vs)) (length-vectors (vertex_normal c.grid) vs) s.normals s'.normals;
      cells = start (flat_points vs) (length-points vs) s.cells s'.cells;
      strides = start (map (index c.grid.dims) vs) (length-map vs (index c.grid.dims)) s.strides s'.strides;
      crossings = start (map (vertex_crossings c.grid) vs) (length-map vs (vertex_crossings c.grid)) s.crossings s'.crossings;
      map = entries;
      indices = start (indices c.grid c.box c.flags) refl s.indices s'.indices;
    }
  where
    vs : List GridPoint
    vs = vertices c.grid c.box

    start : {A : Type 0} {n : ℕ} (new : List A) → length new ≡ n → (old old' : List A) → take n (over new old) ≡ take n (over new old')
    start {n = n} new e old old' = take_at new (drop (length new) old) n e ∙ sym (take_at new (drop (length new) old') n e)

    entries : (j : ℕ) → j < length (written c s).map → T (in_box c.box (point_at c.grid.dims j)) → get_or (written c s).map j 0 ≡ get_or (written c s').map j 0
    entries j h t =
        let l : j < length s.map = rw length-placed at h in
        map_at c s j l t ∙ sym (map_at c s' j (omega arith) t)

-- a call that is done
pub when-done : (c : Call) (s : Buffers) → (answer c (room s)).number ≡ 0 → afterwards c s ≡ written c s
unfolding afterwards
when-done c s e = rw e

-- "Answers 1 to 7 change nothing."
pub when-refused : (c : Call) (s : Buffers) → 0 < (answer c (room s)).number → afterwards c s ≡ s
unfolding afterwards
when-refused c s h = kept (answer c (room s)).number h
  where
    kept : (n : ℕ) → 0 < n → cond (eqb n 0) (written c s) s ≡ s
    kept zero l = absurd (not-suc-le-zero l)
    kept (suc n) l = ap (λ (b : Bool). cond b (written c s) s) (eqb-suc-zero n)

-- the two together, for buffers with the same lengths
pub local : (c c' : Call) (s s' : Buffers) → Alike c c' → room s ≡ room s' → (answer c (room s)).number ≡ 0 → SameWritten c (afterwards c s) (afterwards c' s')
local c c' s s' same rooms done =
    let done' : (answer c (room s')).number ≡ 0 = rw (← rooms) done in
    rw (← afterwards-local c c' same s', when-done c s done, when-done c s' done') (old-numbers c s s' (ap (λ (r : Room). r.map) rooms))
