-- No layer's call of the weighing is refused: as for a whole mesh, with the vertices of two layers. And so, over the answers, the layers' sums and shadows add up to
-- those of the whole. Assumes nothing.
use Prim.Native.Nat.{ℕ, suc, ◌+◌, ◌-◌, ◌*◌, ◌/◌, ◌^◌, ◌≤◌, ◌<◌}
use native.Mathlib.Omega.{arith}
use mathlib.Core.Bool.{false, not}
use mathlib.Core.List.{List, [], ◌∷◌, ◌++◌}
use mathlib.Core.Logic.{◌⊎◌, inl, inr}
use mathlib.Core.Path.{◌≡◌, sym, ap, ap₂, subst, ◌∙◌}
use borrow.Author.Tests.{le-ltb, lt-leb}
use lib.Dec.{T, ltb, leb}
use lib.Ieee.{Float, binary32, fits}
use lib.ListN.{length, length-append}
use Rattle.lists.specs.Lists.{some, joined, place, up_to}
use Rattle.lists.proofs.Either.{or-none}
use Rattle.lists.proofs.Tests.{less-or-not}
use Rattle.lists.proofs.Lists.{All, none, more, all_then, all_map, all_append, all-joined, place-below}
use Rattle.lists.proofs.Runs.{joined-cut}
use Rattle.rules.specs.Grid.{GridPoint, Box, Field, in_box, is_cell, same_point, value}
use Rattle.rules.specs.Vertices.{surface_cell, vertices, layer_vertices, first_vertex, vertex_position}
use Rattle.rules.specs.Faces.{Edge, Flags, gives, cell_edges, layer_edges}
use Rattle.rules.specs.Call.{bad_dimensions, bad_box, bad_distance}
use Rattle.rules.proofs.Edges.{layer_edges-all, layer-index-count}
use Rattle.rules.proofs.Inside.{vertices-all}
use Rattle.rules.proofs.Numbers.{four-each, face-all, face_numbers, layer-indices-are}
use Rattle.rules.proofs.Seen.{length-vectors}
use Rattle.cube.proofs.UnderCaps.{cell-counted, under-caps}
use Rattle.volume.specs.declared.Corner.{Corner}
use Rattle.volume.specs.Answers.{not_threes}
use Rattle.volume.proofs.Weighing.{three-is}
use Rattle.weigh.specs.Sums.{shadow_of, pillar_of, corner_from}
use Rattle.weigh.specs.Answers.{Answer, beyond, no_vertex, some_wide, weight, sum_in}
use Rattle.weigh.proofs.Weighing.{Accepted, weighs}
use Rattle.weigh.proofs.Words.{words-make}
use Rattle.weighed_bed.specs.Layered.{vertices_below, two_layers, layer_positions, layer_first, layer_triangles}
use Rattle.weighed_bed.proofs.Fits.{none_passes, in-cell-permitted, joined-most, cell-edges-most}
use Rattle.weighed_bed.proofs.Narrow.{faces-narrow}
use Rattle.weighed_bed.proofs.Layered.{below-when, below_none, either, layer-corner, layer_sum}

all-parts : {A : Type 0} {P : A → Type 0} (s t : List A) → All P (s ++ t) → All P s × All P t
all-parts [] t a = (none, a)
all-parts (x ∷ s) t (more p a) = let r = all-parts s t a in (more p r.0, r.1)

-- ---- a layer of the box

module _ (g : Field) (b : Box) where
  abbrev OfBox : GridPoint → Type 0
  OfBox c = T (is_cell b c) × T (surface_cell g c)

  layer-part : (z : ℕ) → b.low.z ≤ z → z < b.high.z → vertices g b ≡ joined (layer_vertices g b) (up_to b.low.z z) ++ (layer_vertices g b z ++ joined (layer_vertices g b) (up_to (suc z) b.high.z))
  unfolding vertices
  layer-part z l h = joined-cut (layer_vertices g b) b.low.z z b.high.z l h

  layer-cells : (z : ℕ) → b.low.z ≤ z → z < b.high.z → All OfBox (layer_vertices g b z)
  layer-cells z l h =
      let lower = joined (layer_vertices g b) (up_to b.low.z z) in
      let upper = joined (layer_vertices g b) (up_to (suc z) b.high.z) in
      (all-parts (layer_vertices g b z) upper (all-parts lower (layer_vertices g b z ++ upper) (subst (All OfBox) (layer-part z l h) (vertices-all g b))).1).0

  layer-most : (z : ℕ) → b.low.z ≤ z → z < b.high.z → length (layer_vertices g b z) ≤ length (vertices g b)
  layer-most z l h =
      let lower = joined (layer_vertices g b) (up_to b.low.z z) in
      let upper = joined (layer_vertices g b) (up_to (suc z) b.high.z) in
      omega (arith, ap length (layer-part z l h), length-append lower (layer_vertices g b z ++ upper), length-append (layer_vertices g b z) upper)

  two_cells : (z : ℕ) → b.low.z ≤ z → z < b.high.z → All OfBox (two_layers g b z)
  two_cells z l h = all_append (lower (less-or-not b.low.z z)) (layer-cells z l h)
    where
      lower : (b.low.z < z) ⊎ (z ≤ b.low.z) → All OfBox (vertices_below g b z)
      lower (inl k) = subst (All OfBox) (sym (below-when g b z l k)) (layer-cells (z - 1) (omega arith) (omega arith))
      lower (inr k) = subst (All OfBox) (sym (below_none g b z l k)) none

-- ---- all five tests

module _ (g : Field) (b : Box) (m : Flags) (values32 : (p : GridPoint) → T (in_box b p) → T (fits binary32 (value g p))) (dims : T (not (bad_dimensions g.dims)))
    (fit : T (not (bad_box g.dims b))) (distances : T (not (bad_distance g b))) (few : length (vertices g b) ≤ 2 ^ 30) (z : ℕ) (low : b.low.z ≤ z) (high : z < b.high.z) where
  abbrev ws : List GridPoint
  ws = two_layers g b z

  abbrev first : ℕ
  first = layer_first g b z

  abbrev at : ℕ → Corner
  at = corner_from (layer_positions g b z) (layer_first g b z)

  all-permitted : All (λ (x : Float). beyond x ≡ false) (layer_positions g b z)
  all-permitted = all-joined (all_map (vertex_position g) (all_then three (two_cells g b z low high)))
    where
      three : (c : GridPoint) → T (is_cell b c) × T (surface_cell g c)
          → All (λ (x : Float). beyond x ≡ false) ((vertex_position g c).x ∷ (vertex_position g c).y ∷ (vertex_position g c).z ∷ [])
      three c t =
          let n = cell-counted g.dims b c dims fit t.0 in
          let u = (under-caps g b c values32 dims fit distances t.0 t.1).inside in
          more (in-cell-permitted c.x (vertex_position g c).x n.0 u.0)
          (more (in-cell-permitted c.y (vertex_position g c).y n.1 u.1) (more (in-cell-permitted c.z (vertex_position g c).z n.2 u.2) none))

  -- the four cells of an edge of the layer
  on-layer : (e : Edge) → e.from.z ≡ z → (c : GridPoint) → (c.z ≡ e.from.z) ⊎ (suc c.z ≡ e.from.z) → (c.z ≡ z) ⊎ (suc c.z ≡ z)
  on-layer e k c l = subst (λ (y : ℕ). (c.z ≡ y) ⊎ (suc c.z ≡ y)) k l

  has-vertex : (v : ℕ) → v < length ws → no_vertex first (length ws) (first + v) ≡ false
  has-vertex v h = or-none (ltb (first + v) first) (leb (first + length ws) (first + v)) (le-ltb (first + v) first (omega arith)) (lt-leb (first + length ws) (first + v) (omega arith))

  all-used : All (λ (n : ℕ). no_vertex first (length ws) n ≡ false) (joined (face_numbers g b) (layer_edges g b m z))
  all-used =
      all-joined
      (all_then
      (λ (e : Edge) (h : T (gives g b m e) × (e.from.z ≡ z)).
      all_map (λ (c : GridPoint). place (same_point c) (vertices g b))
      (face-all g e
      (four-each g b m e h.0
      (λ c i s l.
      let r = either g b z low c i s (on-layer e h.1 c l) in
      subst (λ (n : ℕ). no_vertex first (length ws) n ≡ false) (sym r.0) (has-vertex (place (same_point c) ws) (place-below (same_point c) ws r.1)))))) (layer_edges-all g b m z))

  edges_few : length (layer_edges g b m z) ≤ 3 * length (layer_vertices g b z)
  unfolding layer_edges
  edges_few = joined-most (cell_edges g b m) 3 (cell-edges-most g b m) (layer_vertices g b z)

  long : length (layer_positions g b z) / 3 ≡ length ws
  long = let e : length (layer_positions g b z) ≡ 3 * length ws = length-vectors (vertex_position g) ws in omega arith

  pub layer-accepted : Accepted (layer_positions g b z) (layer_first g b z) (layer_triangles g b m z)
  layer-accepted =
      let e : length (layer_positions g b z) ≡ 3 * length ws = length-vectors (vertex_position g) ws in
      let n : length (layer_triangles g b m z) ≡ 6 * length (layer_edges g b m z) = layer-index-count g b m (first_vertex g b z) z in
      record {
        threes = or-none (not_threes (length (layer_positions g b z))) (not_threes (length (layer_triangles g b m z))) (three-is (length (layer_positions g b z)) (omega arith))
            (three-is (length (layer_triangles g b m z)) (omega arith));
        inside = none_passes beyond all-permitted;
        used = ap₂ (λ (w : ℕ) (l : List ℕ). some (no_vertex first w) l) long (layer-indices-are g b m z) ∙ none_passes (no_vertex first (length ws)) all-used;
        few = le-ltb (2 ^ 33) (length (layer_triangles g b m z) / 3) (omega (arith, n, edges_few, layer-most g b z low high));
        narrow = ap (some_wide at) (layer-indices-are g b m z)
            ∙ faces-narrow g b m values32 dims fit distances at
            (all_then (λ (e : Edge) (h : T (gives g b m e) × (e.from.z ≡ z)). (h.0, four-each g b m e h.0 (λ c i s l. layer-corner g b z low c i s (on-layer e h.1 c l))))
            (layer_edges-all g b m z));
      }

  -- what a call of the weighing on the layer tells
  pub layer-told : sum_in (weight (layer_positions g b z) (layer_first g b z) (layer_triangles g b m z)) ≡ layer_sum pillar_of g b m z
  layer-told = ap sum_in (weighs (layer_positions g b z) (layer_first g b z) (layer_triangles g b m z) layer-accepted) ∙ words-make (layer_sum pillar_of g b m z)

  pub layer-shadow : (weight (layer_positions g b z) (layer_first g b z) (layer_triangles g b m z)).shadow ≡ layer_sum shadow_of g b m z
  layer-shadow = ap (λ (w : Answer). w.shadow) (weighs (layer_positions g b z) (layer_first g b z) (layer_triangles g b m z) layer-accepted)
