-- A bed weighed layer by layer: the triangles of each layer, weighed from the positions of its own vertices and of those of the layer below, whose numbers run on,
-- are never refused, and their sums and shadows add up to those of the whole. Over the rules' layers, which the calls bring out. Assumes nothing.
use Prim.Native.Nat.{ℕ, suc, ◌+◌, ◌-◌, ◌≤◌, ◌<◌}
use native.Mathlib.Omega.{arith}
use mathlib.Core.Bool.{Bool, ◌&&◌, cond}
use mathlib.Core.List.{List, [], map}
use mathlib.Core.Logic.{◌⊎◌, inl, inr}
use mathlib.Core.Path.{◌≡◌, refl, sym, ap, ap₂, subst, ◌∙◌}
use borrow.Author.Tests.{le-ltb}
use lib.Dec.{T, ltb, lt→ltb}
use lib.IntN.{ℤ, ◌+ℤ◌}
use lib.Ieee.{nan}
use lib.Ieee.Bits.{is_true}
use lib.Ieee.Fits.{and_i, and_l}
use lib.ListN.{length, get_or, length-map, get_or-map}
use Rattle.lists.specs.Lists.{many, place, below}
use Rattle.lists.proofs.Tests.{one_of, one-not, less-or-not, below-low}
use Rattle.lists.proofs.Lists.{All, none, more, all_then, many-append, place_here, place-past, place-below, place-passes}
use Rattle.lists.proofs.Runs.{up_to-all}
use Rattle.rules.specs.Grid.{GridPoint, Box, Field, is_cell, same_point}
use Rattle.rules.specs.Cell.{Vector}
use Rattle.rules.specs.Vertices.{surface_cell, vertices, layers, layer_vertices, first_vertex, vertex_position}
use Rattle.rules.specs.Faces.{Edge, Flags, gives, edges, layer_edges, indices, face_cells}
use Rattle.rules.specs.Call.{flat_vectors}
use Rattle.rules.proofs.Counting.{same_point-sound, is_layer_cell, layer-z, cell-layer, layer_vertices-once}
use Rattle.rules.proofs.Edges.{layer_edges-all}
use Rattle.rules.proofs.Indexes.{CellWithin, cell-within}
use Rattle.rules.proofs.Numbers.{first_vertex-next, number-place, four-each, face-all, layer-indices-are}
use Rattle.rules.proofs.Seen.{ThreeAt, flat_vectors-at}
use Rattle.volume.specs.declared.Corner.{Corner}
use Rattle.volume.specs.Steps.{steps}
use Rattle.volume.specs.Volume.{corner, corner_at}
use Rattle.weigh.specs.Sums.{corner_from, sum_of}
use Rattle.weighed_mesh.specs.Facing.{steps_of}
use Rattle.weighed_mesh.proofs.Faces.{sum_z, sum_z-joined}
use Rattle.weighed_bed.specs.Layered.{vertices_below, two_layers, layer_positions, layer_first, layer_triangles}
use Rattle.weighed_bed.proofs.Faces.{face_sum, numbers-sum, mesh-sum}

-- a vertex of any list, looked up by its place
looked-up : (g : Field) (ws : List GridPoint) (c : GridPoint) → 0 < many (same_point c) ws → corner_at (flat_vectors (map (vertex_position g) ws)) (place (same_point c) ws) ≡ steps_of (vertex_position g c)
looked-up g ws c h = λ j. corner (steps (v.first j)) (steps (v.second j)) (steps (v.third j))
  where
    n : ℕ
    n = place (same_point c) ws

    us : List Vector
    us = map (vertex_position g) ws

    v : ThreeAt (λ (q : Vector). q.x) (λ (q : Vector). q.y) (λ (q : Vector). q.z) (flat_vectors us) n nan (vertex_position g c)
    v =
        flat_vectors-at us n (vertex_position g c) (rw (length-map ws (vertex_position g)) (place-below (same_point c) ws h))
        (get_or-map (vertex_position g) ws n c ∙ ap (vertex_position g) (sym (same_point-sound c (get_or ws n c) (place-passes (same_point c) ws c h))))

module _ (g : Field) (b : Box) (z : ℕ) (low : b.low.z ≤ z) where
  pub below-when : b.low.z < z → vertices_below g b z ≡ layer_vertices g b (z - 1)
  below-when h = ap (λ (t : Bool). cond t (layer_vertices g b (z - 1)) []) (is_true (ltb b.low.z z) (lt→ltb b.low.z z h))

  pub below_none : z ≤ b.low.z → vertices_below g b z ≡ []
  below_none h = ap (λ (t : Bool). cond t (layer_vertices g b (z - 1)) []) (le-ltb b.low.z z h)

  first-split : layer_first g b z + length (vertices_below g b z) ≡ first_vertex g b z
  first-split =
      elim (less-or-not b.low.z z) [
        | inl h ↦
            let s : suc (z - 1) ≡ z = omega arith in
            let n : first_vertex g b (suc (z - 1)) ≡ first_vertex g b (z - 1) + length (layer_vertices g b (z - 1)) = first_vertex-next g b (z - 1) (omega arith) in
            omega (arith, ap length (below-when h), n, ap (first_vertex g b) s)
        | inr h ↦ omega (arith, ap length (below_none h))
      ]

  -- ---- a surface cell of the layer, or of the one below

  module _ (c : GridPoint) (t : T (is_cell b c)) (s : T (surface_cell g c)) where
    layer-has : 0 < many (same_point c) (layer_vertices g b c.z)
    layer-has =
        omega (arith, layer_vertices-once g b c.z c, one_of (is_layer_cell b c.z c && surface_cell g c) (and_i (is_layer_cell b c.z c) (surface_cell g c) (cell-layer b c t) s))

    not-below : c.z ≡ z → many (same_point c) (vertices_below g b z) ≡ 0
    unfolding many
    not-below e =
        elim (less-or-not b.low.z z) [
          | inl h ↦
              ap (many (same_point c)) (below-when h)
              ∙ layer_vertices-once g b (z - 1) c
              ∙ one-not (is_layer_cell b (z - 1) c && surface_cell g c) (λ p. absurd (omega (arith, layer-z b (z - 1) c (and_l (is_layer_cell b (z - 1) c) (surface_cell g c) p))))
          | inr h ↦ ap (many (same_point c)) (below_none h)
        ]

    -- where it stands, among all vertices and among the two layers'
    pub own-layer : c.z ≡ z → (place (same_point c) (vertices g b) ≡ layer_first g b z + place (same_point c) (two_layers g b z)) × (0 < many (same_point c) (two_layers g b z))
    own-layer e =
        let n : first_vertex g b c.z + place (same_point c) (layer_vertices g b c.z) ≡ place (same_point c) (vertices g b) = number-place g b c t s in
        let k : place (same_point c) (two_layers g b z) ≡ length (vertices_below g b z) + place (same_point c) (layer_vertices g b z) =
        place-past (same_point c) (vertices_below g b z) (layer_vertices g b z) (not-below e) in
        let m : many (same_point c) (two_layers g b z) ≡ many (same_point c) (vertices_below g b z) + many (same_point c) (layer_vertices g b z) =
        many-append (same_point c) (vertices_below g b z) (layer_vertices g b z) in
        let f : first_vertex g b c.z ≡ first_vertex g b z = ap (first_vertex g b) e in
        let l : place (same_point c) (layer_vertices g b c.z) ≡ place (same_point c) (layer_vertices g b z) = ap (λ (y : ℕ). place (same_point c) (layer_vertices g b y)) e in
        let has : 0 < many (same_point c) (layer_vertices g b z) = subst (λ (y : ℕ). 0 < many (same_point c) (layer_vertices g b y)) e layer-has in
        (omega (arith, first-split), omega arith)

    pub layer_below : suc c.z ≡ z → (place (same_point c) (vertices g b) ≡ layer_first g b z + place (same_point c) (two_layers g b z)) × (0 < many (same_point c) (two_layers g b z))
    layer_below e =
        let w : CellWithin b c = cell-within b c t in
        let d : z - 1 ≡ c.z = omega arith in
        let u : vertices_below g b z ≡ layer_vertices g b c.z = below-when (omega (arith, w.z.0)) ∙ ap (layer_vertices g b) d in
        let n : first_vertex g b c.z + place (same_point c) (layer_vertices g b c.z) ≡ place (same_point c) (vertices g b) = number-place g b c t s in
        let has : 0 < many (same_point c) (vertices_below g b z) = subst (λ (l : List GridPoint). 0 < many (same_point c) l) (sym u) layer-has in
        let k : place (same_point c) (two_layers g b z) ≡ place (same_point c) (vertices_below g b z) = place_here (same_point c) (vertices_below g b z) (layer_vertices g b z) has in
        let l : place (same_point c) (vertices_below g b z) ≡ place (same_point c) (layer_vertices g b c.z) = ap (place (same_point c)) u in
        let m : many (same_point c) (two_layers g b z) ≡ many (same_point c) (vertices_below g b z) + many (same_point c) (layer_vertices g b z) =
        many-append (same_point c) (vertices_below g b z) (layer_vertices g b z) in
        let f : first_vertex g b (suc c.z) ≡ first_vertex g b c.z + length (layer_vertices g b c.z) = first_vertex-next g b c.z w.z.0 in
        (omega (arith, first-split, ap length u, ap (first_vertex g b) e), omega arith)

    pub either : (c.z ≡ z) ⊎ (suc c.z ≡ z)
        → (place (same_point c) (vertices g b) ≡ layer_first g b z + place (same_point c) (two_layers g b z)) × (0 < many (same_point c) (two_layers g b z))
    either (inl e) = own-layer e
    either (inr e) = layer_below e

    -- its number, looked up in the two layers' positions, gives its position
    pub layer-corner : (c.z ≡ z) ⊎ (suc c.z ≡ z) → corner_from (layer_positions g b z) (layer_first g b z) (place (same_point c) (vertices g b)) ≡ steps_of (vertex_position g c)
    layer-corner l =
        let r = either l in
        let e : place (same_point c) (vertices g b) - layer_first g b z ≡ place (same_point c) (two_layers g b z) = omega (arith, r.0) in
        ap (corner_at (layer_positions g b z)) e ∙ looked-up g (two_layers g b z) c r.1

-- ---- the sums

module _ (f : Corner → Corner → Corner → ℤ) (g : Field) (b : Box) (m : Flags) where
  -- the sum of one layer
  abbrev pub layer_sum : ℕ → ℤ
  layer_sum z = sum_of f (corner_from (layer_positions g b z) (layer_first g b z)) (layer_triangles g b m z)

  layer-sum : (z : ℕ) → b.low.z ≤ z → layer_sum z ≡ sum_z (face_sum f g) (layer_edges g b m z)
  layer-sum z low =
      ap (sum_of f (corner_from (layer_positions g b z) (layer_first g b z))) (layer-indices-are g b m z)
      ∙ numbers-sum f g (λ (c : GridPoint). place (same_point c) (vertices g b)) (corner_from (layer_positions g b z) (layer_first g b z)) (all_then at (layer_edges-all g b m z))
    where
      at : (e : Edge) → T (gives g b m e) × (e.from.z ≡ z)
          → All (λ (c : GridPoint). corner_from (layer_positions g b z) (layer_first g b z) (place (same_point c) (vertices g b)) ≡ steps_of (vertex_position g c)) (face_cells g e)
      at e h =
          face-all g e
          (four-each g b m e h.0
          (λ c i s l. layer-corner g b z low c i s (subst (λ (y : ℕ). (c.z ≡ y) ⊎ (suc c.z ≡ y)) h.1 l)))

  sum_z-same : {A : Type 0} {h k : A → ℤ} {l : List A} → All (λ (x : A). h x ≡ k x) l → sum_z h l ≡ sum_z k l
  unfolding sum_z
  sum_z-same none = refl
  sum_z-same (more p ps) = ap₂ ◌+ℤ◌ p (sum_z-same ps)

  -- the layers' sums add up to that of the whole
  pub layers-sum : sum_z layer_sum (layers b) ≡ sum_of f (corner_at (flat_vectors (map (vertex_position g) (vertices g b)))) (indices g b m)
  unfolding edges
  layers-sum =
      sum_z-same (all_then (λ (z : ℕ) (t : T (below b.low.z b.high.z z)). layer-sum z (below-low b.low.z b.high.z z t)) (up_to-all b.low.z b.high.z))
      ∙ sym (sum_z-joined (face_sum f g) (layer_edges g b m) (layers b))
      ∙ sym (mesh-sum f g b m)
