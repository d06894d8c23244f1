-- The number of a vertex is its place in the list of vertices, whichever of its layer's first number it is counted from; so every number of
-- the index list is below V and names the cell that it stands for. From the counts of vertices. Assumes nothing.
use Prim.Native.Nat.{ℕ, suc, ◌+◌, ◌-◌, ◌≤◌, ◌<◌}
use native.Mathlib.Omega.{arith}
use mathlib.Core.Bool.{Bool, true, false, ◌&&◌, cond}
use mathlib.Core.List.{List, ◌++◌, map}
use mathlib.Core.Logic.{◌⊎◌, inl, inr}
use mathlib.Core.Path.{◌≡◌, refl, sym, ap, subst, ◌∙◌}
use borrow.Author.Tests.{eq-eqb, ne_eqb}
use lib.Dec.{T}
use lib.Ieee.Fits.{and_i, and_l}
use lib.ListN.{length, get_or, length-append}
use Rattle.lists.specs.Lists.{up_to, many, joined, place, below}
use Rattle.rules.specs.Grid.{GridPoint, Box, Field, same_point, is_cell, Axis, axis_x, axis_y, axis_z, along, value}
use Rattle.rules.specs.Cell.{negative}
use Rattle.rules.specs.Vertices.{layers, surface_cell, layer_vertices, vertices, first_vertex, number_in, vertex_number}
use Rattle.rules.specs.Faces.{Edge, Flags, axis_b, axis_c, gives, edge, layer_edges, edges, cell1, cell2, cell3, cell4, six, shorter, face_cells, layer_indices, indices}
use Rattle.lists.proofs.Tests.{one_of, below-high}
use Rattle.lists.proofs.Lists.{
  All,
  all-at,
  all-each,
  all_then,
  all_map,
  all-joined,
  map_same,
  joined_same,
  joined-joined,
  many-none,
  place_here,
  place-past,
  place-below,
  place-passes,
  none,
  more,
}
use Rattle.lists.proofs.Runs.{up_to-none, up_to-all, joined-last, joined-cut}
use Rattle.rules.proofs.Counting.{same_point-sound, is_layer_cell, layer-z, cell-layer, layer_vertices-once, vertices-once, layer_vertices-all}
use Rattle.rules.proofs.Indexes.{CellWithin, cell-within}
use Rattle.rules.proofs.FourCells.{Four, Owned, owned-says, four-in, four-on, gives-owned}
use Rattle.rules.proofs.Edges.{layer_edges-all, edges-all}

-- ---- the first number of the next layer

pub first_vertex-low : (g : Field) (b : Box) → first_vertex g b b.low.z ≡ 0
unfolding first_vertex joined
first_vertex-low g b = ap (λ l. length (joined (layer_vertices g b) l)) (up_to-none b.low.z b.low.z (omega arith))

pub first_vertex-high : (g : Field) (b : Box) → first_vertex g b b.high.z ≡ length (vertices g b)
unfolding first_vertex vertices
first_vertex-high g b = refl

pub first_vertex-next : (g : Field) (b : Box) (z : ℕ) → b.low.z ≤ z → first_vertex g b (suc z) ≡ first_vertex g b z + length (layer_vertices g b z)
unfolding first_vertex
first_vertex-next g b z h = ap length (joined-last (layer_vertices g b) b.low.z z h) ∙ length-append (joined (layer_vertices g b) (up_to b.low.z z)) (layer_vertices g b z)

-- ---- a vertex's number is its place

layer-has : (g : Field) (b : Box) (c : GridPoint) → T (is_cell b c) → T (surface_cell g c) → 0 < many (same_point c) (layer_vertices g b c.z)
layer-has g b c t s = omega (
  arith,
  layer_vertices-once g b c.z c,
  one_of (is_layer_cell b c.z c && surface_cell g c)
      (and_i (is_layer_cell b c.z c) (surface_cell g c) in-layer s),
)
  where
    in-layer : T (is_layer_cell b c.z c)
    in-layer = cell-layer b c t

-- no vertex of a lower layer is at the point
lower-none : (g : Field) (b : Box) (c : GridPoint) → many (same_point c) (joined (layer_vertices g b) (up_to b.low.z c.z)) ≡ 0
lower-none g b c = many-none (same_point c) (all-joined (all_then in-layer (up_to-all b.low.z c.z)))
  where
    apart : (z : ℕ) → z < c.z → (d : GridPoint) → T (is_layer_cell b z d && surface_cell g d) → T (same_point c d) → ⊥
    apart z h d t s = omega (arith, layer-z b z d (and_l (is_layer_cell b z d) (surface_cell g d) t), ap (λ (p : GridPoint). p.z) (same_point-sound c d s))

    in-layer : (z : ℕ) → T (below b.low.z c.z z) → All (λ (d : GridPoint). T (same_point c d) → ⊥) (layer_vertices g b z)
    in-layer z t = all_then (apart z (below-high b.low.z c.z z t)) (layer_vertices-all g b z)

pub number-place : (g : Field) (b : Box) (c : GridPoint) → T (is_cell b c) → T (surface_cell g c)
    → vertex_number g b (first_vertex g b c.z) c ≡ place (same_point c) (vertices g b)
unfolding first_vertex vertices
number-place g b c t s =
    sym
    (ap (place (same_point c)) (joined-cut (layer_vertices g b) b.low.z c.z b.high.z i.z.0 i.z.1)
    ∙ place-past (same_point c) lower (layer_vertices g b c.z ++ upper) (lower-none g b c)
    ∙ ap (λ n. length lower + n) (place_here (same_point c) (layer_vertices g b c.z) upper (layer-has g b c t s)))
  where
    i : CellWithin b c
    i = cell-within b c t

    lower : List GridPoint
    lower = joined (layer_vertices g b) (up_to b.low.z c.z)

    upper : List GridPoint
    upper = joined (layer_vertices g b) (up_to (suc c.z) b.high.z)

pub vertices-have : (g : Field) (b : Box) (c : GridPoint) → T (is_cell b c) → T (surface_cell g c) → 0 < many (same_point c) (vertices g b)
vertices-have g b c t s = omega (arith, vertices-once g b c, one_of (is_cell b c && surface_cell g c) (and_i (is_cell b c) (surface_cell g c) t s))

pub number-below : (g : Field) (b : Box) (c : GridPoint) → T (is_cell b c) → T (surface_cell g c) → place (same_point c) (vertices g b) < length (vertices g b)
number-below g b c t s = place-below (same_point c) (vertices g b) (vertices-have g b c t s)

pub vertex-at : (g : Field) (b : Box) (c d : GridPoint) → T (is_cell b c) → T (surface_cell g c) → get_or (vertices g b) (place (same_point c) (vertices g b)) d ≡ c
vertex-at g b c d t s = sym (same_point-sound c (get_or (vertices g b) (place (same_point c) (vertices g b)) d) (place-passes (same_point c) (vertices g b) d (vertices-have g b c t s)))

-- counted from the first number of its own layer, or of the layer above
pub number_in-is : (g : Field) (b : Box) (z : ℕ) (c : GridPoint) → T (is_cell b c) → T (surface_cell g c) → (c.z ≡ z) ⊎ (suc c.z ≡ z)
    → number_in g b z (first_vertex g b z) c ≡ place (same_point c) (vertices g b)
number_in-is g b z c t s (inl h) =
    ap (λ y. cond y (vertex_number g b (first_vertex g b z) c) (vertex_number g b (first_vertex g b z - length (layer_vertices g b c.z)) c)) (eq-eqb c.z z h)
    ∙ ap (λ y. vertex_number g b (first_vertex g b y) c) (sym h)
    ∙ number-place g b c t s
number_in-is g b z c t s (inr h) =
    ap (λ y. cond y (vertex_number g b (first_vertex g b z) c) (vertex_number g b (first_vertex g b z - length (layer_vertices g b c.z)) c)) (ne_eqb c.z z (λ k. omega arith))
    ∙ ap (λ y. vertex_number g b y c) back
    ∙ number-place g b c t s
  where
    low : b.low.z ≤ c.z
    low = (cell-within b c t).z.0

    back : first_vertex g b z - length (layer_vertices g b c.z) ≡ first_vertex g b c.z
    back = omega (arith, first_vertex-next g b c.z low, ap (first_vertex g b) h)

-- ---- the four cells of a face

four-layers : (a : Axis) (p : GridPoint) → 0 < along (axis_b a) p → 0 < along (axis_c a) p → Four (λ c. (c.z ≡ p.z) ⊎ (suc c.z ≡ p.z)) (edge a p)
four-layers axis_x p h k = record { one = inl refl; two = inl refl; three = inr (omega arith); four = inr (omega arith) }
four-layers axis_y p h k = record { one = inl refl; two = inr (omega arith); three = inl refl; four = inr (omega arith) }
four-layers axis_z p h k = record { one = inl refl; two = inl refl; three = inl refl; four = inl refl }

module _ (g : Field) (b : Box) (m : Flags) (e : Edge) (t : T (gives g b m e)) where
  -- what holds of each surface cell of the box in the edge's layer, or the one below it, holds of the four
  pub four-each : {P : GridPoint → Type 0}
      → ((c : GridPoint) → T (is_cell b c) → T (surface_cell g c) → (c.z ≡ e.from.z) ⊎ (suc c.z ≡ e.from.z) → P c) → Four P e
  four-each f =
      record {
        one = f (cell1 e) i.one s.one l.one;
        two = f (cell2 e) i.two s.two l.two;
        three = f (cell3 e) i.three s.three l.three;
        four = f (cell4 e) i.four s.four l.four;
      }
    where
      o : Owned b m e
      o = owned-says b m e (gives-owned g b m e t)

      i : Four (λ c. T (is_cell b c)) e
      i = four-in b m e (gives-owned g b m e t)

      s : Four (λ c. T (surface_cell g c)) e
      s = four-on g b m e t

      l : Four (λ c. (c.z ≡ e.from.z) ⊎ (suc c.z ≡ e.from.z)) e
      l = four-layers e.axis e.from (omega (arith, o.above_b)) (omega (arith, o.above_c))

  pub number_in-place : Four (λ c. number_in g b e.from.z (first_vertex g b e.from.z) c ≡ place (same_point c) (vertices g b)) e
  number_in-place = four-each (number_in-is g b e.from.z)

  pub four_below : Four (λ c. place (same_point c) (vertices g b) < length (vertices g b)) e
  four_below = four-each (λ c i s l. number-below g b c i s)

-- what holds of the four holds of the six corners
pub face-all : (g : Field) (e : Edge) {P : GridPoint → Type 0} → Four P e → All P (face_cells g e)
unfolding face_cells
face-all g e {P} h = go (shorter g e) (negative (value g e.from))
  where
    go : (s t : Bool) → All P (six s t (cell1 e) (cell2 e) (cell3 e) (cell4 e))
    go true true = more h.one (more h.two (more h.four (more h.one (more h.four (more h.three none)))))
    go true false = more h.one (more h.four (more h.two (more h.one (more h.three (more h.four none)))))
    go false true = more h.two (more h.four (more h.three (more h.two (more h.three (more h.one none)))))
    go false false = more h.two (more h.three (more h.four (more h.two (more h.one (more h.three none)))))

-- ---- the index list

-- the numbers of a face's corners
abbrev pub face_numbers : Field → Box → Edge → List ℕ
face_numbers g b e = map (λ (c : GridPoint). place (same_point c) (vertices g b)) (face_cells g e)

pub layer-indices-are : (g : Field) (b : Box) (m : Flags) (z : ℕ) → layer_indices g b m (first_vertex g b z) z ≡ joined (face_numbers g b) (layer_edges g b m z)
unfolding layer_indices
layer-indices-are g b m z = joined_same (all_then at (layer_edges-all g b m z))
  where
    at : (e : Edge) → T (gives g b m e) × (e.from.z ≡ z) → map (number_in g b z (first_vertex g b z)) (face_cells g e) ≡ face_numbers g b e
    at e h = subst (λ (y : ℕ). map (number_in g b y (first_vertex g b y)) (face_cells g e) ≡ face_numbers g b e) h.1 (map_same (face-all g e (number_in-place g b m e h.0)))

pub indices-are : (g : Field) (b : Box) (m : Flags) → indices g b m ≡ joined (face_numbers g b) (edges g b m)
unfolding indices edges
indices-are g b m =
    joined_same (all-each (layer-indices-are g b m) (layers b))
    ∙ sym (joined-joined (face_numbers g b) (layer_edges g b m) (layers b))

pub every-index-below : (g : Field) (b : Box) (m : Flags) → All (λ n. n < length (vertices g b)) (indices g b m)
every-index-below g b m =
    rw (indices-are g b m) (all-joined (all_then (λ e t. all_map (λ (c : GridPoint). place (same_point c) (vertices g b)) (face-all g e (four_below g b m e t))) (edges-all g b m)))

pub index_below : (g : Field) (b : Box) (m : Flags) (k : ℕ) → k < length (indices g b m) → get_or (indices g b m) k 0 < length (vertices g b)
index_below g b m k h = all-at (every-index-below g b m) k h 0
