-- What the whole call lends for a layer: the grid's parts that are the layer's two layers of distances; and for its
-- vertices, and what comes back: the lists have room, and with the part of the map put back they are what the rules say of the layer in the whole grid.
-- Assumes nothing.
use Prim.Native.Nat.{ℕ, ◌+◌, ◌-◌, ◌*◌, ◌≤◌, ◌<◌}
use native.Mathlib.Nat.{le_trans, le-add_right, mul-one, mul-le-mul_left}
use native.Mathlib.Omega.{arith}
use mathlib.Core.List.{List, ◌++◌}
use mathlib.Core.Path.{◌≡◌, ap, ◌∙◌}
use lib.Dec.{T}
use lib.Ieee.{Float}
use lib.ListN.{length, take, drop}
use Rattle.rules.specs.Grid.{GridPoint, Box, Field, in_box, value}
use Rattle.rules.specs.Vertices.{cells, surface_cell, vertices, layer_vertices, first_vertex}
use Rattle.rules.specs.Call.{Buffers}
use Rattle.lists.proofs.Lists.{many-most, length-placed}
use Rattle.rules.proofs.Counting.{cell-count}
use Rattle.grid.specs.declared.Block.{Block}
use Rattle.grid.specs.Block.{point, box_of, flags_of, field_of, call_of}
use Rattle.grid.specs.Inside.{Inside}
use Rattle.grid.specs.Layers.{layer_dist, two_layers, InLayers, part, rest}
use Rattle.grid.proofs.Bounds.{fits}
use Rattle.grid.proofs.Order.{box-ends}
use Rattle.grid.proofs.Rows.{box-short}
use Rattle.grid.proofs.Slab.{slab, layer-alike}
use Rattle.grid.proofs.Places.{Range}
use Rattle.layer_vertices.specs.declared.Next.{Next}
use Rattle.layer_vertices.specs.Marked.{Lists, lists, listed, layer_entry, marked, Room}
use Rattle.layer_vertices.proofs.Alike.{marked-alike}
use Rattle.whole_box.specs.declared.Made.{Made}
use Rattle.whole_box.specs.LentLists.{lists_of}
use Rattle.whole_box.specs.Layers.{entry_at, layer_marked, Written}
use Rattle.whole_box.proofs.Map.{part-back}
use Rattle.grid.proofs.Parts.{layers-agree, layers-lent, layer-end, layer-few}
use Rattle.whole_box.proofs.Steps.{vertices-within, first-is, first_more, SameLengths, written-lengths}

-- ---- the layer's parts of the grid

-- two lists that are the layer's two parts of the grid
pub record Lends (sdf : List Float) (k : Block) (z : ℕ) (lower upper : List Float) : Type 0 where
  pub lower_is : lower ≡ part (k.dims.x * k.dims.y * z) (k.dims.x * k.dims.y) sdf
  pub upper_is : upper ≡ rest (k.dims.x * k.dims.y * z + k.dims.x * k.dims.y) sdf

-- they are two layers that hold the box's points, and have the grid's distances there
module _ (sdf : List Float) (k : Block) (i : Inside sdf k) (z : ℕ) (zs : (k.low.z ≤ z) × (z < k.high.z)) {lower upper : List Float} (t : Lends sdf k z lower upper) where
  pub lent-layers : InLayers lower upper k z
  lent-layers = layers-lent sdf k i z zs t.lower_is t.upper_is

  pub lent-agree : (p : GridPoint) → T (in_box (slab (box_of k) z) p) → value (two_layers lower upper k z) p ≡ value (field_of sdf k) p
  lent-agree = rw (t.lower_is, t.upper_is) (layers-agree sdf k i z zs)

-- its part of a map as long as the grid
pub layer-range : (sdf : List Float) (k : Block) → Inside sdf k → (z : ℕ) → (k.low.z ≤ z) × (z < k.high.z) → (mp : List ℕ) → length sdf ≤ length mp
    → Range (k.dims.x * k.dims.y * z) (k.dims.x * k.dims.y * z + k.dims.x * k.dims.y) (length mp)
layer-range sdf k i z zs mp h =
    record {
      ordered = le-add_right (k.dims.x * k.dims.y * z) (k.dims.x * k.dims.y);
      within = le_trans (layer-end sdf k i z zs) h;
      few = layer-few sdf k i z zs;
    }

-- ---- what is lent for the layer's vertices

module _ (sdf : List Float) (k : Block) (i : Inside sdf k) where
  -- there are few vertices
  pub vertices-few : length (vertices (field_of sdf k) (box_of k)) ≤ 1073741824
  vertices-few =
      omega (
        arith,
        cell-count (field_of sdf k) (box_of k),
        many-most (surface_cell (field_of sdf k)) (cells (box_of k)),
        ap length (box-ends (box_of k)),
        box-short sdf k i
            k.high.z (omega arith),
      )

  -- a layer of the grid has distances
  pub plane-up : 0 < k.dims.x * k.dims.y
  plane-up = let f = fits sdf k i in let h : 1 ≤ k.dims.y = omega arith in let w : 1 ≤ k.dims.x = omega arith in omega
      (arith, mul-le-mul_left k.dims.x h, mul-one k.dims.x)

  module _ (z : ℕ) (zs : (k.low.z ≤ z) × (z < k.high.z)) where
    abbrev g : Field
    g = field_of sdf k

    abbrev b : Box
    b = box_of k

    -- the two layers, as distances by index
    abbrev two : List Float → List Float → ℕ → Float
    two lower upper = layer_dist lower upper (k.dims.x * k.dims.y) z

    pub layer-same : {lower upper : List Float} → Lends sdf k z lower upper → layer_vertices (two_layers lower upper k z) (box_of k) z ≡ layer_vertices (field_of sdf k) (box_of k) z
    layer-same {lower} {upper} t = layer-alike (point k.dims) (two lower upper) g.dist b z (lent-agree sdf k i z zs t)

    pub count_same : {lower upper : List Float} → Lends sdf k z lower upper → {count : ℕ} → count ≡ length (layer_vertices (two_layers lower upper k z) (box_of k) z)
        → count ≡ length (layer_vertices (field_of sdf k) (box_of k) z)
    count_same t e = e ∙ ap length (layer-same t)

    -- the room of the whole lists is that of what is lent
    pub room-lent : {lower upper : List Float} {next : Next} {p n : List Float} {cs st xs mp mp' : List ℕ} → Lends sdf k z lower upper
        → Room next (length (layer_vertices (field_of sdf k) (box_of k) z)) (lists p n cs st xs mp)
        → Room next (length (layer_vertices (two_layers lower upper k z) (box_of k) z)) (lists p n cs st xs mp')
    room-lent t r =
        let e = ap length (layer-same t) in
        record {
          positions = omega (arith, r.positions, e);
          normals = omega (arith, r.normals, e);
          cells = omega (arith, r.cells, e);
          strides = omega (arith, r.strides, e);
          crossings = omega (arith, r.crossings, e);
          numbers = omega (arith, r.numbers, e);
        }

    -- what comes back
    pub marked-back : {lower upper : List Float} → Lends sdf k z lower upper → (first : ℕ) {p n : List Float} {cs st xs q : List ℕ} (p₀ n₀ : List Float) (cs₀ st₀ xs₀ mp₀ : List ℕ)
        → length sdf ≤ length mp₀ → lists p n cs st xs q ≡ marked (two_layers lower upper k z) (box_of k) z (record { place = first; number = first })
        (lists p₀ n₀ cs₀ st₀ xs₀ (part (k.dims.x * k.dims.y * z) (k.dims.x * k.dims.y) mp₀))
        → lists p n cs st xs (take (k.dims.x * k.dims.y * z) mp₀
        ++ (q ++ drop (k.dims.x * k.dims.y * z + k.dims.x * k.dims.y - k.dims.x * k.dims.y * z) (drop (k.dims.x * k.dims.y * z) mp₀)))
        ≡ layer_marked (field_of sdf k) (box_of k) z first (lists p₀ n₀ cs₀ st₀ xs₀ mp₀)
    unfolding layer_marked marked
    marked-back {lower} {upper} t first {p} {n} {cs} {st} {xs} {q} p₀ n₀ cs₀ st₀ xs₀ mp₀ long e =
        let a = k.dims.x * k.dims.y * z in
        let w = k.dims.x * k.dims.y in
        let here : Next = record { place = first; number = first } in
        ap (λ (s : Lists). lists s.positions s.normals s.cells s.strides s.crossings (take a mp₀ ++ (s.map ++ drop (a + w - a) (drop a mp₀))))
        (e ∙ marked-alike (point k.dims) (two lower upper) g.dist b z (lent-agree sdf k i z zs t) here (lists p₀ n₀ cs₀ st₀ xs₀ (part a w mp₀)))
        ∙ ap (λ (l : List ℕ). listed g first (layer_vertices g b z) l (lists p₀ n₀ cs₀ st₀ xs₀ mp₀))
        (part-back g.dims plane-up z (layer_entry g b z first) mp₀ (omega (arith, layer-end sdf k i z zs)))

    -- the map is as long as it was
    pub marked-long : (first : ℕ) (l₀ : Lists) {l : Lists} → l ≡ layer_marked (field_of sdf k) (box_of k) z first l₀ → length l.map ≡ length l₀.map
    unfolding layer_marked
    marked-long first l₀ e = ap (λ (u : Lists). length u.map) e ∙ length-placed (entry_at g b z first) 0 l₀.map

    pub back_long : {lower upper : List Float} → Lends sdf k z lower upper → (first : ℕ) {p n : List Float} {cs st xs q : List ℕ} (p₀ n₀ : List Float) (cs₀ st₀ xs₀ mp₀ : List ℕ)
        → length sdf ≤ length mp₀ → lists p n cs st xs q ≡ marked (two_layers lower upper k z) (box_of k) z (record { place = first; number = first })
        (lists p₀ n₀ cs₀ st₀ xs₀ (part (k.dims.x * k.dims.y * z) (k.dims.x * k.dims.y) mp₀))
        → length (take (k.dims.x * k.dims.y * z) mp₀
        ++ (q ++ drop (k.dims.x * k.dims.y * z + k.dims.x * k.dims.y - k.dims.x * k.dims.y * z) (drop (k.dims.x * k.dims.y * z) mp₀)))
        ≡ length mp₀
    back_long t first p₀ n₀ cs₀ st₀ xs₀ mp₀ long e =
        marked-long first (lists p₀ n₀ cs₀ st₀ xs₀ mp₀) (marked-back t first p₀ n₀ cs₀ st₀ xs₀ mp₀ long e)

    -- ---- the room on the way

    module _ {t s : Buffers} {made : Made} (w : Written (call_of sdf k) z t made s) where
      lengths : SameLengths s t
      lengths = written-lengths (call_of sdf k) z zs.0 (omega arith) w

      pub first-at : made.vertices ≡ first_vertex (field_of sdf k) (box_of k) z
      first-at = ap (λ (m : Made). m.vertices) w.on

      pub layer-within : made.vertices + length (layer_vertices (field_of sdf k) (box_of k) z) ≤ length (vertices (field_of sdf k) (box_of k))
      layer-within = omega (
        arith,
        first-at,
        first_more g b (flags_of k) z zs.0,
        first-is g b (flags_of k) (z + 1),
        vertices-within g b (flags_of k) (z + 1) (omega arith)
            (omega arith),
      )

      pub written-room : Room (record { place = made.vertices; number = made.vertices }) (length (layer_vertices (field_of sdf k) (box_of k) z)) (lists_of s)
      written-room =
          let r = w.roomy in
          let h = layer-within in
          let e = lengths in
          record {
            positions = omega (arith, r.positions, e.positions);
            normals = omega (arith, r.normals, e.normals);
            cells = omega (arith, r.cells, e.cells);
            strides = omega (arith, r.strides, e.strides);
            crossings = omega (arith, r.crossings, e.crossings);
            numbers = omega (arith, vertices-few);
          }

      pub map-long : length sdf ≤ length s.map
      map-long = omega (arith, w.roomy.map, lengths.map)
