-- What the faces of the layer z look up: the parts of the lists that are lent hold the layer's vertices and those of the layer below, so that the
-- layer's indices are document 01's. From the lists that the layers up to z leave. Assumes nothing.
use Prim.Native.Nat.{ℕ, suc, ◌+◌, ◌-◌, ◌*◌, ◌≤◌, ◌<◌}
use native.Mathlib.Nat.{mul-one, mul-add}
use native.Mathlib.Omega.{arith}
use mathlib.Core.Bool.{Bool, cond}
use mathlib.Core.List.{List, ◌++◌, map, append_assoc}
use mathlib.Core.Path.{◌≡◌, refl, sym, ap, subst, ◌∙◌}
use lib.Dec.{T}
use lib.Ieee.{Float}
use lib.Ieee.Bits.{is_true}
use lib.ListN.{length, get_or, take, drop, length-append, length-drop}
use lib.Seq.{get_or-take, get_or-drop, length-take-le, take_all, sets}
use Rattle.lists.specs.Lists.{over}
use Rattle.rules.specs.Grid.{GridPoint, Box, Field, index, in_box, is_cell, value}
use Rattle.rules.specs.Vertices.{surface_cell, layer_vertices, first_vertex, vertex_number, vertex_position, null_vertex, cell_entry}
use Rattle.rules.specs.Faces.{Flags, layer_edges, layer_indices}
use Rattle.rules.specs.Call.{Buffers, flat_vectors, flat_points}
use Rattle.rules.proofs.Edges.{layer-index-count}
use Rattle.rules.proofs.Numbers.{first_vertex-next}
use Rattle.rules.proofs.Indexes.{cell-within, cell-in-box}
use Rattle.rules.proofs.Seen.{length-points, length-vectors}
use Rattle.grid.specs.declared.Block.{Block}
use Rattle.grid.specs.Block.{point, box_of, flags_of, field_of, call_of}
use Rattle.grid.specs.Inside.{Inside}
use Rattle.grid.specs.Layers.{in_layer, layer_dist, two_layers, part}
use Rattle.grid.proofs.Bounds.{fits, below_length}
use Rattle.grid.proofs.Layers.{in-plane}
use Rattle.grid.proofs.Slab.{slab, layer-alike, edges-alike, positions-alike, surface-alike, number-alike}
use Rattle.layer_vertices.proofs.Passing.{vectors-append, points-append}
use Rattle.layer_faces.specs.Below.{Kept, indices_over, Standing}
use Rattle.layer_faces.proofs.Alike.{Right, indices-are}
use Rattle.whole_box.specs.declared.Made.{Made}
use Rattle.whole_box.specs.Layers.{vertices_to, written_to, Written, Stands}
use Rattle.whole_box.proofs.Map.{map-number}
use Rattle.grid.proofs.Parts.{length_part, part_at, layer-end, corner-in}
use Rattle.whole_box.proofs.Lent.{Lends, lent-agree}
use Rattle.whole_box.proofs.Steps.{vertices-more, vertices-within, first-is, part_of, SameLengths, written-lengths}

-- ---- a part of what is written

over-part : {A : Type 0} (s t old w : List A) → w ≡ s ++ t → (i n : ℕ) → length s ≡ i → length t ≡ n → take n (drop i (over w old)) ≡ t
over-part s t old w e i n f h = ap (λ (l : List _). take n (drop i (over l old))) e ∙ part_of s t (drop (length (s ++ t)) old) i n f h

over-middle : {A : Type 0} (s t u old w : List A) → w ≡ (s ++ t) ++ u → (i n : ℕ) → length s ≡ i → length t ≡ n → take n (drop i (over w old)) ≡ t
over-middle s t u old w e i n f h =
    let r = drop (length ((s ++ t) ++ u)) old in
    ap (λ (l : List _). take n (drop i (over l old))) e
    ∙ ap (λ (l : List _). take n (drop i l)) (append_assoc (s ++ t) u r)
    ∙ part_of s t (u ++ r) i n f h

-- ---- the lists that the layers up to z leave

module _ (sdf : List Float) (k : Block) (i : Inside sdf k) (z : ℕ) (zs : (k.low.z ≤ z) × (z < k.high.z)) {t s : Buffers} {made : Made}
    (w : Written (call_of sdf k) (z + 1) t made s) where
  pub stands : Stands (field_of sdf k) (box_of k) z (first_vertex (field_of sdf k) (box_of k) z) (first_vertex (field_of sdf k) (box_of k) (z - 1)) s.cells s.map s.positions
  unfolding written_to
  stands =
      record {
        cells = ap (λ (u : Buffers). take (3 * length L) (drop (3 * first_vertex g b z) u.cells)) w.same ∙ over-part (flat_points before) (flat_points L) t.cells
            (flat_points (vertices_to g b (z + 1))) (ap flat_points grown ∙ sym (points-append before L)) (3 * first_vertex g b z) (3 * length L)
            (length-points before ∙ ap (λ (n : ℕ). 3 * n) (sym (first-is g b m z))) (length-points L);
        cells_hold = omega (arith, all, same.cells, w.roomy.cells);
        positions = ap (λ (u : Buffers). take (3 * length L) (drop (3 * first_vertex g b z) u.positions)) w.same ∙ over-part (flat before) (flat L) t.positions
            (flat (vertices_to g b (z + 1))) (ap flat grown ∙ sym (vectors-append (vertex_position g) before L)) (3 * first_vertex g b z) (3 * length L)
            (length-vectors (vertex_position g) before ∙ ap (λ (n : ℕ). 3 * n) (sym (first-is g b m z))) (length-vectors (vertex_position g) L);
        positions_hold = omega (arith, all, same.positions, w.roomy.positions);
        under = under;
        numbers = λ c u h. ap (λ (v : Buffers). get_or v.map (index g.dims c) 0) w.same ∙ map-number g b (fits sdf k i) z t.map c u h
            (omega (arith, below_length sdf k i c (cell-in-box b c u), w.roomy.map));
        here = refl;
        before = refl;
      }
    where
      g : Field
      g = field_of sdf k

      b : Box
      b = box_of k

      m : Flags
      m = flags_of k

      before : List GridPoint
      before = vertices_to g b z

      L : List GridPoint
      L = layer_vertices g b z

      flat : List GridPoint → List Float
      flat vs = flat_vectors (map (vertex_position g) vs)

      grown : vertices_to g b (z + 1) ≡ before ++ L
      grown = vertices-more g b m z zs.0

      same : SameLengths s t
      same = written-lengths (call_of sdf k) (z + 1) (omega arith) (omega arith) w

      all : first_vertex g b z + length L ≤ length (Rattle.rules.specs.Vertices.vertices g b)
      all = omega (arith, vertices-within g b m (z + 1) (omega arith) (omega arith), ap length grown, length-append before L, first-is g b m z)

      under : k.low.z < z → take (3 * (first_vertex g b z - first_vertex g b (z - 1))) (drop (3 * first_vertex g b (z - 1)) s.positions) ≡ flat (layer_vertices g b (z - 1))
      under h =
          let y = z - 1 in
          let up : y + 1 ≡ z = omega arith in
          let below : vertices_to g b z ≡ vertices_to g b y ++ layer_vertices g b y = ap (vertices_to g b) (sym up) ∙ vertices-more g b m y (omega arith) in
          let size : first_vertex g b z - first_vertex g b y ≡ length (layer_vertices g b y) = omega
          (arith, first-is g b m z, first-is g b m y, ap length below, length-append (vertices_to g b y) (layer_vertices g b y)) in
          ap (λ (u : Buffers). take (3 * (first_vertex g b z - first_vertex g b y)) (drop (3 * first_vertex g b y) u.positions)) w.same
          ∙ ap (λ (n : ℕ). take (3 * n) (drop (3 * first_vertex g b y) (over (flat (vertices_to g b (z + 1))) t.positions))) size
          ∙ over-middle (flat (vertices_to g b y)) (flat (layer_vertices g b y)) (flat L) t.positions (flat (vertices_to g b (z + 1)))
          (ap flat (grown ∙ ap (λ (l : List GridPoint). l ++ L) below) ∙ sym (vectors-append (vertex_position g) (vertices_to g b y ++ layer_vertices g b y) L) ∙ ap
          (λ (l : List Float). l ++ flat L) (sym (vectors-append (vertex_position g) (vertices_to g b y) (layer_vertices g b y))))
          (3 * first_vertex g b y) (3 * length (layer_vertices g b y)) (length-vectors (vertex_position g) (vertices_to g b y) ∙ ap (λ (n : ℕ). 3 * n) (sym (first-is g b m y)))
          (length-vectors (vertex_position g) (layer_vertices g b y))

-- ---- what is lent for the layer's faces

module _ (sdf : List Float) (k : Block) (i : Inside sdf k) (z : ℕ) (zs : (k.low.z ≤ z) × (z < k.high.z)) {lower upper : List Float} (lent : Lends sdf k z lower upper)
    (first below : ℕ) (cs mp : List ℕ) (ps : List Float) (s : Stands (field_of sdf k) (box_of k) z first below cs mp ps) (long : length sdf ≤ length mp) where
  abbrev plane : ℕ
  plane = k.dims.x * k.dims.y

  abbrev g : Field
  g = field_of sdf k

  abbrev b : Box
  b = box_of k

  abbrev m : Flags
  m = flags_of k

  abbrev d : GridPoint
  d = point k.dims

  -- the two layers, as distances by index
  abbrev two : ℕ → Float
  two = layer_dist lower upper (k.dims.x * k.dims.y) z

  abbrev whole : ℕ → Float
  whole = (field_of sdf k).dist

  agree : (p : GridPoint) → T (in_box (slab (box_of k) z) p) → value (two_layers lower upper k z) p ≡ value (field_of sdf k) p
  agree = lent-agree sdf k i z zs lent

  -- where a cell of the box stands in its layer
  within-plane : (c : GridPoint) → T (is_cell b c) → in_layer (point k.dims) c < k.dims.x * k.dims.y
  within-plane c t = let f = fits sdf k i in let w = cell-within b c t in in-plane d c (omega arith) (omega arith)

  -- a surface cell's number
  number_of : (c : GridPoint) → T (is_cell b c) → T (surface_cell g c) → c.z ≤ z → get_or mp (index (point k.dims) c) 0 ≡ vertex_number g b (first_vertex g b c.z) c
  unfolding cell_entry
  number_of c t on h = s.numbers c t h ∙ ap (λ (y : Bool). cond y (vertex_number g b (first_vertex g b c.z) c) null_vertex) (is_true (surface_cell g c) on)

  pub standing : (count : ℕ) → count ≡ length (layer_vertices (field_of sdf k) (box_of k) z) → {cs' mp' : List ℕ} {ps' : List Float}
      → cs' ≡ part (3 * first) (3 * count) cs → mp' ≡ part (k.dims.x * k.dims.y * z) (k.dims.x * k.dims.y) mp → ps' ≡ part (3 * first) (3 * count) ps
      → Standing (two_layers lower upper k z) (box_of k) first z cs' mp' ps'
  standing count e cells_are map_is positions-are =
      let n : 3 * first + 3 * count - 3 * first ≡ 3 * length (layer_vertices g b z) = omega arith in
      record {
        cells = cells_are ∙ ap (λ (l : ℕ). take l (drop (3 * first) cs)) n ∙ s.cells ∙ ap flat_points (sym (layer-alike d two whole b z agree));
        positions = positions-are ∙ ap (λ (l : ℕ). take l (drop (3 * first) ps)) n ∙ s.positions ∙ ap flat_vectors (sym (positions-alike d two whole b z agree));
        numbers = λ c t ez on. ap (λ (l : List ℕ). get_or l (in_layer d c) 0) map_is ∙ numbers c t ez on;
        holds = omega (arith, corner-in sdf k i z zs, ap length map_is, length_part (plane * z) plane mp (omega (arith, layer-end sdf k i z zs)));
      }
    where
      numbers : (c : GridPoint) → T (is_cell b c) → c.z ≡ z → T (surface_cell (record { dims = d; dist = two }) c) → get_or (part (plane * z) plane mp) (in_layer d c) 0 ≡
          vertex_number (record { dims = d; dist = two }) b first c
      numbers c t ez on =
          let same : plane * z ≡ plane * c.z = ap (λ (n : ℕ). plane * n) (sym ez) in
          let at : plane * z + in_layer d c ≡ index d c = omega arith in
          part_at (plane * z) plane mp (in_layer d c) 0 (within-plane c t)
          ∙ ap (λ (n : ℕ). get_or mp n 0) at
          ∙ number_of c t (subst T (surface-alike d two whole b z agree c t ez) on) (omega arith)
          ∙ ap (λ (n : ℕ). vertex_number g b n c) (ap (first_vertex g b) ez ∙ sym s.here)
          ∙ sym (number-alike d two whole b z agree first c ez)

  -- the layer below, from the place `under` of the map on
  module _ (under : ℕ) (back : k.low.z < z → under ≡ k.dims.x * k.dims.y * z - k.dims.x * k.dims.y) where
    abbrev kept : Kept
    kept = record { map = take (k.dims.x * k.dims.y * z - under) (drop under mp); positions = take (3 * first - 3 * below) (drop (3 * below) ps); first = below }

    -- the layer y below z
    from : (y : ℕ) → k.low.z ≤ y → suc y ≡ z → (k.dims.x * k.dims.y * z ≡ k.dims.x * k.dims.y * y + k.dims.x * k.dims.y) × (under ≡ k.dims.x * k.dims.y * y)
    from y l e =
        let up : plane * z ≡ plane * y + plane = ap (λ (n : ℕ). plane * n) (sym e ∙ omega arith) ∙ mul-add plane y 1 ∙ ap (λ (n : ℕ). plane * y + n) (mul-one plane) in
        (up, omega (arith, back (omega arith)))

    pub below-long : {mu : List ℕ} → mu ≡ take (k.dims.x * k.dims.y * z - under) (drop under mp) → k.low.z < z → in_layer (point k.dims) (point k.high) < length mu
    below-long e h =
        let f = from (z - 1) (omega arith) (omega arith) in
        omega (
          arith,
          f.0,
          f.1,
          ap length e,
          corner-in sdf k i z zs,
          layer-end sdf k i z zs,
          length-take-le (plane * z - under) (drop under mp)
              (omega (arith, f.0, f.1, layer-end sdf k i z zs, length-drop under mp)),
        )

    right : Right g b first z kept
    right =
        record {
          numbers = numbers;
          positions = λ y l e. positions y l e;
          before = λ y l e. before y l e;
        }
      where
        pred : (y : ℕ) → suc y ≡ z → z - 1 ≡ y
        pred y e = omega arith

        numbers : (c : GridPoint) → T (is_cell b c) → suc c.z ≡ z → T (surface_cell g c) → get_or (take (plane * z - under) (drop under mp)) (in_layer d c) 0 ≡ vertex_number g b
            below c
        numbers c t e on =
            let w = cell-within b c t in
            let f = from c.z w.z.0 e in
            let at : under + in_layer d c ≡ index d c = omega (arith, f.1) in
            get_or-take (plane * z - under) (drop under mp) (in_layer d c) 0 (omega (arith, f.0, f.1, within-plane c t))
            ∙ get_or-drop under mp (in_layer d c) 0
            ∙ ap (λ (n : ℕ). get_or mp n 0) at
            ∙ number_of c t on (omega arith)
            ∙ ap (λ (n : ℕ). vertex_number g b n c) (sym (s.before ∙ ap (first_vertex g b) (pred c.z e)))

        exactly : (y : ℕ) → k.low.z ≤ y → suc y ≡ z → take (3 * first - 3 * below) (drop (3 * below) ps) ≡ flat_vectors (map (vertex_position g) (layer_vertices g b y))
        exactly y l e =
            let n : 3 * first - 3 * below ≡ 3 * (first - below) = omega arith in
            ap (λ (l : ℕ). take l (drop (3 * below) ps)) n ∙ s.under (omega arith) ∙ ap (λ (x : ℕ). flat_vectors (map (vertex_position g) (layer_vertices g b x))) (pred y e)

        positions : (y : ℕ) → k.low.z ≤ y → suc y ≡ z
            → take (3 * length (layer_vertices g b y)) (take (3 * first - 3 * below) (drop (3 * below) ps)) ≡ flat_vectors (map (vertex_position g) (layer_vertices g b y))
        positions y l e =
            let vs = layer_vertices g b y in
            ap (take (3 * length vs)) (exactly y l e) ∙ take_all (3 * length vs) (flat_vectors (map (vertex_position g) vs)) (omega (arith, length-vectors (vertex_position g) vs))

        before : (y : ℕ) → k.low.z ≤ y → suc y ≡ z → below ≡ first - length (layer_vertices g b y)
        before y l e = omega (arith, s.here, s.before ∙ ap (first_vertex g b) (pred y e), first_vertex-next g b y l, ap (first_vertex g b) e)

    -- the indices that are put are the rules'
    faces-are : indices_over (two_layers lower upper k z) (box_of k) (flags_of k) first z
        (record { map = take (k.dims.x * k.dims.y * z - under) (drop under mp); positions = take (3 * first - 3 * below) (drop (3 * below) ps); first = below })
        ≡ layer_indices (field_of sdf k) (box_of k) (flags_of k) first z
    faces-are = indices-are d two whole b m first z agree kept right

    pub faces-put : (is : List ℕ) (at : ℕ) {ix mu : List ℕ} {pu : List Float} → mu ≡ take (k.dims.x * k.dims.y * z - under) (drop under mp)
        → pu ≡ take (3 * first - 3 * below) (drop (3 * below) ps)
        → ix ≡ sets is at (indices_over (two_layers lower upper k z) (box_of k) (flags_of k) first z (record { map = mu; positions = pu; first = below }))
        → ix ≡ sets is at (layer_indices (field_of sdf k) (box_of k) (flags_of k) first z)
    faces-put is at {mu} {pu} map_is positions-are e =
        let given : Kept = record { map = mu; positions = pu; first = below } in
        let same : given ≡ kept = λ j. record { map = map_is j; positions = positions-are j; first = below } in
        e ∙ ap (λ (u : Kept). sets is at (indices_over (two_layers lower upper k z) (box_of k) (flags_of k) first z u)) same ∙ ap (sets is at) faces-are

  pub edges-count : 6 * length (layer_edges (two_layers lower upper k z) (box_of k) (flags_of k) z)
      ≡ length (layer_indices (field_of sdf k) (box_of k) (flags_of k) first z)
  edges-count = ap (λ (n : ℕ). 6 * n) (ap length (edges-alike d two whole b z agree m)) ∙ sym (layer-index-count g b m first z)

  pub count-put : {used : ℕ} → used ≡ 6 * length (layer_edges (two_layers lower upper k z) (box_of k) (flags_of k) z)
      → used ≡ length (layer_indices (field_of sdf k) (box_of k) (flags_of k) first z)
  count-put e = e ∙ edges-count
