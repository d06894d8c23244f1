-- The edges of a batch: all that an edge's quad is made of stands in its list, the quad is the edge's face by the rules, and the quads of the listed
-- edges are the faces of the batch. Assumes nothing.
use Rattle.std.proofs.Common.{◌≡◌, ℕ, ◌+◌, ◌*◌, ◌/◌, ◌%◌, ◌<◌, ◌≤◌, T, List, [], ◌∷◌, ◌++◌, map, length, get_or, sym, refl, ap, ◌∙◌, subst, arith}
use lib.Ieee.{Float}
use Rattle.lists.specs.Lists.{joined}
use Rattle.rules.specs.Grid.{GridPoint, Axis, Field, is_cell}
use Rattle.rules.specs.Vertices.{layer_vertices, vertex_position}
use Rattle.rules.specs.Faces.{edge, gives}
use Rattle.lists.proofs.Lists.{All, all-at, all_then, joined_same}
use Rattle.rules.proofs.Indexes.{small}
use Rattle.rules.proofs.FourCells.{four-on, gives-cell}
use Rattle.rules.proofs.Seen.{length-vectors}
use Rattle.grid.specs.declared.Block.{Block}
use Rattle.grid.specs.Block.{point, box_of, flags_of}
use Rattle.grid.specs.Layers.{in_layer, two_layers, InLayers}
use Rattle.layer_faces.specs.declared.Firsts.{Firsts}
use Rattle.layer_faces.specs.Below.{face_over, Standing}
use Rattle.layer_faces.specs.Quads.{cell_at, axis_of, edge_at, listed, quad_at, quad_by, Ready, some_edges}
use Rattle.layer_faces.specs.Filing.{Filed, AllReady}
use Rattle.layer_faces.proofs.Lookups.{kept_of, own-number}
use Rattle.layer_faces.proofs.Cells.{face-is}
use Rattle.layer_faces.proofs.Signs.{cell-at, sign-here, reached}
use Rattle.layer_faces.proofs.Listing.{listed-edges, listed-all}
use Rattle.layer_faces.proofs.Vertices.{length-cells, vertex-is}

-- ---- one edge

module _ {lower upper : List Float} {k : Block} {z : ℕ} (i : InLayers lower upper k z) (first : Firsts) (cs mp : List ℕ) (ps : List Float) (under : List ℕ) (kept : List Float)
    (h : Standing (two_layers lower upper k z) (box_of k) first.here z cs mp ps) (v : ℕ) (within : v < length (layer_vertices (two_layers lower upper k z) (box_of k) z))
    (a : Axis) (t : T (gives (two_layers lower upper k z) (box_of k) (flags_of k) (edge a (cell_at cs z v)))) where
  abbrev g : Field
  g = two_layers lower upper k z

  abbrev vs : List GridPoint
  vs = layer_vertices g (box_of k) z

  abbrev c : GridPoint
  c = cell_at cs z v

  is : c ≡ get_or vs v c
  is = vertex-is g (box_of k) z cs h.cells v within

  cell : T (is_cell (box_of k) c)
  cell = gives-cell g (box_of k) (flags_of k) (edge a c) t

  -- its number stands in the map
  number : first.here + v ≡ get_or mp (in_layer (point k.dims) c) 0
  number = ap (λ (n : ℕ). first.here + n) (sym (own-number g (box_of k) z v c within is)) ∙ sym (h.numbers c cell refl (four-on g (box_of k) (flags_of k) (edge a c) t).one)

  pub edge-ready : ((j : ℕ) → get_or mp j 0 < 4294967296) → (k.low.z < z → in_layer (point k.dims) (point k.high) < length under)
      → Ready lower k.dims.x first.here cs mp ps under v a
  edge-ready fits deep =
      let r = reached i c cell refl mp under h.holds deep a t in
      record {
        cell = omega (arith, length-cells g (box_of k) z cs h.cells);
        position = omega (arith, ap length h.positions, length-vectors (vertex_position g) vs);
        number = omega (arith, number, fits (in_layer (point k.dims) c));
        sign = omega (arith, cell-at i c cell refl, i.lower_holds);
        narrow = omega (arith, (small (point k.dims) i.dims).x);
        two = r.two;
        three = r.three;
        four = r.four;
      }

  pub edge-face : quad_at first mp ps under kept lower k.dims.x cs v a ≡ face_over (two_layers lower upper k z) (box_of k) first.here z (kept_of first under kept)
      (edge a (cell_at cs z v))
  edge-face = face-is g (box_of k) (flags_of k) z first cs mp ps under kept h v within is lower (sign-here i c cell refl) a t

-- ---- all edges of a batch

joined-map : {A B C : Type 0} (f : B → List C) (h : A → B) (l : List A) → joined (λ x. f (h x)) l ≡ joined f (map h l)
unfolding joined
joined-map f h [] = refl
joined-map f h (x ∷ xs) = ap (λ r. f (h x) ++ r) (joined-map f h xs)

module _ {lower upper : List Float} {k : Block} {z : ℕ} (i : InLayers lower upper k z) (first : Firsts) (cs mp : List ℕ) (ps : List Float) (under : List ℕ) (kept : List Float)
    (h : Standing (two_layers lower upper k z) (box_of k) first.here z cs mp ps) (from n : ℕ)
    (within : from + n ≤ length (layer_vertices (two_layers lower upper k z) (box_of k) z)) where
  abbrev field : Field
  field = two_layers lower upper k z

  abbrev Listed : ℕ → Type 0
  Listed e = (e < 3 * n) × T (gives field (box_of k) (flags_of k) (edge_at cs z from e))

  abbrev codes : List ℕ
  codes = listed field (box_of k) (flags_of k) cs z from (3 * n)

  all : All Listed codes
  all = listed-all field (box_of k) (flags_of k) z from n cs within (vertex-is field (box_of k) z cs h.cells)

  vertex-within : (e : ℕ) → Listed e → from + e / 3 < length (layer_vertices field (box_of k) z)
  vertex-within e p = let low = p.0 in omega arith

  module _ (fits : (j : ℕ) → get_or mp j 0 < 4294967296) (deep : k.low.z < z → in_layer (point k.dims) (point k.high) < length under) where
    abbrev Fit : ℕ → Axis → Type 0
    Fit v a = Ready lower k.dims.x first.here cs mp ps under v a

    -- the r-th edge of the list
    ready : (r : ℕ) → r < length codes → Fit (from + get_or codes r 0 / 3) (axis_of (get_or codes r 0 % 3))
    ready r low =
        let e = get_or codes r 0 in
        let p : Listed e = all-at all r low 0 in
        edge-ready i first cs mp ps under kept h (from + e / 3) (vertex-within e p) (axis_of (e % 3)) p.1 fits deep

    -- the entries of one axis
    module _ {who rank : List ℕ} {axis count : ℕ} (three : axis < 3)
        (f : Filed (listed (two_layers lower upper k z) (box_of k) (flags_of k) cs z from (3 * n)) who rank axis count) where
      entry : (q : ℕ) → q < count → Fit (from + get_or who (32 * axis + q) 0) (axis_of axis)
      entry q low =
          let p = f.each q low in
          let e = get_or codes (get_or rank (32 * axis + q) 0) 0 in
          let vertex : from + e / 3 ≡ from + get_or who (32 * axis + q) 0 = omega (arith, p.is) in
          let along : e % 3 ≡ axis = omega (arith, p.is) in
          subst (λ (a : ℕ). Fit (from + get_or who (32 * axis + q) 0) (axis_of a)) along
          (subst (λ (v : ℕ). Fit v (axis_of (e % 3))) vertex (ready (get_or rank (32 * axis + q) 0) p.within))

      pub batch-along : (at indices : ℕ)
          → at + 6 * length (listed (two_layers lower upper k z) (box_of k) (flags_of k) cs z from (3 * n)) ≤ indices
          → AllReady lower k.dims.x first.here cs mp ps under who rank from axis count at indices
      batch-along at indices room =
          record {
            narrow = omega (arith, (small (point k.dims) i.dims).x);
            entries = omega (arith, f.few);
            each = entry;
            room = λ q low. omega (arith, (f.each q low).within);
          }

  pub batch-faces : joined (quad_by first mp ps under kept lower k.dims.x cs from)
      (listed (two_layers lower upper k z) (box_of k) (flags_of k) cs z from (3 * n))
      ≡ joined (face_over (two_layers lower upper k z) (box_of k) first.here z (kept_of first under kept)) (some_edges (two_layers lower upper k z) (box_of k) (flags_of k) z from n)
  batch-faces =
      let F = face_over field (box_of k) first.here z (kept_of first under kept) in
      joined_same (all_then (λ e p. edge-face i first cs mp ps under kept h (from + e / 3) (vertex-within e p) (axis_of (e % 3)) p.1) all)
      ∙ joined-map F (edge_at cs z from) (listed field (box_of k) (flags_of k) cs z from (3 * n))
      ∙ ap (joined F) (listed-edges field (box_of k) (flags_of k) z from n cs within (vertex-is field (box_of k) z cs h.cells))
