-- What the two halves of a layer of cells are lent from kept memory, and what they leave of it and of the lists lent for output. Assumes nothing.
use Prim.Native.Nat.{ℕ, ◌+◌, ◌-◌, ◌*◌, ◌%◌, ◌≤◌, ◌<◌}
use native.Mathlib.Nat.{zero-add}
use native.Mathlib.Omega.{arith}
use mathlib.Core.Bool.{Bool, cond}
use mathlib.Core.List.{List, ◌++◌, map}
use mathlib.Core.Path.{◌≡◌, refl, sym, ap, ap₂, subst, ◌∙◌}
use borrow.Author.Tests.{eq-eqb, ne_eqb}
use lib.Dec.{T}
use lib.Ieee.{Float}
use lib.Ieee.Bits.{is_true}
use lib.ListN.{length, get_or, take, drop}
use lib.Seq.{sets, length-sets, length-take-le}
use Rattle.lists.specs.Lists.{placed}
use Rattle.rules.specs.Grid.{GridPoint, Box, Field, is_cell, in_box}
use Rattle.rules.specs.Vertices.{surface_cell, layer_vertices, vertex_position, vertex_number, null_vertex, edge_entry}
use Rattle.rules.specs.Faces.{layer_edges}
use Rattle.rules.specs.Call.{flat_vectors, flat_points}
use Rattle.lists.proofs.Lists.{length-placed, get_d-placed}
use Rattle.rules.proofs.Seen.{length-points, length-vectors}
use Rattle.rules.proofs.Indexes.{BoxFits, box-fits, cell-within}
use Rattle.grid.specs.declared.Block.{Block}
use Rattle.grid.specs.Block.{point, box_of, flags_of}
use Rattle.grid.specs.Layers.{in_layer, two_layers, InLayers}
use Rattle.grid.proofs.Layers.{in-plane}
use Rattle.layer_vertices.specs.declared.Next.{Next}
use Rattle.layer_vertices.specs.Marked.{Lists, lists, marked, cell_number, layer_entry, last_entry, Room, InPart}
use Rattle.layer_vertices.proofs.Entries.{place-back}
use Rattle.layer_faces.specs.Below.{indices_over, Standing}
use Rattle.layers.specs.declared.State.{State}
use Rattle.layers.specs.Memory.{Memory, memory, plane, half_of, put_half}
use Rattle.layers.specs.Offer.{Output, output, with_indices, Left, left, before, cells_at, between, new_vertices, new_first, new_indices, new_lists, with_half}
use Rattle.layers.specs.Offer.{put_back, marked_out, brought_out, cleared}
use Rattle.layers.specs.Ready.{Ready}
use Rattle.layers.proofs.Halves.{sets-front, part-stored, half_length, half-here, half-apart}
use Rattle.layers.proofs.Cells.{vertices-later, indices-later, corner-low, in-layers, half_is, half-read, half-end}

-- ---- an entry of a cell

pub entry-number : (g : Field) (b : Box) (z first : ℕ) (c : GridPoint) (old : ℕ) → c.x < g.dims.x → c.z ≡ z → T (is_cell b c) → T (surface_cell g c)
    → layer_entry g b z first (in_layer g.dims c) old ≡ vertex_number g b first c
unfolding layer_entry
entry-number g b z first c old h e t on =
    ap (λ (p : GridPoint). cond (is_cell b p) (cell_number g b first p) (cond (in_box b p) edge_entry old)) (place-back g.dims z c h e)
    ∙ ap (λ (s : Bool). cond s (cell_number g b first c) (cond (in_box b c) edge_entry old)) (is_true (is_cell b c) t)
    ∙ ap (λ (s : Bool). cond s (vertex_number g b first c) null_vertex) (is_true (surface_cell g c) on)

-- ---- what the vertices are lent, and leave

-- room is said of lists of any map
pub room_of : {next : Next} {n n' : ℕ} {p m : List Float} {c st cr mp mp' : List ℕ} → n ≡ n' → Room next n (lists p m c st cr mp) → Room next n' (lists p m c st cr mp')
room_of e r =
    record {
      positions = omega (arith, r.positions);
      normals = omega (arith, r.normals);
      cells = omega (arith, r.cells);
      strides = omega (arith, r.strides);
      crossings = omega (arith, r.crossings);
      numbers = omega (arith, r.numbers);
    }

module _ {s : State} {layer distances : List Float} (r : Ready s layer distances) (later : 0 < s.taken) {lower : List Float}
    (lower-is : lower ≡ half_of s.block (before s) distances) where
  abbrev k : Block
  k = s.block

  abbrev b : Box
  b = box_of s.block

  abbrev z : ℕ
  z = cells_at s

  pub lower-layers : InLayers lower layer s.block (cells_at s)
  lower-layers = subst (λ (lower : List Float). InLayers lower layer k z) (sym lower-is) (in-layers r later)

  pub vertices-lent : length (new_vertices s layer distances)
      ≡ length (layer_vertices (two_layers lower layer s.block (cells_at s)) (box_of s.block) (cells_at s))
  vertices-lent = ap length (vertices-later s layer distances later) ∙ ap (λ (lower : List Float). length (layer_vertices (two_layers lower layer k z) b z)) (sym lower-is)

  pub count-lent : {count : ℕ}
      → count ≡ length (layer_vertices (two_layers lower layer s.block (cells_at s)) (box_of s.block) (cells_at s))
      → count ≡ length (new_vertices s layer distances)
  count-lent e = e ∙ sym vertices-lent

  -- from the place of the lower layer's half on
  module _ {at : ℕ} (ea : at ≡ length layer * (before s % 2)) where
    pub map-corner : (mp : List ℕ) → 2 * plane s.block ≤ length mp
        → in_layer (point s.block.dims) (point s.block.high) < length (take (at + length layer - at) (drop at mp))
    map-corner mp long = omega (arith, corner-low r, ap length (half-read k (before s) mp r.offered.long ea) ∙ half_length k (before s) mp long)

    pub marked-put : (p₀ n₀ : List Float) (c₀ st₀ cr₀ mp : List ℕ) {number : ℕ} → number ≡ new_first s layer distances → 2 * plane s.block ≤ length mp
        → {p n : List Float} {c st cr q : List ℕ}
        → lists p n c st cr q ≡ marked (two_layers lower layer s.block (cells_at s)) (box_of s.block) (cells_at s)
        (record { place = 0; number = number })
        (lists p₀ n₀ c₀ st₀ cr₀ (take (at + length layer - at) (drop at mp)))
        → lists p n c st cr (take at mp ++ (q ++ drop (at + length layer - at) (drop at mp)))
        ≡ put_back s mp (new_lists s layer distances (lists p₀ n₀ c₀ st₀ cr₀ (half_of s.block (before s) mp)))
    unfolding marked
    marked-put p₀ n₀ c₀ st₀ cr₀ mp {number} en long {p} {n} {c} {st} {cr} {q} e =
        let part = take (at + length layer - at) (drop at mp) in
        let whole = half_of k (before s) mp in
        let g = between s layer distances in
        let L = new_lists s layer distances (lists p₀ n₀ c₀ st₀ cr₀ whole) in
        let same : lists p n c st cr q ≡ L =
        e ∙ ap (λ (lower : List Float). marked (two_layers lower layer k z) b z (record { place = 0; number = number }) (lists p₀ n₀ c₀ st₀ cr₀ part)) lower-is
        ∙ ap (λ (m : ℕ). marked g b z (record { place = 0; number = m }) (lists p₀ n₀ c₀ st₀ cr₀ part)) en
        ∙ ap (λ (l : List ℕ). new_lists s layer distances (lists p₀ n₀ c₀ st₀ cr₀ l)) (half-read k (before s) mp r.offered.long ea) in
        let size : length L.map ≡ plane k = length-placed (layer_entry g b z (new_first s layer distances)) 0 whole ∙ half_length k (before s) mp long in
        let stored : take at mp ++ (L.map ++ drop (at + length layer - at) (drop at mp)) ≡ put_half k (before s) L.map mp =
        part-stored mp L.map at (omega (arith, half-end k (before s) r.offered.long ea, r.offered.long)) (at + length layer) (omega (arith, r.offered.long))
        ∙ ap (λ (a : ℕ). sets mp a L.map) (half_is k (before s) r.offered.long ea) in
        ap (λ (l : Lists). lists l.positions l.normals l.cells l.strides l.crossings (take at mp ++ (l.map ++ drop (at + length layer - at) (drop at mp)))) same
        ∙ ap (λ (l : List ℕ). lists L.positions L.normals L.cells L.strides L.crossings l) stored

  -- ---- what the faces are lent, and leave

  pub standing-lent : (mp : List ℕ) {mp' : List ℕ} → mp' ≡ half_of s.block (before s) mp → {first : ℕ} {cs : List ℕ} {ps : List Float}
      → Standing (between s layer distances) (box_of s.block) first (cells_at s) cs (half_of s.block (before s) mp) ps
      → Standing (two_layers lower layer s.block (cells_at s)) (box_of s.block) first (cells_at s) cs mp' ps
  standing-lent mp {mp'} e {first} {cs} {ps} h =
      subst (λ (l : List Float). Standing (two_layers l layer k z) b first z cs mp' ps) (sym lower-is)
      (subst (λ (l : List ℕ). Standing (between s layer distances) b first z cs l ps) (sym e) h)

  edges_lent : 6 * length (layer_edges (two_layers lower layer s.block (cells_at s)) (box_of s.block) (flags_of s.block)
      (cells_at s))
      ≡ 6 * length (layer_edges (between s layer distances) (box_of s.block) (flags_of s.block) (cells_at s))
  edges_lent = ap (λ (lower : List Float). 6 * length (layer_edges (two_layers lower layer k z) b (flags_of k) z)) lower-is

  pub edges_fit : {n : ℕ} → 6 * length (layer_edges (between s layer distances) (box_of s.block) (flags_of s.block) (cells_at s)) ≤ n
      → 0 + 6 * length (layer_edges (two_layers lower layer s.block (cells_at s)) (box_of s.block) (flags_of s.block)
      (cells_at s)) ≤ n
  edges_fit h = omega (arith, edges_lent, h)

  -- the half below
  module _ (mp : List ℕ) {mu : List ℕ} (eu : mu ≡ half_of s.block s.taken mp) where
    pub faces-put : (first below : ℕ) (kept : List Float) (ix₀ : List ℕ) {ix : List ℕ}
        → ix ≡ sets ix₀ 0 (indices_over (two_layers lower layer s.block (cells_at s)) (box_of s.block) (flags_of s.block) first (cells_at s)
        (record { map = mu; positions = kept; first = below }))
        → ix ≡ sets ix₀ 0 (indices_over (between s layer distances) (box_of s.block) (flags_of s.block) first (cells_at s)
        (record { map = half_of s.block s.taken mp; positions = kept; first = below }))
    faces-put first below kept ix₀ e =
        e ∙ ap₂ (λ (f : List Float) (l : List ℕ). sets ix₀ 0
        (indices_over (two_layers f layer k z) b (flags_of k) first z (record { map = l; positions = kept; first = below }))) lower-is eu

-- ---- the layer offered, in its half of the map

module _ {s : State} {layer distances : List Float} (r : Ready s layer distances) (mp : List ℕ) (long : 2 * plane s.block ≤ length mp) {at : ℕ}
    (ea : at ≡ length layer * (s.taken % 2)) where
  pub part-lent : InPart (take (at + length layer - at) (drop at mp)) s.block
  part-lent =
      record {
        dims = r.offered.dims;
        box = r.offered.box;
        holds = omega (arith, corner-low r, ap length (half-read s.block s.taken mp r.offered.long ea) ∙ half_length s.block s.taken mp long);
      }

  pub cleared-put : {q : List ℕ} → q ≡ placed (last_entry (point s.block.dims) (box_of s.block)) 0 (take (at + length layer - at) (drop at mp))
      → take at mp ++ (q ++ drop (at + length layer - at) (drop at mp)) ≡ cleared s.block s.taken mp
  cleared-put {q} e =
      let k = s.block in
      let entry = last_entry (point k.dims) (box_of k) in
      let same : q ≡ placed entry 0 (half_of k s.taken mp) = e ∙ ap (placed entry 0) (half-read k s.taken mp r.offered.long ea) in
      let size : length q ≡ length layer = ap length same ∙ length-placed entry 0 (half_of k s.taken mp) ∙ half_length k s.taken mp long ∙ sym r.offered.long in
      part-stored mp q at (omega (arith, half-end k s.taken r.offered.long ea)) (at + length layer) (omega arith)
      ∙ ap₂ (λ (a : ℕ) (l : List ℕ). sets mp a l) (half_is k s.taken r.offered.long ea) same

-- ---- and in its half of the kept distances

pub layer-put : {s : State} {layer distances : List Float} (r : Ready s layer distances) {at : ℕ} → at ≡ length layer * (s.taken % 2) → {new : List Float} → new ≡ layer
    → take at distances ++ (new ++ drop (at + length layer - at) (drop at distances)) ≡ put_half s.block s.taken layer distances
layer-put {s} {layer} {distances} r {at} ea e =
    let k = s.block in
    ap (λ (l : List Float). take at distances ++ (l ++ drop (at + length layer - at) (drop at distances))) e
    ∙ part-stored distances layer at (omega (arith, half-end k s.taken r.offered.long ea, r.kept)) (at + length layer) refl
    ∙ ap (λ (a : ℕ). sets distances a layer) (half_is k s.taken r.offered.long ea)

-- ---- what a layer after the first brings out

pub brought-is : (s : State) (layer : List Float) (m : Memory) (o : Output) → 0 < s.taken → brought_out s layer m o
    ≡ left (memory m.distances (marked_out s layer m o).map
    (sets m.positions 0 (flat_vectors (map (vertex_position (between s layer m.distances)) (new_vertices s layer m.distances)))))
    (with_indices (marked_out s layer m o) (sets o.indices 0 (new_indices s layer m)))
unfolding brought_out
brought-is s layer m o h = rw (ne_eqb s.taken 0 (λ e. omega arith))

-- ---- a layer of cells, from its two halves

pub record MarkedNew (s : State) (layer distances : List Float) (o : Output) (mp : List ℕ) : Type 0 where
  pub ready : Ready s layer distances
  pub later : 0 < s.taken
  pub long : 2 * plane s.block ≤ length mp
  pub cells : 3 * length (new_vertices s layer distances) ≤ length o.cells
  pub positions : 3 * length (new_vertices s layer distances) ≤ length o.positions

module _ {s : State} {layer distances : List Float} {o : Output} {mp₀ : List ℕ} (w : MarkedNew s layer distances o mp₀) {p n : List Float} {c st cr mp : List ℕ}
    (e : lists p n c st cr mp ≡ put_back s mp₀ (new_lists s layer distances (with_half s mp₀ o))) where
  r : Ready s layer distances
  r = w.ready

  later : 0 < s.taken
  later = w.later

  long : 2 * plane s.block ≤ length mp₀
  long = w.long

  abbrev g : Field
  g = between s layer distances

  abbrev vs : List GridPoint
  vs = layer_vertices (between s layer distances) (box_of s.block) (cells_at s)

  abbrev new : List ℕ
  new = placed (layer_entry (between s layer distances) (box_of s.block) (cells_at s) (new_first s layer distances)) 0 (half_of s.block (before s) mp₀)

  new-long : length new ≡ plane s.block
  new-long = length-placed (layer_entry g (box_of s.block) (cells_at s) (new_first s layer distances)) 0 (half_of s.block (before s) mp₀)
      ∙ half_length s.block (before s) mp₀ long

  map_is : mp ≡ put_half s.block (before s) new mp₀
  unfolding marked
  map_is = ap (λ (l : Lists). l.map) e

  count : length (new_vertices s layer distances) ≡ length vs
  count = ap length (vertices-later s layer distances later)

  pub map-long : 2 * plane s.block ≤ length mp
  map-long = omega (arith, ap length map_is ∙ length-sets mp₀ _ new)

  pub positions-hold : {m : ℕ} → m ≡ length (new_vertices s layer distances) → 3 * m ≤ length p
  unfolding marked
  positions-hold h = omega (arith, w.positions, ap (λ (l : Lists). length l.positions) e ∙ length-sets o.positions _ (flat_vectors (map (vertex_position g) vs)))

  pub positions-part : {m : ℕ} → m ≡ length (new_vertices s layer distances) → 3 * m ≡ length (take (3 * m) p)
  positions-part {m} h = sym (length-take-le (3 * m) p (positions-hold h))

  cells_are : {m : ℕ} → m ≡ length (new_vertices s layer distances) → take (3 * m) c ≡ flat_points vs
  unfolding marked
  cells_are {m} h =
      ap (λ (l : Lists). take (3 * m) l.cells) e
      ∙ sets-front o.cells (flat_points vs) (omega (arith, w.cells, count, length-points vs)) (3 * m) (omega (arith, count, length-points vs))

  pub positions-are : {m : ℕ} → m ≡ length (new_vertices s layer distances)
      → take (3 * m) p ≡ flat_vectors (map (vertex_position (between s layer distances)) (layer_vertices (between s layer distances) (box_of s.block) (cells_at s)))
  unfolding marked
  positions-are {m} h =
      ap (λ (l : Lists). take (3 * m) l.positions) e
      ∙ sets-front o.positions (flat_vectors (map (vertex_position g) vs)) (omega (arith, w.positions, count, length-vectors (vertex_position g) vs)) (3 * m)
      (omega (arith, count, length-vectors (vertex_position g) vs))

  half-new : half_of s.block (before s) mp ≡ new
  half-new = ap (half_of s.block (before s)) map_is ∙ half-here s.block (before s) mp₀ long new new-long

  numbers : (q : GridPoint) → T (is_cell (box_of s.block) q) → q.z ≡ cells_at s → T (surface_cell g q)
      → get_or (half_of s.block (before s) mp) (in_layer (point s.block.dims) q) 0 ≡ vertex_number g (box_of s.block) (new_first s layer distances) q
  numbers q t ez on =
      let d = point s.block.dims in
      let f : BoxFits d (box_of s.block) = box-fits d (box_of s.block) r.offered.box in
      let w = cell-within (box_of s.block) q t in
      let j = in_layer d q in
      let old = half_of s.block (before s) mp₀ in
      let entry = layer_entry g (box_of s.block) (cells_at s) (new_first s layer distances) in
      let inside : j < plane s.block = in-plane d q (omega arith) (omega arith) in
      ap (λ (l : List ℕ). get_or l j 0) half-new
      ∙ get_d-placed entry 0 old j 0 (omega (arith, half_length s.block (before s) mp₀ long))
      ∙ ap (λ (i : ℕ). entry i (get_or old j 0)) (zero-add j)
      ∙ entry-number g (box_of s.block) (cells_at s) (new_first s layer distances) q (get_or old j 0) (omega arith) ez t on

  pub stands-new : {number m : ℕ} → number ≡ new_first s layer distances → m ≡ length (new_vertices s layer distances)
      → Standing (between s layer distances) (box_of s.block) number (cells_at s) (take (3 * m) c) (half_of s.block (before s) mp) (take (3 * m) p)
  stands-new {number} {m} en em =
      subst (λ (i : ℕ). Standing g (box_of s.block) i (cells_at s) (take (3 * m) c) (half_of s.block (before s) mp) (take (3 * m) p)) (sym en)
      (record {
        cells = cells_are em;
        positions = positions-are em;
        numbers = numbers;
        holds = omega (arith, corner-low r, half_length s.block (before s) mp map-long);
      })

  -- the part of the map below stays while the layer's is written
  below_stays : half_of s.block s.taken mp ≡ half_of s.block s.taken mp₀
  below_stays =
      let up : before s + 1 ≡ s.taken = omega arith in
      ap (half_of s.block s.taken) map_is
      ∙ ap (λ (t : ℕ). half_of s.block t (put_half s.block (before s) new mp₀)) (sym up)
      ∙ half-apart s.block (before s) mp₀ long new new-long
      ∙ ap (λ (t : ℕ). half_of s.block t mp₀) up

  pub brought-later : {number m : ℕ} → number ≡ new_first s layer distances → m ≡ length (new_vertices s layer distances) → (kept₀ : List Float) {kept : List Float} {ix : List ℕ}
      → ix ≡ sets o.indices 0 (indices_over (between s layer distances) (box_of s.block) (flags_of s.block) number (cells_at s)
      (record { map = half_of s.block s.taken mp; positions = kept₀; first = s.first }))
      → kept ≡ sets kept₀ 0 (take (3 * m) p)
      → left (memory distances mp kept) (output p n c st cr ix) ≡ brought_out s layer (memory distances mp₀ kept₀) o
  unfolding marked_out
  brought-later {number} {m} en em kept₀ {kept} {ix} ei ek =
      let M = memory distances mp₀ kept₀ in
      let faces : ix ≡ sets o.indices 0 (new_indices s layer M) =
      ei ∙ ap₂ (λ (i : ℕ) (l : List ℕ). sets o.indices 0
      (indices_over g (box_of s.block) (flags_of s.block) i (cells_at s) (record { map = l; positions = kept₀; first = s.first }))) en below_stays
      ∙ ap (sets o.indices 0) (sym (indices-later s layer M later)) in
      let keeps : kept ≡ sets kept₀ 0 (flat_vectors (map (vertex_position g) (new_vertices s layer distances))) =
      ek ∙ ap (sets kept₀ 0) (positions-are em)
      ∙ ap (λ (l : List GridPoint). sets kept₀ 0 (flat_vectors (map (vertex_position g) l))) (sym (vertices-later s layer distances later)) in
      let whole : Lists → List Float → List ℕ → Left = λ l a i. left (memory distances l.map a) (with_indices l i) in
      (λ j. whole (e j) (keeps j) (faces j))
      ∙ sym (brought-is s layer M o later)

pub brought-first : (s : State) (layer distances : List Float) (mp : List ℕ) (kept : List Float) (o : Output) → s.taken ≡ 0
    → left (memory distances mp kept) o ≡ brought_out s layer (memory distances mp kept) o
unfolding brought_out marked_out
brought-first s layer distances mp kept o e = rw (eq-eqb s.taken 0 e)
