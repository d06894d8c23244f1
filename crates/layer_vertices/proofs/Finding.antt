-- A row of a layer, classed into its own entries of the map and then numbered, leaves what passing its points does, cells and the last, whatever stood
-- there before. And a layer as a whole: what is listed of its cells can be lent for their vertices, and with these the lists are what the rules say.
-- Assumes nothing.
use Prim.Native.Nat.{ℕ, ◌+◌, ◌-◌, ◌*◌, ◌≤◌, ◌<◌}
use native.Mathlib.Nat.{mul-add, mul-one}
use native.Mathlib.Omega.{arith}
use mathlib.Core.Bool.{Bool, true, false}
use mathlib.Core.List.{List, [], ◌∷◌, ◌++◌, map, append_assoc}
use mathlib.Core.Logic.{inl, inr}
use mathlib.Core.Path.{◌≡◌, refl, sym, ap, subst, ◌∙◌}
use lib.Ieee.{Float}
use lib.ListN.{length, get_or, set, take, drop, length-append, length-set, length-map}
use lib.Seq.{sets, sets-eq, length-sets, length-take-le, take_at, drop_at, get_or-set_same, get_or-set_other}
use Rattle.lists.specs.Lists.{up_to}
use Rattle.rules.specs.Grid.{GridPoint, Box, Field}
use Rattle.rules.specs.Cell.{surface}
use Rattle.rules.specs.Vertices.{row_cells, layer_vertices, vertex_position, vertex_normal, vertex_crossings, null_vertex}
use Rattle.rules.specs.Call.{flat_vectors, flat_points}
use Rattle.lists.proofs.Tests.{is_false, one_of, less-or-not}
use Rattle.lists.proofs.Lists.{All}
use Rattle.rules.proofs.Indexes.{is-cell}
use Rattle.rules.proofs.Seen.{length-points}
use Rattle.grid.specs.declared.Block.{Block}
use Rattle.grid.specs.Block.{point, box_of}
use Rattle.grid.specs.Layers.{in_layer, two_layers}
use Rattle.grid.specs.Signs.{surface_at}
use Rattle.grid.proofs.Bounds.{few}
use Rattle.grid.proofs.Layers.{in-plane, in_order, values-between, layers-fit, plane-small}
use Rattle.grid.proofs.LayerWalks.{Row}
use Rattle.grid.proofs.Order.{length-up_to}
use Rattle.layer_vertices.specs.declared.Next.{Next}
use Rattle.layer_vertices.specs.Marked.{Lists, lists, marked}
use Rattle.layer_vertices.specs.Cells.{
  Finds,
  finds,
  RoomToFind,
  points_of,
  has_vertex,
  blanked,
  passed,
  found,
  Passes,
  layer_found,
  class_of,
  classes,
  is_mark,
  marked_in,
  onward,
  run_of,
  Numbering,
  Numbered,
}
use Rattle.layer_vertices.proofs.Points.{has-cell, side-x}
use Rattle.layer_vertices.proofs.Passing.{passes_none, passes-cleared, passes-as, passes-by, found-same, found_part}
use Rattle.row_signs.specs.Signs.{row_start}
use Rattle.row_signs.proofs.Stores.{stores-on, stored_at}
use Rattle.row_signs.proofs.OneSign.{OneSign, no_cell}
use Rattle.layer_vertices.proofs.Clearing.{row-blank}
use Rattle.layer_vertices.proofs.Rows.{run-split, run-each, passed_over}
use Rattle.layer_vertices.proofs.Numbering.{numbered-past}

-- ---- where a row ends

-- the row's last corners lie in the two layers, and its last point in the layer's part of the map
pub record Reach (lower upper : List Float) (k : Block) (at n : ℕ) : Type 0 where
  pub in-lower : at + n + k.dims.x < length lower
  pub in-upper : at + n + k.dims.x < length upper
  pub in-part : at + n ≤ in_layer (point k.dims) (point k.high)
  pub few : at + n + k.dims.x < 1073741824

pub reach : {lower upper : List Float} {k : Block} {y z at n : ℕ} → Row lower upper k y z → at ≡ k.low.x + k.dims.x * y → n ≡ k.high.x - k.low.x
    → Reach lower upper k at n
reach {lower} {upper} {k} {y} {z} {at} {n} r e en =
    let d = point k.dims in
    let i = r.layers in
    let f = layers-fit i in
    let ys = r.along-y in
    let far : GridPoint = record { x = k.high.x; y = y + 1; z = z } in
    let place : at + n + d.x ≡ in_layer d far = omega (arith, mul-add d.x y 1, mul-one d.x) in
    let before = in_order d far (point k.high) (omega arith) (omega arith) in
    record {
      in-lower = omega (arith, i.lower_holds);
      in-upper = omega (arith, i.upper_holds);
      in-part = omega arith;
      few = omega (arith, in-plane d (point k.high) f.x.1 f.y.1, plane-small i);
    }

-- ---- the points of a row

row-points : {lower upper : List Float} {k : Block} {y z n : ℕ} → Row lower upper k y z → n ≡ k.high.x - k.low.x
    → row_cells (points_of (box_of k)) z y ≡ run_of (record { x = k.low.x; y = y; z = z }) (n + 1)
unfolding row_cells run_of
row-points {k = k} {y} {z} {n} r en =
    let f = layers-fit r.layers in
    let far : k.high.x + 1 ≡ k.low.x + (n + 1) = omega arith in
    ap (λ (x : ℕ). map (λ (x' : ℕ). record { x = x'; y = y; z = z }) (up_to k.low.x x)) far

module _ {lower upper : List Float} {k : Block} {y z at n : ℕ} (r : Row lower upper k y z) (e : at ≡ k.low.x + k.dims.x * y) (en : n ≡ k.high.x - k.low.x) where
  -- a cell of the row has a vertex exactly if it is a surface cell
  cell-has : (j : ℕ) → j < n → has_vertex (two_layers lower upper k z) (box_of k) (onward (record { x = k.low.x; y = y; z = z }) j) ≡ surface_at lower upper at k.dims.x j
  cell-has j m =
      let f = layers-fit r.layers in
      let ys = r.along-y in
      let g = two_layers lower upper k z in
      let p : GridPoint = onward (record { x = k.low.x; y = y; z = z }) j in
      has-cell g (box_of k) p (is-cell (box_of k) p (record { x = omega arith; y = r.along-y; z = r.layers.here }))
      ∙ ap surface (values-between lower upper k z p refl (omega arith) (omega arith) (at + j) k.dims.x (omega arith) refl)

-- a row of one sign has no vertex: its entries are cleared, and nothing else
pub one-sign-passes : {sign : Bool} {lower upper : List Float} {k : Block} {y z : ℕ} (r : Row lower upper k y z) → OneSign sign lower upper k y
    → {next : Next} {cs st mp mp' : List ℕ} → mp' ≡ blanked (point k.dims) (box_of k) y mp
    → Passes (point k.dims) (has_vertex (two_layers lower upper k z) (box_of k)) next (finds cs st mp) (row_cells (points_of (box_of k)) z y) next (finds cs st mp')
one-sign-passes {lower = lower} {upper} {k} {y} {z} r o {mp = mp} blank =
    passes-cleared (passes_none refl) (row_cells (points_of b) z y) bare (blank ∙ row-blank (point k.dims) b z y mp (layers-fit r.layers).x.0) refl
  where
    b : Box
    b = box_of k

    g : Field
    g = two_layers lower upper k z

    c : GridPoint
    c = record { x = k.low.x; y = y; z = z }

    n : ℕ
    n = k.high.x - k.low.x

    cell : (j : ℕ) → j < n → has_vertex g b (onward c j) ≡ false
    cell j m =
        cell-has r refl refl j m
        ∙ is_false (surface_at lower upper (row_start k y) k.dims.x j)
        (λ t. omega (arith, no_cell o j m, one_of (surface_at lower upper (row_start k y) k.dims.x j) t))

    last : (j : ℕ) → j < n + 1 → n ≤ j → has_vertex g b (onward c j) ≡ false
    last j h m = let f = layers-fit r.layers in side-x g b (onward c j) (omega arith)

    bare : All (λ p. has_vertex g b p ≡ false) (row_cells (points_of b) z y)
    bare =
        subst (All (λ p. has_vertex g b p ≡ false)) (sym (row-points r refl))
        (run-each {P = λ (p : GridPoint). has_vertex g b p ≡ false} c (n + 1) (λ j h. elim (less-or-not j n) [ inl m ↦ cell j m | inr m ↦ last j h m ]))

-- ---- a row, classed

mark-class : (t : Bool) → is_mark (class_of t) ≡ t
mark-class true = refl
mark-class false = refl

module _ {lower upper : List Float} {k : Block} {y z at n : ℕ} (r : Row lower upper k y z) (e : at ≡ k.low.x + k.dims.x * y) (en : n ≡ k.high.x - k.low.x)
    (mp : List ℕ) {cm : List ℕ} (ec : cm ≡ sets mp at (classes lower upper at k.dims.x n)) (long : at + n < length mp) where
  abbrev d : GridPoint
  d = point k.dims

  abbrev b : Box
  b = box_of k

  abbrev g : Field
  g = two_layers lower upper k z

  abbrev c : GridPoint
  c = record { x = k.low.x; y = y; z = z }

  -- the map once the row is classed, and its last point cleared
  abbrev classed : List ℕ
  classed = set cm (at + n) null_vertex

  abbrev class-at : ℕ → ℕ
  class-at j = class_of (surface_at lower upper at k.dims.x j)

  pub classed-length : length cm ≡ length mp
  classed-length = ap length ec ∙ length-sets mp at (classes lower upper at k.dims.x n)

  -- a point is marked exactly if it has a vertex
  mark-at : (j : ℕ) → j < n + 1 → marked_in d classed (onward c j) ≡ has_vertex g b (onward c j)
  mark-at j h =
      let there : k.low.x + j + k.dims.x * y ≡ at + j = omega arith in
      ap (λ (i : ℕ). is_mark (get_or classed i 0)) there ∙ elim (less-or-not j n) [ inl m ↦ cell m | inr m ↦ last m ]
    where
      p : GridPoint
      p = onward c j

      cell : j < n → is_mark (get_or classed (at + j) 0) ≡ has_vertex g b p
      cell m =
          ap is_mark
          (get_or-set_other cm (at + n) (at + j) null_vertex 0 (λ w. omega arith)
          ∙ ap (λ (l : List ℕ). get_or l (at + j) 0) ec
          ∙ stored_at class-at mp at n j 0 m (omega arith))
          ∙ mark-class (surface_at lower upper at k.dims.x j)
          ∙ sym (cell-has r e en j m)

      last : n ≤ j → is_mark (get_or classed (at + j) 0) ≡ has_vertex g b p
      last m =
          let f = layers-fit r.layers in
          let same : j ≡ n = omega arith in
          ap (λ (i : ℕ). is_mark (get_or classed (at + i) 0)) same
          ∙ ap is_mark (get_or-set_same cm (at + n) null_vertex 0 (omega (arith, classed-length)))
          ∙ sym (side-x g b p (omega arith))

  module _ {next : Next} {cs st : List ℕ} where
    -- what numbering the row asks
    pub row-asks : RoomToFind next (found (has_vertex (two_layers lower upper k z) (box_of k)) (row_cells (points_of (box_of k)) z y)) (finds cs st mp)
        → Numbering (point k.dims) (record { x = k.low.x; y = y; z = z }) at n next (finds cs st (set cm (at + n) null_vertex))
    row-asks room =
        let f = layers-fit r.layers in
        let ys = r.along-y in
        let zs = r.layers.here in
        let marks = found-same (run-each {P = λ (q : GridPoint). marked_in d classed q ≡ has_vertex g b q} c n (λ j h. mark-at j (omega arith))) in
        let within = found_part d (has_vertex g b) (row_cells (points_of b) z y) (run_of c n) (run_of (onward c n) 1) (row-points r en ∙ run-split c n 1) in
        record {
          x = omega arith;
          y = omega arith;
          z = omega arith;
          few = few d r.layers.dims;
          place = e;
          holds = omega (arith, classed-length, length-set cm (at + n) null_vertex);
          room = record {
            cells = omega (arith, room.cells);
            strides = omega (arith, room.strides);
            numbers = omega (arith, room.numbers);
          };
        }

    -- and what it leaves
    pub row-found : {here : Next} {s : Finds}
        → Numbered (point k.dims) (record { x = k.low.x; y = y; z = z }) n next (finds cs st (set cm (at + n) null_vertex)) here s
        → Passes (point k.dims) (has_vertex (two_layers lower upper k z) (box_of k)) next (finds cs st mp) (row_cells (points_of (box_of k)) z y) here s
    row-found {here} {s} p = passes-as there (sym (row-points r en))
      where
        unmarked : (j : ℕ) → j < 1 → marked_in d classed (onward (onward c n) j) ≡ false
        unmarked j h =
            let f = layers-fit r.layers in
            let same : k.low.x + n + j ≡ k.low.x + (n + j) = omega arith in
            ap (λ (x : ℕ). marked_in d classed (record { x = x; y = y; z = z })) same ∙ mark-at (n + j) (omega arith) ∙ side-x g b (onward c (n + j)) (omega arith)

        q : Passes d (has_vertex g b) next (finds cs st classed) (run_of c (n + 1)) here s
        q = passes-by (numbered-past c n p 1 (run-each (onward c n) 1 unmarked)) (run-each c (n + 1) mark-at)

        vs : List ℕ
        vs = classes lower upper at k.dims.x n ++ (null_vertex ∷ [])

        vs-long : length vs ≤ n + 1
        vs-long =
            omega (
              arith,
              length-append (classes lower upper at k.dims.x n) (null_vertex ∷ []),
              length-map (up_to 0 n) class-at,
              length-up_to 0 n,
            )

        over : passed d (has_vertex g b) next (run_of c (n + 1)) (finds cs st classed) ≡ passed d (has_vertex g b) next (run_of c (n + 1)) (finds cs st mp)
        over =
            ap (λ (l : List ℕ). passed d (has_vertex g b) next (run_of c (n + 1)) (finds cs st l))
            (ap (λ (l : List ℕ). set l (at + n) null_vertex) ec ∙ stores-on class-at mp at n null_vertex)
            ∙ passed_over d (has_vertex g b) next c (n + 1) at cs st mp vs vs-long e

        there : Passes d (has_vertex g b) next (finds cs st mp) (run_of c (n + 1)) here s
        there = record { same = q.same ∙ over; on = q.on }

-- ---- a layer

-- the part of a list that was just stored
part-stored : {A : Type 0} (l : List A) (i n : ℕ) (vs : List A) → length vs ≡ n → i + n ≤ length l → take n (drop i (sets l i vs)) ≡ vs
part-stored l i n vs e h =
    ap (λ (s : List _). take n (drop i s)) (sets-eq vs l i (omega arith) ∙ append_assoc (take i l) vs (drop (i + length vs) l))
    ∙ ap (take n) (drop_at (take i l) (vs ++ drop (i + length vs) l) i (length-take-le i l (omega arith)))
    ∙ take_at vs (drop (i + length vs) l) n e

-- the layer's part of the list of cells
pub part-found : (g : Field) (b : Box) (z : ℕ) (next : Next) (s : Finds) {s' : Finds} {count : ℕ} → s' ≡ layer_found g b z next s
    → count ≡ length (layer_vertices g b z) → 3 * (next.place + length (layer_vertices g b z)) ≤ length s.cells
    → (3 * (next.place + count) ≤ length s'.cells) × (take (3 * count) (drop (3 * next.place) s'.cells) ≡ flat_points (layer_vertices g b z))
part-found g b z next s {count = count} e ec h =
    let vs = layer_vertices g b z in
    let from = 3 * next.place in
    let same = ap (λ (t : Finds). t.cells) e in (
      omega (arith, ap length same ∙ length-sets s.cells from (flat_points vs)),
      ap (λ (l : List ℕ). take (3 * count) (drop from l)) same
          ∙ part-stored s.cells from (3 * count) (flat_points vs) (length-points vs ∙ ap (λ (n : ℕ). 3 * n) (sym ec)) (omega arith),
    )

-- the cells, the strides and the map as they were found, with the vertices
pub marked-found : (g : Field) (b : Box) (z : ℕ) (next : Next) (s : Lists) {p n : List Float} {cs st xs mp : List ℕ}
    → finds cs st mp ≡ layer_found g b z next (finds s.cells s.strides s.map)
    → p ≡ sets s.positions (3 * next.place) (flat_vectors (map (vertex_position g) (layer_vertices g b z)))
    → n ≡ sets s.normals (3 * next.place) (flat_vectors (map (vertex_normal g) (layer_vertices g b z)))
    → xs ≡ sets s.crossings next.place (map (vertex_crossings g) (layer_vertices g b z))
    → lists p n cs st xs mp ≡ marked g b z next s
unfolding marked
marked-found g b z next s ef ep en ex = λ i. lists (ep i) (en i) (ef i).cells (ef i).strides (ex i) (ef i).map
