-- Points passed one after the other: what they leave of the lists, in two runs as in one; points that are no cell only clear their entries; and a
-- layer's points leave what the rules say. With the room that is left on the way. Assumes nothing.
use Prim.Native.Nat.{ℕ, ◌+◌, ◌*◌, ◌≤◌, ◌<◌}
use native.Mathlib.Nat.{add-zero}
use native.Mathlib.Omega.{arith}
use mathlib.Core.Bool.{Bool, false}
use mathlib.Core.List.{List, [], ◌∷◌, ◌++◌, map, map-append}
use mathlib.Core.Path.{◌≡◌, sym, ap, ap₂, ◌∙◌}
use lib.ListN.{length, length-map, length-append}
use lib.Seq.{sets, length-sets}
use Rattle.lists.specs.Lists.{up_to, keep, joined}
use Rattle.rules.specs.Grid.{GridPoint, Box, Field, index}
use Rattle.rules.specs.Cell.{Vector}
use Rattle.rules.specs.Vertices.{row_cells, layer_cells, layer_vertices}
use Rattle.rules.specs.Call.{flat_vectors, flat_points}
use Rattle.lists.proofs.Lists.{All, keep_append, keep_same, keep-none, joined-append}
use Rattle.rules.proofs.Indexes.{BoxFits}
use Rattle.rules.proofs.Seen.{length-points}
use Rattle.grid.specs.Order.{layer_to}
use Rattle.grid.proofs.Order.{layer-grows}
use Rattle.grid.proofs.LayerWalks.{layer-rest}
use Rattle.stores.proofs.Runs.{sets-on}
use Rattle.layer_vertices.specs.declared.Next.{Next}
use Rattle.layer_vertices.specs.Cells.{
  Finds,
  finds,
  advanced,
  RoomToFind,
  points_of,
  has_vertex,
  entered,
  cleared,
  written,
  passed,
  found,
  Passes,
  layer_found,
}
use Rattle.layer_vertices.proofs.Entries.{entered-append, entered-length, entered-none, entered-same}
use Rattle.layer_vertices.proofs.Points.{points_kept, entered_all}

-- ---- flat lists

pub vectors-append : (f : GridPoint → Vector) (s t : List GridPoint) → flat_vectors (map f s) ++ flat_vectors (map f t) ≡ flat_vectors (map f (s ++ t))
vectors-append f s t = sym (ap flat_vectors (map-append f s t) ∙ joined-append (λ (v : Vector). v.x ∷ v.y ∷ v.z ∷ []) (map f s) (map f t))

pub points-append : (s t : List GridPoint) → flat_points s ++ flat_points t ≡ flat_points (s ++ t)
points-append s t = sym (joined-append (λ (p : GridPoint). p.x ∷ p.y ∷ p.z ∷ []) s t)

-- ---- two runs of points

module _ (d : GridPoint) (has : GridPoint → Bool) where
  pub found-append : (s t : List GridPoint) → found has (s ++ t) ≡ found has s + found has t
  found-append s t = ap length (keep_append has s t) ∙ length-append (keep has s) (keep has t)

  pub passed-append : (next : Next) (cs ds : List GridPoint) (s : Finds)
      → passed d has (advanced next (found has cs)) ds (passed d has next cs s) ≡ passed d has next (cs ++ ds) s
  unfolding passed
  passed-append next cs ds s =
      (λ i. finds (cells' i) (strides' i) (sym (entered-append d has next.number cs ds s.map) i))
      ∙ ap (λ (vs : List GridPoint). written d next.place vs (entered d has next.number (cs ++ ds) s.map) s) (sym (keep_append has cs ds))
    where
      us : List GridPoint
      us = keep has cs

      vs : List GridPoint
      vs = keep has ds

      cells' : sets (sets s.cells (3 * next.place) (flat_points us)) (3 * (next.place + length us)) (flat_points vs) ≡ sets s.cells (3 * next.place) (flat_points (us ++ vs))
      cells' =
          sets-on s.cells (3 * next.place) (3 * (next.place + length us)) (flat_points us) (flat_points vs) (omega (arith, length-points us))
          ∙ ap (sets s.cells (3 * next.place)) (points-append us vs)

      strides' : sets (sets s.strides next.place (map (index d) us)) (next.place + length us) (map (index d) vs)
          ≡ sets s.strides next.place (map (index d) (us ++ vs))
      strides' =
          sets-on s.strides next.place (next.place + length us) (map (index d) us) (map (index d) vs)
          (ap (λ (n : ℕ). next.place + n) (sym (length-map us (index d))))
          ∙ ap (sets s.strides next.place) (sym (map-append (index d) us vs))

  -- points none of which has a vertex: their entries, and nothing else
  pub passed_none : (next : Next) {ps : List GridPoint} (s : Finds) → All (λ c. has c ≡ false) ps
      → finds s.cells s.strides (cleared d ps s.map) ≡ passed d has next ps s
  unfolding passed joined
  passed_none next {ps} s h =
      ap (finds s.cells s.strides) (sym (entered-none d has next.number 0 s.map h))
      ∙ ap (λ (vs : List GridPoint). written d next.place vs (entered d has next.number ps s.map) s) (sym (keep-none h))

  pub found_none : {ps : List GridPoint} → All (λ c. has c ≡ false) ps → found has ps ≡ 0
  found_none h = ap length (keep-none h)

-- by two tests that agree on the points
pub passed-same : (d : GridPoint) {has has' : GridPoint → Bool} (next : Next) {ps : List GridPoint} (s : Finds) → All (λ c. has c ≡ has' c) ps
    → passed d has next ps s ≡ passed d has' next ps s
unfolding passed
passed-same d next s h =
    ap₂ (λ (vs : List GridPoint) (l : List ℕ). written d next.place vs l s) (keep_same h) (entered-same d next.number s.map h)

pub found-same : {has has' : GridPoint → Bool} {ps : List GridPoint} → All (λ c. has c ≡ has' c) ps → found has ps ≡ found has' ps
found-same h = ap length (keep_same h)

-- ---- lengths and room

pub record SameLengths (s t : Finds) : Type 0 where
  pub cells : length s.cells ≡ length t.cells
  pub strides : length s.strides ≡ length t.strides
  pub map : length s.map ≡ length t.map

pub passed-lengths : (d : GridPoint) (has : GridPoint → Bool) (next : Next) (cs : List GridPoint) (s : Finds) → SameLengths (passed d has next cs s) s
unfolding passed
passed-lengths d has next cs s =
    let vs = keep has cs in
    record {
      cells = length-sets s.cells (3 * next.place) (flat_points vs);
      strides = length-sets s.strides next.place (map (index d) vs);
      map = entered-length d has next.number cs s.map;
    }

-- the room that m vertices leave of that for n
pub room-left : {next : Next} {n : ℕ} {s s' : Finds} (m r : ℕ) → RoomToFind next n s → m + r ≤ n → SameLengths s' s → RoomToFind (advanced next m) r s'
room-left m r h k e =
    record {
      cells = omega (arith, h.cells, e.cells);
      strides = omega (arith, h.strides, e.strides);
      numbers = omega (arith, h.numbers);
    }

-- ---- the lists on the way of a loop

still : (next : Next) → next ≡ advanced next 0
still next = λ i. record { place = sym (add-zero next.place) i; number = sym (add-zero next.number) i }

-- where nothing is left of the points that have a vertex
pub passes-still : {d : GridPoint} {has : GridPoint → Bool} (next : Next) {s s' : Finds} {ps : List GridPoint} → s' ≡ passed d has next ps s → found has ps ≡ 0
    → Passes d has next s ps next s'
passes-still next e f = record { same = e; on = still next ∙ ap (advanced next) (sym f) }

pub passes_none : {d : GridPoint} {has : GridPoint → Bool} {next : Next} {s : Finds} {cs : List GridPoint} → cs ≡ [] → Passes d has next s cs next s
unfolding passed keep joined entered
passes_none {d} {has} {next} {s} e = passes-still next (ap (λ (l : List GridPoint). passed d has next l s) (sym e)) (ap (found has) e)

module _ {d : GridPoint} {has : GridPoint → Bool} {next : Next} {s : Finds} {cs : List GridPoint} {here : Next} {s' : Finds} (p : Passes d has next s cs here s') where
  -- some points more
  pub passes-more : (ds : List GridPoint) {there : Next} {s'' : Finds} {all : List GridPoint} → Passes d has here s' ds there s'' → all ≡ cs ++ ds
      → Passes d has next s all there s''
  passes-more ds {all = all} q h =
      record {
        same =
            q.same ∙ ap₂ (λ (n : Next) (l : Finds). passed d has n ds l) p.on p.same ∙ passed-append d has next cs ds s
            ∙ ap (λ (l : List GridPoint). passed d has next l s) (sym h);
        on =
            q.on ∙ ap (λ (n : Next). advanced n (found has ds)) p.on
            ∙ (λ i. record { place = further next.place i; number = further next.number i });
      }
    where
      further : (n : ℕ) → n + found has cs + found has ds ≡ n + found has all
      further n = omega (arith, ap (found has) h ∙ found-append d has cs ds)

  -- some points more that are no cells, by their entries
  pub passes-cleared : (ds : List GridPoint) → All (λ c. has c ≡ false) ds → {mp : List ℕ} {all : List GridPoint} → mp ≡ cleared d ds s'.map → all ≡ cs ++ ds
      → Passes d has next s all here (finds s'.cells s'.strides mp)
  passes-cleared ds bare e h =
      passes-more ds (passes-still here (ap (finds s'.cells s'.strides) e ∙ passed_none d has here s' bare) (found_none d has bare)) h

  pub passes-as : {all : List GridPoint} → cs ≡ all → Passes d has next s all here s'
  passes-as e =
      record {
        same = p.same ∙ ap (λ (l : List GridPoint). passed d has next l s) e;
        on = p.on ∙ ap (λ (l : List GridPoint). advanced next (found has l)) e;
      }

  pub passes-lengths : SameLengths s' s
  passes-lengths = rw p.same (passed-lengths d has next cs s)

  -- the room that is left for the next points
  pub passes-room : {n : ℕ} (ds : List GridPoint) → RoomToFind next n s → found has (cs ++ ds) ≤ n → RoomToFind here (found has ds) s'
  passes-room ds r h = rw p.on (room-left (found has cs) (found has ds) r (omega (arith, found-append d has cs ds)) passes-lengths)

-- by another test that agrees with this one on the points
pub passes-by : {d : GridPoint} {has has' : GridPoint → Bool} {next : Next} {s : Finds} {ps : List GridPoint} {here : Next} {s' : Finds}
    → Passes d has next s ps here s' → All (λ c. has c ≡ has' c) ps → Passes d has' next s ps here s'
passes-by {d} {next = next} {s = s} p h =
    record { same = p.same ∙ passed-same d next s h; on = p.on ∙ ap (advanced next) (found-same h) }

-- a first part of a list finds no more than the whole
pub found_part : (d : GridPoint) (has : GridPoint → Bool) (all s t : List GridPoint) → all ≡ s ++ t → found has s ≤ found has all
found_part d has all s t e = omega (arith, ap (found has) e, found-append d has s t)

-- ---- after all points of a layer

-- with one row more, a layer finds no more than all of it
pub layer-finds : (g : Field) (b : Box) (z y : ℕ) → BoxFits g.dims b → (b.low.z ≤ z) × (z < b.high.z) → b.low.y ≤ y → y + 1 ≤ b.high.y
    → found (has_vertex g b) (layer_to (points_of b) z y ++ row_cells (points_of b) z y) ≤ length (layer_vertices g b z)
layer-finds g b z y f zs l h =
    let rows = layer_to (points_of b) z y ++ row_cells (points_of b) z y in
    let more = joined (row_cells (points_of b) z) (up_to (y + 1) (b.high.y + 1)) in
    let grown = ap (λ (s : List GridPoint). s ++ more) (layer-grows (points_of b) z y l) in
    omega (
      arith,
      found_part g.dims (has_vertex g b) (layer_cells (points_of b) z) rows more (layer-rest (points_of b) z (y + 1) (omega arith) (omega arith) ∙ grown),
      ap length (points_kept g b z zs f.x.0 f.y.0),
    )

pub layer-passed : (g : Field) (b : Box) (z : ℕ) {next here : Next} {s s' : Finds} {cs : List GridPoint}
    → BoxFits g.dims b → (b.low.z ≤ z) × (z < b.high.z) → cs ≡ layer_cells (points_of b) z
    → Passes g.dims (has_vertex g b) next s cs here s' → (s' ≡ layer_found g b z next s) × (here ≡ advanced next (length (layer_vertices g b z)))
unfolding passed
layer-passed g b z {next} {s = s} f zs e p =
    let vertices = points_kept g b z zs f.x.0 f.y.0 in
    let q = passes-as p e in (
      q.same
          ∙ ap₂ (λ (vs : List GridPoint) (l : List ℕ). written g.dims next.place vs l s) vertices (entered_all b g f z zs next.number s.map),
      q.on ∙ ap (λ (vs : List GridPoint). advanced next (length vs)) vertices,
    )
