-- The points of a box in one layer: the cells of its rows, the last point of each row and the last row, which are no cells, so that a layer's points
-- have the vertices of its cells; and what they leave of the layer's part of the map is what the rules say. Assumes nothing.
use Prim.Native.Nat.{ℕ, ◌+◌, ◌≤◌, ◌<◌}
use native.Mathlib.Omega.{arith}
use mathlib.Core.Bool.{Bool, true, false, ◌&&◌, cond}
use mathlib.Core.List.{List, [], ◌∷◌, ◌++◌, append-nil}
use mathlib.Core.Path.{◌≡◌, refl, sym, ap, ap₂, ◌∙◌}
use lib.Dec.{T}
use lib.Ieee.Bits.{is_true}
use lib.ListN.{length, get_or}
use Rattle.lists.specs.Lists.{up_to, keep, joined, place, placed}
use Rattle.rules.specs.Grid.{GridPoint, Box, Field, same_point, is_cell, in_box}
use Rattle.rules.specs.Vertices.{row_cells, layer_cells, surface_cell, layer_vertices, null_vertex, edge_entry}
use Rattle.lists.proofs.Tests.{is-test, is_false, same_test}
use Rattle.lists.proofs.Lists.{All, none, more, all_map, keep_append, keep_same, keep-none, keep-joined, joined_same}
use Rattle.lists.proofs.Runs.{up_to-each}
use Rattle.rules.proofs.Indexes.{BoxFits, within, in-box, cell-within, is-cell, cell-in-box}
use Rattle.grid.specs.Order.{row_to, layer_to}
use Rattle.grid.proofs.Order.{row-grows, layer-grows, layer-ends}
use Rattle.layer_vertices.specs.Marked.{layer_point, layer_entry, last_entry}
use Rattle.layer_vertices.specs.Cells.{points_of, has_vertex, entered, cleared}
use Rattle.layer_vertices.proofs.Entries.{entered-length, entered_at, by_entries}

-- ---- the points of a box

-- the row's last point, after its cells
pub row_closes : (b : Box) (z y : ℕ) → b.low.x ≤ b.high.x → row_cells (points_of b) z y ≡ row_cells b z y ++ (record { x = b.high.x; y = y; z = z } ∷ [])
unfolding row_to row_cells
row_closes b z y h = row-grows b z y b.high.x h

-- the layer's last row, after the others
pub layer-closes : (b : Box) (z : ℕ) → b.low.y ≤ b.high.y → layer_cells (points_of b) z ≡ layer_to (points_of b) z b.high.y ++ row_cells (points_of b) z b.high.y
layer-closes b z h = sym (layer-ends (points_of b) z) ∙ layer-grows (points_of b) z b.high.y h

point-is : (b : Box) (p : GridPoint) → is_cell (points_of b) p ≡ in_box b p
point-is b p = same_test (is_cell (points_of b) p) (in_box b p) to from
  where
    to : T (is_cell (points_of b) p) → T (in_box b p)
    to t = let w = cell-within (points_of b) p t in in-box b p (omega arith)

    from : T (in_box b p) → T (is_cell (points_of b) p)
    from t = let w = within b p t in is-cell (points_of b) p (omega arith)

module _ (g : Field) (b : Box) where
  -- a cell has a vertex if it is a surface cell
  pub has-cell : (c : GridPoint) → T (is_cell b c) → has_vertex g b c ≡ surface_cell g c
  has-cell c t = ap (λ (s : Bool). s && surface_cell g c) (is_true (is_cell b c) t)

  -- a point on one of the max sides has no vertex
  pub no-vertex : (p : GridPoint) → (T (is_cell b p) → ⊥) → has_vertex g b p ≡ false
  no-vertex p h = ap (λ (t : Bool). t && surface_cell g p) (is_false (is_cell b p) h)

  pub side-x : (p : GridPoint) → p.x ≡ b.high.x → has_vertex g b p ≡ false
  side-x p e = no-vertex p (λ (t : T (is_cell b p)). let w = cell-within b p t in omega arith)

  on-side-y : (p : GridPoint) → p.y ≡ b.high.y → has_vertex g b p ≡ false
  on-side-y p e = no-vertex p (λ (t : T (is_cell b p)). let w = cell-within b p t in omega arith)

  pub side-y : (z : ℕ) → All (λ c. has_vertex g b c ≡ false) (row_cells (points_of b) z b.high.y)
  unfolding row_cells
  side-y z =
      all_map (λ (x : ℕ). record { x = x; y = b.high.y; z = z })
      (up_to-each b.low.x (b.high.x + 1) (λ x l h. on-side-y (record { x = x; y = b.high.y; z = z }) refl))

  -- so that the layer's points have the vertices of its cells
  module _ (z : ℕ) (zs : (b.low.z ≤ z) × (z < b.high.z)) where
    row_kept : (y : ℕ) → b.low.x ≤ b.high.x → b.low.y ≤ y → y < b.high.y
        → keep (has_vertex g b) (row_cells (points_of b) z y) ≡ keep (surface_cell g) (row_cells b z y)
    unfolding row_cells
    row_kept y r l h =
        let last : GridPoint = record { x = b.high.x; y = y; z = z } in
        ap (keep (has_vertex g b)) (row_closes b z y r)
        ∙ keep_append (has_vertex g b) (row_cells b z y) (last ∷ [])
        ∙ ap₂ ◌++◌ cells-kept (keep-none (more (side-x last refl) none))
        ∙ append-nil (keep (surface_cell g) (row_cells b z y))
      where
        is : (x : ℕ) → b.low.x ≤ x → x < b.high.x → has_vertex g b (record { x = x; y = y; z = z }) ≡ surface_cell g (record { x = x; y = y; z = z })
        is x m k =
            let p : GridPoint = record { x = x; y = y; z = z } in
            has-cell p (is-cell b p (record { x = (m, k); y = (l, h); z = zs }))

        cells-kept : keep (has_vertex g b) (row_cells b z y) ≡ keep (surface_cell g) (row_cells b z y)
        cells-kept = keep_same (all_map (λ (x : ℕ). record { x = x; y = y; z = z }) (up_to-each b.low.x b.high.x is))

    pub points_kept : b.low.x ≤ b.high.x → b.low.y ≤ b.high.y → keep (has_vertex g b) (layer_cells (points_of b) z) ≡ layer_vertices g b z
    unfolding layer_vertices layer_cells layer_to
    points_kept r h =
        let ys : List ℕ = up_to b.low.y b.high.y in
        let rows = joined_same (up_to-each b.low.y b.high.y (λ y l k. row_kept y r l k)) in
        ap (keep (has_vertex g b)) (layer-closes b z h)
        ∙ keep_append (has_vertex g b) (joined (row_cells (points_of b) z) ys) (row_cells (points_of b) z b.high.y)
        ∙ ap₂ ◌++◌ (keep-joined (has_vertex g b) (row_cells (points_of b) z) ys ∙ rows ∙ sym (keep-joined (surface_cell g) (row_cells b z) ys)) (keep-none (side-y z))
        ∙ append-nil (keep (surface_cell g) (joined (row_cells b z) ys))

-- ---- after all points of a layer

module _ (b : Box) where
  abbrev points : ℕ → List GridPoint
  points z = layer_cells (points_of b) z

  -- of a layer of cells
  pub entered_all : (g : Field) → BoxFits g.dims b → (z : ℕ) → (b.low.z ≤ z) × (z < b.high.z) → (n : ℕ) (l : List ℕ)
      → entered g.dims (has_vertex g b) n (layer_cells (points_of b) z) l ≡ placed (layer_entry g b z n) 0 l
  unfolding layer_entry
  entered_all g f z zs n l = by_entries (layer_entry g b z n) (entered g.dims (has_vertex g b) n (points z) l) l (entered-length g.dims (has_vertex g b) n (points z) l) at
    where
      at : (j : ℕ) → j < length l → get_or (entered g.dims (has_vertex g b) n (points z) l) j 0 ≡ layer_entry g b z n j (get_or l j 0)
      at j h =
          entered_at g.dims (points_of b) (omega (arith, f.x.1)) z (omega arith) (has_vertex g b) n l j h
          ∙ ap₂ (λ (t : Bool) (vs : List GridPoint). cond t (cond (has_vertex g b p) (n + place (same_point p) vs) null_vertex) old) (point-is b p)
          (points_kept g b z zs f.x.0 f.y.0)
          ∙ go (is_cell b p) refl
        where
          p : GridPoint
          p = layer_point g.dims z j

          old : ℕ
          old = get_or l j 0

          number : ℕ
          number = n + place (same_point p) (layer_vertices g b z)

          go : (t : Bool) → is_cell b p ≡ t
              → cond (in_box b p) (cond (t && surface_cell g p) number null_vertex) old ≡ cond t (cond (surface_cell g p) number null_vertex) (cond (in_box b p) edge_entry old)
          go true e = ap (λ (t : Bool). cond t (cond (surface_cell g p) number null_vertex) old) (is_true (in_box b p) (cell-in-box b p (is-test (is_cell b p) e)))
          go false e = refl

  -- of the box's last layer
  pub cleared-all : (d : GridPoint) → BoxFits d b → (l : List ℕ) → cleared d (layer_cells (points_of b) b.high.z) l ≡ placed (last_entry d b) 0 l
  unfolding last_entry
  cleared-all d f l = by_entries (last_entry d b) (cleared d (points b.high.z) l) l (entered-length d (λ (c : GridPoint). false) 0 (points b.high.z) l) at
    where
      at : (j : ℕ) → j < length l → get_or (cleared d (points b.high.z) l) j 0 ≡ last_entry d b j (get_or l j 0)
      at j h =
          let p = layer_point d b.high.z j in
          entered_at d (points_of b) (omega (arith, f.x.1)) b.high.z (omega (arith, f.z.0)) (λ (c : GridPoint). false) 0 l j h
          ∙ ap (λ (t : Bool). cond t null_vertex (get_or l j 0)) (point-is b p)

  -- the last layer's entries are those of a layer of cells that has none
  pub last-is : (g : Field) (n j old : ℕ) → layer_entry g b b.high.z n j old ≡ last_entry g.dims b j old
  unfolding layer_entry last_entry
  last-is g n j old =
      let p = layer_point g.dims b.high.z j in
      ap (λ (t : Bool). cond t (cond (surface_cell g p) (n + place (same_point p) (layer_vertices g b b.high.z)) null_vertex) (cond (in_box b p) edge_entry old))
      (is_false (is_cell b p) (λ (t : T (is_cell b p)). let w = cell-within b p t in omega arith))
