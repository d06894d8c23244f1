-- A row of cells by its runs of distances in two layers: its surface cells, and its edges that give faces. The box owns the edges of a row along one axis all alike,
-- but for the first or the last; and an owned edge with exactly one negative end stands at a surface cell, so that no cell need be asked whether it is
-- one before its edges are counted. Assumes nothing.
use Prim.Native.Nat.{ℕ, suc, ◌+◌, ◌-◌, ◌*◌, ◌≤◌, ◌<◌}
use native.Mathlib.Nat.{le_trans, mul-add, mul-one}
use native.Mathlib.Omega.{arith}
use mathlib.Core.Bool.{Bool, true, false, not, ◌&&◌, ◌||◌, cond, and-false, and_assoc}
use mathlib.Core.List.{List, [], ◌∷◌}
use mathlib.Core.Path.{◌≡◌, refl, sym, ap, ap₂, ◌∙◌}
use lib.Dec.{T, ltb, eqb}
use lib.ListN.{length, length-append, get_or}
use lib.Ieee.{Float, nan, unlike}
use Rattle.lists.specs.Lists.{one, keep, many, joined, up_to}
use Rattle.rules.specs.Grid.{GridPoint, Axis, axis_x, axis_y, axis_z, Box, Field, value, is_cell, step_up}
use Rattle.rules.specs.Cell.{negative, surface}
use Rattle.rules.specs.Vertices.{surface_cell, row_cells}
use Rattle.rules.specs.Faces.{Flags, edge, gives, changes, cell_edges, axis_b, axis_c, above_low, inside_max}
use Rattle.lists.proofs.Tests.{one-not}
use Rattle.lists.proofs.Lists.{many-same, many-map, length-keep}
use Rattle.lists.proofs.Runs.{up_to-each}
use Rattle.rules.proofs.Indexes.{is-cell}
use Rattle.rules.proofs.FourCells.{four-on}
use Rattle.rules.proofs.Edges.{cell_edges-length}
use Rattle.grid.specs.declared.Block.{Block}
use Rattle.grid.specs.Block.{point, box_of, flags_of}
use Rattle.grid.specs.Layers.{in_layer, two_layers, InLayers}
use Rattle.grid.specs.Signs.{surface_at}
use Rattle.grid.proofs.Bounds.{small}
use Rattle.grid.proofs.Layers.{in-plane, in_order, value-lower, value-upper, values-between, layers-fit, plane-small}
use Rattle.grid.proofs.Owned.{owned-cell}
use Rattle.grid.proofs.LayerWalks.{Row}
use Rattle.row_signs.specs.Signs.{row_length}
use Rattle.count.specs.declared.OwnedEdges.{OwnedEdges}
use Rattle.count.specs.declared.Tally.{Tally}
use Rattle.count.specs.Runs.{surface_run, changes_at, changes_run, owned_edges}
use Rattle.count.specs.Tally.{tally_of}
use Rattle.count.proofs.Runs.{many-above, many-before, many-run, many-owned}

-- ---- edges that give faces, counted without asking for surface cells

module _ (g : Field) (b : Box) (m : Flags) where
  abbrev pub giving : Axis → GridPoint → Bool
  giving a c = gives g b m (edge a c)

  -- an edge that gives a face stands at a surface cell
  nowhere-else : (a : Axis) (c : GridPoint) → surface_cell g c ≡ false → one (giving a c) ≡ 0
  nowhere-else a c e = one-not (giving a c) (λ t. rw e at (four-on g b m (edge a c) t).one)

  pub edges-many : (l : List GridPoint) → length (joined (cell_edges g b m) (keep (surface_cell g) l)) ≡ many (giving axis_x) l + many (giving axis_y) l + many (giving axis_z) l
  unfolding joined keep many
  edges-many [] = refl
  edges-many (c ∷ l) = go (surface_cell g c) refl (edges-many l)
    where
      here : ℕ
      here = one (giving axis_x c) + one (giving axis_y c) + one (giving axis_z c)

      rest : ℕ
      rest = many (giving axis_x) l + many (giving axis_y) l + many (giving axis_z) l

      go : (t : Bool) → surface_cell g c ≡ t → length (joined (cell_edges g b m) (keep (surface_cell g) l)) ≡ rest
          → length (joined (cell_edges g b m) (cond t (c ∷ keep (surface_cell g) l) (keep (surface_cell g) l)))
          ≡ (one (giving axis_x c) + many (giving axis_x) l) + (one (giving axis_y c) + many (giving axis_y) l) + (one (giving axis_z c) + many (giving axis_z) l)
      go true e h = length-append (cell_edges g b m c) (joined (cell_edges g b m) (keep (surface_cell g) l)) ∙ omega (arith, cell_edges-length g b m c)
      go false e h = h ∙ omega (arith, nowhere-else axis_x c e, nowhere-else axis_y c e, nowhere-else axis_z c e)

-- ---- the edges of a row along one axis

-- the test of the cell's x is set beside the test of its edge's ends
last_apart : (u v w t : Bool) → ((u && (v && w)) && t) ≡ ((u && v) && (w && t))
last_apart true v w t = and_assoc v w t
last_apart false v w t = refl

middle-apart : (u v w t : Bool) → ((u && (v && w)) && t) ≡ ((u && w) && (v && t))
middle-apart true true w t = refl
middle-apart true false w t = sym (and-false w)
middle-apart false v w t = refl

first-apart : (u v w t : Bool) → ((u && (v && w)) && t) ≡ ((v && w) && (u && t))
first-apart true v w t = refl
first-apart false v w t = sym (and-false (v && w))

-- how long a run to the last but one is
all_but_last : (flag : Bool) (low high : ℕ) → cond flag high (high - 1) - low ≡ cond flag (high - low) (high - low - 1)
all_but_last true low high = refl
all_but_last false low high = omega arith

flag-most : (t : Bool) (n : ℕ) → cond t n (n - 1) ≤ n
flag-most true n = omega arith
flag-most false n = omega arith

module _ (lower upper : List Float) (k : Block) {y z : ℕ} (i : InLayers lower upper k z) (ys : (k.low.y ≤ y) × (y < k.high.y)) where
  abbrev d : GridPoint
  d = point k.dims

  abbrev b : Box
  b = box_of k

  abbrev m : Flags
  m = flags_of k

  abbrev g : Field
  g = two_layers lower upper k z

  abbrev at : ℕ → GridPoint
  at x = record { x = x; y = y; z = z }

  abbrev changing : Axis → ℕ → Bool
  changing a x = changes g (edge a (at x))

  cell : (x : ℕ) → k.low.x ≤ x → x < k.high.x → T (is_cell b (at x))
  cell x low high = is-cell b (at x) (record { x = (low, high); y = ys; z = i.here })

  next_row : k.dims.x * (y + 1) ≡ k.dims.x * y + k.dims.x
  next_row = mul-add k.dims.x y 1 ∙ ap (λ (n : ℕ). k.dims.x * y + n) (mul-one k.dims.x)

  -- the tests of ownership at a cell of the row, and of its edge's ends
  abbrev tested : Axis → ℕ → Bool
  tested a x = (above_low (axis_b a) b (at x) && (above_low (axis_c a) b (at x) && inside_max a b m (at x))) && changing a x

  -- where a point of the lower layer is read
  in-lower : (p : GridPoint) (n : ℕ) → p.x ≤ k.high.x → p.y ≤ k.high.y → p.z ≡ z → in_layer (point k.dims) p ≡ n
      → value (two_layers lower upper k z) p ≡ get_or lower n nan
  in-lower p n hx hy ez e =
      let f = layers-fit i in
      value-lower lower upper k z p ez (in-plane d p (omega arith) (omega arith)) ∙ ap (λ (j : ℕ). get_or lower j nan) e

  module _ {start : ℕ} (e : start ≡ in_layer d (at k.low.x)) where
    -- where the ends of an edge are read: the lower one in the lower layer, the upper one in l
    ends : (a : Axis) (x first p : ℕ) (l : List Float) (q : ℕ) → first ≤ x → x < k.high.x → p + k.low.x ≡ start + first
        → value g (step_up a (at x)) ≡ get_or l (q + (x - first)) nan → changing a x ≡ changes_at lower p l q (x - first)
    unfolding changes
    ends a x first p l q low high from up =
        ap₂ (λ (u v : Float). unlike (negative u) (negative v)) (in-lower (at x) (p + (x - first)) (omega arith) (omega arith) refl (omega arith)) up

    -- one axis: of the tests, `own` is the same for all cells of the row, and f leaves those from `first` up to `last`
    axis-edges : (a : Axis) (own : Bool) (f : ℕ → Bool) (first last n p : ℕ) (l : List Float) (q : ℕ) → ((x : ℕ) → tested a x ≡ (own && (f x && changing a x)))
        → many (λ (x : ℕ). f x && changing a x) (up_to k.low.x k.high.x) ≡ many (changing a) (up_to first last) → last - first ≡ n → last ≤ k.high.x
        → p + k.low.x ≡ start + first → ((x : ℕ) → first ≤ x → x < k.high.x → value g (step_up a (at x)) ≡ get_or l (q + (x - first)) nan)
        → many (giving g b m a) (row_cells b z y) ≡ changes_run lower p l q (cond own n 0)
    unfolding row_cells
    axis-edges a own f first last n p l q apart left len most from up =
        many-map (giving g b m a) at (up_to k.low.x k.high.x)
        ∙ many-same (up_to-each k.low.x k.high.x (λ x low high. ap (λ (t : Bool). t && changing a x) (owned-cell b m a (at x) (cell x low high)) ∙ apart x))
        ∙ many-owned own (λ (x : ℕ). f x && changing a x) (changing a) (changes_at lower p l q) k.low.x k.high.x first last n left len
        (λ x low high. let within : x < k.high.x = omega arith in ends a x first p l q low within from (up x low within))

    x-edges : many (giving g b m axis_x) (row_cells b z y) ≡ changes_run lower start lower (start + 1) (owned_edges b m y z).x
    unfolding owned_edges
    x-edges =
        let before : ℕ → Bool = λ (x : ℕ). m.x || not (eqb x (k.high.x - 1)) in
        axis-edges axis_x (ltb k.low.y y && ltb k.low.z z) before k.low.x (cond m.x k.high.x (k.high.x - 1)) (cond m.x (row_length b) (row_length b - 1)) start
        lower (start + 1)
        (λ x. last_apart (ltb k.low.y y) (ltb k.low.z z) (before x) (changing axis_x x))
        (many-before m.x (changing axis_x) k.low.x k.high.x) (all_but_last m.x k.low.x k.high.x) (flag-most m.x k.high.x) refl
        (λ x low high. in-lower (step_up axis_x (at x)) (start + 1 + (x - k.low.x)) (omega arith) (omega arith) refl (omega arith))

    y-edges : many (giving g b m axis_y) (row_cells b z y) ≡ changes_run lower (start + 1) lower (start + 1 + d.x) (owned_edges b m y z).y
    unfolding owned_edges
    y-edges =
        let before : Bool = m.y || not (eqb y (k.high.y - 1)) in
        axis-edges axis_y (ltb k.low.z z && before) (ltb k.low.x) (suc k.low.x) k.high.x (row_length b - 1) (start + 1)
        lower (start + 1 + d.x)
        (λ x. middle-apart (ltb k.low.z z) (ltb k.low.x x) before (changing axis_y x))
        (many-above (changing axis_y) k.low.x k.high.x) (omega arith) (omega arith) (omega arith)
        (λ x low high. in-lower (step_up axis_y (at x)) (start + 1 + d.x + (x - suc k.low.x)) (omega arith) (omega arith) refl (omega (arith, next_row)))

    z-edges : many (giving g b m axis_z) (row_cells b z y) ≡ changes_run lower (start + 1) upper (start + 1) (owned_edges b m y z).z
    unfolding owned_edges
    z-edges =
        let before : Bool = m.z || not (eqb z (k.high.z - 1)) in
        axis-edges axis_z (ltb k.low.y y && before) (ltb k.low.x) (suc k.low.x) k.high.x (row_length b - 1) (start + 1)
        upper (start + 1)
        (λ x. first-apart (ltb k.low.x x) (ltb k.low.y y) before (changing axis_z x))
        (many-above (changing axis_z) k.low.x k.high.x) (omega arith) (omega arith) (omega arith)
        (λ x low high.
        let there : in_layer d (step_up axis_z (at x)) ≡ start + 1 + (x - suc k.low.x) = omega arith in
        value-upper lower upper k z (step_up axis_z (at x)) refl ∙ ap (λ (j : ℕ). get_or upper j nan) there)

    surface-cells : many (surface_cell g) (row_cells b z y) ≡ surface_run lower upper start d.x (row_length b)
    unfolding row_cells
    surface-cells =
        let f = layers-fit i in
        many-map (surface_cell g) at (up_to k.low.x k.high.x)
        ∙ many-run (λ (x : ℕ). surface_cell g (at x)) (surface_at lower upper start d.x) k.low.x k.high.x
        (λ x low high. ap surface (values-between lower upper k z (at x) refl (omega arith) (omega arith) (start + (x - k.low.x)) d.x (omega arith) refl))

    -- the row's count, as the code puts it together
    pub row-tally : {v nx ny nz : ℕ} {own : OwnedEdges} → own ≡ owned_edges b m y z → v ≡ surface_run lower upper start d.x (row_length b)
        → nx ≡ changes_run lower start lower (start + 1) own.x → ny ≡ changes_run lower (start + 1) lower (start + 1 + d.x) own.y
        → nz ≡ changes_run lower (start + 1) upper (start + 1) own.z
        → ◌≡◌ {A = Tally} (record { vertices = v; indices = 6 * (nx + ny + nz) }) (tally_of g b m (row_cells b z y))
    unfolding tally_of
    row-tally {v} {nx} {ny} {nz} {own} eo ev ex ey ez = λ j. record { vertices = same-vertices j; indices = same-indices j }
      where
        same-vertices : v ≡ length (keep (surface_cell g) (row_cells b z y))
        same-vertices = ev ∙ sym (length-keep (surface_cell g) (row_cells b z y) ∙ surface-cells)

        same-x : nx ≡ many (giving g b m axis_x) (row_cells b z y)
        same-x = ex ∙ ap (λ (o : OwnedEdges). changes_run lower start lower (start + 1) o.x) eo ∙ sym x-edges

        same-y : ny ≡ many (giving g b m axis_y) (row_cells b z y)
        same-y = ey ∙ ap (λ (o : OwnedEdges). changes_run lower (start + 1) lower (start + 1 + d.x) o.y) eo ∙ sym y-edges

        same-z : nz ≡ many (giving g b m axis_z) (row_cells b z y)
        same-z = ez ∙ ap (λ (o : OwnedEdges). changes_run lower (start + 1) upper (start + 1) o.z) eo ∙ sym z-edges

        same-indices : 6 * (nx + ny + nz) ≡ 6 * length (joined (cell_edges g b m) (keep (surface_cell g) (row_cells b z y)))
        same-indices = omega (arith, edges-many g b m (row_cells b z y), same-x, same-y, same-z)

-- ---- where the runs of a row end

cond-most : (t : Bool) (n : ℕ) → cond t n 0 ≤ n
cond-most true n = omega arith
cond-most false n = omega arith

-- the row's last corners lie in the two lists, and no owned edge is past the row's cells
pub record Reach (lower upper : List Float) (k : Block) (y z start : ℕ) : Type 0 where
  pub long : row_length (box_of k) ≤ 16777217
  pub in-lower : start + row_length (box_of k) + k.dims.x < length lower
  pub in-upper : start + row_length (box_of k) + k.dims.x < length upper
  pub few : start + row_length (box_of k) + k.dims.x < 1073741824
  pub owned-x : (owned_edges (box_of k) (flags_of k) y z).x ≤ row_length (box_of k)
  pub owned-y : (owned_edges (box_of k) (flags_of k) y z).y ≤ row_length (box_of k) - 1
  pub owned-z : (owned_edges (box_of k) (flags_of k) y z).z ≤ row_length (box_of k) - 1

pub reach : {lower upper : List Float} {k : Block} {y z start : ℕ} → Row lower upper k y z → start ≡ in_layer (point k.dims) (record { x = k.low.x; y = y; z = z })
    → Reach lower upper k y z start
unfolding owned_edges
reach {lower} {upper} {k} {y} {z} {start} r e =
    let d = point k.dims in
    let b = box_of k in
    let m = flags_of k in
    let i = r.layers in
    let f = layers-fit i in
    let s = small d i.dims in
    let ys = r.along-y in
    let far : GridPoint = record { x = k.high.x; y = y + 1; z = z } in
    let place : start + row_length b + d.x ≡ in_layer d far = omega (arith, mul-add d.x y 1, mul-one d.x) in
    let before = in_order d far (point k.high) (omega arith) (omega arith) in
    record {
      long = omega arith;
      in-lower = omega (arith, i.lower_holds);
      in-upper = omega (arith, i.upper_holds);
      few = omega (arith, in-plane d (point k.high) f.x.1 f.y.1, plane-small i);
      owned-x = le_trans (cond-most (ltb b.low.y y && ltb b.low.z z) (cond m.x (row_length b) (row_length b - 1))) (flag-most m.x (row_length b));
      owned-y = cond-most (ltb b.low.z z && (m.y || not (eqb y (b.high.y - 1)))) (row_length b - 1);
      owned-z = cond-most (ltb b.low.y y && (m.z || not (eqb z (b.high.z - 1)))) (row_length b - 1);
    }
