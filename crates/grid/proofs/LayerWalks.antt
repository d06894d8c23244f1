-- What holds in a turn of a loop over the cells between two layers that are lent apart: at a row of the layer, and at a cell of the row, whose
-- place is counted in the layer. A loop's proof names these facts, and has no arithmetic of its own. Assumes nothing.
use Prim.Native.Nat.{ℕ, ◌+◌, ◌*◌, ◌≤◌, ◌<◌}
use native.Mathlib.Nat.{mul-one, mul-add}
use native.Mathlib.Omega.{arith}
use mathlib.Core.List.{List, [], ◌∷◌, ◌++◌, map, map-append}
use mathlib.Core.Path.{◌≡◌, ap, ◌∙◌}
use mir.Syntax.{w64}
use mir.Val.{Fits}
use lib.Dec.{T}
use lib.ListN.{length}
use lib.Ieee.{Float}
use Rattle.lists.specs.Lists.{up_to, joined}
use Rattle.rules.specs.Grid.{GridPoint, Box, is_cell}
use Rattle.rules.specs.Vertices.{row_cells, layer_cells}
use Rattle.lists.proofs.Runs.{up_to-split}
use Rattle.lists.proofs.Lists.{joined-append}
use Rattle.rules.proofs.Indexes.{is-cell, cell-in-box}
use Rattle.grid.specs.declared.Block.{Block}
use Rattle.grid.specs.Block.{point, box_of}
use Rattle.grid.specs.Inside.{PointInside}
use Rattle.grid.specs.Layers.{in_layer, InLayers}
use Rattle.grid.specs.Order.{row_to, layer_to}
use Rattle.grid.proofs.Bounds.{point-inside, index-few}
use Rattle.grid.proofs.Order.{row-grows, row_ends}
use Rattle.grid.proofs.Walks.{Counting, Turn, turn, ended, begun, cell-spans, AtRow, at_row}
use Rattle.grid.proofs.Layers.{in-plane, in_order, layers-fit, somewhere, plane-small}

-- ---- what is still to come

pub row-rest : (b : Box) (z y x : ℕ) → b.low.x ≤ x → x ≤ b.high.x → row_cells b z y ≡ row_to b z y x ++ map (λ (x' : ℕ). record { x = x'; y = y; z = z }) (up_to x b.high.x)
unfolding row_cells row_to
row-rest b z y x l h =
    ap (map (λ (x' : ℕ). record { x = x'; y = y; z = z })) (up_to-split b.low.x x b.high.x l h)
    ∙ map-append (λ (x' : ℕ). record { x = x'; y = y; z = z }) (up_to b.low.x x) (up_to x b.high.x)

pub layer-rest : (b : Box) (z y : ℕ) → b.low.y ≤ y → y ≤ b.high.y → layer_cells b z ≡ layer_to b z y ++ joined (row_cells b z) (up_to y b.high.y)
unfolding layer_cells layer_to
layer-rest b z y l h = ap (joined (row_cells b z)) (up_to-split b.low.y y b.high.y l h) ∙ joined-append (row_cells b z) (up_to b.low.y y) (up_to y b.high.y)

-- ---- a row of a layer

pub row_of : {lower upper : List Float} {k : Block} {z y : ℕ} → InLayers lower upper k z → Counting k.low.y k.high.y y → y < k.high.y → AtRow k z y
row_of i c h = at_row (somewhere i) c h

pub layer-begun : {lower upper : List Float} {k : Block} {z : ℕ} → InLayers lower upper k z → Counting k.low.y k.high.y k.low.y
layer-begun i = begun (cell-spans (somewhere i)).y

-- ---- a cell of a row (y, z)

pub record Row (lower upper : List Float) (k : Block) (y z : ℕ) : Type 0 where
  pub layers : InLayers lower upper k z
  pub along-y : (k.low.y ≤ y) × (y < k.high.y)

-- before each turn, and after the last: `at` is the place of x in the layer
pub record OnRow (k : Block) (y z at x : ℕ) : Type 0 where
  pub count : Counting k.low.x k.high.x x
  pub place : at ≡ in_layer (point k.dims) (record { x = x; y = y; z = z })

-- in a turn
pub record AtCell (lower upper : List Float) (k : Block) (y z at x : ℕ) : Type 0 where
  pub turn : Turn k.low.x k.high.x x
  pub next : OnRow k y z (at + 1) (x + 1)
  pub grows : row_to (box_of k) z y (x + 1) ≡ row_to (box_of k) z y x ++ (record { x = x; y = y; z = z } ∷ [])
  pub cell : T (is_cell (box_of k) (record { x = x; y = y; z = z }))
  pub place : at ≡ in_layer (point k.dims) (record { x = x; y = y; z = z })
  pub at-fits : Fits w64 (at + 1)
  pub high-side : (at + 1 + k.dims.x < length lower) × (at + 1 + k.dims.x < length upper)
  pub in-part : at ≤ in_layer (point k.dims) (point k.high)
  pub inside : PointInside (point k.dims) (record { x = x; y = y; z = z })

module _ {lower upper : List Float} {k : Block} {y z : ℕ} (r : Row lower upper k y z) where
  next_row : k.dims.x * (y + 1) ≡ k.dims.x * y + k.dims.x
  next_row = mul-add k.dims.x y 1 ∙ ap (λ (n : ℕ). k.dims.x * y + n) (mul-one k.dims.x)

  pub row_fits : Fits w64 (k.dims.x * y)
  row_fits =
      let f = layers-fit r.layers in
      let a = r.along-y in
      let s = plane-small r.layers in
      let p = in-plane (point k.dims) (record { x = k.low.x; y = y; z = z }) (omega arith) (omega arith) in
      omega arith

  pub first_fits : Fits w64 (k.low.x + k.dims.x * y)
  first_fits =
      let f = layers-fit r.layers in
      let a = r.along-y in
      let s = plane-small r.layers in
      let p = in-plane (point k.dims) (record { x = k.low.x; y = y; z = z }) (omega arith) (omega arith) in
      omega arith

  -- the side with which the row begins, which is read even where the row has no cell
  pub first-side : {at : ℕ} → at ≡ in_layer (point k.dims) (record { x = k.low.x; y = y; z = z }) → (at + k.dims.x < length lower) × (at + k.dims.x < length upper)
  first-side e =
      let f = layers-fit r.layers in
      let a = r.along-y in
      let o = in_order (point k.dims) (record { x = k.low.x; y = y + 1; z = z }) (point k.high) (omega arith) (omega arith) in
      let n = next_row in
      let l = r.layers.lower_holds in
      let u = r.layers.upper_holds in
      (omega arith, omega arith)

  pub row-begun : {at : ℕ} → at ≡ in_layer (point k.dims) (record { x = k.low.x; y = y; z = z }) → OnRow k y z at k.low.x
  row-begun e = record { count = begun (cell-spans (somewhere r.layers)).x; place = e }

  pub at-cell : {at x : ℕ} → OnRow k y z at x → x < k.high.x → AtCell lower upper k y z at x
  at-cell {at} {x} o h =
      let p : GridPoint = record { x = x; y = y; z = z } in
      let c : T (is_cell (box_of k) p) = is-cell (box_of k) p (record { x = (o.count.low, h); y = r.along-y; z = r.layers.here }) in
      let i = somewhere r.layers in
      let inside = point-inside _ k i p (cell-in-box (box_of k) p c) in
      let near = index-few (point k.dims) p inside in
      let t = turn (cell-spans i).x o.count h in
      let a = r.along-y in
      let e = o.place in
      let far = in_order (point k.dims) (record { x = x + 1; y = y + 1; z = z }) (point k.high) (omega arith) (omega arith) in
      let here = in_order (point k.dims) p (point k.high) (omega arith) (omega arith) in
      let n = next_row in
      let l = r.layers.lower_holds in
      let u = r.layers.upper_holds in
      record {
        turn = t;
        next = record { count = t.next; place = omega arith };
        grows = row-grows (box_of k) z y x o.count.low;
        cell = c;
        place = e;
        at-fits = omega arith;
        high-side = (omega arith, omega arith);
        in-part = omega arith;
        inside = inside;
      }

pub row_done : {k : Block} {y z at x : ℕ} → OnRow k y z at x → k.high.x ≤ x → row_to (box_of k) z y x ≡ row_cells (box_of k) z y
row_done {k} {y} {z} o h = ap (row_to (box_of k) z y) (ended o.count h) ∙ row_ends (box_of k) z y
