-- What holds in a turn of a loop over a box that lies in the grid: of the counter on any axis, at a row of a layer and at a layer
-- of the box. A loop's proof names these facts, and has no arithmetic of its own. Assumes nothing.
use Prim.Native.Nat.{ℕ, ◌+◌, ◌-◌, ◌≤◌, ◌<◌}
use native.Mathlib.Nat.{le_refl, le_antisymm}
use native.Mathlib.Omega.{arith}
use mathlib.Core.Bool.{Bool, false, ◌||◌}
use mathlib.Core.List.{List, ◌++◌}
use mathlib.Core.Path.{◌≡◌, refl, ap, ◌∙◌}
use mir.Syntax.{w32, w64}
use mir.Val.{Fits}
use lib.ListN.{length}
use lib.Ieee.{Float}
use Rattle.lists.specs.Lists.{some, up_to}
use Rattle.rules.specs.Vertices.{row_cells, layer_cells, cells}
use Rattle.grid.specs.declared.Block.{Block}
use Rattle.grid.specs.Block.{point, box_of}
use Rattle.grid.specs.Inside.{Inside}
use Rattle.grid.specs.Order.{layer_to, box_to}
use Rattle.grid.proofs.Bounds.{fits, small}
use Rattle.grid.proofs.Runs.{none_yet, one_more}
use Rattle.grid.proofs.Order.{layer-grows, layer-ends, box-grows, box-ends}
use Rattle.grid.proofs.Rows.{layer-short, box-short}

-- ---- a counter n that goes from `from` up to `end`

pub record Span (from end : ℕ) : Type 0 where
  pub ordered : from ≤ end
  pub small : end ≤ 16777217

-- before each turn, and after the last
pub record Counting (from end n : ℕ) : Type 0 where
  pub low : from ≤ n
  pub high : n ≤ end

-- in a turn
pub record Turn (from end n : ℕ) : Type 0 where
  pub here : (from ≤ n) × (n < end)
  pub next : Counting from end (n + 1)
  pub fits : Fits w32 (n + 1)
  pub less : end - (n + 1) < end - n

pub end_fits : {from end : ℕ} → Span from end → Fits w32 end
end_fits s = omega arith

pub count_fits : {from end : ℕ} → Span from end → Fits w64 (end - from)
count_fits s = omega arith

pub begun : {from end : ℕ} → Span from end → Counting from end from
begun s = omega arith

pub turn : {from end n : ℕ} → Span from end → Counting from end n → n < end → Turn from end n
turn s c h = omega arith

pub ended : {from end n : ℕ} → Counting from end n → end ≤ n → n ≡ end
ended c h = le_antisymm c.high h

-- a counter over points goes on to the last
pub through : {from last n : ℕ} → Turn from (last + 1) n → (from ≤ n) × (n ≤ last)
through t = omega arith

-- the counters over the cells of a box, and over its points
pub record CellSpans (k : Block) : Type 0 where
  pub x : Span k.low.x k.high.x
  pub y : Span k.low.y k.high.y
  pub z : Span k.low.z k.high.z

pub record PointSpans (k : Block) : Type 0 where
  pub x : Span k.low.x (k.high.x + 1)
  pub y : Span k.low.y (k.high.y + 1)
  pub z : Span k.low.z (k.high.z + 1)

module _ {grid : List Float} {k : Block} (i : Inside grid k) where
  pub cell-spans : CellSpans k
  cell-spans = let f = fits grid k i in let s = small (point k.dims) i.dims in omega arith

  pub point-spans : PointSpans k
  point-spans = let f = fits grid k i in let s = small (point k.dims) i.dims in omega arith

-- ---- a loop that asks a test of each n

pub record Scanned (f : ℕ → Bool) (from end n : ℕ) (found : Bool) : Type 0 where
  pub count : Counting from end n
  pub same : found ≡ some f (up_to from n)

pub scan-begun : {f : ℕ → Bool} {from end : ℕ} → Span from end → Scanned f from end from false
scan-begun {f} {from} s = record { count = begun s; same = none_yet f from }

pub scan-more : {f : ℕ → Bool} {from end n : ℕ} {found more now' : Bool} → Scanned f from end n found → Turn from end n → more ≡ f n → now' ≡ (found || more) → Scanned f from end
    (n + 1) now'
scan-more {f} s t e d = record { count = t.next; same = one_more f t.here.0 s.same e d }

pub scan-ended : {f : ℕ → Bool} {from end n : ℕ} {found : Bool} → Scanned f from end n found → end ≤ n → found ≡ some f (up_to from end)
scan-ended {f} {from} s h = s.same ∙ ap (λ (m : ℕ). some f (up_to from m)) (ended s.count h)

-- ---- a loop that has asked the test of the number ahead too, as a walk over layers of cells does of its layers of points

pub record Ahead (f : ℕ → Bool) (from end n : ℕ) (found : Bool) : Type 0 where
  pub count : Counting from end n
  pub same : found ≡ some f (up_to from (n + 1))

pub ahead-begun : {f : ℕ → Bool} {from end : ℕ} {found : Bool} → Span from end → found ≡ f from → Ahead f from end from found
ahead-begun {f} {from} s e = record { count = begun s; same = one_more f (le_refl from) (none_yet f from) e refl }

pub ahead_more : {f : ℕ → Bool} {from end n : ℕ} {found more now' : Bool} → Ahead f from end n found → Turn from end n → more ≡ f (n + 1) → now' ≡ (found || more)
    → Ahead f from end (n + 1) now'
ahead_more {f} a t e d = record { count = t.next; same = one_more f t.next.low a.same e d }

pub ahead-ended : {f : ℕ → Bool} {from end n : ℕ} {found : Bool} → Ahead f from end n found → end ≤ n → found ≡ some f (up_to from (end + 1))
ahead-ended {f} {from} a h = a.same ∙ ap (λ (m : ℕ). some f (up_to from (m + 1))) (ended a.count h)

-- ---- the box, layer by layer

pub record AtLayer (k : Block) (z : ℕ) : Type 0 where
  pub turn : Turn k.low.z k.high.z z
  pub grows : box_to (box_of k) (z + 1) ≡ box_to (box_of k) z ++ layer_cells (box_of k) z
  pub short : length (box_to (box_of k) (z + 1)) ≤ 1073741824

pub at-layer : {grid : List Float} {k : Block} {z : ℕ} → Inside grid k → Counting k.low.z k.high.z z → z < k.high.z → AtLayer k z
at-layer {grid} {k} {z} i c h =
    let t = turn (cell-spans i).z c h in
    record { turn = t; grows = box-grows (box_of k) z c.low; short = box-short grid k i (z + 1) t.next.high }

pub box-done : (k : Block) {z : ℕ} → Counting k.low.z k.high.z z → k.high.z ≤ z → box_to (box_of k) z ≡ cells (box_of k)
box-done k c h = ap (box_to (box_of k)) (ended c h) ∙ box-ends (box_of k)

-- ---- a layer z, row by row

pub record AtRow (k : Block) (z y : ℕ) : Type 0 where
  pub turn : Turn k.low.y k.high.y y
  pub grows : layer_to (box_of k) z (y + 1) ≡ layer_to (box_of k) z y ++ row_cells (box_of k) z y
  pub short : length (layer_to (box_of k) z (y + 1)) ≤ 1073741824

pub at_row : {grid : List Float} {k : Block} {z y : ℕ} → Inside grid k → Counting k.low.y k.high.y y → y < k.high.y → AtRow k z y
at_row {grid} {k} {z} {y} i c h =
    let t = turn (cell-spans i).y c h in
    record { turn = t; grows = layer-grows (box_of k) z y c.low; short = layer-short grid k i z (y + 1) t.next.high }

pub layer-done : (k : Block) (z : ℕ) {y : ℕ} → Counting k.low.y k.high.y y → k.high.y ≤ y → layer_to (box_of k) z y ≡ layer_cells (box_of k) z
layer-done k z c h = ap (layer_to (box_of k) z) (ended c h) ∙ layer-ends (box_of k) z
