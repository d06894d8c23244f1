-- Counts of lists of cells add up and are small, and a layer's depends on its two layers of distances alone. Assumes nothing.
use Prim.Native.Nat.{ℕ, ◌+◌, ◌*◌, ◌≤◌, ◌<◌}
use native.Mathlib.Nat.{le_refl}
use native.Mathlib.Omega.{arith}
use mathlib.Core.Bool.{Bool}
use mathlib.Core.List.{List, [], ◌++◌}
use mathlib.Core.Path.{◌≡◌, refl, sym, ap, ap₂, ◌∙◌}
use mir.Syntax.{w64}
use mir.Val.{Fits}
use lib.Dec.{T, eqb}
use lib.ListN.{length}
use lib.Ieee.{Float}
use Rattle.lists.specs.Lists.{many}
use Rattle.lists.proofs.Lists.{all_then, many-append, many-same, many-most}
use Rattle.rules.specs.Grid.{GridPoint, Box, Field, in_box, value}
use Rattle.rules.specs.Cell.{negatives}
use Rattle.rules.specs.Vertices.{layer_cells, layer_vertices}
use Rattle.rules.specs.Faces.{Flags, layer_edges}
use Rattle.rules.proofs.Locality.{values_same}
use Rattle.grid.specs.declared.Block.{Block}
use Rattle.grid.specs.Block.{point, box_of, flags_of, field_of}
use Rattle.grid.specs.Inside.{Inside}
use Rattle.grid.specs.Layers.{layer_dist, two_layers, InLayers, part, rest}
use Rattle.grid.proofs.Layers.{somewhere}
use Rattle.grid.proofs.Order.{layer-ends}
use Rattle.grid.proofs.Parts.{layers-agree}
use Rattle.grid.proofs.Rows.{layer-short}
use Rattle.grid.proofs.Slab.{slab, slab-cells, grid, layer-alike, edges-alike}
use Rattle.count.specs.declared.Tally.{Tally}
use Rattle.count.specs.Tally.{tally_of}
use Rattle.count.proofs.Tallies.{vertices-few, indices-few}
use Rattle.tally.specs.Cells.{all_negative, whole_in_layer}
use Rattle.tally.specs.Call.{counted, layer_counts}

-- ---- a loop's count

pub none_yet : (f : GridPoint → Bool) {passed : List GridPoint} → passed ≡ [] → 0 ≡ many f passed
unfolding many
none_yet f e = sym (ap (many f) e)

pub record More (f : GridPoint → Bool) (next : List GridPoint) (n n' : ℕ) : Type 0 where
  pub fits : Fits w64 (n + n')
  pub same : n + n' ≡ many f next

pub more : {f : GridPoint → Bool} (s t : List GridPoint) {next : List GridPoint} {n n' : ℕ} → n ≡ many f s → n' ≡ many f t → next ≡ s ++ t → length next ≤ 1073741824
    → More f next n n'
more {f} s t {next} {n} {n'} e e' grows few =
    let same : n + n' ≡ many f next = ap₂ ◌+◌ e e' ∙ sym (ap (many f) grows ∙ many-append f s t) in
    record { fits = omega (arith, many-most f next); same = same }

-- ---- a layer depends on its two layers of distances alone

pub whole-alike : (d : GridPoint) (f f' : ℕ → Float) (b : Box) (z : ℕ) → ((p : GridPoint) → T (in_box (slab b z) p) → value (grid d f) p ≡ value (grid d f') p)
    → whole_in_layer (grid d f) b z ≡ whole_in_layer (grid d f') b z
whole-alike d f f' b z agree =
    many-same (all_then (λ c t. ap (λ (v : List Float). eqb (negatives v) 8) (values_same (grid d f) (grid d f') (slab b z) agree c t)) (slab-cells b z))

pub counts-alike : (d : GridPoint) (f f' : ℕ → Float) (b : Box) (m : Flags) (z : ℕ)
    → ((p : GridPoint) → T (in_box (slab b z) p) → value (grid d f) p ≡ value (grid d f') p) → layer_counts (grid d f) b m z ≡ layer_counts (grid d f') b m z
counts-alike d f f' b m z agree =
    let whole = whole-alike d f f' b z agree in
    let vertices = layer-alike d f f' b z agree in
    let edges = edges-alike d f f' b z agree m in
    λ i. counted (whole i) (length (vertices i)) (6 * length (edges i))

-- so that the parts of a grid that are lent for it count what it counts in the grid
pub part-whole : (sdf : List Float) (k : Block) (i : Inside sdf k) (z : ℕ) (zs : (k.low.z ≤ z) × (z < k.high.z)) {lower upper : List Float} {n : ℕ}
    → lower ≡ part (k.dims.x * k.dims.y * z) (k.dims.x * k.dims.y) sdf → upper ≡ rest (k.dims.x * k.dims.y * z + k.dims.x * k.dims.y) sdf
    → n ≡ whole_in_layer (two_layers lower upper k z) (box_of k) z → n ≡ whole_in_layer (field_of sdf k) (box_of k) z
part-whole sdf k i z zs l u e =
    let plane = k.dims.x * k.dims.y in
    let two = layer_dist (part (plane * z) plane sdf) (rest (plane * z + plane) sdf) plane z in
    let same = ap₂ (λ (lower upper : List Float). whole_in_layer (two_layers lower upper k z) (box_of k) z) l u in
    e ∙ same ∙ whole-alike (point k.dims) two (field_of sdf k).dist (box_of k) z (layers-agree sdf k i z zs)

-- ---- a layer's three counts

pub layer-tally : (g : Field) (b : Box) (m : Flags) (z : ℕ)
    → tally_of g b m (layer_cells b z) ≡ record { vertices = length (layer_vertices g b z); indices = 6 * length (layer_edges g b m z) }
unfolding tally_of layer_vertices layer_edges
layer-tally g b m z = refl

pub record Few (a v i : ℕ) : Type 0 where
  pub whole : a ≤ 1073741824
  pub vertices : v ≤ 1073741824
  pub indices : i ≤ 19327352832

pub layer-few : {lower upper : List Float} {k : Block} {z : ℕ} → InLayers lower upper k z → (g : Field) {a : ℕ} {t : Tally} → a ≡ whole_in_layer g (box_of k) z
    → t ≡ tally_of g (box_of k) (flags_of k) (layer_cells (box_of k) z) → Few a t.vertices t.indices
layer-few {k = k} {z = z} i g {a} {t} ea et =
    let b = box_of k in
    let m = flags_of k in
    let l = layer_cells b z in
    let short : length l ≤ 1073741824 = rw (← layer-ends b z) (layer-short _ k (somewhere i) z k.high.y (le_refl k.high.y)) in
    let ev : t.vertices ≡ (tally_of g b m l).vertices = ap (λ (u : Tally). u.vertices) et in
    let ei : t.indices ≡ (tally_of g b m l).indices = ap (λ (u : Tally). u.indices) et in
    record {
      whole = omega (arith, many-most (all_negative g) l);
      vertices = omega (arith, vertices-few g b m l);
      indices = omega (arith, indices-few g b m l);
    }
