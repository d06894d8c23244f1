-- Counts of lists add up, are small, and are what a loop over rows or layers has counted. Assumes nothing.
use Prim.Native.Nat.{ℕ, ◌+◌, ◌*◌, ◌≤◌, ◌<◌}
use native.Mathlib.Nat.{mul-add}
use native.Mathlib.Omega.{arith}
use mathlib.Core.List.{List, [], ◌∷◌, ◌++◌}
use mathlib.Core.Path.{◌≡◌, refl, sym, ap, ap₂, ◌∙◌}
use mir.Syntax.{w64}
use mir.Val.{Fits}
use lib.Dec.{T}
use lib.ListN.{length, length-append}
use lib.Ieee.{Float}
use Rattle.lists.specs.Lists.{keep, joined}
use Rattle.rules.specs.Grid.{GridPoint, axis_x, axis_y, axis_z, Box, Field, in_box, value}
use Rattle.rules.specs.Vertices.{surface_cell, layer_cells, layer_vertices}
use Rattle.rules.specs.Faces.{Flags, Edge as Edge', edge, gives, cell_edges, layer_edges}
use Rattle.lists.proofs.Lists.{keep_append, joined-append, length-keep, many-most}
use Rattle.rules.proofs.Edges.{cell_edges-length}
use Rattle.lists.proofs.Tests.{one-most}
use Rattle.grid.specs.declared.Block.{Block}
use Rattle.grid.specs.Block.{point, box_of, flags_of, field_of}
use Rattle.grid.specs.Inside.{Inside}
use Rattle.grid.specs.Layers.{layer_dist, two_layers, part, rest}
use Rattle.grid.proofs.Parts.{layers-agree}
use Rattle.grid.proofs.Slab.{slab, grid, layer-alike, edges-alike}
use Rattle.count.specs.declared.Tally.{Tally}
use Rattle.count.specs.Tally.{tally_of}

-- ---- lists add up

pub none-counted : (g : Field) (b : Box) (m : Flags) → tally_of g b m [] ≡ record { vertices = 0; indices = 0 }
unfolding tally_of keep joined
none-counted g b m = refl

pub vertices-add : (g : Field) (b : Box) (m : Flags) (s t : List GridPoint) → (tally_of g b m (s ++ t)).vertices ≡ (tally_of g b m s).vertices + (tally_of g b m t).vertices
unfolding tally_of
vertices-add g b m s t = ap length (keep_append (surface_cell g) s t) ∙ length-append (keep (surface_cell g) s) (keep (surface_cell g) t)

pub indices-add : (g : Field) (b : Box) (m : Flags) (s t : List GridPoint) → (tally_of g b m (s ++ t)).indices ≡ (tally_of g b m s).indices + (tally_of g b m t).indices
unfolding tally_of
indices-add g b m s t =
    ap (λ (l : List GridPoint). 6 * length (joined (cell_edges g b m) l)) (keep_append (surface_cell g) s t)
    ∙ ap (λ (l : List Edge'). 6 * length l) (joined-append (cell_edges g b m) (keep (surface_cell g) s) (keep (surface_cell g) t))
    ∙ ap (λ (n : ℕ). 6 * n) (length-append (joined (cell_edges g b m) (keep (surface_cell g) s)) (joined (cell_edges g b m) (keep (surface_cell g) t)))
    ∙ mul-add 6 (length (joined (cell_edges g b m) (keep (surface_cell g) s))) (length (joined (cell_edges g b m) (keep (surface_cell g) t)))

-- ---- and are small

edges_few : (g : Field) (b : Box) (m : Flags) (l : List GridPoint) → length (joined (cell_edges g b m) l) ≤ 3 * length l
unfolding joined
edges_few g b m [] = omega arith
edges_few g b m (c ∷ l) =
    let here : length (cell_edges g b m c) ≤ 3 = rw (cell_edges-length g b m c)
    (omega (arith, one-most (gives g b m (edge axis_x c)), one-most (gives g b m (edge axis_y c)), one-most (gives g b m (edge axis_z c)))) in
    rw (length-append (cell_edges g b m c) (joined (cell_edges g b m) l)) (omega (arith, edges_few g b m l))

pub vertices-few : (g : Field) (b : Box) (m : Flags) (l : List GridPoint) → (tally_of g b m l).vertices ≤ length l
unfolding tally_of
vertices-few g b m l = rw (length-keep (surface_cell g) l) (many-most (surface_cell g) l)

pub indices-few : (g : Field) (b : Box) (m : Flags) (l : List GridPoint) → (tally_of g b m l).indices ≤ 18 * length l
unfolding tally_of
indices-few g b m l =
    let v = vertices-few g b m l in
    let e = edges_few g b m (keep (surface_cell g) l) in
    omega arith

-- ---- a layer depends on its two layers of distances alone

tally-alike : (d : GridPoint) (f f' : ℕ → Float) (b : Box) (m : Flags) (z : ℕ) → ((p : GridPoint) → T (in_box (slab b z) p) → value (grid d f) p ≡ value (grid d f') p)
    → tally_of (grid d f) b m (layer_cells b z) ≡ tally_of (grid d f') b m (layer_cells b z)
unfolding tally_of layer_vertices layer_edges
tally-alike d f f' b m z agree =
    let vertices = layer-alike d f f' b z agree in
    let edges = edges-alike d f f' b z agree m in
    λ i. record { vertices = length (vertices i); indices = 6 * length (edges i) }

-- so that the parts of a grid that are lent for it count what it counts in the grid
pub part-tally : (sdf : List Float) (k : Block) (i : Inside sdf k) (z : ℕ) (zs : (k.low.z ≤ z) × (z < k.high.z)) {lower upper : List Float} {t : Tally}
    → lower ≡ part (k.dims.x * k.dims.y * z) (k.dims.x * k.dims.y) sdf → upper ≡ rest (k.dims.x * k.dims.y * z + k.dims.x * k.dims.y) sdf
    → t ≡ tally_of (two_layers lower upper k z) (box_of k) (flags_of k) (layer_cells (box_of k) z)
    → t ≡ tally_of (field_of sdf k) (box_of k) (flags_of k) (layer_cells (box_of k) z)
part-tally sdf k i z zs l u e =
    let plane = k.dims.x * k.dims.y in
    let two = layer_dist (part (plane * z) plane sdf) (rest (plane * z + plane) sdf) plane z in
    let same = ap₂ (λ (lower upper : List Float). tally_of (two_layers lower upper k z) (box_of k) (flags_of k) (layer_cells (box_of k) z)) l u in
    e ∙ same ∙ tally-alike (point k.dims) two (field_of sdf k).dist (box_of k) (flags_of k) z (layers-agree sdf k i z zs)

-- ---- a loop's counts, over the distances of a field

-- v and i are the counts of the cells that are passed
pub record Counts (g : Field) (k : Block) (passed : List GridPoint) (v i : ℕ) : Type 0 where
  pub same : ◌≡◌ {A = Tally} (record { vertices = v; indices = i }) (tally_of g (box_of k) (flags_of k) passed)

pub counts-none : {g : Field} {k : Block} {passed : List GridPoint} → passed ≡ [] → Counts g k passed 0 0
counts-none {g} {k} e = record { same = sym (ap (tally_of g (box_of k) (flags_of k)) e ∙ none-counted g (box_of k) (flags_of k)) }

pub counts_all : {g : Field} {k : Block} {passed all : List GridPoint} {v i : ℕ} → Counts g k passed v i → passed ≡ all
    → ◌≡◌ {A = Tally} (record { vertices = v; indices = i }) (tally_of g (box_of k) (flags_of k) all)
counts_all {g} {k} c e = c.same ∙ ap (tally_of g (box_of k) (flags_of k)) e

-- a step of a loop: what was counted and one list more, which is the longer list's count and fits
pub record Step (g : Field) (k : Block) (next : List GridPoint) (v i v' i' : ℕ) : Type 0 where
  pub vertices-fit : Fits w64 (v + v')
  pub indices-fit : Fits w64 (i + i')
  pub counts : Counts g k next (v + v') (i + i')

pub step : {g : Field} {k : Block} {s t next : List GridPoint} {v i v' i' : ℕ} → Counts g k s v i → Counts g k t v' i' → next ≡ s ++ t → length next ≤ 1073741824
    → Step g k next v i v' i'
step {g} {k} {s} {t} {next} {v} {i} {v'} {i'} old new e few =
    let b = box_of k in
    let m = flags_of k in
    let tally = tally_of g b m in
    let ev : v + v' ≡ (tally next).vertices =
    ap (λ (a : Tally). a.vertices + v') old.same
    ∙ ap (λ (a : Tally). (tally s).vertices + a.vertices) new.same
    ∙ sym (ap (λ (c : List GridPoint). (tally c).vertices) e ∙ vertices-add g b m s t) in
    let ei : i + i' ≡ (tally next).indices =
    ap (λ (a : Tally). a.indices + i') old.same
    ∙ ap (λ (a : Tally). (tally s).indices + a.indices) new.same
    ∙ sym (ap (λ (c : List GridPoint). (tally c).indices) e ∙ indices-add g b m s t) in
    record {
      vertices-fit = omega (arith, vertices-few g b m next);
      indices-fit = omega (arith, indices-few g b m next);
      counts = record { same = λ j. record { vertices = ev j; indices = ei j } };
    }
