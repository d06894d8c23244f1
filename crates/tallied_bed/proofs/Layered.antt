-- The layers of a grid that are counted one after the other, from min z to max z, tell the whole call's counts: where that is answered 0 each of them is, and each
-- tells the counts of the cells below it. Assumes nothing.
use Prim.Native.Nat.{ℕ, zero, suc, ◌+◌, ◌-◌, ◌*◌, ◌≤◌, ◌<◌}
use native.Mathlib.Nat.{le_refl, add-zero}
use native.Mathlib.Omega.{arith}
use mathlib.Core.Bool.{false, ◌||◌}
use mathlib.Core.List.{List, []}
use mathlib.Core.Logic.{inl, inr}
use mathlib.Core.Path.{◌≡◌, refl, sym, ap, ◌∙◌}
use borrow.Author.Tests.{le-ltb}
use lib.Dec.{T, ltb}
use lib.ListN.{length, get_or}
use lib.Ieee.{Float, nan}
use Rattle.lists.specs.Lists.{many}
use Rattle.lists.proofs.Lists.{many-append, many-most}
use Rattle.lists.proofs.Tests.{failed, less-or-not}
use Rattle.lists.proofs.Either.{or-none}
use Rattle.rules.specs.Grid.{GridPoint, Box, Field, in_box, value}
use Rattle.rules.specs.Vertices.{layer_cells}
use Rattle.rules.specs.Faces.{Flags}
use Rattle.rules.proofs.Indexes.{within, box-fits}
use Rattle.grid.specs.declared.Block.{Block}
use Rattle.grid.specs.Block.{point, box_of, flags_of, field_of}
use Rattle.grid.specs.Layers.{layer_dist, two_layers}
use Rattle.grid.specs.Order.{box_to}
use Rattle.grid.proofs.Faults.{faultless-inside}
use Rattle.grid.proofs.Layers.{in-plane, value-lower, value-upper}
use Rattle.grid.proofs.Order.{box-begins, box-grows, box-ends}
use Rattle.grid.proofs.Rows.{box-short}
use Rattle.grid.proofs.Slab.{slab}
use Rattle.count.specs.declared.Tally.{Tally}
use Rattle.count.specs.Tally.{tally_of}
use Rattle.count.proofs.Tallies.{none-counted, vertices-add, indices-add, vertices-few, indices-few}
use Rattle.judge.proofs.Judging.{tally-counts}
use Rattle.levels.specs.Columns.{columns}
use Rattle.levels.proofs.Answering.{Accepted}
use Rattle.levelled_bed.specs.Layers.{layer_at}
use Rattle.levelled_bed.proofs.Layered.{read_at}
use Rattle.tally.specs.declared.Counts.{Counts}
use Rattle.tally.specs.Cells.{all_negative}
use Rattle.tally.specs.Call.{Told, counted, nothing, told, plus, counts_of, too_many, layer_counts, layer_told}
use Rattle.tally.proofs.Answering.{good-first, good-0, layer-done, taken-first, taken_next}
use Rattle.tally.proofs.Boxes.{none_yet, layer-tally, counts-alike}
use Rattle.tallied_bed.specs.Calls.{Whole, Offer, last_of, InTurn}
use Rattle.tallied_bed.proofs.Accepted.{accepted, counts-told, layer-good, done-told}

module _ (sdf : List Float) (k : Block) (a : Accepted sdf (point k.dims) (box_of k) (columns (box_of k))) where
  abbrev d : GridPoint
  d = point k.dims

  abbrev b : Box
  b = box_of k

  abbrev m : Flags
  m = flags_of k

  abbrev g : Field
  g = field_of sdf k

  -- ---- two layers of the grid, lent apart, are the grid between them

  agrees : (z above : ℕ) → above ≡ z + 1 → (p : GridPoint) → T (in_box (slab (box_of k) z) p)
      → value (two_layers (layer_at sdf (point k.dims) z) (layer_at sdf (point k.dims) above) k z) p ≡ value (field_of sdf k) p
  agrees z above up p t =
      let f = box-fits d b (failed refl a.faultless.box) in
      let w = within (slab b z) p t in
      let hx : p.x < k.dims.x = omega (arith, w.x, f.x) in
      let hy : p.y < k.dims.y = omega (arith, w.y, f.y) in
      let lower = layer_at sdf d z in
      let upper = layer_at sdf d above in
      elim (less-or-not p.z (z + 1)) [
        | inl h ↦
            let e : p.z ≡ z = omega (arith, w.z) in
            value-lower lower upper k z p e (in-plane d p hx hy)
            ∙ (read_at sdf d p.x p.y z hx hy ∙ ap (λ (y : ℕ). get_or sdf (p.x + k.dims.x * p.y + k.dims.x * k.dims.y * y) nan) (sym e))
        | inr h ↦
            let e : p.z ≡ z + 1 = omega (arith, w.z) in
            value-upper lower upper k z p e
            ∙ (read_at sdf d p.x p.y above hx hy ∙ ap (λ (y : ℕ). get_or sdf (p.x + k.dims.x * p.y + k.dims.x * k.dims.y * y) nan) (up ∙ sym e))
      ]

  -- the cells below the layer `above`
  between-counts : (z above : ℕ) → above ≡ z + 1
      → layer_counts (two_layers (layer_at sdf (point k.dims) z) (layer_at sdf (point k.dims) above) k (above - 1)) (box_of k) (flags_of k) (above - 1)
      ≡ layer_counts (field_of sdf k) (box_of k) (flags_of k) z
  between-counts z above up =
      let lower = layer_at sdf d z in
      let upper = layer_at sdf d above in
      let back : above - 1 ≡ z = omega arith in
      ap (λ (y : ℕ). layer_counts (two_layers lower upper k y) b m y) back
      ∙ counts-alike d (layer_dist lower upper (k.dims.x * k.dims.y) z) g.dist b m z (agrees z above up)

  -- ---- the counts of the cells below z

  abbrev pub counts_to : ℕ → Counts
  counts_to z =
      let t = tally_of (field_of sdf k) (box_of k) (flags_of k) (box_to (box_of k) z) in
      counted (many (all_negative (field_of sdf k)) (box_to (box_of k) z)) t.vertices t.indices

  begins : nothing ≡ counts_to k.low.z
  begins =
      let e = box-begins b in
      let t = sym (ap (tally_of g b m) e ∙ none-counted g b m) in
      λ i. counted (none_yet (all_negative g) e i) (t i).vertices (t i).indices

  grows : (z : ℕ) → k.low.z ≤ z → plus (counts_to z) (layer_counts g b m z) ≡ counts_to (z + 1)
  grows z h =
      let e = box-grows b z h in
      let l = layer-tally g b m z in
      let whole = sym (ap (many (all_negative g)) e ∙ many-append (all_negative g) (box_to b z) (layer_cells b z)) in
      let v = ap (λ (t : Tally). (tally_of g b m (box_to b z)).vertices + t.vertices) (sym l)
      ∙ sym (ap (λ (c : List GridPoint). (tally_of g b m c).vertices) e ∙ vertices-add g b m (box_to b z) (layer_cells b z)) in
      let n = ap (λ (t : Tally). (tally_of g b m (box_to b z)).indices + t.indices) (sym l)
      ∙ sym (ap (λ (c : List GridPoint). (tally_of g b m c).indices) e ∙ indices-add g b m (box_to b z) (layer_cells b z)) in
      λ i. counted (whole i) (v i) (n i)

  ends : counts_to k.high.z ≡ counts_of g b m
  ends =
      let e = box-ends b in
      let t = ap (tally_of g b m) e ∙ tally-counts g b m in
      λ i. counted (many (all_negative g) (e i)) (t i).vertices (t i).indices

  small : (z : ℕ) → z ≤ k.high.z → too_many (counts_to z) ≡ false
  small z h =
      let l = box_to b z in
      let short : length l ≤ 1073741824 = box-short sdf k (faultless-inside sdf k a.faultless) z h in
      let whole : many (all_negative g) l ≤ 1152921504606846976 = omega (arith, many-most (all_negative g) l) in
      let v : (tally_of g b m l).vertices ≤ 1152921504606846976 = omega (arith, vertices-few g b m l) in
      let n : (tally_of g b m l).indices ≤ 1152921504606846976 = omega (arith, indices-few g b m l) in
      let c = counts_to z in
      or-none (ltb 1152921504606846976 c.whole) (ltb 1152921504606846976 c.vertices || ltb 1152921504606846976 c.indices)
      (le-ltb 1152921504606846976 c.whole whole)
      (or-none (ltb 1152921504606846976 c.vertices) (ltb 1152921504606846976 c.indices) (le-ltb 1152921504606846976 c.vertices v)
      (le-ltb 1152921504606846976 c.indices n))

  -- ---- one layer

  first-told : (sofar : Counts) → 0 ≤ last_of k → layer_told [] (layer_at sdf (point k.dims) (k.low.z + 0)) k (k.low.z + 0) sofar ≡ told 0 (counts_to (k.low.z + 0))
  first-told sofar h =
      let z = k.low.z + 0 in
      let e : z ≡ k.low.z = add-zero k.low.z in
      let upper = layer_at sdf d z in
      sym (layer-done [] upper k z sofar (good-first (layer-good sdf k a 0 h) sofar e) (taken-first [] upper k z sofar e)) ∙ ap (told 0) (begins ∙ sym (ap counts_to e))

  next-told : (n : ℕ) → suc n ≤ last_of k
      → layer_told (layer_at sdf (point k.dims) (k.low.z + n)) (layer_at sdf (point k.dims) (k.low.z + suc n)) k (k.low.z + suc n) (counts_to (k.low.z + n))
      ≡ told 0 (counts_to (k.low.z + suc n))
  next-told n h =
      let low = k.low.z + n in
      let z = k.low.z + suc n in
      let sofar = counts_to low in
      let lower = layer_at sdf d low in
      let upper = layer_at sdf d z in
      let up : z ≡ low + 1 = omega arith in
      let from : k.low.z ≤ low = omega arith in
      let f = box-fits d b (failed refl a.faultless.box) in
      let under : low ≤ k.high.z = omega (arith, f.z) in
      let other : z ≡ k.low.z → ⊥ = apart k.low.z n z refl in
      let same : plus sofar (layer_counts (two_layers lower upper k (z - 1)) b m (z - 1)) ≡ counts_to z =
      ap (plus sofar) (between-counts low z up) ∙ (grows low from ∙ ap counts_to (sym up)) in
      sym (layer-done lower upper k z sofar (good-0 (layer-good sdf k a (suc n) h) sofar other (small low under)) (taken_next lower upper k z sofar other)) ∙ ap (told 0) same
    where
      apart : (low n z : ℕ) → z ≡ low + suc n → z ≡ low → ⊥
      apart low n z e e' = omega (arith, e, e')

-- ---- all of them

module _ (w : Whole) (done : w.says.answer ≡ 0) (o : ℕ → Offer) (t : InTurn w o) where
  pub good : Accepted w.sdf (point w.block.dims) (box_of w.block) (columns (box_of w.block))
  good = accepted w.sdf w.block (done-told w.sdf w.block w.said done)

  -- each tells the counts of the cells below it
  pub each_tells : (n : ℕ) → n ≤ last_of w.block → (o n).says ≡ told 0 (counts_to w.sdf w.block good (w.block.low.z + n))
  each_tells zero h =
      (o 0).said ∙ ((λ i. layer_told (t.below 0 h i) (t.layer 0 h i) (t.block 0 h i) (t.z 0 h i) (o 0).sofar) ∙ first-told w.sdf w.block good (o 0).sofar h)
  each_tells (suc n) h =
      let under : n ≤ last_of w.block = omega arith in
      let from : (o (suc n)).sofar ≡ counts_to w.sdf w.block good (w.block.low.z + n) = t.next n h ∙ ap (λ (s : Told). s.counts) (each_tells n under) in
      (o (suc n)).said
      ∙ ((λ i. layer_told (t.below (suc n) h i) (t.layer (suc n) h i) (t.block (suc n) h i) (t.z (suc n) h i) (from i)) ∙ next-told w.sdf w.block good n h)

  pub each-answered : (n : ℕ) → n ≤ last_of w.block → (o n).says.answer ≡ 0
  each-answered n h = ap (λ (s : Told). s.answer) (each_tells n h)

  -- and the last one what the whole call tells
  pub last-tells : (o (last_of w.block)).says ≡ w.says
  last-tells =
      let k = w.block in
      let f = box-fits (point k.dims) (box_of k) (failed refl good.faultless.box) in
      let top : k.low.z + last_of k ≡ k.high.z = omega (arith, f.z) in
      each_tells (last_of k) (le_refl (last_of k))
      ∙ (ap (told 0) (ap (counts_to w.sdf k good) top ∙ ends w.sdf k good) ∙ (sym (counts-told w.sdf k good) ∙ sym w.said))
