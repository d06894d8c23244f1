-- The other way round: where each layer of a grid of the right length is answered 0, so is the whole call. With `Layered`, a whole call on such a grid is refused
-- exactly where one of its layers is. Assumes nothing.
use Prim.Native.Nat.{ℕ, ◌+◌, ◌-◌, ◌*◌, ◌≤◌, zero-le}
use native.Mathlib.Nat.{add-zero, mul-zero, le_refl}
use native.Mathlib.Omega.{arith}
use mathlib.Core.Bool.{Bool, true, false, not, ◌||◌, cond}
use mathlib.Core.List.{List}
use mathlib.Core.Path.{◌≡◌, refl, sym, ap, subst, ◌∙◌}
use lib.Dec.{T, eqb}
use lib.ListN.{length, get_or}
use lib.Ieee.{Float, nan}
use lib.Ieee.Bits.{is_false}
use Rattle.lists.specs.Lists.{some, run, up_to}
use Rattle.lists.proofs.Either.{or_left}
use Rattle.lists.proofs.Tests.{failed}
use Rattle.rules.specs.Grid.{GridPoint, Box, index, value, in_box}
use Rattle.rules.specs.Faces.{layer_points}
use Rattle.rules.specs.Call.{bad_length, bad_layer, bad_distance, beyond}
use Rattle.rules.proofs.Indexes.{within, in-box, box-within}
use Rattle.rules.proofs.Accepted.{distances-ok, ok-distances}
use Rattle.levels.specs.Columns.{columns, layer_level, changed}
use Rattle.levels.specs.Call.{grid_of, bad_points, levels_answer, layer_answer, layer_after}
use Rattle.levels.proofs.Changed.{changed-length}
use Rattle.levels.proofs.Answering.{Offered, layer-offered, levels-0}
use Rattle.levelled_bed.specs.Layers.{layer_at, below_nth}
use Rattle.levelled_bed.proofs.Layered.{flat_box, read_at}

-- a layer without a bad distance
points-fine : (d : GridPoint) (b : Box) (layer : List Float) → bad_points d b layer ≡ false → (q : GridPoint) → T (in_box (flat_box b) q)
    → T (not (beyond (value (grid_of layer d) q)))
unfolding bad_distance bad_layer layer_points up_to run some
points-fine d b layer e = distances-ok (grid_of layer d) (flat_box b) (none (bad_layer (grid_of layer d) b 0) e)
  where
    none : (t : Bool) → t ≡ false → T (not (t || false))
    none t e = subst (λ (s : Bool). T (not (s || false))) (sym e) tt

module _ (grid : List Float) (d : GridPoint) (b : Box) (room : ℕ) (fits : bad_length d (length grid) ≡ false)
    (each : (n : ℕ) → n ≤ b.high.z - b.low.z → layer_answer (below_nth grid d b n) (layer_at grid d (b.low.z + n)) d b (b.low.z + n) room ≡ 0) where
  offered : (n : ℕ) → n ≤ b.high.z - b.low.z → Offered (below_nth grid d b n) (layer_at grid d (b.low.z + n)) d b (b.low.z + n) room
  offered n h = layer-offered (below_nth grid d b n) (layer_at grid d (b.low.z + n)) d b (b.low.z + n) room (each n h)

  first : Offered (below_nth grid d b 0) (layer_at grid d (b.low.z + 0)) d b (b.low.z + 0) room
  first = offered 0 zero-le

  fine-at : (p : GridPoint) → T (in_box b p) → T (not (beyond (value (grid_of grid d) p)))
  fine-at p t =
      let w = within b p t in
      let n = p.z - b.low.z in
      let h : n ≤ b.high.z - b.low.z = omega (arith, w.z) in
      let back : b.low.z + n ≡ p.z = omega (arith, w.z) in
      let layer = layer_at grid d (b.low.z + n) in
      let q : GridPoint = record { x = p.x; y = p.y; z = 0 } in
      let there : T (in_box (flat_box b) q) = in-box (flat_box b) q (record { x = w.x; y = w.y; z = (le_refl 0, le_refl 0) }) in
      let o = offered n h in
      let good : bad_points d b layer ≡ false =
      or_left (bad_points d b layer) (cond (eqb (b.low.z + n) b.low.z) false (bad_points d b (below_nth grid d b n))) o.distances in
      let (hx, hy, hz) = box-within d b p (failed refl first.box) t in
      let flat : index d q ≡ p.x + d.x * p.y = ap (λ (m : ℕ). p.x + d.x * p.y + m) (mul-zero (d.x * d.y)) ∙ add-zero (p.x + d.x * p.y) in
      let same : value (grid_of layer d) q ≡ value (grid_of grid d) p =
      ap (λ (m : ℕ). get_or layer m nan) flat
      ∙ (read_at grid d p.x p.y (b.low.z + n) hx hy ∙ ap (λ (m : ℕ). get_or grid (p.x + d.x * p.y + d.x * d.y * m) nan) back) in
      subst (λ (x : Float). T (not (beyond x))) same (points-fine d b layer good q there)

  pub whole-accepted : levels_answer grid d b room ≡ 0
  whole-accepted =
      sym (levels-0 grid d b room (record { dims = first.dims; box = first.box; size = fits })
      (is_false (bad_distance (grid_of grid d) b) (ok-distances (grid_of grid d) b fine-at)) first.room-holds)

-- a layer keeps the length of the list, whatever it is answered
pub layer-length-kept : (lower upper : List Float) (d : GridPoint) (b : Box) (z : ℕ) (old : List Float) → length (layer_after lower upper d b z old) ≡ length old
unfolding layer_after
layer-length-kept lower upper d b z old = go (eqb (layer_answer lower upper d b z (length old)) 0)
  where
    go : (t : Bool) → length (cond t (changed (layer_level d b lower upper z) 0 (columns b) old) old) ≡ length old
    go true = changed-length (layer_level d b lower upper z) 0 (columns b) old
    go false = refl
