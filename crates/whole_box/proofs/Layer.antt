-- One layer of the whole box, put together from what its two halves say of the lists; what they ask of them; and the numbers that the code works out.
-- Assumes nothing.
use Prim.Native.Nat.{ℕ, ◌+◌, ◌-◌, ◌*◌, ◌≤◌, ◌<◌, ◌^◌}
use native.Mathlib.Nat.{mul-one, mul-le-mul_left}
use native.Mathlib.Omega.{arith}
use mathlib.Core.List.{List, []}
use mathlib.Core.Logic.{◌⊎◌, inl, inr}
use mathlib.Core.Path.{◌≡◌, sym, ap, ap₂, subst, ◌∙◌}
use mir.Syntax.{w64}
use mir.Val.{Fits}
use lib.Ieee.{Float}
use lib.ListN.{length, length-append}
use lib.Seq.{sets}
use Rattle.lists.specs.Lists.{up_to, joined}
use Rattle.rules.specs.Grid.{Box, Field}
use Rattle.rules.specs.Vertices.{layer_vertices, first_vertex}
use Rattle.rules.specs.Faces.{Flags, layer_indices}
use Rattle.rules.specs.Call.{Call, Buffers}
use Rattle.lists.proofs.Tests.{less-or-not}
use Rattle.lists.proofs.Runs.{up_to-none}
use Rattle.grid.specs.declared.Block.{Block}
use Rattle.grid.specs.Block.{box_of, flags_of, field_of, call_of}
use Rattle.grid.specs.Inside.{Inside}
use Rattle.grid.proofs.Bounds.{fits}
use Rattle.layer_vertices.specs.Marked.{Lists}
use Rattle.whole_box.specs.declared.Made.{Made}
use Rattle.whole_box.specs.LentLists.{lists_of, with_indices}
use Rattle.whole_box.specs.Layers.{indices_to, layer_marked, Written, layer_written, layer_made, Stands}
use Rattle.whole_box.proofs.Steps.{indices-more, indices-within, vertices-within, first-is, first_more, written-more, written-lengths}
use Rattle.whole_box.proofs.Looks.{stands}
use Rattle.whole_box.proofs.Lent.{plane-up, vertices-few, marked-long, map-long}

-- ---- the numbers

-- no vertex of the layer below comes after the layer's first
pub below-first : (g : Field) (b : Box) (m : Flags) (z : ℕ) → first_vertex g b (z - 1) ≤ first_vertex g b z
unfolding first_vertex joined
below-first g b m z = go (less-or-not b.low.z z)
  where
    go : (b.low.z < z) ⊎ (z ≤ b.low.z) → first_vertex g b (z - 1) ≤ first_vertex g b z
    go (inl h) =
        let up : z - 1 + 1 ≡ z = omega arith in
        omega (arith, first_more g b m (z - 1) (omega arith), ap (first_vertex g b) up)
    go (inr h) =
        let none : up_to b.low.z (z - 1) ≡ [] = up_to-none b.low.z (z - 1) (omega arith) in
        omega (arith, ap (λ (l : List ℕ). length (joined (layer_vertices g b) l)) none)

module _ (sdf : List Float) (k : Block) (i : Inside sdf k) (z : ℕ) (zs : (k.low.z ≤ z) × (z < k.high.z)) where
  abbrev g : Field
  g = field_of sdf k

  abbrev b : Box
  b = box_of k

  abbrev m : Flags
  m = flags_of k

  abbrev call : Call
  call = call_of sdf k

  pub first-few : first_vertex (field_of sdf k) (box_of k) z + length (layer_vertices (field_of sdf k) (box_of k) z) ≤ 1073741824
  first-few = omega (arith, first_more g b m z zs.0, first-is g b m (z + 1), vertices-within g b m (z + 1) (omega arith) (omega arith), vertices-few sdf k i)

  pub plane-under : k.low.z < z → k.dims.x * k.dims.y ≤ k.dims.x * k.dims.y * z
  plane-under h = let up : 1 ≤ z = omega arith in omega (arith, mul-le-mul_left (k.dims.x * k.dims.y) up, mul-one (k.dims.x * k.dims.y))

  -- ---- the layer

  module _ {t s : Buffers} {made : Made} (w : Written (call_of sdf k) z t made s) where
    grown : Written (call_of sdf k) (z + 1) t (layer_made (call_of sdf k) z made) (layer_written (call_of sdf k) z made s)
    grown =
        let f = fits sdf k i in
        written-more call z zs.0 zs.1 (omega arith) (omega arith) (plane-up sdf k i) w

    -- what the faces look up, once the layer is marked
    pub stands-marked : {l : Lists} → l ≡ layer_marked (field_of sdf k) (box_of k) z made.vertices (lists_of s)
        → Stands (field_of sdf k) (box_of k) z made.vertices made.below l.cells l.map l.positions
    unfolding layer_marked layer_written
    stands-marked {l} e =
        subst (λ (u : Lists). Stands g b z made.vertices made.below u.cells u.map u.positions) (sym e)
        (subst (λ (n : Made). Stands g b z n.vertices n.below (layer_written call z made s).cells (layer_written call z made s).map (layer_written call z made s).positions)
        (sym w.on) (stands sdf k i z zs grown))

    pub map-still : {l : Lists} → l ≡ layer_marked (field_of sdf k) (box_of k) z made.vertices (lists_of s) → length sdf ≤ length l.map
    map-still e = omega (arith, map-long sdf k i z zs w, marked-long sdf k i z zs made.vertices (lists_of s) e)

    pub indices-room : made.indices + length (layer_indices (field_of sdf k) (box_of k) (flags_of k) made.vertices z) ≤ length s.indices
    indices-room =
        omega (
          arith,
          ap (λ (n : Made). n.indices) w.on,
          ap (λ (n : Made). length (layer_indices g b m n.vertices z)) w.on,
          ap length (indices-more g b m z zs.0),
          length-append (indices_to g b m z) (layer_indices g b m (first_vertex g b z) z),
          indices-within g b m (z + 1) (omega arith) (omega arith),
          w.roomy.indices,
          (written-lengths call z zs.0 (omega arith) w).indices,
        )

    -- so that the code's two sums fit
    pub vertices-fit : {count : ℕ} → count ≡ length (layer_vertices (field_of sdf k) (box_of k) z) → Fits w64 (made.vertices + count)
    vertices-fit h = omega (arith, ap (λ (n : Made). n.vertices) w.on, first-few)

    pub indices-fit : {used : ℕ} → used ≡ length (layer_indices (field_of sdf k) (box_of k) (flags_of k) made.vertices z) → length t.indices < 2 ^ 64
        → Fits w64 (made.indices + used)
    indices-fit h n = omega (arith, indices-room, (written-lengths call z zs.0 (omega arith) w).indices)

    -- its two halves together
    layer-whole : {l : Lists} {ix : List ℕ} {count used : ℕ} → l ≡ layer_marked (field_of sdf k) (box_of k) z made.vertices (lists_of s)
        → ix ≡ sets s.indices made.indices (layer_indices (field_of sdf k) (box_of k) (flags_of k) made.vertices z)
        → count ≡ length (layer_vertices (field_of sdf k) (box_of k) z) → used ≡ length (layer_indices (field_of sdf k) (box_of k) (flags_of k) made.vertices z)
        → (with_indices ix l ≡ layer_written (call_of sdf k) z made s)
        × (◌≡◌ {A = Made} (record { vertices = made.vertices + count; indices = made.indices + used; below = made.vertices }) (layer_made (call_of sdf k) z made))
    unfolding layer_marked layer_written
    layer-whole e f h u = (
      ap₂ (λ (n : Lists) (x : List ℕ). with_indices x n) e f,
      λ j. record { vertices = made.vertices + h j; indices = made.indices + u j; below = made.vertices },
    )

    -- and so the lists are what the layers up to the next one leave
    pub layer-next : {l : Lists} {ix : List ℕ} {count used : ℕ} → l ≡ layer_marked (field_of sdf k) (box_of k) z made.vertices (lists_of s)
        → ix ≡ sets s.indices made.indices (layer_indices (field_of sdf k) (box_of k) (flags_of k) made.vertices z)
        → count ≡ length (layer_vertices (field_of sdf k) (box_of k) z) → used ≡ length (layer_indices (field_of sdf k) (box_of k) (flags_of k) made.vertices z)
        → Written (call_of sdf k) (z + 1) t (record { vertices = made.vertices + count; indices = made.indices + used; below = made.vertices }) (with_indices ix l)
    layer-next e f h u = let p = layer-whole e f h u in record { roomy = w.roomy; same = p.0 ∙ grown.same; on = p.1 ∙ grown.on }
