-- The box's last layer in the whole map: the part that is lent for it holds the box's points, and with that part put back the map is what the rules
-- say of those points. Assumes nothing.
use Prim.Native.Nat.{ℕ, ◌+◌, ◌-◌, ◌*◌, ◌≤◌}
use native.Mathlib.Omega.{arith}
use mathlib.Core.List.{List, ◌++◌}
use mathlib.Core.Path.{◌≡◌, ap, ◌∙◌}
use lib.Ieee.{Float, nan}
use lib.ListN.{length, take, drop, replicate}
use Rattle.lists.specs.Lists.{placed}
use Rattle.rules.proofs.Indexes.{BoxFits, box-fits, right-length}
use Rattle.grid.specs.Layers.{part}
use Rattle.grid.specs.declared.Block.{Block}
use Rattle.grid.specs.Block.{point, box_of}
use Rattle.grid.specs.Inside.{Inside}
use Rattle.grid.proofs.Bounds.{few}
use Rattle.grid.proofs.Layers.{in-plane, in-some-grid}
use Rattle.layer_vertices.specs.Marked.{last_entry, InPart}
use Rattle.whole_box.specs.Layers.{last_at, InMap}
use Rattle.whole_box.proofs.Map.{part-back}
use Rattle.grid.proofs.Parts.{length_part, layer-under}
use Rattle.whole_box.proofs.Lent.{plane-up}

-- a map as long as the grid
pub in_map : {grid : List Float} {k : Block} {mp : List ℕ} → Inside grid k → length grid ≤ length mp → InMap mp k
in_map {grid} {k} i h = record { dims = i.dims; box = i.box; holds = omega (arith, right-length (point k.dims) (length grid) i.size) }

module _ {mp : List ℕ} {k : Block} (i : InMap mp k) where
  corner : BoxFits (point k.dims) (box_of k)
  corner = box-fits (point k.dims) (box_of k) i.box

  pub last-few : k.dims.x * k.dims.y * k.high.z + k.dims.x * k.dims.y ≤ 1073741824
  last-few = omega (arith, layer-under (k.dims.x * k.dims.y) k.high.z k.dims.z corner.z.1, few (point k.dims) i.dims)

  pub last_end : k.dims.x * k.dims.y * k.high.z + k.dims.x * k.dims.y ≤ length mp
  last_end = omega (arith, layer-under (k.dims.x * k.dims.y) k.high.z k.dims.z corner.z.1, i.holds)

  pub last-lent : InPart (part (k.dims.x * k.dims.y * k.high.z) (k.dims.x * k.dims.y) mp) k
  last-lent =
      record {
        dims = i.dims;
        box = i.box;
        holds =
            omega (
              arith,
              in-plane (point k.dims) (point k.high) corner.x.1 corner.y.1,
              length_part (k.dims.x * k.dims.y * k.high.z) (k.dims.x * k.dims.y) mp last_end,
            );
      }

  pub last-back : {q : List ℕ} → q ≡ placed (last_entry (point k.dims) (box_of k)) 0 (part (k.dims.x * k.dims.y * k.high.z) (k.dims.x * k.dims.y) mp)
      → take (k.dims.x * k.dims.y * k.high.z) mp
      ++ (q ++ drop (k.dims.x * k.dims.y * k.high.z + k.dims.x * k.dims.y - k.dims.x * k.dims.y * k.high.z) (drop (k.dims.x * k.dims.y * k.high.z) mp))
      ≡ placed (last_at (point k.dims) (box_of k)) 0 mp
  last-back e =
      let a = k.dims.x * k.dims.y * k.high.z in
      let n = k.dims.x * k.dims.y in
      let up = plane-up (replicate (k.dims.x * k.dims.y * k.dims.z) nan) k (in-some-grid i.dims i.box) in
      ap (λ (l : List ℕ). take a mp ++ (l ++ drop (a + n - a) (drop a mp))) e
      ∙ part-back (point k.dims) up k.high.z (last_entry (point k.dims) (box_of k)) mp last_end
