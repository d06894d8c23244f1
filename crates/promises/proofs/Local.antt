-- Document 01, "The answer and all that is written depend on the dimensions, box, max plane, all lengths, the grid's included, and the distances
-- inside the box. Distances outside the box and the map's old numbers never matter": of two calls that were made. By document 02's request 7 that is
-- the whole map inside the box. Assumes nothing.
use Prim.Native.Nat.{◌<◌}
use mathlib.Core.List.{List}
use mathlib.Core.Path.{◌≡◌, sym, ap, ap₂, ◌∙◌}
use lib.Dec.{T}
use lib.Ieee.{Float, nan}
use lib.ListN.{length, get_or}
use Rattle.rules.specs.Grid.{GridPoint, index, in_box}
use Rattle.rules.specs.Call.{Call, Buffers, room, answer, afterwards}
use Rattle.rules.proofs.Locality.{Alike, SameWritten, answer-local, local}
use Rattle.grid.specs.declared.Extent.{Extent}
use Rattle.grid.specs.declared.EachAxis.{EachAxis}
use Rattle.grid.specs.Block.{point, flags}
use Rattle.surface_nets.specs.AsRules.{call_made}
use Rattle.promises.specs.Served.{Served, Done}
use Rattle.promises.proofs.Runs.{Run, grid_of, dims_of, low_of, high_of, plane_of, served, BedRun, bed_grid, bed_dims, bed_low, bed_high, bed_plane, bed_served}

-- ---- the law

-- `Alike`: the same dimensions, box and max plane, grids of one length, and the same distance at each point of the box that lies within the dimensions
module _ (u u' : Served) (same : Alike u.call u'.call) (rooms : room u.before ≡ room u'.before) where
  -- the answer, V and I
  pub same_answer : u.says ≡ u'.says
  same_answer = u.answered ∙ answer-local u.call u'.call same (room u.before) ∙ ap (answer u'.call) rooms ∙ sym u'.answered

  -- the first 3V, 3V, 3V, V, V and I numbers, and the map at each point of the box: none of its old numbers there is left
  pub same-written : Done u → SameWritten u.call u.after u'.after
  same-written d = rw (u.left, u'.left) (local u.call u'.call u.before u'.before same rooms (rw (← u.answered) d))

-- by the arguments: grids of one length that have the same distance at each point of the box within the dimensions, and all else the same
module _ (grid grid' : List Float) {dims dims' low low' high high' : Extent} {plane plane' : EachAxis} where
  pub calls-alike : dims ≡ dims' → low ≡ low' → high ≡ high' → plane ≡ plane' → length grid ≡ length grid'
      → ((p : GridPoint) → T (in_box (call_made grid dims low high plane).box p) → (p.x < dims.x) × (p.y < dims.y) × (p.z < dims.z)
      → get_or grid (index (point dims) p) nan ≡ get_or grid' (index (point dims) p) nan)
      → Alike (call_made grid dims low high plane) (call_made grid' dims' low' high' plane')
  calls-alike d l h m s v =
      record {
        dims = ap point d;
        size = s;
        box = λ i. record { low = point (l i); high = point (h i) };
        flags = λ i. flags (m i);
        distances = λ p t w. v p t w ∙ ap (λ (e : Extent). get_or grid' (index (point e) p) nan) d;
      }

pub runs-alike : (u u' : Run) → dims_of u ≡ dims_of u' → low_of u ≡ low_of u' → high_of u ≡ high_of u' → plane_of u ≡ plane_of u'
    → length (grid_of u) ≡ length (grid_of u')
    → ((p : GridPoint) → T (in_box (served u).call.box p) → (p.x < (dims_of u).x) × (p.y < (dims_of u).y) × (p.z < (dims_of u).z)
    → get_or (grid_of u) (index (point (dims_of u)) p) nan ≡ get_or (grid_of u') (index (point (dims_of u)) p) nan)
    → Alike (served u).call (served u').call
runs-alike u u' = calls-alike (grid_of u) (grid_of u')

pub bed-runs-alike : (u u' : BedRun) → bed_dims u ≡ bed_dims u' → bed_low u ≡ bed_low u' → bed_high u ≡ bed_high u' → bed_plane u ≡ bed_plane u'
    → length (bed_grid u) ≡ length (bed_grid u')
    → ((p : GridPoint) → T (in_box (bed_served u).call.box p) → (p.x < (bed_dims u).x) × (p.y < (bed_dims u).y) × (p.z < (bed_dims u).z)
    → get_or (bed_grid u) (index (point (bed_dims u)) p) nan ≡ get_or (bed_grid u') (index (point (bed_dims u)) p) nan)
    → Alike (bed_served u).call (bed_served u').call
bed-runs-alike u u' = calls-alike (bed_grid u) (bed_grid u')

-- of two calls of surface_nets, and of bed_surface_nets: the answer with V and I, and all that is written, whatever the lists held
pub surface-nets-local : (u u' : Run) → Alike (served u).call (served u').call → room (served u).before ≡ room (served u').before
    → ((served u).says ≡ (served u').says) × (Done (served u) → SameWritten (served u).call (served u).after (served u').after)
surface-nets-local u u' same rooms = (same_answer (served u) (served u') same rooms, same-written (served u) (served u') same rooms)

pub bed-surface-nets-local : (u u' : BedRun) → Alike (bed_served u).call (bed_served u').call → room (bed_served u).before ≡ room (bed_served u').before
    → ((bed_served u).says ≡ (bed_served u').says) × (Done (bed_served u) → SameWritten (bed_served u).call (bed_served u).after (bed_served u').after)
bed-surface-nets-local u u' same rooms = (same_answer (bed_served u) (bed_served u') same rooms, same-written (bed_served u) (bed_served u') same rooms)

-- the same call in the same lists comes to the same: the answer with V and I, and every number of every list
pub same_outcome : (u u' : Served) → u.call ≡ u'.call → u.before ≡ u'.before → (u.says ≡ u'.says) × (u.after ≡ u'.after)
same_outcome u u' c b =
    (u.answered ∙ ap₂ (λ (d : Call) (s : Buffers). answer d (room s)) c b ∙ sym u'.answered, u.left ∙ ap₂ afterwards c b ∙ sym u'.left)

-- a call of the one and a call of the other, with the same input, come to the same: the boundary adds nothing
pub bed-is-surface-nets : (u : Run) (v : BedRun) → (served u).call ≡ (bed_served v).call → (served u).before ≡ (bed_served v).before
    → ((served u).says ≡ (bed_served v).says) × ((served u).after ≡ (bed_served v).after)
bed-is-surface-nets u v = same_outcome (served u) (bed_served v)
