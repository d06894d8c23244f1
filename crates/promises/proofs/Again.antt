-- Document 02, request 7, of calls that were made: what the map shows after an answer 0 at a cell, at a point of the box that is no cell and at any
-- other index; and that of two calls in a row on the same lists the second, answered 0, leaves what it alone would have left. Assumes nothing.
use Prim.Native.Nat.{ℕ, ◌*◌, ◌<◌, ◌≤◌}
use native.Mathlib.Nat.{zero-add, mul-one, mul-le-mul_left, le_refl}
use native.Mathlib.Omega.{arith}
use mathlib.Core.Bool.{Bool, cond}
use mathlib.Core.Logic.{◌⊎◌, inl, inr}
use mathlib.Core.Path.{◌≡◌, refl, sym, ap, ◌∙◌}
use lib.Dec.{T, nltb→le}
use lib.Ieee.Bits.{is_true}
use lib.ListN.{length, get_or}
use Rattle.rules.specs.Grid.{point_at, is_cell, in_box}
use Rattle.rules.specs.Vertices.{cell_entry, edge_entry, map_entry}
use Rattle.rules.specs.Call.{Call, Buffers, room, answer, written}
use Rattle.lists.proofs.Tests.{is_false, less-or-not}
use Rattle.lists.proofs.Lists.{length-placed, get_d-placed}
use Rattle.rules.proofs.Indexes.{box-fits, cell-in-box}
use Rattle.rules.proofs.Accepted.{done-accepted}
use Rattle.rules.proofs.Locality.{Alike, SameWritten, map_at}
use Rattle.judge.proofs.Judging.{done-enough}
use Rattle.whole_box.specs.LentLists.{Roomy}
use Rattle.whole_box.specs.Layers.{last_at, written_to, made_to, Written}
use Rattle.whole_box.proofs.Map.{outside}
use Rattle.whole_box.proofs.Steps.{written_all, written-lengths}
use Rattle.promises.specs.Served.{Served, Done}
use Rattle.promises.proofs.Done.{done-answer, done-writes, refused-keeps}
use Rattle.promises.proofs.Local.{same_answer, same-written}
use Rattle.promises.proofs.Runs.{Run, served, BedRun, bed_served}

-- ---- the map after an answer 0

module _ (u : Served) (d : Done u) (j : ℕ) (h : j < length u.before.map) where
  -- "Its map entry is that number; any other cell's is 4,294,967,295."
  pub cell-shows : T (is_cell u.call.box (point_at u.call.grid.dims j))
      → get_or u.after.map j 0 ≡ cell_entry u.call.grid u.call.box (point_at u.call.grid.dims j)
  cell-shows t =
      let p = point_at u.call.grid.dims j in
      ap (λ (s : Buffers). get_or s.map j 0) (done-writes u d)
      ∙ map_at u.call u.before j h (cell-in-box u.call.box p t)
      ∙ ap (λ (b : Bool). cond b (cell_entry u.call.grid u.call.box p) edge_entry) (is_true (is_cell u.call.box p) t)

  -- "the entry of every point of the box that is no cell becomes 4,294,967,295"
  pub no-cell-shows : T (in_box u.call.box (point_at u.call.grid.dims j)) → (T (is_cell u.call.box (point_at u.call.grid.dims j)) → ⊥)
      → get_or u.after.map j 0 ≡ 4294967295
  no-cell-shows t n =
      let p = point_at u.call.grid.dims j in
      ap (λ (s : Buffers). get_or s.map j 0) (done-writes u d)
      ∙ map_at u.call u.before j h t
      ∙ ap (λ (b : Bool). cond b (cell_entry u.call.grid u.call.box p) edge_entry) (is_false (is_cell u.call.box p) n)

  -- "Points outside the box still keep theirs."
  pub outside-keeps : (T (in_box u.call.box (point_at u.call.grid.dims j)) → ⊥) → get_or u.after.map j 0 ≡ get_or u.before.map j 0
  unfolding written
  outside-keeps n =
      let g = u.call.grid in
      let b = u.call.box in
      ap (λ (s : Buffers). get_or s.map j 0) (done-writes u d)
      ∙ get_d-placed (map_entry g b) 0 u.before.map j 0 h
      ∙ ap (λ (k : ℕ). map_entry g b k (get_or u.before.map j 0)) (zero-add j)
      ∙ outside g b j (get_or u.before.map j 0) n

-- ---- no call changes a list's length

written-room : (c : Call) (s : Buffers) → (answer c (room s)).number ≡ 0 → room (written c s) ≡ room s
written-room c s e =
    let a = done-accepted c (room s) e in
    let h = done-enough c (room s) e in
    let f = box-fits c.grid.dims c.box a.box in
    let z = c.box.high.z in
    let xs : 0 < c.grid.dims.x = omega (arith, f.x.1) in
    let ys : 1 ≤ c.grid.dims.y = omega (arith, f.y.1) in
    let up : 0 < c.grid.dims.x * c.grid.dims.y = omega (arith, mul-le-mul_left c.grid.dims.x ys, mul-one c.grid.dims.x) in
    let roomy : Roomy c.grid c.box c.flags c.size s =
    record {
      positions = h.positions;
      normals = h.normals;
      cells = h.cells;
      strides = h.strides;
      crossings = h.crossings;
      map = nltb→le (length s.map) c.size a.map;
      indices = h.indices;
    } in
    let w : Written c z s (made_to c z) (written_to c z s) = record { roomy = roomy; same = refl; on = refl } in
    let n = written-lengths c z f.z.0 (le_refl z) w in
    ap room (sym (written_all c xs ys up s refl refl))
    ∙ λ i.
    record {
      positions = n.positions i;
      normals = n.normals i;
      cells = n.cells i;
      strides = n.strides i;
      crossings = n.crossings i;
      map = (length-placed (last_at c.grid.dims c.box) 0 (written_to c z s).map ∙ n.map) i;
      indices = n.indices i;
    }

pub room-kept : (u : Served) → room u.after ≡ room u.before
room-kept u = go (less-or-not 0 u.says.number)
  where
    go : (0 < u.says.number) ⊎ (u.says.number ≤ 0) → room u.after ≡ room u.before
    go (inl h) = ap room (refused-keeps u h)
    go (inr h) =
        let d : Done u = omega arith in
        ap room (done-writes u d) ∙ written-room u.call u.before (done-answer u d)

-- ---- two calls in a row

-- `second` was made in the lists that `first` left, whatever that answered, and `alone` in those that `first` was lent
module _ (first second alone : Served) (next : second.before ≡ first.after) (fresh : alone.before ≡ first.before) (same : Alike second.call alone.call) where
  rooms : room second.before ≡ room alone.before
  rooms = ap room next ∙ room-kept first ∙ ap room (sym fresh)

  pub again-answer : second.says ≡ alone.says
  again-answer = same_answer second alone same rooms

  -- the first 3V, 3V, 3V, V, V and I numbers, and the map at each point of the second's box
  pub again-written : Done second → SameWritten second.call second.after alone.after
  again-written = same-written second alone same rooms

pub surface-nets-again : (u v w : Run) → (served v).before ≡ (served u).after → (served w).before ≡ (served u).before → Alike (served v).call (served w).call
    → ((served v).says ≡ (served w).says) × (Done (served v) → SameWritten (served v).call (served v).after (served w).after)
surface-nets-again u v w n f s = (again-answer (served u) (served v) (served w) n f s, again-written (served u) (served v) (served w) n f s)

pub bed-surface-nets-again : (u v w : BedRun) → (bed_served v).before ≡ (bed_served u).after → (bed_served w).before ≡ (bed_served u).before → Alike (bed_served v).call (bed_served w).call
    → ((bed_served v).says ≡ (bed_served w).says) × (Done (bed_served v) → SameWritten (bed_served v).call (bed_served v).after (bed_served w).after)
bed-surface-nets-again u v w n f s = (again-answer (bed_served u) (bed_served v) (bed_served w) n f s, again-written (bed_served u) (bed_served v) (bed_served w) n f s)
