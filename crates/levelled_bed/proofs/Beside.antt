-- The level and the mesh of the same grid and box: each vertex of the four cells round the edge that the level is told from is from z to z + 1 in z, as the level
-- is. Assumes nothing.
use Prim.Native.Nat.{ℕ, ◌+◌, ◌*◌, ◌≤◌, ◌<◌}
use native.Mathlib.Omega.{arith}
use mathlib.Core.Path.{◌≡◌, sym, subst, ◌∙◌}
use lib.Dec.{T}
use lib.ListN.{length, get_or}
use lib.Ieee.{Float, nan, binary32, fits}
use lib.Ieee.Positive.{num, den}
use Rattle.rules.specs.Grid.{GridPoint, axis_z, Box, value, in_box}
use Rattle.rules.specs.Faces.{edge}
use Rattle.rules.specs.Call.{Call, Answer, Buffers}
use Rattle.rules.proofs.FourCells.{Four}
use Rattle.levels.specs.Call.{grid_of, levels_answer}
use Rattle.levels.proofs.Answering.{Accepted, levels-accepted}
use Rattle.levelled_bed.specs.Highest.{ToldFrom}
use Rattle.levelled_bed.proofs.Told.{held_in}
use Rattle.levelled_bed.proofs.Mesh.{Meshed, Beside, four-beside, one-step}
use Rattle.levelled_bed.proofs.Calls.{Whole}

module _ (w : Whole) (done : w.answer ≡ 0) {c : Call} {r : Answer} {entry exit : Buffers} (m : Meshed c r entry exit) (grid : c.grid ≡ grid_of w.sdf w.dims)
    (box : c.box ≡ w.box) where
  accepted : Accepted w.sdf w.dims c.box (length w.entry)
  accepted = levels-accepted w.sdf w.dims c.box (length w.entry) (subst (λ (b : Box). levels_answer w.sdf w.dims b (length w.entry) ≡ 0) (sym box) (sym w.said ∙ done))

  numbers : (p : GridPoint) → T (in_box c.box p) → T (fits binary32 (value (grid_of w.sdf w.dims) p))
  numbers p t = (held_in w.sdf w.dims c.box accepted w.numbers p t).0

  -- the column at x and y, and the level that it is told
  module _ (x y : ℕ) (xs : (c.box.low.x < x) × (x < c.box.high.x)) (ys : (c.box.low.y < y) × (y < c.box.high.y)) (level : Float)
      (t : ToldFrom (λ (z : ℕ). value (grid_of w.sdf w.dims) (record { x = x; y = y; z = z })) c.box.low.z c.box.high.z level)
      (under : t.z < c.box.high.z) where
    pub mesh-beside-level : Four (Beside t.z r exit) (edge axis_z (record { x = x; y = y; z = t.z }))
    mesh-beside-level =
        four-beside m w.sdf w.dims grid accepted numbers x y t.z xs ys (t.highest.from, under) t.highest.negative-here
        (t.highest.none_above (t.z + 1) (omega arith) (omega arith))

    -- so that such a vertex and the level are at most one step apart, in either order
    pub mesh-one-step : (q : GridPoint) (b : Beside t.z r exit q) → let p = get_or exit.positions (3 * b.vertex + 2) nan in
        (num p * den level ≤ num level * den p + den level * den p) × (num level * den p ≤ num p * den level + den p * den level)
    mesh-one-step q b =
        let p = get_or exit.positions (3 * b.vertex + 2) nan in
        (one-step t.z p level b.within t.within, one-step t.z level p t.within b.within)
