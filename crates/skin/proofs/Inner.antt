-- Under the premise of request 8 every edge of the box that changes sign is owned, whatever the flags: its negative end lies from min + 1 to
-- max - 2, so its lowest corner is above min on the other axes and no last one along its own. Assumes nothing.
use Prim.Native.Nat.{◌+◌, ◌≤◌, ◌<◌, ◌-◌}
use native.Mathlib.Omega.{arith}
use mathlib.Core.Bool.{Bool, true, false, ◌&&◌, not}
use mathlib.Core.Logic.{◌⊎◌, inl, inr}
use lib.Dec.{T, eqb, eqb→eq, lt→ltb, not_T}
use lib.Ieee.{unlike}
use lib.Ieee.Fits.{and_i}
use Rattle.rules.specs.Grid.{GridPoint, Axis, axis_x, axis_y, axis_z, Box, Field, along, step_up, turned, in_box, is_cell, value}
use Rattle.rules.specs.Cell.{negative}
use Rattle.rules.specs.Faces.{Edge, Flags, edge, flag, axis_b, axis_c, above_low, inside_max, owned, changes}
use Rattle.lists.proofs.Tests.{or-second}
use Rattle.rules.proofs.Indexes.{CellWithin, is-cell, in-box, cell-in-box}
use Rattle.rules.proofs.Inside.{up-in-box}
use Rattle.skin.specs.Links.{Square}
use Rattle.skin.specs.Enclosed.{Inner, Enclosed}

-- one end of an edge that changes sign is negative
pub negative-end : (g : Field) (e : Edge) → T (changes g e) → T (negative (value g e.from)) ⊎ T (negative (value g (step_up e.axis e.from)))
unfolding changes
negative-end g e t = go (negative (value g e.from)) (negative (value g (step_up e.axis e.from))) t
  where
    go : (s u : Bool) → T (unlike s u) → T s ⊎ T u
    go true u w = inl tt
    go false true w = inr tt
    go false false w = absurd w

-- ---- owned, from bounds

-- room round the edge's lowest corner
record Bounds (b : Box) (x : Axis) (p : GridPoint) : Type 0 where
  cell : CellWithin b p
  above_b : along (axis_b x) b.low < along (axis_b x) p
  above_c : along (axis_c x) b.low < along (axis_c x) p
  ahead : along x p + 2 ≤ along x b.high

owned_by : (b : Box) (m : Flags) (x : Axis) (p : GridPoint) → Bounds b x p → T (owned b m (edge x p))
unfolding owned
owned_by b m x p h =
    and_i (is_cell b p) (up (axis_b x) && (up (axis_c x) && inside_max x b m p)) (is-cell b p h.cell)
    (and_i (up (axis_b x)) (up (axis_c x) && inside_max x b m p) (lt→ltb (along (axis_b x) b.low) (along (axis_b x) p) h.above_b)
    (and_i (up (axis_c x)) (inside_max x b m p) (lt→ltb (along (axis_c x) b.low) (along (axis_c x) p) h.above_c)
    (or-second (flag x m) (not (eqb (along x p) (along x b.high - 1)))
    (not_T (eqb (along x p) (along x b.high - 1)) (λ t. omega (arith, h.ahead, eqb→eq (along x p) (along x b.high - 1) t))))))
  where
    up : Axis → Bool
    up a = above_low a b p

-- either end lies inside
inner-bounds : (b : Box) (x : Axis) (p : GridPoint) → Inner b p ⊎ Inner b (step_up x p) → Bounds b x p
inner-bounds b axis_x p (inl h) = omega (arith, h axis_x, h axis_y, h axis_z)
inner-bounds b axis_x p (inr h) = omega (arith, h axis_x, h axis_y, h axis_z)
inner-bounds b axis_y p (inl h) = omega (arith, h axis_x, h axis_y, h axis_z)
inner-bounds b axis_y p (inr h) = omega (arith, h axis_x, h axis_y, h axis_z)
inner-bounds b axis_z p (inl h) = omega (arith, h axis_x, h axis_y, h axis_z)
inner-bounds b axis_z p (inr h) = omega (arith, h axis_x, h axis_y, h axis_z)

-- both ends are points of the box
abbrev pub EndsIn : Box → Edge → Type 0
EndsIn b e = T (in_box b e.from) × T (in_box b (step_up e.axis e.from))

pub changing-owned : (g : Field) (b : Box) (m : Flags) → Enclosed g b → (e : Edge) → EndsIn b e → T (changes g e) → T (owned b m e)
changing-owned g b m h e i t = owned_by b m e.axis e.from (inner-bounds b e.axis e.from (at (negative-end g e t)))
  where
    at : T (negative (value g e.from)) ⊎ T (negative (value g (step_up e.axis e.from))) → Inner b e.from ⊎ Inner b (step_up e.axis e.from)
    at (inl s) = inl (h e.from i.0 s)
    at (inr s) = inr (h (step_up e.axis e.from) i.1 s)

-- ---- the square between two cells of the box lies in the box

-- a corner of the cell q
abbrev Near : GridPoint → GridPoint → Type 0
Near q p = (q.x ≤ p.x) × (p.x ≤ q.x + 1) × (q.y ≤ p.y) × (p.y ≤ q.y + 1) × (q.z ≤ p.z) × (p.z ≤ q.z + 1)

near-in : (b : Box) (q p : GridPoint) → CellWithin b q → Near q p → T (in_box b p)
near-in b q p c h = in-box b p (omega arith)

-- an edge from the lowest corner of a cell
pub edge_in : (b : Box) (e : Edge) → T (is_cell b e.from) → EndsIn b e
edge_in b e t = (cell-in-box b e.from t, up-in-box b e.axis e.from t)

pub square-in : (b : Box) (a : Axis) (c : GridPoint) → CellWithin b (step_up a c) → Square (EndsIn b) a c
square-in b axis_x c i =
    record {
      near = (near-in b q q i (omega arith), near-in b q (step_up axis_y q) i (omega arith));
      far = (near-in b q (step_up axis_z q) i (omega arith), near-in b q (step_up axis_y (step_up axis_z q)) i (omega arith));
      left = (near-in b q q i (omega arith), near-in b q (step_up axis_z q) i (omega arith));
      right = (near-in b q (step_up axis_y q) i (omega arith), near-in b q (step_up axis_z (step_up axis_y q)) i (omega arith));
    }
  where
    q : GridPoint
    q = step_up axis_x c
square-in b axis_y c i =
    record {
      near = (near-in b q q i (omega arith), near-in b q (step_up axis_z q) i (omega arith));
      far = (near-in b q (step_up axis_x q) i (omega arith), near-in b q (step_up axis_z (step_up axis_x q)) i (omega arith));
      left = (near-in b q q i (omega arith), near-in b q (step_up axis_x q) i (omega arith));
      right = (near-in b q (step_up axis_z q) i (omega arith), near-in b q (step_up axis_x (step_up axis_z q)) i (omega arith));
    }
  where
    q : GridPoint
    q = step_up axis_y c
square-in b axis_z c i =
    record {
      near = (near-in b q q i (omega arith), near-in b q (step_up axis_x q) i (omega arith));
      far = (near-in b q (step_up axis_y q) i (omega arith), near-in b q (step_up axis_x (step_up axis_y q)) i (omega arith));
      left = (near-in b q q i (omega arith), near-in b q (step_up axis_y q) i (omega arith));
      right = (near-in b q (step_up axis_x q) i (omega arith), near-in b q (step_up axis_y (step_up axis_x q)) i (omega arith));
    }
  where
    q : GridPoint
    q = step_up axis_z c

pub square-owned : (g : Field) (b : Box) (m : Flags) → Enclosed g b → (a : Axis) (c : GridPoint) → CellWithin b (step_up a c) → Square
    (λ (e : Edge). T (changes g e) → T (owned b m e)) a c
square-owned g b m h a c i =
    record {
      near = changing-owned g b m h (edge (turned a) (step_up a c)) s.near;
      far = changing-owned g b m h (edge (turned a) (step_up (turned (turned a)) (step_up a c))) s.far;
      left = changing-owned g b m h (edge (turned (turned a)) (step_up a c)) s.left;
      right = changing-owned g b m h (edge (turned (turned a)) (step_up (turned a) (step_up a c))) s.right;
    }
  where
    s : Square (EndsIn b) a c
    s = square-in b a c i
