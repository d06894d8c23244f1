-- Document 01, "Cutting a box": the pieces of an accepted box, with the one grid and its map, are accepted under conditions 1 to 5, to any depth of
-- cuts; and what those conditions say of a call's answer. From the definitions of Call and Cutting. Assumes nothing.
use Prim.Native.Nat.{ℕ, suc, ◌≤◌, ◌<◌}
use mathlib.Core.Bool.{Bool, true, false, not, cond}
use mathlib.Core.Path.{◌≡◌, refl}
use native.Mathlib.Nat.{suc-ne-zero}
use native.Mathlib.Omega.{arith}
use lib.Dec.{T, T_not, not_T}
use lib.Ieee.Bits.{is_false}
use Rattle.rules.specs.Grid.{GridPoint, Axis, axis_x, axis_y, axis_z, Box, Field, along, in_box, value}
use Rattle.rules.specs.Call.{
  Call,
  Room,
  Answer,
  answers,
  bad_dimensions,
  bad_box,
  bad_length,
  bad_map,
  beyond,
  bad_distance,
  bad_vertex_room,
  bad_index_room,
  vertex_count,
  index_count,
  room_answer,
  answer,
}
use Rattle.rules.specs.Cutting.{Piece, Cuts, uncut, cut, lower_piece, upper_piece, pieces, Fits}
use Rattle.lists.proofs.Lists.{All, none, more, all_append}
use Rattle.rules.proofs.Indexes.{within, in-box, BoxFits, box-fits, not-bad-box}
use Rattle.rules.proofs.Inside.{none_in, in-none, distance_is}

-- ---- condition 5, point by point

pub distances-ok : (g : Field) (b : Box) → T (not (bad_distance g b)) → (p : GridPoint) → T (in_box b p) → T (not (beyond (value g p)))
distances-ok g b ok p t = not_T (beyond (value g p)) (none_in b (λ (q : GridPoint). beyond (value g q)) (rw (distance_is g b) ok) p t)

pub ok-distances : (g : Field) (b : Box) → ((p : GridPoint) → T (in_box b p) → T (not (beyond (value g p)))) → T (not (bad_distance g b))
ok-distances g b fine = rw (← distance_is g b) (in-none b (λ (q : GridPoint). beyond (value g q)) (λ p t. T_not (beyond (value g p)) (fine p t)))

-- ---- an accepted call

-- conditions 1 to 5 do not hold
pub record Accepted (g : Field) (size entries : ℕ) (b : Box) : Type 0 where
  pub dims : T (not (bad_dimensions g.dims))
  pub box : T (not (bad_box g.dims b))
  pub length : T (not (bad_length g.dims size))
  pub map : T (not (bad_map size entries))
  pub distance : T (not (bad_distance g b))

-- then 6, 7 or 0 answers
pub accepted-answer : (c : Call) (r : Room) → Accepted c.grid c.size r.map c.box → answer c r ≡ room_answer r (vertex_count c) (index_count c)
unfolding answer
accepted-answer c r a =
    rw (is_false (bad_dimensions c.grid.dims) a.dims, is_false (bad_box c.grid.dims c.box) a.box)
    (rw (is_false (bad_length c.grid.dims c.size) a.length, is_false (bad_map c.size r.map) a.map)
    (rw (is_false (bad_distance c.grid c.box) a.distance)))

-- a call that is done was accepted
pub done-accepted : (c : Call) (r : Room) → (answer c r).number ≡ 0 → Accepted c.grid c.size r.map c.box
unfolding answer
done-accepted c r e =
    let (h1, e1) = passed 0 (bad_dimensions c.grid.dims) a2 e in
    let (h2, e2) = passed 1 (bad_box c.grid.dims c.box) a3 e1 in
    let (h3, e3) = passed 2 (bad_length c.grid.dims c.size) a4 e2 in
    let (h4, e4) = passed 3 (bad_map c.size r.map) a5 e3 in
    let (h5, e5) = passed 4 (bad_distance c.grid c.box) a6 e4 in
    record { dims = h1; box = h2; length = h3; map = h4; distance = h5 }
  where
    a6 : Answer
    a6 = room_answer r (vertex_count c) (index_count c)

    a5 : Answer
    a5 = cond (bad_distance c.grid c.box) (answers 5 0 0) a6

    a4 : Answer
    a4 = cond (bad_map c.size r.map) (answers 4 0 0) a5

    a3 : Answer
    a3 = cond (bad_length c.grid.dims c.size) (answers 3 0 0) a4

    a2 : Answer
    a2 = cond (bad_box c.grid.dims c.box) (answers 2 0 0) a3

    passed : (n : ℕ) (a : Bool) (rest : Answer) → (cond a (answers (suc n) 0 0) rest).number ≡ 0 → T (not a) × (rest.number ≡ 0)
    passed n true rest h = absurd (suc-ne-zero n h)
    passed n false rest h = (tt, h)

-- 6, 7 and 0 all say V and I
room-counts : (r : Room) (v i : ℕ) → ((room_answer r v i).vertices ≡ v) × ((room_answer r v i).indices ≡ i)
unfolding room_answer
room-counts r v i = go (bad_vertex_room r v) (bad_index_room r i)
  where
    go : (p q : Bool) → ((cond p (answers 6 v i) (cond q (answers 7 v i) (answers 0 v i))).vertices ≡ v) ×
        ((cond p (answers 6 v i) (cond q (answers 7 v i) (answers 0 v i))).indices ≡ i)
    go true q = (refl, refl)
    go false true = (refl, refl)
    go false false = (refl, refl)

pub done-counted : (c : Call) (r : Room) → (answer c r).number ≡ 0 → ((answer c r).vertices ≡ vertex_count c) × ((answer c r).indices ≡ index_count c)
done-counted c r e = rw (accepted-answer c r (done-accepted c r e)) (room-counts r (vertex_count c) (index_count c))

-- ---- a box inside an accepted one

pub record Inner (b' b : Box) : Type 0 where
  pub x : (b.low.x ≤ b'.low.x) × (b'.low.x ≤ b'.high.x) × (b'.high.x ≤ b.high.x)
  pub y : (b.low.y ≤ b'.low.y) × (b'.low.y ≤ b'.high.y) × (b'.high.y ≤ b.high.y)
  pub z : (b.low.z ≤ b'.low.z) × (b'.low.z ≤ b'.high.z) × (b'.high.z ≤ b.high.z)

pub inner-accepted : (g : Field) (size entries : ℕ) (b b' : Box) → Inner b' b → Accepted g size entries b → Accepted g size entries b'
inner-accepted g size entries b b' i a =
    let f : BoxFits g.dims b = box-fits g.dims b a.box in
    record {
      dims = a.dims;
      box = not-bad-box g.dims b' (omega arith);
      length = a.length;
      map = a.map;
      distance = ok-distances g b' (λ (p : GridPoint) (t : T (in_box b' p)). let w = within b' p t in distances-ok g b a.distance p (in-box b p (omega arith)));
    }

-- ---- the pieces

lower-inner : (d : GridPoint) (a : Axis) (k : ℕ) (w : Piece) → BoxFits d w.box → along a w.box.low ≤ k → k < along a w.box.high → Inner (lower_piece a k w).box w.box
lower-inner d axis_x k w f l h = omega arith
lower-inner d axis_y k w f l h = omega arith
lower-inner d axis_z k w f l h = omega arith

upper-inner : (d : GridPoint) (a : Axis) (k : ℕ) (w : Piece) → BoxFits d w.box → along a w.box.low ≤ k → k < along a w.box.high → Inner (upper_piece a k w).box w.box
upper-inner d axis_x k w f l h = omega arith
upper-inner d axis_y k w f l h = omega arith
upper-inner d axis_z k w f l h = omega arith

-- the two of one cut
pub cut-accepted : (g : Field) (size entries : ℕ) (ax : Axis) (k : ℕ) (w : Piece) → along ax w.box.low ≤ k → k < along ax w.box.high
    → Accepted g size entries w.box → Accepted g size entries (lower_piece ax k w).box × Accepted g size entries (upper_piece ax k w).box
cut-accepted g size entries ax k w l h a =
    let f : BoxFits g.dims w.box = box-fits g.dims w.box a.box in (
      inner-accepted g size entries w.box (lower_piece ax k w).box (lower-inner g.dims ax k w f l h) a,
      inner-accepted g size entries w.box (upper_piece ax k w).box (upper-inner g.dims ax k w f l h) a,
    )

pub pieces-accepted : (g : Field) (size entries : ℕ) (t : Cuts) (w : Piece) → Fits t w → Accepted g size entries w.box → All (λ (q : Piece). Accepted g size entries q.box)
    (pieces t w)
unfolding pieces
pieces-accepted g size entries uncut w fits a = more a none
pieces-accepted g size entries (cut ax k lower upper) w fits a =
    let (low, high) = cut-accepted g size entries ax k w fits.0 fits.1 a in
    all_append (pieces-accepted g size entries lower (lower_piece ax k w) fits.2 low) (pieces-accepted g size entries upper (upper_piece ax k w) fits.3 high)
