-- The distances of a grid of floats or of whole numbers (document 02, request 5): which list a width means, and that a whole number's float is that
-- number. By the conversion law of crate rounding, at 16 bits and at 8, no distance is beyond the cap: "Answer 5 cannot occur there." Assumes nothing.
use Prim.Native.Nat.{ℕ, ◌*◌, ◌≤◌, ◌<◌}
use mathlib.Core.Bool.{Bool, true, false, not, cond}
use mathlib.Core.List.{List}
use mathlib.Core.Path.{◌≡◌, sym, ap, ◌∙◌}
use native.Mathlib.Nat.{le_trans, le_of_eq}
use native.Mathlib.Omega.{arith}
use mir.Syntax.{Width}
use mir.Val.{SFits, to_z, of_z}
use mir.Facts.{to_z-of_z}
use lib.Dec.{T, lit≤, T_not}
use lib.Arith.{le→nltb}
use lib.IntN.{ℤ, pos, nat_abs}
use lib.ListN.{length, get_or, length-map}
use lib.Ieee.{Float, nan, inf, fin, binary32, up, down, of_int}
use lib.Ieee.Fits.{of_int-fits}
use Rattle.lists.specs.Floats.{Binary32}
use Rattle.lists.proofs.Tests.{is_false}
use Rattle.rounding.specs.Values.{Within}
use Rattle.rounding.specs.Signed.{InBits, SameValue}
use Rattle.rounding.proofs.Bounds.{wider}
use Rattle.rounding.proofs.Signed.{few_bits, converted, same-within}
use Rattle.rules.specs.Grid.{index}
use Rattle.rules.specs.Call.{
  Room,
  Answer,
  answers,
  bad_dimensions,
  bad_box,
  bad_length,
  bad_map,
  cap,
  beyond,
  bad_distance,
  bad_vertex_room,
  bad_index_room,
  room_answer,
  answer,
  vertex_count,
  index_count,
}
use Rattle.rules.proofs.Seen.{one_at}
use Rattle.rules.proofs.Accepted.{ok-distances}
use Rattle.grid.specs.declared.Block.{Block}
use Rattle.grid.specs.Block.{point, box_of, field_of, call_of}
use Rattle.grid.specs.Inside.{Inside}
use Rattle.grid.specs.Values.{as_floats, Wholes}
use Rattle.grid.proofs.Bounds.{below_length}

-- ---- the floats of whole numbers

pub float_at : (l : List ℤ) (i : ℕ) → i < length l → get_or (as_floats l) i nan ≡ of_int binary32 (get_or l i (pos 0))
float_at l i h = one_at (of_int binary32) l i nan (pos 0) h

-- as a cast has it, which reads the number from its bits
pub cast-at : (w : Width) (l : List ℤ) (i : ℕ) → i < length l → SFits w (get_or l i (pos 0))
    → of_int binary32 (to_z w (of_z w (get_or l i (pos 0)))) ≡ get_or (as_floats l) i nan
cast-at w l i h s = ap (of_int binary32) (to_z-of_z s) ∙ sym (float_at l i h)

-- each is exactly the number, at every width that binary32 holds
module _ (w : ℕ) (l : List ℤ) (narrow : w ≤ 24) (whole : Wholes w l) where
  pub wholes-exact : (i : ℕ) → i < length l → SameValue (get_or (as_floats l) i nan) (get_or l i (pos 0))
  wholes-exact i h = rw (float_at l i h) (converted binary32 w (get_or l i (pos 0)) narrow (whole i h))

-- ---- binary32 holds every distance

pub wholes-fit : (l : List ℤ) → Binary32 (as_floats l)
wholes-fit l i h =
    let at : i < length l = le_trans h (le_of_eq (length-map l (of_int binary32))) in
    rw (float_at l i at) (of_int-fits binary32 (get_or l i (pos 0)))

-- ---- no whole number is beyond the cap

pub within_cap : (x : Float) → Within cap x → T (not (beyond x))
unfolding beyond
within_cap nan h = absurd h.0
within_cap (inf s) h = absurd h.0
within_cap (fin s m e) h = le→nltb (cap * down e) (m * up e) h.1

-- a float of a whole value up to the cap
pub whole-fine : (x : Float) (z : ℤ) → SameValue x z → nat_abs z ≤ cap → T (not (beyond x))
whole-fine x z v h = within_cap x (wider (nat_abs z) cap x h (same-within x z v))

-- one of so few bits
pub fine-whole : (w : ℕ) (z : ℤ) → w ≤ 24 → InBits w z → false ≡ beyond (of_int binary32 z)
fine-whole w z narrow b =
    let x = of_int binary32 z in
    sym (is_false (beyond x) (T_not (beyond x) (whole-fine x z (converted binary32 w z narrow b) (few_bits w 124 z (le_trans narrow (lit≤ tt)) b))))

-- no distance of the list is beyond the cap
abbrev pub NoneBeyond : List Float → Type 0
NoneBeyond l = (i : ℕ) → i < length l → T (not (beyond (get_or l i nan)))

pub wholes-within : (w : ℕ) (l : List ℤ) → w ≤ 24 → Wholes w l → NoneBeyond (as_floats l)
wholes-within w l narrow whole i h =
    let at : i < length l = le_trans h (le_of_eq (length-map l (of_int binary32))) in
    let z = get_or l i (pos 0) in
    whole-fine (get_or (as_floats l) i nan) z (wholes-exact w l narrow whole i at) (few_bits w 124 z (le_trans narrow (lit≤ tt)) (whole i at))

-- ---- "Answer 5 cannot occur there."

pub never-bad : (grid : List Float) (k : Block) → Inside grid k → NoneBeyond grid → T (not (bad_distance (field_of grid k) (box_of k)))
never-bad grid k i fine = ok-distances (field_of grid k) (box_of k) (λ p t. fine (index (point k.dims) p) (below_length grid k i p t))

other : (a b c d e : Bool) (rest : Answer) → (rest.number ≡ 5 → ⊥) → (T (not a) → T (not b) → T (not c) → T (not e))
    → (cond a (answers 1 0 0) (cond b (answers 2 0 0) (cond c (answers 3 0 0) (cond d (answers 4 0 0) (cond e (answers 5 0 0) rest))))).number ≡ 5 → ⊥
other true b c d e rest h f q = omega arith
other false true c d e rest h f q = omega arith
other false false true d e rest h f q = omega arith
other false false false true e rest h f q = omega arith
other false false false false true rest h f q = f tt tt tt
other false false false false false rest h f q = h q

room-other : (r : Room) (v i : ℕ) → (room_answer r v i).number ≡ 5 → ⊥
unfolding room_answer
room-other r v i = go (bad_vertex_room r v) (bad_index_room r i)
  where
    go : (p q : Bool) → (cond p (answers 6 v i) (cond q (answers 7 v i) (answers 0 v i))).number ≡ 5 → ⊥
    go true q e = omega arith
    go false true e = omega arith
    go false false e = omega arith

pub never-5 : (grid : List Float) (k : Block) (r : Room) → NoneBeyond grid → (answer (call_of grid k) r).number ≡ 5 → ⊥
unfolding answer
never-5 grid k r fine =
    let d = point k.dims in
    let c = call_of grid k in
    other (bad_dimensions d) (bad_box d (box_of k)) (bad_length d (length grid)) (bad_map (length grid) r.map) (bad_distance (field_of grid k) (box_of k))
    (room_answer r (vertex_count c) (index_count c))
    (room-other r (vertex_count c) (index_count c))
    (λ dims box size. never-bad grid k (record { dims = dims; box = box; size = size }) fine)
