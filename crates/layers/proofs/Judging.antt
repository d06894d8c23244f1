-- The answers by the tests that led to them, and condition 5 of one layer. Assumes nothing.
use Prim.Native.Nat.{◌+◌, ◌-◌, ◌*◌, ◌≤◌, ◌<◌}
use native.Mathlib.Nat.{mul-one, mul-le-mul_left, le_trans, le_of_eq}
use native.Mathlib.Omega.{arith}
use mathlib.Core.Bool.{Bool, true, false, not, ◌||◌}
use mathlib.Core.List.{List}
use mathlib.Core.Path.{◌≡◌, refl, sym, ◌∙◌}
use borrow.Author.Tests.{le-ltb, le-leb, lt-leb, eq-eqb, ne_eqb}
use lib.Dec.{T, ltb, nltb→le}
use lib.ListN.{length}
use Rattle.std.proofs.Common.{Err}
use lib.Ieee.{Float}
use Rattle.lists.specs.Lists.{run, some, up_to}
use Rattle.rules.specs.Faces.{layer_points}
use Rattle.rules.specs.Call.{Room, answers, room_answer, bad_dimension, bad_dimensions, bad_side, bad_box, bad_length, bad_layer, bad_distance}
use Rattle.lists.proofs.Tests.{failed, nor-left, nor-right, nor-both}
use Rattle.rules.proofs.Indexes.{BoxFits, box-fits}
use Rattle.grid.specs.declared.Block.{Block}
use Rattle.grid.specs.Block.{point, box_of, field_of}
use Rattle.grid.specs.Inside.{Inside}
use Rattle.grid.proofs.Bounds.{few}
use Rattle.judge.proofs.Judging.{refused-some as call-refused}
use Rattle.layers.specs.declared.Refusal.{Refusal}
use Rattle.layers.specs.declared.Refusal.TheVariants.{Call, Full}
use Rattle.layers.specs.declared.State.{State}
use Rattle.layers.specs.Answer.{answer_of}
use Rattle.layers.specs.Memory.{Memory, Lengths, lengths, plane, bad_memory, start_answer}
use Rattle.layers.specs.Offer.{new_vertices, new_indices, finished, bad_layer_length, bad_points, layer_answer}
use Rattle.layers.specs.Ready.{Layer}

-- ---- the plane

module _ (k : Block) (dims : T (not (bad_dimensions (point k.dims)))) (box : T (not (bad_box (point k.dims) (box_of k)))) where
  pub plane-few : plane k ≤ 1073741824
  plane-few =
      let f : BoxFits (point k.dims) (box_of k) = box-fits (point k.dims) (box_of k) box in
      let deep : 1 ≤ k.dims.z = omega arith in
      le_trans (le_of_eq (sym (mul-one (plane k)))) (le_trans (mul-le-mul_left (plane k) deep) (few (point k.dims) dims))

-- ---- a layer as a grid of its own

abbrev pub flat : Block → Block
flat k =
    record {
      dims = record { x = k.dims.x; y = k.dims.y; z = 1 };
      low = record { x = k.low.x; y = k.low.y; z = 0 };
      high = record { x = k.high.x; y = k.high.y; z = 0 };
      max_plane = k.max_plane;
    }

module _ (k : Block) (layer : List Float) (o : Layer k layer) where
  flat-dims : T (not (bad_dimensions (point (flat k).dims)))
  unfolding bad_dimensions
  flat-dims =
      let d = k.dims in
      let all = nor-left (bad_dimension d.x || (bad_dimension d.y || bad_dimension d.z)) (ltb 1073741824 (d.x * d.y * d.z)) o.dims in
      let rest = nor-right (bad_dimension d.x) (bad_dimension d.y || bad_dimension d.z) all in
      let small : d.x * d.y * 1 ≤ 1073741824 = le_trans (le_of_eq (mul-one (plane k))) (plane-few k o.dims o.box) in
      nor-both (bad_dimension d.x || (bad_dimension d.y || bad_dimension 1)) (ltb 1073741824 (d.x * d.y * 1))
      (nor-both (bad_dimension d.x) (bad_dimension d.y || bad_dimension 1) (nor-left (bad_dimension d.x) (bad_dimension d.y || bad_dimension d.z) all)
      (nor-both (bad_dimension d.y) (bad_dimension 1) (nor-left (bad_dimension d.y) (bad_dimension d.z) rest) tt))
      (failed refl (le-ltb 1073741824 (d.x * d.y * 1) small))

  flat-box : T (not (bad_box (point (flat k).dims) (box_of (flat k))))
  unfolding bad_box
  flat-box =
      let bx : Bool = bad_side k.dims.x k.low.x k.high.x in
      let by : Bool = bad_side k.dims.y k.low.y k.high.y in
      let bz : Bool = bad_side k.dims.z k.low.z k.high.z in
      nor-both bx (by || bad_side 1 0 0) (nor-left bx (by || bz) o.box) (nor-both by (bad_side 1 0 0) (nor-left by bz (nor-right bx (by || bz) o.box)) tt)

  pub flat-inside : Inside layer (flat k)
  unfolding bad_length
  flat-inside = record { dims = flat-dims; box = flat-box; size = rw (eq-eqb (length layer) (plane k * 1) (o.long ∙ sym (mul-one (plane k)))) tt }

or-false : (t : Bool) → (t || false) ≡ t
or-false true = refl
or-false false = refl

-- its points in the box are those of its first layer
pub flat-points : (k : Block) (layer : List Float) → bad_distance (field_of layer (flat k)) (box_of (flat k)) ≡ bad_layer (field_of layer k) (box_of k) 0
unfolding bad_distance bad_layer layer_points up_to run some
flat-points k layer = or-false (bad_layer (field_of layer k) (box_of k) 0)

-- ---- the start's answer

module _ (k : Block) (r : Lengths) where
  pub start-1 : bad_dimensions (point k.dims) ≡ true → 1 ≡ start_answer k r
  unfolding start_answer
  start-1 a = rw a

  pub start-2 : bad_dimensions (point k.dims) ≡ false → bad_box (point k.dims) (box_of k) ≡ true → 2 ≡ start_answer k r
  unfolding start_answer
  start-2 a b = rw (a, b)

  pub start-4 : bad_dimensions (point k.dims) ≡ false → bad_box (point k.dims) (box_of k) ≡ false → bad_memory k r ≡ true → 4 ≡ start_answer k r
  unfolding start_answer
  start-4 a b c = rw (a, b, c)

  pub start-0 : bad_dimensions (point k.dims) ≡ false → bad_box (point k.dims) (box_of k) ≡ false → bad_memory k r ≡ false → 0 ≡ start_answer k r
  unfolding start_answer
  start-0 a b c = rw (a, b, c)

  pub memory-tested : {t : Bool} → t ≡ (ltb r.distances (2 * plane k) || (ltb r.map (2 * plane k) || ltb r.positions (3 * plane k))) → bad_memory k r ≡ t
  unfolding bad_memory
  memory-tested e = sym e

-- ---- a layer's answer

module _ (s : State) (layer : List Float) (m : Memory) (r : Room) where
  pub layer-1 : bad_dimensions (point s.block.dims) ≡ true → answers 1 0 0 ≡ layer_answer s layer m r
  unfolding layer_answer
  layer-1 a = rw a

  module _ (dims : bad_dimensions (point s.block.dims) ≡ false) where
    pub layer-2 : bad_box (point s.block.dims) (box_of s.block) ≡ true → answers 2 0 0 ≡ layer_answer s layer m r
    unfolding layer_answer
    layer-2 b = rw (dims, b)

    module _ (box : bad_box (point s.block.dims) (box_of s.block) ≡ false) where
      pub layer-8 : finished s ≡ true → answers 8 0 0 ≡ layer_answer s layer m r
      unfolding layer_answer
      layer-8 f = rw (dims, box, f)

      module _ (more : finished s ≡ false) where
        pub layer-3 : bad_layer_length s.block layer ≡ true → answers 3 0 0 ≡ layer_answer s layer m r
        unfolding layer_answer
        layer-3 l = rw (dims, box, more, l)

        module _ (long : bad_layer_length s.block layer ≡ false) where
          pub layer-4 : bad_memory s.block (lengths m) ≡ true → answers 4 0 0 ≡ layer_answer s layer m r
          unfolding layer_answer
          layer-4 k = rw (dims, box, more, long, k)

          module _ (kept : bad_memory s.block (lengths m) ≡ false) where
            pub layer-5 : bad_points s.block layer ≡ true → answers 5 0 0 ≡ layer_answer s layer m r
            unfolding layer_answer
            layer-5 p = rw (dims, box, more, long, kept, p)

            pub layer-room : bad_points s.block layer ≡ false
                → room_answer r (length (new_vertices s layer m.distances)) (length (new_indices s layer m)) ≡ layer_answer s layer m r
            unfolding layer_answer
            layer-room p = rw (dims, box, more, long, kept, p)

-- what the tests of 8 and of 3 say
pub is-finished : (s : State) → s.block.high.z - s.block.low.z < s.taken → finished s ≡ true
is-finished s h = le-leb (s.block.high.z - s.block.low.z + 1) s.taken (omega arith)

pub not-finished : (s : State) → s.taken ≤ s.block.high.z - s.block.low.z → finished s ≡ false
not-finished s h = lt-leb (s.block.high.z - s.block.low.z + 1) s.taken (omega arith)

pub wrong-length : (k : Block) (layer : List Float) → (length layer ≡ plane k → ⊥) → bad_layer_length k layer ≡ true
wrong-length k layer h = rw (ne_eqb (length layer) (plane k) h)

pub right-length : (k : Block) (layer : List Float) → length layer ≡ plane k → bad_layer_length k layer ≡ false
right-length k layer e = rw (eq-eqb (length layer) (plane k) e)

-- a refusal's number is not that of none
pub refused-some : (r : Refusal) → (answer_of (Err r)).number ≡ 0 → ⊥
refused-some (Call r) e = call-refused r e
refused-some Full e = omega arith

-- enough memory is kept
pub record Enough (k : Block) (r : Lengths) : Type 0 where
  pub distances : 2 * plane k ≤ r.distances
  pub map : 2 * plane k ≤ r.map
  pub positions : 3 * plane k ≤ r.positions

pub memory-enough : (k : Block) (r : Lengths) → bad_memory k r ≡ false → Enough k r
unfolding bad_memory
memory-enough k r e =
    let t : T (not (bad_memory k r)) = failed refl e in
    let rest = nor-right (ltb r.distances (2 * plane k)) (ltb r.map (2 * plane k) || ltb r.positions (3 * plane k)) t in
    record {
      distances = nltb→le r.distances (2 * plane k) (nor-left (ltb r.distances (2 * plane k)) (ltb r.map (2 * plane k) || ltb r.positions (3 * plane k)) t);
      map = nltb→le r.map (2 * plane k) (nor-left (ltb r.map (2 * plane k)) (ltb r.positions (3 * plane k)) rest);
      positions = nltb→le r.positions (3 * plane k) (nor-right (ltb r.map (2 * plane k)) (ltb r.positions (3 * plane k)) rest);
    }
