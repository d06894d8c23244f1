-- What an answer says of the tests that were made one after the other, and what the lent room then holds. Assumes nothing.
use Prim.Native.Nat.{ℕ}
use native.Mathlib.Omega.{arith}
use mathlib.Core.Bool.{Bool, true, false, not, cond}
use mathlib.Core.List.{List}
use mathlib.Core.Path.{◌≡◌, refl, ap}
use borrow.Author.Tests.{ne_eqb}
use lib.Dec.{eqb}
use lib.Ieee.{Float}
use lib.ListN.{length}
use Rattle.lists.specs.Lists.{over}
use Rattle.rules.specs.Grid.{GridPoint}
use Rattle.rules.specs.Call.{bad_dimensions, bad_length}
use Rattle.closing.specs.Closed.{closed_dims, point_count, layer_count, open_field, closed_list, closed_layer}
use Rattle.closing.specs.Answers.{bad_height, bad_wall, bad_closed, bad_room, close_answer, closed_room, layer_wanted, layer_answer, layer_room}

-- ---- tests in their order

abbrev five : Bool → Bool → Bool → Bool → Bool → ℕ
five a b c d e = cond a 1 (cond b 3 (cond c 72 (cond d 73 (cond e 74 0))))

abbrev six : Bool → Bool → Bool → Bool → Bool → Bool → ℕ
six a b c d e f = cond a 1 (cond b 71 (cond c 3 (cond d 72 (cond e 73 (cond f 74 0)))))

-- ---- the whole grid

-- no condition holds
pub record Accepted (d : GridPoint) (size : ℕ) (wall : Float) (room : ℕ) : Type 0 where
  pub dims : bad_dimensions d ≡ false
  pub sized : bad_length d size ≡ false
  pub far : bad_wall wall ≡ false
  pub closable : bad_closed d ≡ false
  pub roomy : bad_room (point_count (closed_dims d)) room ≡ false

module _ (d : GridPoint) (size : ℕ) (wall : Float) (room : ℕ) where
  pub accepted : close_answer d size wall room ≡ 0 → Accepted d size wall room
  unfolding close_answer
  accepted = go (bad_dimensions d) (bad_length d size) (bad_wall wall) (bad_closed d) (bad_room (point_count (closed_dims d)) room) refl refl refl refl refl
    where
      go : (a b c e f : Bool) → bad_dimensions d ≡ a → bad_length d size ≡ b → bad_wall wall ≡ c → bad_closed d ≡ e → bad_room (point_count (closed_dims d)) room ≡ f
          → five a b c e f ≡ 0 → Accepted d size wall room
      go true b c e f p q r s t h = absurd (omega arith)
      go false true c e f p q r s t h = absurd (omega arith)
      go false false true e f p q r s t h = absurd (omega arith)
      go false false false true f p q r s t h = absurd (omega arith)
      go false false false false true p q r s t h = absurd (omega arith)
      go false false false false false p q r s t h = record { dims = p; sized = q; far = r; closable = s; roomy = t }

-- what the room holds
module _ (d : GridPoint) (wall : Float) (sdf old : List Float) where
  pub room-kept : (close_answer d (length sdf) wall (length old) ≡ 0 → ⊥) → closed_room d wall sdf old ≡ old
  unfolding closed_room
  room-kept h = ap (λ (t : Bool). cond t (over (closed_list (open_field d sdf) wall) old) old) (ne_eqb (close_answer d (length sdf) wall (length old)) 0 h)

  pub room-closed : close_answer d (length sdf) wall (length old) ≡ 0 → closed_room d wall sdf old ≡ over (closed_list (open_field d sdf) wall) old
  unfolding closed_room
  room-closed h = ap (λ (n : ℕ). cond (eqb n 0) (over (closed_list (open_field d sdf) wall) old) old) h

-- ---- a layer

pub record LayerAccepted (d : GridPoint) (z size : ℕ) (wall : Float) (room : ℕ) : Type 0 where
  pub dims : bad_dimensions d ≡ false
  pub height : bad_height d z ≡ false
  pub sized : not (eqb size (layer_wanted d z)) ≡ false
  pub far : bad_wall wall ≡ false
  pub closable : bad_closed d ≡ false
  pub roomy : bad_room (layer_count (closed_dims d)) room ≡ false

module _ (d : GridPoint) (z size : ℕ) (wall : Float) (room : ℕ) where
  pub layer-accepted : layer_answer d z size wall room ≡ 0 → LayerAccepted d z size wall room
  unfolding layer_answer
  layer-accepted =
      go (bad_dimensions d) (bad_height d z) (not (eqb size (layer_wanted d z))) (bad_wall wall) (bad_closed d) (bad_room (layer_count (closed_dims d)) room) refl refl refl refl refl refl
    where
      go : (a b c e f g : Bool) → bad_dimensions d ≡ a → bad_height d z ≡ b → not (eqb size (layer_wanted d z)) ≡ c → bad_wall wall ≡ e → bad_closed d ≡ f
          → bad_room (layer_count (closed_dims d)) room ≡ g → six a b c e f g ≡ 0 → LayerAccepted d z size wall room
      go true b c e f g p q r s t u h = absurd (omega arith)
      go false true c e f g p q r s t u h = absurd (omega arith)
      go false false true e f g p q r s t u h = absurd (omega arith)
      go false false false true f g p q r s t u h = absurd (omega arith)
      go false false false false true g p q r s t u h = absurd (omega arith)
      go false false false false false true p q r s t u h = absurd (omega arith)
      go false false false false false false p q r s t u h = record { dims = p; height = q; sized = r; far = s; closable = t; roomy = u }

module _ (d : GridPoint) (wall : Float) (z : ℕ) (layer old : List Float) where
  pub layer-kept : (layer_answer d z (length layer) wall (length old) ≡ 0 → ⊥) → layer_room d wall z layer old ≡ old
  unfolding layer_room
  layer-kept h = ap (λ (t : Bool). cond t (over (closed_layer d wall z layer) old) old) (ne_eqb (layer_answer d z (length layer) wall (length old)) 0 h)

  pub layer-done : layer_answer d z (length layer) wall (length old) ≡ 0 → layer_room d wall z layer old ≡ over (closed_layer d wall z layer) old
  unfolding layer_room
  layer-done h = ap (λ (n : ℕ). cond (eqb n 0) (over (closed_layer d wall z layer) old) old) h
