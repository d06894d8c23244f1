-- What an accepted call leaves of its numbers, over bare numbers, and what it stores: the closed grid, or the closed layer, over the first of the lent room.
-- Assumes nothing.
use Prim.Native.Nat.{ℕ, ◌+◌, ◌-◌, ◌*◌, ◌≤◌, ◌<◌}
use native.Mathlib.Nat.{le_trans, le_of_eq, mul-le-mul_left, mul-one}
use native.Mathlib.Omega.{arith}
use mathlib.Core.Bool.{Bool, true, false, cond}
use mathlib.Core.List.{List, []}
use mathlib.Core.Path.{◌≡◌, refl, sym, ap, ◌∙◌}
use borrow.Author.Tests.{ltb-false, eqb-true, not-false}
use lib.Dec.{eqb}
use lib.Ieee.{Float}
use lib.ListN.{length}
use lib.Seq.{sets}
use Rattle.lists.specs.Lists.{over}
use Rattle.rules.specs.Grid.{GridPoint, between}
use Rattle.rules.proofs.Indexes.{right-length}
use Rattle.lists.proofs.Tests.{failed}
use Rattle.grid.proofs.Bounds.{few}
use Rattle.stores.proofs.Runs.{sets_over}
use Rattle.closing.specs.Closed.{closed_dims, point_count, layer_count, closed_field, open_field, closed_list, layer_field, closed_layer}
use Rattle.closing.specs.Answers.{bad_room, layer_wanted}
use Rattle.closing.specs.Runs.{spread, layer_value, grid_value}
use Rattle.closing.proofs.Spread.{spread_same, length-spread}
use Rattle.closing.proofs.Borders.{grid-closed, layer-closed, layer-wall}
use Rattle.closing.proofs.Answers.{Accepted, LayerAccepted}

enough : (wanted room : ℕ) → bad_room wanted room ≡ false → wanted ≤ room
enough wanted room h = ltb-false room wanted h

-- ---- the whole grid

module _ (d : GridPoint) (size : ℕ) (wall : Float) (room : ℕ) (a : Accepted d size wall room) where
  pub grid-long : d.x * d.y * d.z ≤ size
  grid-long = le_of_eq (sym (right-length d size (failed refl a.sized)))

  pub grid-few : size ≤ 1073741824
  grid-few = le_trans (le_of_eq (right-length d size (failed refl a.sized))) (few d (failed refl a.dims))

  pub room-long : (d.x + 3) * (d.y + 3) * (d.z + 3) ≤ room
  room-long = enough (point_count (closed_dims d)) room a.roomy

-- stored from the first place on
stored-first : (f g : ℕ → Float) (n : ℕ) (old : List Float) → n ≤ length old → ((j : ℕ) → j < n → f j ≡ g j) → sets old 0 (spread f n) ≡ over (spread g n) old
stored-first f g n old h e =
    ap (sets old 0) (spread_same f g n e)
    ∙ sets_over [] old (spread g n) 0 refl (omega (arith, length-spread g n))

pub grid-stored : (d : GridPoint) (wall : Float) (grid old : List Float) → (d.x + 3) * (d.y + 3) * (d.z + 3) ≤ length old
    → sets old 0 (spread (grid_value grid wall d.x d.y d.z) ((d.x + 3) * (d.y + 3) * (d.z + 3))) ≡ over (closed_list (open_field d grid) wall) old
unfolding closed_list spread
grid-stored d wall grid old h =
    stored-first (grid_value grid wall d.x d.y d.z) (closed_field (open_field d grid) wall).dist ((d.x + 3) * (d.y + 3) * (d.z + 3)) old h
    (λ j k. grid-closed grid wall d j)

-- ---- a layer

module _ (d : GridPoint) (z size : ℕ) (wall : Float) (room : ℕ) (a : LayerAccepted d z size wall room) where
  as_wanted : size ≡ layer_wanted d z
  as_wanted = eqb-true size (layer_wanted d z) (not-false (eqb size (layer_wanted d z)) a.sized)

  pub layer-long : between 1 d.z z ≡ true → size ≡ d.x * d.y
  layer-long h = as_wanted ∙ ap (λ (t : Bool). cond t (layer_count d) 0) h

  pub layer-room : (d.x + 3) * (d.y + 3) ≤ room
  layer-room = enough (layer_count (closed_dims d)) room a.roomy

  -- a closed layer is within a closed grid
  pub plane-few : (d.x + 3) * (d.y + 3) ≤ 1073741824
  plane-few =
      let p : (d.x + 3) * (d.y + 3) * 1 ≤ (d.x + 3) * (d.y + 3) * (d.z + 3) = mul-le-mul_left ((d.x + 3) * (d.y + 3)) (omega arith) in
      omega (arith, mul-one ((d.x + 3) * (d.y + 3)), few (closed_dims d) (failed refl a.closable))

module _ (d : GridPoint) (wall : Float) (z : ℕ) (layer old : List Float) (h : (d.x + 3) * (d.y + 3) ≤ length old) where
  pub layer-stored : between 1 d.z z ≡ true
      → sets old 0 (spread (layer_value layer wall d.x d.y 0) ((d.x + 3) * (d.y + 3))) ≡ over (closed_layer d wall z layer) old
  unfolding closed_layer spread
  layer-stored open' =
      stored-first (layer_value layer wall d.x d.y 0) (λ i. (closed_field (layer_field d (z - 1) layer) wall).dist ((d.x + 3) * (d.y + 3) * z + i))
      ((d.x + 3) * (d.y + 3)) old h (λ j k. layer-closed layer wall d z j open' k)

  pub wall-stored : between 1 d.z z ≡ false → sets old 0 (spread (λ _. wall) ((d.x + 3) * (d.y + 3))) ≡ over (closed_layer d wall z layer) old
  unfolding closed_layer spread
  wall-stored shut =
      stored-first (λ _. wall) (λ i. (closed_field (layer_field d (z - 1) layer) wall).dist ((d.x + 3) * (d.y + 3) * z + i))
      ((d.x + 3) * (d.y + 3)) old h (λ j k. layer-wall layer wall d z j shut k)
