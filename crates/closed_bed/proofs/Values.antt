-- The closed grid as a list: how long it is, and what stands at each point. From the definitions of crate closing. Assumes nothing.
use Prim.Native.Nat.{ℕ, ◌+◌, ◌<◌}
use native.Mathlib.Omega.{arith}
use mathlib.Core.Bool.{Bool, true, false, not, ◌||◌, cond}
use mathlib.Core.List.{List}
use mathlib.Core.Path.{◌≡◌, refl, sym, ap, ◌∙◌}
use lib.Dec.{T}
use lib.Ieee.{Float, nan, lt}
use lib.ListN.{length, get_or, take}
use lib.Seq.{take_at}
use Rattle.lists.specs.Lists.{over}
use Rattle.rules.specs.Grid.{GridPoint, Field, index, in_box, value}
use Rattle.rules.specs.Cell.{zero32}
use Rattle.rules.specs.Call.{beyond}
use Rattle.rules.proofs.Indexes.{within, volume, point-back}
use Rattle.closing.specs.Closed.{closed_dims, point_count, in_open, open_point, open_field, closed_value, closed_field, closed_list}
use Rattle.closing.specs.Answers.{bad_wall, close_answer, closed_room}
use Rattle.closing.specs.Runs.{spread}
use Rattle.closing.proofs.Spread.{length-spread, get_d-spread}
use Rattle.closed_bed.specs.Standing.{whole_box}
use Rattle.closing.proofs.Answers.{Accepted, accepted, room-closed}

-- a call that closed a grid: what its contract says, with the answer 0
pub record Closes (d : GridPoint) (wall : Float) (sdf old : List Float) (answer : ℕ) (exit : List Float) : Type 0 where
  pub said : answer ≡ close_answer d (length sdf) wall (length old)
  pub left : exit ≡ closed_room d wall sdf old
  pub done : answer ≡ 0

module _ (d : GridPoint) (sdf : List Float) (wall : Float) where
  pub closed-long : length (closed_list (open_field d sdf) wall) ≡ point_count (closed_dims d)
  unfolding closed_list spread
  closed-long = length-spread (closed_field (open_field d sdf) wall).dist (point_count (closed_dims d))

  pub closed_at : (i : ℕ) → i < point_count (closed_dims d) → get_or (closed_list (open_field d sdf) wall) i nan ≡ (closed_field (open_field d sdf) wall).dist i
  unfolding closed_list spread
  closed_at i h = get_d-spread (closed_field (open_field d sdf) wall).dist (point_count (closed_dims d)) i h

  -- a point of the closed grid's whole box
  pub closed-point : (p : GridPoint) → T (in_box (whole_box (closed_dims d)) p)
      → value (open_field (closed_dims d) (closed_list (open_field d sdf) wall)) p ≡ closed_value (open_field d sdf) wall p
  closed-point p t =
      let w = within (whole_box (closed_dims d)) p t in
      let hx : p.x < d.x + 3 = omega arith in
      let hy : p.y < d.y + 3 = omega arith in
      let hz : p.z < d.z + 3 = omega arith in
      closed_at (index (closed_dims d) p) (volume (closed_dims d) p hx hy hz) ∙ ap (closed_value (open_field d sdf) wall) (point-back (closed_dims d) p hx hy)

-- ---- inside and outside the open grid

module _ (g : Field) (wall : Float) (p : GridPoint) where
  pub value-open : in_open g.dims p ≡ true → closed_value g wall p ≡ value g (open_point p)
  unfolding closed_value
  value-open h = ap (λ (t : Bool). cond t (value g (open_point p)) wall) h

  pub value-wall : in_open g.dims p ≡ false → closed_value g wall p ≡ wall
  unfolding closed_value
  value-wall h = ap (λ (t : Bool). cond t (value g (open_point p)) wall) h

-- ---- the wall

module _ (wall : Float) (h : bad_wall wall ≡ false) where
  both : (a b : Bool) → (not a || b) ≡ false → (a ≡ true) × (b ≡ false)
  both true true e = absurd (let z : ◌≡◌ {A = ℕ} 0 1 = cc in omega arith)
  both true false e = (refl, refl)
  both false b e = absurd (let z : ◌≡◌ {A = ℕ} 0 1 = cc in omega arith)

  pub wall-above : lt zero32 wall ≡ true
  wall-above = (both (lt zero32 wall) (beyond wall) h).0

  pub wall-within : beyond wall ≡ false
  wall-within = (both (lt zero32 wall) (beyond wall) h).1

-- ---- what a call left

module _ {d : GridPoint} {wall : Float} {sdf old exit : List Float} {answer : ℕ} (c : Closes d wall sdf old answer exit) where
  pub call-accepted : Accepted d (length sdf) wall (length old)
  call-accepted = accepted d (length sdf) wall (length old) (sym c.said ∙ c.done)

  pub call-left : exit ≡ over (closed_list (open_field d sdf) wall) old
  call-left = c.left ∙ room-closed d wall sdf old (sym c.said ∙ c.done)

  -- the first of the room is the closed grid
  pub call-closed : take (point_count (closed_dims d)) exit ≡ closed_list (open_field d sdf) wall
  call-closed = ap (take (point_count (closed_dims d))) call-left ∙ take_at (closed_list (open_field d sdf) wall) _ (point_count (closed_dims d)) (closed-long d sdf wall)
