-- The sum over the faces of a full tank, by its edges: the face of an edge with just one end in the tank weighs nothing from that end, since its four vertices are
-- level with it. So the sum is that of the areas of the edges with both. Assumes nothing.
use Prim.Native.Nat.{ℕ, ◌+◌, ◌*◌}
use native.Mathlib.Omega.{arith}
use mathlib.Core.Bool.{Bool, true, false, ◌&&◌, ◌||◌}
use mathlib.Core.Path.{◌≡◌, refl, sym, ap, ◌∙◌}
use lib.Dec.{T}
use Rattle.lists.specs.Lists.{one}
use Rattle.lists.proofs.Lists.{all-each, total-same}
use Rattle.rules.specs.Grid.{GridPoint, Axis, axis_x, axis_y, axis_z, Box, along, step_up, step_down}
use Rattle.rules.specs.Faces.{Edge, edge, axis_b, axis_c, cell1, cell2, cell3, cell4, points}
use Rattle.skin.specs.Enclosed.{Inner}
use Rattle.weighed_mesh.specs.Facing.{on_axis}
use Rattle.bounded_mesh.specs.Round.{quad_fall, quad_rise, sides, sides_back, in_steps, Placing, InCells, round}
use Rattle.bounded_mesh.proofs.Edge.{Stands, stands, edge-weighs}
use Rattle.bounded_mesh.proofs.Squares.{whole, whole-plus, whole_scaled}
use Rattle.bounded_mesh.proofs.Around.{inside-b, inside-c, sides-cancel, gains, loses, both_ends, area_of}
use Rattle.full_tank.proofs.Flat.{flat-face}
use Rattle.full_tank.proofs.Tank.{Near, Tank, up-along, near-tank, near_down, near-under, past_end, before-start}

pub point-level : (a : Axis) (p : GridPoint) → on_axis a (in_steps p) ≡ 256 * along a p
point-level axis_x p = refl
point-level axis_y p = refl
point-level axis_z p = refl

-- what falls, f, and what rises, r, with the sides from the two ends, l and l', and the sides turned back, k and k'
exact : (s t : Bool) (f r l k l' k' area : ℕ) → (T (s || t) → k + l' ≡ l + k' + 256 * area) → (T s → (T t → ⊥) → f + k ≡ r + l) → (T t → (T s → ⊥) → f + k' ≡ r + l')
    → (one s * r + one t * f) + (one s * l + one t * k') + 256 * (one (s && t) * area) ≡ (one s * f + one t * r) + (one s * k + one t * l')
exact true true f r l k l' k' area h e e' = omega (arith, h tt)
exact true false f r l k l' k' area h e e' = omega (arith, e tt (λ t. t))
exact false true f r l k l' k' area h e e' = omega (arith, e' tt (λ t. t))
exact false false f r l k l' k' area h e e' = omega arith

pub whole_same : (b : Box) {f h : Axis → GridPoint → ℕ} → ((a : Axis) (p : GridPoint) → f a p ≡ h a p) → whole b f ≡ whole b h
whole_same b c = total-same (all-each (λ (p : GridPoint). λ i. c axis_x p i + c axis_y p i + c axis_z p i) (points b))

module _ (b : Box) (n : GridPoint → Bool) (inner : (p : GridPoint) → T (n p) → Inner b p) (v : Placing) (w : InCells v) (s : Edge → Bool) {d : GridPoint} (k : Tank d n v) where
  -- a border cell's vertex, level with the end of the edge that lies in the tank
  level-high : (a : Axis) (p c : GridPoint) → Near d c → along a c ≡ along a p → along a p ≡ along a d → on_axis a (v c) ≡ on_axis a (in_steps p)
  level-high a p c h e f = k.high c a h (e ∙ f) ∙ sym (point-level a p ∙ ap (λ (m : ℕ). 256 * m) f)

  level-low : (a : Axis) (p c : GridPoint) → Near d c → along a c ≡ along a p → along a p ≡ 0 → on_axis a (v c) ≡ on_axis a (in_steps (step_up a p))
  level-low a p c h e f = k.low c a h (e ∙ f) ∙ sym (point-level a (step_up a p) ∙ ap (λ (m : ℕ). 256 * m) (up-along a p ∙ ap (λ (m : ℕ). m + 1) f))

  module _ (a : Axis) (p : GridPoint) where
    t : Stands a p
    t = stands a p

    near2 : Near d p → Near d (cell2 (edge a p))
    near2 = near_down d (axis_b a) p

    near3 : Near d p → Near d (cell3 (edge a p))
    near3 = near_down d (axis_c a) p

    near4 : Near d p → Near d (cell4 (edge a p))
    near4 h = near_down d (axis_c a) (step_down (axis_b a) p) (near2 h)

    flat-high : T (n p) → (T (n (step_up a p)) → ⊥)
        → round v (quad_fall (s (edge a p))) (edge a p) + round v (sides_back (in_steps p)) (edge a p) ≡ round v (quad_rise (s (edge a p))) (edge a p) + round v (sides (in_steps p)) (edge a p)
    flat-high h out =
        let f = past_end k a p h out in
        let r = near-tank d p (k.to p h) in
        flat-face a (in_steps p) (v (cell1 (edge a p))) (v (cell2 (edge a p))) (v (cell3 (edge a p))) (v (cell4 (edge a p)))
        (level-high a p (cell1 (edge a p)) r refl f) (level-high a p (cell2 (edge a p)) (near2 r) t.a2 f) (level-high a p (cell3 (edge a p)) (near3 r) t.a3 f)
        (level-high a p (cell4 (edge a p)) (near4 r) t.a4 f) (s (edge a p))

    flat-low : T (n (step_up a p)) → (T (n p) → ⊥)
        → round v (quad_fall (s (edge a p))) (edge a p) + round v (sides_back (in_steps (step_up a p))) (edge a p)
        ≡ round v (quad_rise (s (edge a p))) (edge a p) + round v (sides (in_steps (step_up a p))) (edge a p)
    flat-low h out =
        let f = before-start k a p h out in
        let r = near-under d a p (near-tank d (step_up a p) (k.to (step_up a p) h)) in
        flat-face a (in_steps (step_up a p)) (v (cell1 (edge a p))) (v (cell2 (edge a p))) (v (cell3 (edge a p))) (v (cell4 (edge a p)))
        (level-low a p (cell1 (edge a p)) r refl f) (level-low a p (cell2 (edge a p)) (near2 r) t.a2 f) (level-low a p (cell3 (edge a p)) (near3 r) t.a3 f)
        (level-low a p (cell4 (edge a p)) (near4 r) t.a4 f) (s (edge a p))

  abbrev side_gains : Axis → GridPoint → ℕ
  side_gains a p = one (n p) * round v (sides_back (in_steps p)) (edge a p) + one (n (step_up a p)) * round v (sides (in_steps (step_up a p))) (edge a p)

  abbrev side_loses : Axis → GridPoint → ℕ
  side_loses a p = one (n p) * round v (sides (in_steps p)) (edge a p) + one (n (step_up a p)) * round v (sides_back (in_steps (step_up a p))) (edge a p)

  edge-exact : (a : Axis) (p : GridPoint)
      → loses b n inner v w s a p + side_loses a p + 256 * (both_ends b n inner v w s a p * area_of b n inner v w s a p) ≡ gains b n inner v w s a p + side_gains a p
  edge-exact a p =
      exact (n p) (n (step_up a p)) (round v (quad_fall (s (edge a p))) (edge a p)) (round v (quad_rise (s (edge a p))) (edge a p))
      (round v (sides (in_steps p)) (edge a p)) (round v (sides_back (in_steps p)) (edge a p))
      (round v (sides (in_steps (step_up a p))) (edge a p)) (round v (sides_back (in_steps (step_up a p))) (edge a p)) (area_of b n inner v w s a p)
      (λ h. (edge-weighs v w a p (inside-b b n inner a p h) (inside-c b n inner a p h) (s (edge a p))).ends) (flat-high a p) (flat-low a p)

  pub edges-exact : whole b (loses b n inner v w s) + 256 * whole b (λ (a : Axis) (p : GridPoint). both_ends b n inner v w s a p * area_of b n inner v w s a p)
      ≡ whole b (gains b n inner v w s)
  edges-exact =
      omega (
        arith,
        whole_same b edge-exact,
        whole-plus b (λ (a : Axis) (p : GridPoint). loses b n inner v w s a p + side_loses a p)
            (λ (a : Axis) (p : GridPoint). 256 * (both_ends b n inner v w s a p * area_of b n inner v w s a p)),
        whole-plus b (loses b n inner v w s) side_loses,
        whole-plus b (gains b n inner v w s) side_gains,
        whole_scaled b 256 (λ (a : Axis) (p : GridPoint). both_ends b n inner v w s a p * area_of b n inner v w s a p),
        sides-cancel b n inner v,
      )
