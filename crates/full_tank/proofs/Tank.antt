-- The points of a tank in its closed grid, from 1 to the dimension on every axis, and a vertex for every cell, that of a border cell on the plane of the outermost
-- points. Where a step leaves the tank. Assumes nothing.
use Prim.Native.Nat.{ℕ, ◌+◌, ◌-◌, ◌*◌, ◌≤◌}
use native.Mathlib.Nat.{le_trans}
use native.Mathlib.Omega.{arith}
use mathlib.Core.Bool.{Bool}
use mathlib.Core.Logic.{inl, inr}
use mathlib.Core.Path.{◌≡◌, refl, subst}
use lib.Dec.{T}
use Rattle.lists.proofs.Tests.{less-or-not}
use Rattle.rules.specs.Grid.{GridPoint, Axis, axis_x, axis_y, axis_z, along, moved, step_up, step_down}
use Rattle.weighed_mesh.specs.Facing.{on_axis}
use Rattle.bounded_mesh.specs.Round.{Placing}
use Rattle.bounded_mesh.proofs.Squares.{down-up}

abbrev pub InTank : GridPoint → GridPoint → Type 0
InTank d p = (a : Axis) → (1 ≤ along a p) × (along a p ≤ along a d)

-- as far as a cell with a corner in the tank can be, which then has a point
abbrev pub Near : GridPoint → GridPoint → Type 0
Near d c = (a : Axis) → (along a c ≤ along a d) × (1 ≤ along a d)

pub record Tank (d : GridPoint) (n : GridPoint → Bool) (v : Placing) : Type 0 where
  pub to : (p : GridPoint) → T (n p) → InTank d p
  pub from : (p : GridPoint) → InTank d p → T (n p)
  pub low : (c : GridPoint) (a : Axis) → Near d c → along a c ≡ 0 → on_axis a (v c) ≡ 256
  pub high : (c : GridPoint) (a : Axis) → Near d c → along a c ≡ along a d → on_axis a (v c) ≡ 256 * along a d

-- ---- steps

moved-each : (P : Axis → ℕ → Type 0) (t : Axis) (m : ℕ) (p : GridPoint) → P t m → ((a : Axis) → P a (along a p)) → (a : Axis) → P a (along a (moved t m p))
moved-each P axis_x m p h k axis_x = h
moved-each P axis_x m p h k axis_y = k axis_y
moved-each P axis_x m p h k axis_z = k axis_z
moved-each P axis_y m p h k axis_x = k axis_x
moved-each P axis_y m p h k axis_y = h
moved-each P axis_y m p h k axis_z = k axis_z
moved-each P axis_z m p h k axis_x = k axis_x
moved-each P axis_z m p h k axis_y = k axis_y
moved-each P axis_z m p h k axis_z = h

pub up-along : (t : Axis) (p : GridPoint) → along t (step_up t p) ≡ along t p + 1
up-along axis_x p = refl
up-along axis_y p = refl
up-along axis_z p = refl

module _ (d : GridPoint) (t : Axis) (p : GridPoint) where
  pub up-tank : InTank d p → along t p + 1 ≤ along t d → InTank d (step_up t p)
  up-tank h l = moved-each (λ (a : Axis) (k : ℕ). (1 ≤ k) × (k ≤ along a d)) t (along t p + 1) p (omega arith, l) h

  one_less : (m k n : ℕ) → m ≡ k + 1 → 1 ≤ k → m ≤ n → (1 ≤ m - 1) × (m - 1 ≤ n)
  one_less m k n e l h = (omega arith, omega arith)

  pub down-tank : InTank d (step_up t p) → 1 ≤ along t p → InTank d p
  down-tank h l =
      subst (InTank d) (down-up t p)
      (moved-each (λ (a : Axis) (k : ℕ). (1 ≤ k) × (k ≤ along a d)) t (along t (step_up t p) - 1) (step_up t p)
      (one_less (along t (step_up t p)) (along t p) (along t d) (up-along t p) l (h t).1) h)

  pub near_down : Near d p → Near d (step_down t p)
  near_down h = moved-each (λ (a : Axis) (k : ℕ). (k ≤ along a d) × (1 ≤ along a d)) t (along t p - 1) p (omega (arith, (h t).0), (h t).1) h

pub near-tank : (d p : GridPoint) → InTank d p → Near d p
near-tank d p h a = ((h a).1, le_trans (h a).0 (h a).1)

pub near-under : (d : GridPoint) (t : Axis) (p : GridPoint) → Near d (step_up t p) → Near d p
near-under d t p h = subst (Near d) (down-up t p) (near_down d t (step_up t p) h)

-- ---- where a step leaves the tank, also from two points side by side

module _ {d : GridPoint} {n : GridPoint → Bool} {v : Placing} (k : Tank d n v) (t : Axis) (p : GridPoint) where
  pub past_end : T (n p) → (T (n (step_up t p)) → ⊥) → along t p ≡ along t d
  past_end h out =
      let w = k.to p h in
      elim (less-or-not (along t p) (along t d)) [ inl l ↦ absurd (out (k.from (step_up t p) (up-tank d t p w (omega arith)))) | inr l ↦ omega (arith, (w t).1) ]

  pub before-start : T (n (step_up t p)) → (T (n p) → ⊥) → along t p ≡ 0
  before-start h out =
      elim (less-or-not 0 (along t p)) [ inl l ↦ absurd (out (k.from p (down-tank d t p (k.to (step_up t p) h) (omega arith)))) | inr l ↦ omega arith ]

  module _ (q : GridPoint) (e : along t q ≡ along t p) where
    pub gap-high : T (n p) → T (n q) → (T (n (step_up t p)) → T (n (step_up t q)) → ⊥) → along t p ≡ along t d
    gap-high h h' out =
        let w = k.to p h in
        elim (less-or-not (along t p) (along t d)) [
          | inl l ↦ absurd (out (k.from (step_up t p) (up-tank d t p w (omega arith))) (k.from (step_up t q) (up-tank d t q (k.to q h') (omega (arith, e)))))
          | inr l ↦ omega (arith, (w t).1)
        ]

    pub gap-low : T (n (step_up t p)) → T (n (step_up t q)) → (T (n p) → T (n q) → ⊥) → along t (step_up t p) ≡ 1
    gap-low h h' out =
        elim (less-or-not 0 (along t p)) [
          | inl l ↦ absurd (out (k.from p (down-tank d t p (k.to (step_up t p) h) (omega arith))) (k.from q (down-tank d t q (k.to (step_up t q) h') (omega (arith, e)))))
          | inr l ↦ omega (arith, up-along t p)
        ]
