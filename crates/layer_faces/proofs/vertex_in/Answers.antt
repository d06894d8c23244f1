-- By one test before the list is read, the first number and the vertices being those of the chosen list: the wrapped difference of a lesser number is more
-- than any list has. Assumes nothing.
use Rattle.std.proofs.Common.{◌≡◌, ℕ, ◌+◌, ◌*◌, ◌/◌, ◌^◌, ◌<◌, ◌≤◌, cond, List, length, sym, ◌∙◌, inl, inr, arith}
use lib.Ieee.{Float}
use Rattle.lists.proofs.Tests.{less-or-not}
use Rattle.layer_faces.specs.Below.{nowhere, position_at}
use Rattle.layer_faces.proofs.Lookups.{position-before, position_past, position-read}
use Rattle.layer_faces.proofs.Chosen.{of-chosen, chosen-below}
use Rattle.layer_faces.proofs.vertex_in.Goals as goal
use Rattle.layer_faces.proofs.vertex_in.Goals.{After-pick-count, After-float_in-3}

-- ---- the chosen list
abbrev list_of : After-pick-count → List Float
list_of c = cond c.args.here c.args.positions.now c.args.below.now

abbrev first_of : After-pick-count → ℕ
first_of c = cond c.args.here c.args.first.here c.args.first.below

many : (c : After-pick-count) → c.pick-count.result ≡ length (list_of c) / 3
many c = c.pick-count.ensures ∙ sym (of-chosen (λ (l : List Float). length l / 3) c.args.here c.args.positions.now c.args.below.now)

-- no list has so many vertices as a difference that wraps
few : (c : After-pick-count) → c.pick-count.result < 2 ^ 62
few c = chosen-below c.args.here (2 ^ 62) c.pick-count.ensures (omega arith) (omega arith)

-- past the test, the difference is one, and three numbers stand there
record There (v start place long : ℕ) : Type 0 where
  back : place + start ≡ v
  within : 3 * place + 3 ≤ long

there : (c : After-float_in-3)
    → There c.args.v c.pick-start.result c.wrapping_sub_usize-place.result (length (cond c.args.here c.args.positions.now c.args.below.now))
there c =
    let e = (goal.at.returns c).After-pick-count in
    let h = c.if-count-place.false in
    record {
      back = omega (arith, few e, c.wrapping_sub_usize-place.ensures.value);
      within = omega (arith, many e);
    }

pub returns-then-count-place : goal.returns-then-count-place
returns-then-count-place c =
    let e = (goal.at.returns-then-count-place c).After-pick-count in
    let h = c.if-count-place.true in
    let same = c.pick-start.ensures in
    let past : first_of e ≤ c.args.v → nowhere ≡ position_at (list_of e) (first_of e) c.args.v =
    λ k. position_past (list_of e) (first_of e) c.args.v k (omega (arith, many e, c.wrapping_sub_usize-place.ensures.value)) in
    c.no_position.ensures
    ∙ elim (less-or-not c.args.v (first_of e)) [ inl k ↦ position-before (list_of e) (first_of e) c.args.v k | inr k ↦ past k ]

pub returns : goal.returns
returns c =
    let e = (goal.at.returns c).After-pick-count in
    position-read (list_of e) (first_of e) c.args.v c.wrapping_sub_usize-place.result c.pick-start.ensures (there c).back (there c).within
    c.float_in.ensures c.float_in-2.ensures c.float_in-3.ensures
