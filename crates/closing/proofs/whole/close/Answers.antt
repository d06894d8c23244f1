-- A refusal keeps the room, and an accepted call fills it. Assumes nothing.
use Prim.Native.Nat.{ℕ}
use mathlib.Core.Path.{◌≡◌, sym, ap, ◌∙◌}
use lib.ListN.{length}
use Rattle.grid.specs.Block.{point}
use Rattle.grid.proofs.Places.{as-long}
use Rattle.closing.specs.Answers.{close_answer}
use Rattle.closing.proofs.Answers.{Accepted, accepted, room-kept, room-closed}
use Rattle.closing.proofs.Numbers.{refusal-some}
use Rattle.closing.proofs.Rooms.{grid-long, grid-few, room-long, grid-stored}
use Rattle.closing.proofs.whole.close.Given.{Over}
use Rattle.closing.proofs.whole.close.Goals as goal
use Rattle.closing.proofs.whole.close.Goals.{In_ok-fault}

-- the grid's floats are as many as its numbers
none : (g : Over) (c : In_ok-fault g) → let a = c.args in close_answer (point a.dims) (length (g.D.Distance.floats a.sdf.now)) a.wall (length a.closed.now) ≡ 0
none g c =
    let a = c.args in
    ap (λ (n : ℕ). close_answer (point a.dims) n a.wall (length a.closed.now)) (as-long g.met.D.Distance.floats_are a.sdf.now) ∙ sym c.in_ok-fault.ensures

good : (g : Over) (c : In_ok-fault g) → let a = c.args in Accepted (point a.dims) (length (g.D.Distance.floats a.sdf.now)) a.wall (length a.closed.now)
good g c = accepted _ _ _ _ (none g c)

pub returns-in_err-fault-clause-closed_after : goal.returns-in_err-fault-clause-closed_after
returns-in_err-fault-clause-closed_after g c =
    let a = c.args in
    let e = ap (λ (n : ℕ). close_answer (point a.dims) n a.wall (length a.closed.now)) (sym (as-long g.met.D.Distance.floats_are a.sdf.now)) in
    sym (room-kept (point a.dims) a.wall (g.D.Distance.floats a.sdf.now) a.closed.now (refusal-some c.in_err-fault.field-0.0 (c.in_err-fault.ensures ∙ e)))

pub close_grid-requires-clause-l_layers : goal.close_grid-requires-clause-l_layers
close_grid-requires-clause-l_layers g c = grid-long _ _ _ _ (good g (goal.at.close_grid-requires-clause-l_layers g c).In_ok-fault)

pub close_grid-requires-clause-few : goal.close_grid-requires-clause-few
close_grid-requires-clause-few g c = grid-few _ _ _ _ (good g (goal.at.close_grid-requires-clause-few g c).In_ok-fault)

pub close_grid-requires-clause-room : goal.close_grid-requires-clause-room
close_grid-requires-clause-room g c = room-long _ _ _ _ (good g (goal.at.close_grid-requires-clause-room g c).In_ok-fault)

pub returns-clause-closed_after : goal.returns-clause-closed_after
returns-clause-closed_after g c =
    let a = c.args in
    let d = point a.dims in
    let grid = g.D.Distance.floats a.sdf.now in
    let ok = (goal.at.returns-clause-closed_after g c).In_ok-fault in
    c.close_grid.ensures
    ∙ grid-stored d a.wall grid a.closed.now (room-long d (length grid) a.wall (length a.closed.now) (good g ok))
    ∙ sym (room-closed d a.wall grid a.closed.now (none g ok))
