-- A refusal keeps the room, and an accepted call fills it. Assumes nothing.
use Prim.Native.Nat.{ℕ, ◌+◌, ◌*◌, ◌≤◌}
use native.Mathlib.Omega.{arith}
use mathlib.Core.Bool.{true}
use mathlib.Core.Path.{◌≡◌, sym, ap, ◌∙◌}
use lib.ListN.{length}
use Rattle.rules.specs.Grid.{between}
use Rattle.grid.specs.Block.{point}
use Rattle.grid.proofs.Places.{as-long}
use Rattle.closing.specs.Answers.{layer_answer}
use Rattle.closing.proofs.Answers.{LayerAccepted, layer-accepted, layer-kept, layer-done}
use Rattle.closing.proofs.Sizes.{open-smaller}
use Rattle.closing.proofs.Numbers.{refusal-some}
use Rattle.closing.proofs.Rooms.{layer-long, layer-room, plane-few, layer-stored, wall-stored}
use Rattle.closing.proofs.layer.close_layer.Given.{Over}
use Rattle.closing.proofs.layer.close_layer.Goals as goal
use Rattle.closing.proofs.layer.close_layer.Goals.{In_ok-layer_fault, Then-is_open}

-- the layer's floats are as many as its numbers
none : (g : Over) (c : In_ok-layer_fault g) → let a = c.args in
    layer_answer (point a.dims) a.z (length (g.D.Distance.floats a.layer.now)) a.wall (length a.closed.now) ≡ 0
none g c =
    let a = c.args in
    ap (λ (n : ℕ). layer_answer (point a.dims) a.z n a.wall (length a.closed.now)) (as-long g.met.D.Distance.floats_are a.layer.now)
    ∙ sym c.in_ok-layer_fault.ensures

good : (g : Over) (c : In_ok-layer_fault g) → let a = c.args in
    LayerAccepted (point a.dims) a.z (length (g.D.Distance.floats a.layer.now)) a.wall (length a.closed.now)
good g c = layer-accepted _ _ _ _ _ (none g c)

few : (g : Over) (c : In_ok-layer_fault g) → let a = c.args in (a.dims.x + 3) * (a.dims.y + 3) ≤ 1073741824
few g c = plane-few _ _ _ _ _ (good g c)

has_room : (g : Over) (c : In_ok-layer_fault g) → let a = c.args in (a.dims.x + 3) * (a.dims.y + 3) ≤ length a.closed.now
has_room g c = layer-room _ _ _ _ _ (good g c)

long : (g : Over) (c : In_ok-layer_fault g) → let a = c.args in between 1 a.dims.z a.z ≡ true → length (g.D.Distance.floats a.layer.now) ≡ a.dims.x * a.dims.y
long g c open' = layer-long _ _ _ _ _ (good g c) open'

is_open : (g : Over) (c : Then-is_open g) → let a = c.args in between 1 a.dims.z a.z ≡ true
is_open g c = sym c.is_open.ensures ∙ c.if-is_open.true

pub returns-in_err-layer_fault-clause-closed_after : goal.returns-in_err-layer_fault-clause-closed_after
returns-in_err-layer_fault-clause-closed_after g c =
    let a = c.args in
    let e = ap (λ (n : ℕ). layer_answer (point a.dims) a.z n a.wall (length a.closed.now)) (sym (as-long g.met.D.Distance.floats_are a.layer.now)) in
    sym (layer-kept (point a.dims) a.wall a.z (g.D.Distance.floats a.layer.now) a.closed.now (refusal-some c.in_err-layer_fault.field-0.0 (c.in_err-layer_fault.ensures ∙ e)))

pub close_plane-requires-clause-m_rows : goal.close_plane-requires-clause-m_rows
close_plane-requires-clause-m_rows g c =
    let at = goal.at.close_plane-requires-clause-m_rows g c in omega (arith, long g at.In_ok-layer_fault (is_open g at.Then-is_open))

pub close_plane-requires-clause-few : goal.close_plane-requires-clause-few
close_plane-requires-clause-few g c =
    let at = goal.at.close_plane-requires-clause-few g c in
    let smaller = open-smaller c.args.dims.x c.args.dims.y in
    omega (arith, long g at.In_ok-layer_fault (is_open g at.Then-is_open), smaller, few g at.In_ok-layer_fault)

pub close_plane-requires-clause-room : goal.close_plane-requires-clause-room
close_plane-requires-clause-room g c = omega (arith, has_room g (goal.at.close_plane-requires-clause-room g c).In_ok-layer_fault)

pub returns-then-is_open-clause-closed_after : goal.returns-then-is_open-clause-closed_after
returns-then-is_open-clause-closed_after g c =
    let a = c.args in
    let d = point a.dims in
    let layer = g.D.Distance.floats a.layer.now in
    let at = goal.at.returns-then-is_open-clause-closed_after g c in
    c.close_plane.ensures
    ∙ layer-stored d a.wall a.z layer a.closed.now (has_room g at.In_ok-layer_fault) (is_open g at.Then-is_open)
    ∙ sym (layer-done d a.wall a.z layer a.closed.now (none g at.In_ok-layer_fault))

pub overflow_mul-n : goal.overflow_mul-n
overflow_mul-n g c = omega (arith, few g (goal.at.overflow_mul-n g c).In_ok-layer_fault)

pub put_wall-requires : goal.put_wall-requires
put_wall-requires g c = omega (arith, has_room g (goal.at.put_wall-requires g c).In_ok-layer_fault)

pub returns-else-is_open-clause-closed_after : goal.returns-else-is_open-clause-closed_after
returns-else-is_open-clause-closed_after g c =
    let a = c.args in
    let d = point a.dims in
    let layer = g.D.Distance.floats a.layer.now in
    let at = goal.at.returns-else-is_open-clause-closed_after g c in
    c.put_wall.ensures
    ∙ wall-stored d a.wall a.z layer a.closed.now (has_room g at.In_ok-layer_fault) (sym c.is_open.ensures ∙ c.if-is_open.false)
    ∙ sym (layer-done d a.wall a.z layer a.closed.now (none g at.In_ok-layer_fault))
