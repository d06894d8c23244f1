-- The invariant: the first z layers are stored. Assumes nothing.
use Prim.Native.Nat.{ℕ, ◌+◌, ◌-◌, ◌*◌, ◌<◌}
use mathlib.Core.Path.{◌≡◌, sym, ap, ◌∙◌}
use native.Mathlib.Nat.{mul-zero, mul-pos}
use native.Mathlib.Omega.{arith}
use lib.Ieee.{Float}
use lib.ListN.{take, drop}
use lib.Seq.{sets}
use Rattle.closing.specs.Runs.{spread, layer_value, layers_value}
use Rattle.grid.proofs.Places.{part-of-grid}
use Rattle.closing.proofs.Borders.{layer-part}
use Rattle.closing.proofs.Spread.{stored-none, stored-block}
use Rattle.closing.proofs.runs.close_planes.Given.{Over}
use Rattle.closing.proofs.runs.close_planes.Goals as goal
use Rattle.closing.proofs.runs.close_planes.Goals.{Start}

abbrev layers-of : (g : Over) → Start g → ℕ → Float
layers-of g c = let a = c.args in layers_value (g.D.Distance.floats a.sdf.now) a.wall a.n a.m

abbrev plane-of : (g : Over) → Start g → ℕ
plane-of g c = let a = c.args in (a.n + 3) * (a.m + 3)

abbrev layer-of : (g : Over) → Start g → ℕ → ℕ → Float
layer-of g c z = let a = c.args in layer_value (g.D.Distance.floats a.sdf.now) a.wall a.n a.m (a.n * a.m * z)

pub loop-z-init : goal.loop-z-init
loop-z-init g c =
    let a = c.args in
    (omega arith, stored-none a.closed.now a.at (layers-of g (goal.at.loop-z-init g c).Start) ∙ ap (λ (k : ℕ). sets a.closed.now a.at (spread (layers-of g (goal.at.loop-z-init g c).Start) k)) (sym (mul-zero (plane-of g (goal.at.loop-z-init g c).Start))))

pub loop-z-preserved : goal.loop-z-preserved
loop-z-preserved g c =
    let a = c.args in
    let grid = g.D.Distance.floats a.sdf.now in
    let z = c.loop-z.z in
    let s = a.n * a.m in
    let first = s * z in
    let some : first + s - first ≡ s = omega arith in
    let part = part-of-grid g.met.D.Distance.floats_are a.sdf.now first (first + s) ∙ ap (λ (n : ℕ). take n (drop first grid)) some in
    let plane = plane-of g (goal.at.loop-z-preserved g c).Start in
    let layer = c.close_plane.ensures ∙ ap (sets c.loop-z.closed (a.at + plane * z)) (layer-part grid a.wall first a.n a.m plane part) in
    let above : 0 < plane = mul-pos (omega arith) (omega arith) in
    (omega arith, stored-block a.closed.now a.at (layer-of g (goal.at.loop-z-preserved g c).Start) plane z above c.loop-z.invariant.1 layer)
