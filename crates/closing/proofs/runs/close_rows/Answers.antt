-- The invariant: the first y rows are stored. Assumes nothing.
use Prim.Native.Nat.{ℕ, ◌+◌, ◌-◌, ◌*◌, ◌≤◌}
use mathlib.Core.Path.{◌≡◌, sym, ap, ◌∙◌}
use native.Mathlib.Nat.{mul-zero, zero-add}
use native.Mathlib.Omega.{arith}
use lib.Ieee.{Float}
use lib.ListN.{length, take, drop}
use lib.Seq.{sets}
use Rattle.closing.specs.Runs.{spread, row_value, rows_value}
use Rattle.grid.proofs.Places.{part-of-grid}
use Rattle.closing.proofs.Sizes.{next-block}
use Rattle.closing.proofs.Borders.{row-part}
use Rattle.closing.proofs.Spread.{stored-none, stored-block, part-long}
use Rattle.closing.proofs.runs.close_rows.Given.{Over}
use Rattle.closing.proofs.runs.close_rows.Goals as goal
use Rattle.closing.proofs.runs.close_rows.Goals.{Start}

abbrev rows_of : (g : Over) → Start g → ℕ → Float
rows_of g c = let a = c.args in rows_value (g.D.Distance.floats a.layer.now) a.wall a.n 0

-- the row y, and all rows
abbrev row_of : (g : Over) → Start g → ℕ → ℕ → Float
row_of g c y = let a = c.args in row_value (g.D.Distance.floats a.layer.now) a.wall a.n (0 + a.n * y)

pub loop-y-init : goal.loop-y-init
loop-y-init g c =
    let a = c.args in
    (omega arith, stored-none a.closed.now a.at (rows_of g (goal.at.loop-y-init g c).Start) ∙ ap (λ (k : ℕ). sets a.closed.now a.at (spread (rows_of g (goal.at.loop-y-init g c).Start) k)) (sym (mul-zero (a.n + 3))))

pub loop-y-preserved : goal.loop-y-preserved
loop-y-preserved g c =
    let a = c.args in
    let are = g.met.D.Distance.floats_are in
    let layer = g.D.Distance.floats a.layer.now in
    let y = c.loop-y.y in
    let first = a.n * y in
    let within : first + a.n ≤ length layer = omega (arith, next-block a.n y a.m c.loop-y-test.true, c.requires.m_rows) in
    let part = part-of-grid are a.layer.now first (first + a.n) in
    let some : first + a.n - first ≡ a.n = omega arith in
    let same = row-part layer a.wall first a.n (part ∙ ap (λ (n : ℕ). take n (drop first layer)) some) (ap length part ∙ part-long layer first a.n within) in
    let row = c.close_row.ensures ∙ ap (sets c.loop-y.closed (a.at + (a.n + 3) * y)) (same ∙ ap (λ (k : ℕ). spread (row_value layer a.wall a.n k) (a.n + 3)) (sym (zero-add first))) in
    (omega arith, stored-block a.closed.now a.at (row_of g (goal.at.loop-y-preserved g c).Start) (a.n + 3) y (omega arith) c.loop-y.invariant.1 row)
