-- The invariant: the edges so far are counted, the ends that are left are those behind them, and the count is at most as many, so that it fits 32 bits.
-- Assumes nothing.
use Prim.Native.Nat.{◌≤◌}
use mathlib.Core.Path.{◌≡◌}
use lib.ListN.{length, drop}
use Rattle.std.specs.Iterator.Adapters.{zip_first, zip_second}
use Rattle.std.specs.Slice.Iter.{iter_rest}
use Rattle.count.specs.Runs.{changes_run}
use Rattle.count.proofs.changes.Given as goal

abbrev pub invariant-loop-low : goal.invariant-loop-low
invariant-loop-low g l =
    let j = length l.yielded in
    (drop j l.a ≡ iter_rest (zip_first l.low-iterator)) × (drop j l.b ≡ iter_rest (zip_second l.low-iterator))
    × (j ≤ length l.a) × (l.count ≤ j)
    × (l.count ≡ changes_run (g.D.Distance.floats l.a) 0 (g.D.Distance.floats l.b) 0 j)
