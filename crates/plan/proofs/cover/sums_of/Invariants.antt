-- The invariant: the sums of the first blocks, and that no word of them is large. Assumes nothing.
use Rattle.std.proofs.Common.{◌≡◌, ◌*◌, ◌^◌, take}
use Rattle.plan.specs.Size.{MostAll}
use Rattle.plan.specs.Tests.{sums_of}
use Rattle.plan.proofs.cover.sums_of.Given as goal

abbrev pub invariant-loop-b : goal.invariant-loop-b
invariant-loop-b l = (l.sums ≡ sums_of (take l.b-index l.blocks)) × MostAll (l.b-index * 2 ^ 48) l.sums
