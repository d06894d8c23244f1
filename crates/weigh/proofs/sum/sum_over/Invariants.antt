-- `weigh::sum::sum_over` meets its contract: the loop keeps what the laws of the loop say. Assumes nothing.
use Rattle.std.proofs.Common.{◌≤◌, length}
use Rattle.weigh.specs.Sums.{corner_from}
use Rattle.weigh.proofs.Loop.{Summed}
use Rattle.weigh.proofs.sum.sum_over.Given as goal

abbrev pub invariant-loop-i : goal.invariant-loop-i
invariant-loop-i l = (l.i-index ≤ length l.triangles) × Summed (corner_from l.positions l.first) l.indices l.i-index l.total
