-- The invariant: the first j places are counted, and their codes stand in the list; the count is at most twice j, so that it fits 32 bits. Assumes nothing.
use Prim.Native.Nat.{◌≤◌, ◌+◌, ◌*◌}
use mathlib.Core.Path.{◌≡◌}
use lib.Seq.{sets}
use Rattle.row_signs.specs.Signs.{negatives_run}
use Rattle.row_signs.specs.Codes.{codes_run}
use Rattle.row_signs.proofs.code_run.Given as goal

abbrev pub invariant-loop-j : goal.invariant-loop-j
invariant-loop-j g l =
    let low = g.D.Distance.floats l.lower in
    let up = g.D.Distance.floats l.upper in
    (l.j ≤ l.n) × (l.count ≤ 2 * l.j) × (l.count ≡ negatives_run low l.at l.j + negatives_run up l.at l.j)
    × (l.codes ≡ sets l.initial.codes l.from (codes_run low up l.at l.j))
