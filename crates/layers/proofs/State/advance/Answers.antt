-- The numbers run on from the first, and fit a word. Assumes nothing.
use native.Mathlib.Omega.{arith}
use Rattle.layers.proofs.Cells.{runs-short}
use Rattle.layers.proofs.State.advance.Goals as goal

pub overflow_add-result-2 : goal.overflow_add-result-2
overflow_add-result-2 c =
    let few = c.requires.0 in
    let r = runs-short c.args.self.next c.args.count (omega arith) in
    record { fits = omega (arith, c.first_number-first.ensures) }
