-- `levels::rising::clear` meets its contract: what the library's `fill` writes is the change of the first n places. Assumes nothing.
use Rattle.std.proofs.Common.{ℕ, ap, ◌∙◌, ◌++◌, List, drop, length-take-le}
use lib.ListN.{replicate}
use lib.Ieee.{Float, of_bits, neg}
use Rattle.levels.specs.Column.{no_level}
use Rattle.levels.proofs.Changed.{changed-alike}
use Rattle.levels.proofs.rising.clear.Goals as goal

pub returns : goal.returns
unfolding of_bits neg
returns c =
    let a = c.args in
    let filled = c.fill.ensures.after (λ y e. e) ∙ ap (λ (k : ℕ). replicate k no_level) (length-take-le a.n a.out.now c.requires) in
    ap (λ (l : List Float). l ++ drop a.n a.out.now) filled ∙ changed-alike no_level a.n a.out.now c.requires
