-- The part is filled, and it is so many numbers long. Assumes nothing.
use Rattle.std.proofs.Common.{◌+◌, ◌-◌, ℕ, arith, sym, ap, ◌∙◌}
use lib.ListN.{replicate}
use Rattle.closing.specs.Runs.{spread}
use Rattle.closing.proofs.Spread.{spread-one, length-spread, put-part, part-long}
use Rattle.closing.proofs.runs.put_wall.Goals as goal

pub returns : goal.returns
returns c =
    let a = c.args in
    let l = a.closed.now in
    let filled = c.fill.ensures.after (λ y e. e) ∙ ap (λ (k : ℕ). replicate k a.wall) (part-long l a.at a.n c.requires) ∙ sym (spread-one a.wall a.n) in
    put-part l (spread (λ _. a.wall) a.n) c.fill.new.self a.at (a.at + a.n - a.at) a.n filled (omega arith) (sym (length-spread (λ _. a.wall) a.n)) c.requires
