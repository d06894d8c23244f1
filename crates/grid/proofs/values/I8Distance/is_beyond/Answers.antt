-- No whole number of 8 bits is beyond the cap. Assumes nothing.
use lib.Dec.{lit≤}
use Rattle.grid.proofs.Widths.{fine-whole}
use Rattle.grid.proofs.values.I8Distance.is_beyond.Goals as goal

pub returns : goal.returns
returns c = fine-whole 8 c.args.self (lit≤ tt) c.ranges.self.sfits
