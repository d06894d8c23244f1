-- `weigh::total::Total::without_bias` meets its contract: the laws of the biases taken off. Assumes nothing.
use Rattle.weigh.proofs.Unbiased.{unbiased}
use Rattle.weigh.proofs.total.Total.without_bias.Goals as goal

pub returns : goal.returns
returns c =
    let t = c.args.self in
    let h = c.requires.holds in
    unbiased t.high t.low t.shadow c.args.triangles h.low h.sum h.shadow c.requires.triangles_bound
