-- `weigh::total::Total::with` meets its contract: the two terms with their biases, added. Assumes nothing.
use Rattle.std.proofs.Common.{◌∙◌, arith}
use Rattle.weigh.specs.Biased.{kept}
use Rattle.weigh.proofs.Terms.{pillar-biased, added}
use Rattle.weigh.proofs.total.Total.with.Goals as goal

pub returns : goal.returns
returns c =
    let t = c.args.self in
    let a = c.add.ensures in
    let p = c.pillar_of in
    let d = c.shadow_of-shadow in
    let r = c.add.result in
    record {
      low = a.low_bound;
      sum = omega (arith, a.result_value, p.ensures.upper_bound);
      shadow = omega (arith, a.shadow_value, d.ensures.upper_bound);
      pillar-is = added (kept t) (kept r) p.result _ a.result_value ∙ pillar-biased c.args.a c.args.b c.args.c p.result d.result d.ensures.pos_value p.ensures.z_value;
      shadow-is = added t.shadow r.shadow d.result _ a.shadow_value ∙ d.ensures.pos_value;
    }
