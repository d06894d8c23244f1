-- `levels::rising::rise_row` meets its contract. The invariant: the row's first j columns are changed, and the rest are old. Assumes nothing.
use Rattle.std.proofs.Common.{ℕ, ◌+◌, ◌<◌, length, get_or, sym, refl, ap, ◌∙◌, add-zero, zero-add, length-set, arith}
use lib.Ieee.{nan}
use Rattle.grid.proofs.Places.{as-long, float-at}
use Rattle.levels.specs.Columns.{changed}
use Rattle.levels.specs.Fits.{row_step}
use Rattle.levels.proofs.Changed.{changed-none}
use Rattle.levels.proofs.Steps.{read_step}
use Rattle.levels.proofs.Rows.{row_more}
use Rattle.levels.proofs.rising.rise_row.Goals as goal

pub loop-j-init : goal.loop-j-init
loop-j-init g c =
    let f = row_step (g.D.Distance.floats c.args.lower.now) (g.D.Distance.floats c.args.upper.now) 0 0 c.args.z c.args.to in
    let old = c.args.out.now in
    (omega arith, refl, sym (ap (λ (m : ℕ). changed f c.args.to m old) (add-zero c.args.to) ∙ changed-none f c.args.to old))

pub loop-j-preserved : goal.loop-j-preserved
loop-j-preserved g c =
    let l = c.loop-j in
    let a = c.args in
    let are = g.met.D.Distance.floats_are in
    let lows = g.D.Distance.floats a.lower.now in
    let highs = g.D.Distance.floats a.upper.now in
    let in-lower : l.j < length lows = omega (arith, as-long are a.lower.now, c.loop-j-test.true) in
    let in-upper : l.j < length highs = omega (arith, in-lower, c.requires.as_long) in
    let low = float-at are a.lower.now c.index-lower-j.result nan in-lower c.index-lower-j.is ∙ ap (λ (m : ℕ). get_or lows m nan) (sym (zero-add l.j)) in
    let high = float-at are a.upper.now c.index-upper-j.result nan in-upper c.index-upper-j.is ∙ ap (λ (m : ℕ). get_or highs m nan) (sym (zero-add l.j)) in (
      omega (arith, c.loop-j-test.true),
      length-set l.out (a.to + l.j) c.step.result ∙ l.invariant.1,
      row_more lows highs 0 0 a.z a.to l.j a.out.now (omega (arith, in-lower, c.requires.room)) l.invariant.2
          (read_step a.z (get_or l.out (a.to + l.j) nan) (c.float.ensures ∙ low) (c.float-in-loop-j.ensures ∙ high) c.nearest_u32_to_f32-top.ensures c.nearest_u32_to_f32-under.ensures
          c.one_below.ensures c.step.ensures) refl,
    )
