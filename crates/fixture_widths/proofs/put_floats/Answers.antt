-- The invariant: the first numbers are the floats. Assumes nothing.
use Rattle.std.proofs.Common.{◌≡◌, ◌<◌, ℕ, List, [], ◌∷◌, ◌++◌, length, take, arith, sym, ap, ap₂, ◌∙◌}
use Rattle.std.proofs.lemmas.List.{take_more, take_more_set}
use lib.Ieee.{Float, nan}
use lib.Seq.{take-length}
use Rattle.grid.proofs.Places.{as-long, float-at}
use Rattle.fixture_widths.proofs.put_floats.Goals as goal

pub loop-i-preserved : goal.loop-i-preserved
loop-i-preserved g c =
    let are = g.met.D.Distance.floats_are in
    let layer = c.args.layer.now in
    let w = c.loop-i in
    let within : w.i < length (g.D.Distance.floats layer) = omega (arith, as-long are layer, c.loop-i-test.true) in
    let read = c.float.ensures ∙ float-at are layer c.index-layer-i.result nan within c.index-layer-i.is in (
      omega (arith, c.loop-i-test.true),
      take_more_set w.out w.i c.float.result (omega (arith, within, c.requires, w.auto.out))
          ∙ ap₂ (λ (l : List Float) (x : Float). l ++ x ∷ []) w.invariant.1 read
          ∙ sym (take_more (g.D.Distance.floats layer) w.i nan within),
    )

pub returns : goal.returns
returns g c =
    let w = c.loop-i in
    let floats = g.D.Distance.floats c.args.layer.now in
    let all : w.i ≡ length floats = omega (arith, as-long g.met.D.Distance.floats_are c.args.layer.now, c.loop-i-test.false, w.invariant.0) in
    let long : length w.out ≡ w.i = omega (arith, all, c.requires, w.auto.out) in
    sym (take-length w.out) ∙ ap (λ (n : ℕ). take n w.out) long ∙ w.invariant.1 ∙ ap (λ (n : ℕ). take n floats) all ∙ take-length floats
