-- The invariant: the first j distances are stored. Assumes nothing.
use Rattle.std.proofs.Common.{◌≡◌, ◌+◌, ◌<◌, List, [], ◌∷◌, length, take, arith, sym, ap, ap₂, ◌∙◌}
use Rattle.std.proofs.lemmas.List.{take_more}
use lib.Ieee.{Float, nan}
use lib.ListN.{set}
use lib.Seq.{sets, length-take-le}
use Rattle.stores.proofs.Runs.{sets-on}
use Rattle.grid.proofs.Places.{as-long, float-at}
use Rattle.closing.proofs.runs.copy_run.Goals as goal

pub loop-j-preserved : goal.loop-j-preserved
loop-j-preserved g c =
    let are = g.met.D.Distance.floats_are in
    let run = c.args.run.now in
    let floats = g.D.Distance.floats run in
    let w = c.loop-j in
    let within : w.j < length floats = omega (arith, as-long are run, c.loop-j-test.true) in
    let read = c.float.ensures ∙ float-at are run c.index-run-j.result nan within c.index-run-j.is in
    let place : c.args.at + w.j ≡ c.args.at + length (take w.j floats) = omega (arith, length-take-le w.j floats (omega (arith, within))) in (
      omega (arith, c.loop-j-test.true),
      ap₂ (λ (l : List Float) (x : Float). set l (c.args.at + w.j) x) w.invariant.1 read
          ∙ sets-on c.args.closed.now c.args.at (c.args.at + w.j) (take w.j floats) (_ ∷ []) place
          ∙ ap (sets c.args.closed.now c.args.at) (sym (take_more floats w.j nan within)),
    )
