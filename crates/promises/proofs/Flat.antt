-- Document 01, "Flat boxes (min equals max on an axis) are accepted if 1 to 5 do not apply, and give 0, 0": of every call that was made. Assumes nothing.
use mathlib.Core.Path.{◌≡◌, ◌∙◌}
use Rattle.rules.specs.Grid.{Axis, along}
use Rattle.rules.specs.Call.{answers, room}
use Rattle.rules.proofs.Accepted.{Accepted}
use Rattle.rules.proofs.Flat.{flat-answer}
use Rattle.promises.specs.Served.{Served}
use Rattle.promises.proofs.Runs.{Run, served, BedRun, bed_served}

-- min equals max on an axis, and conditions 1 to 5 do not hold
pub record FlatCall (u : Served) : Type 0 where
  pub axis : Axis
  pub flat : along axis u.call.box.low ≡ along axis u.call.box.high
  pub accepted : Accepted u.call.grid u.call.size (room u.before).map u.call.box

pub flat-done : (u : Served) → FlatCall u → u.says ≡ answers 0 0 0
flat-done u f = u.answered ∙ flat-answer u.call (room u.before) f.axis f.flat f.accepted

pub surface-nets-flat : (u : Run) → FlatCall (served u) → (served u).says ≡ answers 0 0 0
surface-nets-flat u = flat-done (served u)

pub bed-surface-nets-flat : (u : BedRun) → FlatCall (bed_served u) → (bed_served u).says ≡ answers 0 0 0
bed-surface-nets-flat u = flat-done (bed_served u)
