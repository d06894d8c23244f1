-- The bounds of the volume after a yes of `is_enclosed` on the same grid and box: the premise of request 8 as a caller can ask it. Assumes nothing.
use mathlib.Core.Bool.{Bool, true, false, not, cond}
use mathlib.Core.Path.{◌≡◌, refl, sym, ap, ◌∙◌}
use lib.Dec.{T}
use Rattle.lists.proofs.Tests.{is-test}
use Rattle.rules.specs.Call.{bad_dimensions, bad_box, bad_length, room}
use Rattle.rules.proofs.Accepted.{Accepted}
use Rattle.skin.specs.Enclosed.{Enclosed, enclosed}
use Rattle.skin.specs.Scan.{Tested, answers, judged}
use Rattle.skin.proofs.Premise.{enclosed-says}
use Rattle.promises.specs.Served.{Served, Done}
use Rattle.promises.proofs.Done.{done-accepts}
use Rattle.promises.proofs.Runs.{Run, served, grid_of, dims_of, low_of, high_of, BedRun, bed_served, bed_grid, bed_dims, bed_low, bed_high}
use Rattle.closed_mesh.proofs.Outcome.{input, Test, test_input, tested, BedTest, bed_test_input, bed_tested}
use Rattle.closed_mesh.proofs.Calls.{moved}
use Rattle.weighed_mesh.specs.Told.{weight_of}
use Rattle.bounded_mesh.specs.Bounded.{Bounded}
use Rattle.bounded_mesh.proofs.Bounds.{volume-bounded}

not-bad : (t : Bool) → T (not t) → t ≡ false
not-bad true h = absurd h
not-bad false h = refl

-- a call answered 0 meets the conditions before the premise, so that a yes says the premise
pub yes-says : (u : Served) → Done u → judged u.call.grid u.call.box u.call.size ≡ answers 0 true → Enclosed u.call.grid u.call.box
unfolding judged
yes-says u done yes' = enclosed-says u.call.grid u.call.box (is-test (enclosed u.call.grid u.call.box) (ap (λ (r : Tested). r.enclosed) (sym only ∙ yes')))
  where
    a : Accepted u.call.grid u.call.size (room u.before).map u.call.box
    a = done-accepts u done

    only : judged u.call.grid u.call.box u.call.size ≡ answers 0 (enclosed u.call.grid u.call.box)
    only = λ i. cond (not-bad (bad_dimensions u.call.grid.dims) a.dims i) (answers 1 false)
        (cond (not-bad (bad_box u.call.grid.dims u.call.box) a.box i) (answers 2 false)
        (cond (not-bad (bad_length u.call.grid.dims u.call.size) a.length i) (answers 3 false) (answers 0 (enclosed u.call.grid u.call.box))))

pub yes-bounded : (u : Served) → Done u → judged u.call.grid u.call.box u.call.size ≡ answers 0 true → Bounded u (weight_of u)
yes-bounded u done yes' = volume-bounded u done (yes-says u done yes')

-- ---- surface_nets and is_enclosed, and the two functions for C

pub surface-nets-yes-bounded : (t : Test) (u : Run) → test_input t ≡ input (grid_of u) (dims_of u) (low_of u) (high_of u) → tested t ≡ answers 0 true → Done (served u)
    → Bounded (served u) (weight_of (served u))
surface-nets-yes-bounded t u same yes' done = yes-bounded (served u) done (moved same t.learnt yes')

pub bed-surface-nets-yes-bounded : (t : BedTest) (u : BedRun) → bed_test_input t ≡ input (bed_grid u) (bed_dims u) (bed_low u) (bed_high u) → bed_tested t ≡ answers 0 true
    → Done (bed_served u) → Bounded (bed_served u) (weight_of (bed_served u))
bed-surface-nets-yes-bounded t u same yes' done = yes-bounded (bed_served u) done (moved same t.learnt yes')
