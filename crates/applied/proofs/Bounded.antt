-- The bounds of the volume, applied to the call of OnePoint on the whole box: no cell lies wholly in the sludge, the surface passes through eight, and the skin of
-- 6·85³ lies between. Assumes nothing.
use mathlib.Core.Path.{◌≡◌, refl, subst}
use lib.IntN.{pos}
use lib.Signed.{◌≤ℤ◌}
use Rattle.volume.specs.Steps.{steps}
use Rattle.volume.specs.Volume.{determinant, sum_over}
use Rattle.skin.specs.Enclosed.{Enclosed}
use Rattle.skin.proofs.Premise.{enclosed-says}
use Rattle.promises.proofs.Runs.{served, bed_served}
use Rattle.weighed_mesh.specs.Told.{weight_of}
use Rattle.bounded_mesh.specs.Bounded.{whole_of, Bounded}
use Rattle.bounded_mesh.proofs.Bounds.{surface-nets-bounded, bed-surface-nets-bounded}
use Rattle.bounded_mesh.proofs.Asked.{surface-nets-yes-bounded}
use Rattle.applied.proofs.OnePoint.{opened, whole, bed_whole, whole_test}

-- request 8's premise
inside : Enclosed (served whole).call.grid (served whole).call.box
unfolding opened
inside = enclosed-says (served whole).call.grid (served whole).call.box tt

pub whole-weight : weight_of (served whole) ≡ pos 3684750
unfolding opened steps determinant sum_over
whole-weight = refl

pub whole-bounded : Bounded (served whole) (pos 3684750)
whole-bounded = subst (Bounded (served whole)) whole-weight (surface-nets-bounded whole refl inside)

pub no-whole-cell : whole_of (served whole) ≡ 0
unfolding opened
no-whole-cell = refl

-- 36·3,684,750 is at most 6·256³·(36·(0 + 8) + 36)
pub whole-high : pos 132651000 ≤ℤ pos 32614907904
unfolding opened
whole-high = whole-bounded.high

-- the same after the yes of is_enclosed
pub asked-bounded : Bounded (served whole) (weight_of (served whole))
asked-bounded = surface-nets-yes-bounded whole_test whole refl refl refl

pub bed-whole-bounded : Bounded (bed_served bed_whole) (weight_of (bed_served bed_whole))
bed-whole-bounded = bed-surface-nets-bounded bed_whole refl inside
