-- The grid of OnePoint in 8-bit whole numbers, 1 everywhere and -1 at (1,1,1), and a call of surface_nets on it, shown to fit its contract. It comes to what
-- the call over floats came to, number for number (document 02, request 5). Assumes nothing.
use mathlib.Core.Bool.{Bool, true, ◌&&◌}
use mathlib.Core.List.{List, [], ◌∷◌, ◌++◌}
use mathlib.Core.Path.{◌≡◌, refl}
use lib.Dec.{T, ltb, ltb→lt, lit≤}
use lib.IntN.{ℤ, pos, negsuc}
use lib.Signed.{mag}
use lib.ListN.{replicate}
use lib.Ieee.{binary32, of_bits}
use lib.Ieee.Fits.{and_l, and_r}
use Rattle.rounding.specs.Signed.{InBits}
use Rattle.rules.specs.Call.{room, answer, afterwards, answers}
use Rattle.lists.proofs.Lists.{All, none, more, all-at}
use Rattle.grid.specs.Values.{as_floats, Wholes}
use Rattle.grid.proofs.Instances.{eight-type}
use Rattle.judge.specs.AsRules.{answer_of}
use Rattle.cube.proofs.ClosedCell.{InCell}
use Rattle.surface_nets.specs.AsRules.{call_made}
use Rattle.promises.proofs.Runs.{served}
use Rattle.promises.proofs.WholeRuns.{EightRun, eight_served}
use Rattle.promises.proofs.Wholes.{eight-as-floats, eight-closed}
use Rattle.applied.proofs.Made.{run_on}
use Rattle.applied.proofs.OnePoint.{grid, dims, no_plane, lowest, highest, lent, opened, counts, whole_left, whole}

abbrev pub numbers : List ℤ
numbers = replicate 21 (pos 1) ++ (negsuc 0 ∷ replicate 42 (pos 1))

-- their floats are the grid of OnePoint
pub numbers-mean : grid ≡ as_floats numbers
unfolding opened
numbers-mean = refl

-- each is of 8 bits
narrow : List ℤ → Bool
narrow [] = true
narrow (z ∷ zs) = ltb (mag z) 128 && narrow zs

all-narrow : (l : List ℤ) → T (narrow l) → All (InBits 8) l
unfolding narrow
all-narrow [] h = none
all-narrow (z ∷ zs) h = more (ltb→lt (mag z) 128 (and_l (ltb (mag z) 128) (narrow zs) h)) (all-narrow zs (and_r (ltb (mag z) 128) (narrow zs) h))

pub numbers-narrow : Wholes 8 numbers
unfolding narrow
numbers-narrow i h = all-at (all-narrow numbers tt) i h (pos 0)

-- ---- the call: V 8, I 36, and the lists that the call over floats leaves

pub eight-answered : answer_of (counts 8 36) ≡ answer (call_made (as_floats numbers) dims lowest highest no_plane) (room (lent 8 36 77))
unfolding opened
eight-answered = refl

pub eight-left : whole_left ≡ afterwards (call_made (as_floats numbers) dims lowest highest no_plane) (lent 8 36 77)
unfolding opened
eight-left = refl

abbrev pub eight_whole : EightRun
eight_whole = run_on eight-type numbers dims lowest highest no_plane (counts 8 36) (lent 8 36 77) whole_left eight-answered eight-left numbers-narrow

-- ---- the theorems, applied

pub eight-the-same : ((eight_served eight_whole).says ≡ (served whole).says) × ((eight_served eight_whole).after ≡ (served whole).after)
eight-the-same = eight-as-floats eight_whole whole numbers-mean refl refl refl refl refl

pub eight-says : answers 0 8 36 ≡ (served whole).says
eight-says = eight-the-same.0

pub eight-inside : InCell 1 (of_bits binary32 0x3F955555)
eight-inside = (eight-closed eight_whole refl).inside 7 2 (lit≤ tt) (lit≤ tt)
