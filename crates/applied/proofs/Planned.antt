-- The theorem about checked plans, applied: the two pieces of the cut of Applied as a list of blocks, to which check_plan answers 0 with a yes, and the calls on
-- them. Assumes nothing.
use mathlib.Core.Bool.{false}
use mathlib.Core.List.{List, [], ◌∷◌, map}
use mathlib.Core.Path.{◌≡◌, refl}
use lib.ListN.{length}
use Rattle.lists.specs.Lists.{joined}
use Rattle.lists.proofs.Lists.{All, more, none}
use Rattle.lists.proofs.Permutation.{Perm}
use Rattle.rules.proofs.Cutting.{cuts-plan}
use Rattle.plan.specs.declared.Block.{Block}
use Rattle.plan.specs.Plan.{piece, block, plan_answer, bad_piece}
use Rattle.promises.specs.Served.{faces_read}
use Rattle.promises.proofs.Runs.{Run, served}
use Rattle.promises.proofs.Done.{done-accepts}
use Rattle.promises.proofs.CutMesh.{CutMesh, field_in, Meshed, outcomes}
use Rattle.planned_mesh.proofs.Planned.{Yes, AllPass, surface-nets-planned, surface-nets-planned-whole}
use Rattle.applied.proofs.OnePoint.{grid, dims, opened, lower, upper, whole}
use Rattle.applied.proofs.Applied.{cut_once, bare, fits-once, passes, lower_meshed, upper_meshed, whole_meshed}

-- what a C program would write down
abbrev blocks : List Block
blocks = block 0 0 0 2 3 3 false false false ∷ block 1 0 0 3 3 3 false false false ∷ []

abbrev tank : Block
tank = block 0 0 0 3 3 3 false false false

-- the outcome of check_plan, which fits its contract
pub yes-said : Yes blocks tank 0
unfolding plan_answer bad_piece opened
yes-said = record { number = refl; yes = λ _. (refl, cuts-plan cut_once bare fits-once); sure = λ _ _. tt }

pass : AllPass grid dims blocks
unfolding opened
pass = more (done-accepts (served lower) refl) (more (done-accepts (served upper) refl) none)

pub meshed : All (Meshed {U = Run} served grid dims) (map piece blocks)
unfolding opened lower_meshed upper_meshed
meshed = more lower_meshed (more upper_meshed none)

pub blocks-mesh : CutMesh (field_in grid dims) (piece tank) (outcomes served grid dims (map piece blocks) meshed)
blocks-mesh = surface-nets-planned grid dims blocks tank 0 yes-said pass meshed

-- as many faces as the tank has edges with one negative end
pub six-faces : length (joined faces_read (served lower ∷ served upper ∷ [])) ≡ 6
unfolding opened meshed lower_meshed upper_meshed
six-faces = blocks-mesh.number

pub same-faces : Perm (joined faces_read (served lower ∷ served upper ∷ [])) (faces_read (served whole))
unfolding opened meshed lower_meshed upper_meshed whole_meshed
same-faces = (surface-nets-planned-whole grid dims blocks tank 0 yes-said pass meshed passes whole_meshed).1
