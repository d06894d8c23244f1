-- The volume that does not change where the mesh is moved, applied: what the call of OnePoint on the whole box wrote, weighed where it stands and moved by 2, 5 and 11 grid
-- steps; and the blocks of Planned, whose sums make up the tank's. The moved positions were worked out in binary32 apart from these definitions. Assumes nothing.
use Prim.Native.Nat.{ℕ, zero, suc, ◌<◌}
use native.Mathlib.Omega.{arith}
use mathlib.Core.Bool.{false}
use mathlib.Core.List.{List, [], ◌∷◌, map}
use mathlib.Core.Path.{◌≡◌, refl}
use lib.IntN.{ℤ, pos}
use lib.Ieee.{Float}
use Rattle.lists.specs.Lists.{some}
use Rattle.lists.proofs.Lists.{more, none}
use Rattle.rules.specs.Grid.{Field}
use Rattle.skin.specs.Enclosed.{Enclosed}
use Rattle.skin.proofs.Premise.{enclosed-says}
use Rattle.std.specs.Prelude.{Result, Ok}
use Rattle.volume.specs.declared.Refusal.{Refusal}
use Rattle.volume.specs.Steps.{steps, past}
use Rattle.volume.specs.Volume.{corner_at, determinant, sum_over}
use Rattle.volume.specs.Answers.{weighed, weighing, told_by}
use Rattle.volume.proofs.Weighing.{given, given-told}
use Rattle.promises.proofs.Runs.{served}
use Rattle.promises.proofs.CutMesh.{field_in}
use Rattle.plan.specs.declared.Block.{Block}
use Rattle.plan.specs.Plan.{piece, block}
use Rattle.weighed_mesh.proofs.Moved.{Shift, Moves}
use Rattle.weighed_mesh.proofs.Answers.{told_moved}
use Rattle.weighed_mesh.proofs.Outcomes.{Weigh, told}
use Rattle.weighed_mesh.proofs.Mesh.{OwnMesh, Shifted, surface-nets-moved}
use Rattle.weighed_mesh.proofs.Cut.{Made, weights}
use Rattle.planned_mesh.proofs.Planned.{planned-weight}
use Rattle.applied.proofs.Made.{to}
use Rattle.applied.proofs.OnePoint.{grid, dims, floats, opened, whole_indices, whole, lower, upper}
use Rattle.applied.proofs.Applied.{whole-even}
use Rattle.applied.proofs.Planned.{yes-said}

-- ---- two calls of the volume

abbrev standing : List Float
standing =
    floats (0x3F555555 ∷ 0x3F555555 ∷ 0x3F555555 ∷ 0x3F955555 ∷ 0x3F555555 ∷ 0x3F555555
    ∷ 0x3F555555 ∷ 0x3F955555 ∷ 0x3F555555 ∷ 0x3F955555 ∷ 0x3F955555 ∷ 0x3F555555
    ∷ 0x3F555555 ∷ 0x3F555555 ∷ 0x3F955555 ∷ 0x3F955555 ∷ 0x3F555555 ∷ 0x3F955555
    ∷ 0x3F555555 ∷ 0x3F955555 ∷ 0x3F955555 ∷ 0x3F955555 ∷ 0x3F955555 ∷ 0x3F955555 ∷ [])

-- 2 more on x, 5 on y and 11 on z, each sum rounded
abbrev moved : List Float
moved =
    floats (0x40355555 ∷ 0x40BAAAAB ∷ 0x413D5555 ∷ 0x404AAAAA ∷ 0x40BAAAAB ∷ 0x413D5555
    ∷ 0x40355555 ∷ 0x40C55555 ∷ 0x413D5555 ∷ 0x404AAAAA ∷ 0x40C55555 ∷ 0x413D5555
    ∷ 0x40355555 ∷ 0x40BAAAAB ∷ 0x4142AAAB ∷ 0x404AAAAA ∷ 0x40BAAAAB ∷ 0x4142AAAB
    ∷ 0x40355555 ∷ 0x40C55555 ∷ 0x4142AAAB ∷ 0x404AAAAA ∷ 0x40C55555 ∷ 0x4142AAAB ∷ [])

abbrev weigh_of : (positions : List Float) (r : Result ℤ Refusal) → told_by r ≡ weighing positions whole_indices → Weigh
weigh_of positions r e =
    record {
      lifetimes = ([], ([], tt));
      args = (to positions, (to whole_indices, tt));
      result = r;
      exit = (to positions, (to whole_indices, tt));
      learnt = e;
    }

-- the sum of Bounded, 6·85³
stands : weighed 0 (pos 3684750) ≡ weighing standing whole_indices
unfolding opened weighing some past steps determinant sum_over
stands = refl

abbrev weigh_here : Weigh
weigh_here = weigh_of standing (Ok (pos 3684750)) stands

-- the second call, whatever it answers
abbrev weigh_there : Weigh
weigh_there = weigh_of moved (given moved whole_indices) (given-told moved whole_indices)

-- ---- moved

abbrev shift : Shift
shift = record { x = pos 512; y = pos 1280; z = pos 2816 }

here-own : OwnMesh (served whole) (told weigh_here)
unfolding opened
here-own = record { meshed = refl; positions = refl; indices = refl; weighed = refl }

there-shifted : Shifted shift (told weigh_here) (told weigh_there)
unfolding opened some past steps
there-shifted = record { indices = refl; long = refl; inside = refl; moves = moves }
  where
    moves : (v : ℕ) → v < 8 → Moves shift (corner_at standing v) (corner_at moved v)
    moves zero h = record { x = refl; y = refl; z = refl }
    moves (suc zero) h = record { x = refl; y = refl; z = refl }
    moves (suc (suc zero)) h = record { x = refl; y = refl; z = refl }
    moves (suc (suc (suc zero))) h = record { x = refl; y = refl; z = refl }
    moves (suc (suc (suc (suc zero)))) h = record { x = refl; y = refl; z = refl }
    moves (suc (suc (suc (suc (suc zero))))) h = record { x = refl; y = refl; z = refl }
    moves (suc (suc (suc (suc (suc (suc zero)))))) h = record { x = refl; y = refl; z = refl }
    moves (suc (suc (suc (suc (suc (suc (suc zero))))))) h = record { x = refl; y = refl; z = refl }
    moves (suc (suc (suc (suc (suc (suc (suc (suc v)))))))) h = absurd (omega arith)

-- request 8's premise
enclosed-whole : Enclosed (served whole).call.grid (served whole).call.box
unfolding opened
enclosed-whole = enclosed-says (served whole).call.grid (served whole).call.box tt

-- the mesher's own mesh, moved, weighs the same
pub whole-moved : (told weigh_there).says ≡ weighed 0 (pos 3684750)
whole-moved = surface-nets-moved whole weigh_here weigh_there shift enclosed-whole here-own there-shifted

-- and so does any list in which each directed side occurs as often as its reverse
pub told-there : (told weigh_there).says ≡ weighed 0 (pos 3684750)
told-there =
    told_moved shift (told weigh_here) (told weigh_there) refl whole-even refl there-shifted.long there-shifted.inside there-shifted.moves

-- ---- a checked plan

abbrev blocks : List Block
blocks = block 0 0 0 2 3 3 false false false ∷ block 1 0 0 3 3 3 false false false ∷ []

abbrev tank : Block
tank = block 0 0 0 3 3 3 false false false

abbrev field : Field
field = field_in grid dims

pub made-lower : Made field (piece (block 0 0 0 2 3 3 false false false))
unfolding opened
made-lower = record { served = served lower; grid = refl; box = refl; flags = refl; done = refl }

pub made-upper : Made field (piece (block 1 0 0 3 3 3 false false false))
unfolding opened
made-upper = record { served = served upper; grid = refl; box = refl; flags = refl; done = refl }

made-whole : Made field (piece tank)
unfolding opened
made-whole = record { served = served whole; grid = refl; box = refl; flags = refl; done = refl }

-- the sums over the two blocks' lists, 30 and 6 indices, together
pub blocks-weigh : weights field (map piece blocks) (more made-lower (more made-upper none)) ≡ pos 3684750
unfolding opened made-whole steps determinant sum_over
blocks-weigh = planned-weight field blocks tank 0 yes-said (more made-lower (more made-upper none)) made-whole
