-- Document 02, request 10: "After a yes, where the whole and every block are accepted calls, the blocks' faces are the whole's faces, each once, even where no run of
-- cuts makes that plan." Of what the calls on the blocks have written, one call for each, lent lists and all: CutMesh, with the blocks of a plan that was checked in the place
-- of the pieces of a run of cuts. Assumes nothing.
use Prim.Native.Nat.{ℕ}
use mathlib.Core.Bool.{true}
use mathlib.Core.List.{List, map}
use mathlib.Core.Path.{◌≡◌}
use lib.Ieee.{Float}
use Rattle.lists.specs.Lists.{joined}
use Rattle.rules.specs.Grid.{Field}
use Rattle.rules.specs.Cutting.{Piece}
use Rattle.lists.proofs.Lists.{All}
use Rattle.lists.proofs.Permutation.{Perm}
use Rattle.grid.specs.declared.Extent.{Extent}
use Rattle.plan.specs.declared.Block.{Block}
use Rattle.plan.specs.Plan.{piece, Checks}
use Rattle.promises.specs.Served.{Served, Done, faces_read}
use Rattle.promises.proofs.Runs.{Run, served, BedRun, bed_served}
use Rattle.promises.proofs.CutMesh.{field_in, Passing, CutMesh, Meshed, outcomes, plan-mesh, plan-mesh-whole}
use Rattle.weighed_mesh.specs.Told.{weight_of}
use Rattle.weighed_mesh.proofs.Cut.{Made, weights, plan-weight}

-- the answer fits the contract of check_plan, or of bed_check_plan, with a yes
abbrev pub Yes : List Block → Block → ℕ → Type 0
Yes bs w answer = Checks (map piece bs) (piece w) answer true

-- each block is accepted under conditions 1 to 5, with a map as long as the grid
abbrev pub AllPass : List Float → Extent → List Block → Type 0
AllPass grid dims bs = All (λ (q : Piece). Passing grid dims q.box) (map piece bs)

-- U and made: Run and served, or BedRun and bed_served
module _ {U : Type 0} (made : U → Served) (grid : List Float) (dims : Extent) (bs : List Block) (w : Block) (answer : ℕ) (yes : Yes bs w answer) (pass : AllPass grid dims bs)
    (ms : All (Meshed {U = U} made grid dims) (map piece bs)) where
  pub planned-mesh : CutMesh (field_in grid dims) (piece w) (outcomes made grid dims (map piece bs) ms)
  planned-mesh = plan-mesh made grid dims (map piece bs) (piece w) (yes.yes tt).1 pass ms

  pub planned-mesh-whole : Passing grid dims (piece w).box → (whole : Meshed {U = U} made grid dims (piece w))
      → Done (made whole.run) × Perm (joined faces_read (outcomes made grid dims (map piece bs) ms)) (faces_read (made whole.run))
  planned-mesh-whole a whole = plan-mesh-whole made grid dims (map piece bs) (piece w) (yes.yes tt).1 pass ms a whole

-- ---- of surface_nets, and of bed_surface_nets

pub surface-nets-planned : (grid : List Float) (dims : Extent) (bs : List Block) (w : Block) (answer : ℕ) → Yes bs w answer → AllPass grid dims bs
    → (ms : All (Meshed {U = Run} served grid dims) (map piece bs)) → CutMesh (field_in grid dims) (piece w) (outcomes served grid dims (map piece bs) ms)
surface-nets-planned grid dims bs w answer = planned-mesh served grid dims bs w answer

pub bed-surface-nets-planned : (grid : List Float) (dims : Extent) (bs : List Block) (w : Block) (answer : ℕ) → Yes bs w answer → AllPass grid dims bs
    → (ms : All (Meshed {U = BedRun} bed_served grid dims) (map piece bs)) → CutMesh (field_in grid dims) (piece w) (outcomes bed_served grid dims (map piece bs) ms)
bed-surface-nets-planned grid dims bs w answer = planned-mesh bed_served grid dims bs w answer

pub surface-nets-planned-whole : (grid : List Float) (dims : Extent) (bs : List Block) (w : Block) (answer : ℕ) → Yes bs w answer → AllPass grid dims bs
    → (ms : All (Meshed {U = Run} served grid dims) (map piece bs)) → Passing grid dims (piece w).box → (whole : Meshed {U = Run} served grid dims (piece w))
    → Done (served whole.run) × Perm (joined faces_read (outcomes served grid dims (map piece bs) ms)) (faces_read (served whole.run))
surface-nets-planned-whole grid dims bs w answer = planned-mesh-whole served grid dims bs w answer

pub bed-surface-nets-planned-whole : (grid : List Float) (dims : Extent) (bs : List Block) (w : Block) (answer : ℕ) → Yes bs w answer → AllPass grid dims bs
    → (ms : All (Meshed {U = BedRun} bed_served grid dims) (map piece bs)) → Passing grid dims (piece w).box → (whole : Meshed {U = BedRun} bed_served grid dims (piece w))
    → Done (bed_served whole.run) × Perm (joined faces_read (outcomes bed_served grid dims (map piece bs) ms)) (faces_read (bed_served whole.run))
bed-surface-nets-planned-whole grid dims bs w answer = planned-mesh-whole bed_served grid dims bs w answer

-- ---- the bed's volume

-- the sums over what the blocks' calls wrote, each answered 0, add up to the sum over what the whole's call wrote
pub planned-weight : (g : Field) (bs : List Block) (w : Block) (answer : ℕ) → Yes bs w answer → (ms : All (Made g) (map piece bs)) (whole : Made g (piece w))
    → weights g (map piece bs) ms ≡ weight_of whole.served
planned-weight g bs w answer checked ms whole = plan-weight g (map piece bs) (piece w) (checked.yes tt).1 ms whole
