-- Document 02, request 5, of calls that were made: a call over 16-bit or 8-bit whole numbers comes to what the call over floats comes to on the grid of the
-- floats of those numbers: the answer, V and I, and every number of every lent list afterwards, refusals too; the same of the functions for C. And "Answer 5
-- cannot occur there." By one law over `Served` each. Last the closed cell of what these calls write. Assumes nothing.
use Prim.Native.Nat.{ℕ, ◌≤◌}
use mathlib.Core.List.{List}
use mathlib.Core.Path.{◌≡◌, refl, sym, ap, ◌∙◌}
use lib.Dec.{lit≤}
use lib.IntN.{ℤ}
use lib.Ieee.{Float}
use Rattle.rules.specs.Call.{Call, Answer, answer, room}
use Rattle.grid.specs.declared.Extent.{Extent}
use Rattle.grid.specs.declared.EachAxis.{EachAxis}
use Rattle.grid.specs.declared.Block.{Block}
use Rattle.grid.specs.Block.{call_of}
use Rattle.grid.specs.Values.{as_floats, Wholes}
use Rattle.grid.proofs.Widths.{wholes-within, never-5}
use Rattle.surface_nets.specs.AsRules.{block_of, call_made}
use Rattle.promises.specs.Served.{Served, Done}
use Rattle.promises.proofs.Runs.{Run, grid_of, dims_of, low_of, high_of, plane_of, served, BedRun, bed_grid, bed_dims, bed_low, bed_high, bed_plane, bed_served}
use Rattle.promises.proofs.Local.{same_outcome}
use Rattle.promises.proofs.ClosedMesh.{ClosedMesh, closed-mesh}
use Rattle.promises.proofs.WholeRuns.{
  SixteenRun,
  sixteen_numbers,
  sixteen_dims,
  sixteen_low,
  sixteen_high,
  sixteen_plane,
  sixteen_served,
  EightRun,
  eight_numbers,
  eight_dims,
  eight_low,
  eight_high,
  eight_plane,
  eight_served,
  BedSixteenRun,
  bed_sixteen_numbers,
  bed_sixteen_dims,
  bed_sixteen_low,
  bed_sixteen_high,
  bed_sixteen_plane,
  bed_sixteen_served,
  BedEightRun,
  bed_eight_numbers,
  bed_eight_dims,
  bed_eight_low,
  bed_eight_high,
  bed_eight_plane,
  bed_eight_served,
}

-- ---- as the call over floats

-- the call over floats on the grid of these numbers' floats, all else the same
module _ (grid : List Float) (numbers : List ℤ) {dims dims' low low' high high' : Extent} {plane plane' : EachAxis} where
  same-call : grid ≡ as_floats numbers → dims ≡ dims' → low ≡ low' → high ≡ high' → plane ≡ plane'
      → call_made (as_floats numbers) dims' low' high' plane' ≡ call_made grid dims low high plane
  same-call g d l h m = λ i. call_made (sym g i) (sym d i) (sym l i) (sym h i) (sym m i)

pub sixteen-as-floats : (u : SixteenRun) (v : Run) → grid_of v ≡ as_floats (sixteen_numbers u)
    → dims_of v ≡ sixteen_dims u → low_of v ≡ sixteen_low u → high_of v ≡ sixteen_high u → plane_of v ≡ sixteen_plane u
    → (sixteen_served u).before ≡ (served v).before
    → ((sixteen_served u).says ≡ (served v).says) × ((sixteen_served u).after ≡ (served v).after)
sixteen-as-floats u v g d l h m = same_outcome (sixteen_served u) (served v) (same-call (grid_of v) (sixteen_numbers u) g d l h m)

pub eight-as-floats : (u : EightRun) (v : Run) → grid_of v ≡ as_floats (eight_numbers u)
    → dims_of v ≡ eight_dims u → low_of v ≡ eight_low u → high_of v ≡ eight_high u → plane_of v ≡ eight_plane u
    → (eight_served u).before ≡ (served v).before
    → ((eight_served u).says ≡ (served v).says) × ((eight_served u).after ≡ (served v).after)
eight-as-floats u v g d l h m = same_outcome (eight_served u) (served v) (same-call (grid_of v) (eight_numbers u) g d l h m)

-- the functions for C, as that over floats
pub bed-sixteen-as-floats : (u : BedSixteenRun) (v : BedRun) → bed_grid v ≡ as_floats (bed_sixteen_numbers u)
    → bed_dims v ≡ bed_sixteen_dims u → bed_low v ≡ bed_sixteen_low u → bed_high v ≡ bed_sixteen_high u → bed_plane v ≡ bed_sixteen_plane u
    → (bed_sixteen_served u).before ≡ (bed_served v).before
    → ((bed_sixteen_served u).says ≡ (bed_served v).says) × ((bed_sixteen_served u).after ≡ (bed_served v).after)
bed-sixteen-as-floats u v g d l h m = same_outcome (bed_sixteen_served u) (bed_served v) (same-call (bed_grid v) (bed_sixteen_numbers u) g d l h m)

pub bed-eight-as-floats : (u : BedEightRun) (v : BedRun) → bed_grid v ≡ as_floats (bed_eight_numbers u)
    → bed_dims v ≡ bed_eight_dims u → bed_low v ≡ bed_eight_low u → bed_high v ≡ bed_eight_high u → bed_plane v ≡ bed_eight_plane u
    → (bed_eight_served u).before ≡ (bed_served v).before
    → ((bed_eight_served u).says ≡ (bed_served v).says) × ((bed_eight_served u).after ≡ (bed_served v).after)
bed-eight-as-floats u v g d l h m = same_outcome (bed_eight_served u) (bed_served v) (same-call (bed_grid v) (bed_eight_numbers u) g d l h m)

-- ---- "Answer 5 cannot occur there."

-- by the contract's own word on the numbers, which are of no more than 24 bits
never-five : (w : ℕ) (l : List ℤ) (k : Block) (u : Served) → w ≤ 24 → Wholes w l → u.call ≡ call_of (as_floats l) k → u.says.number ≡ 5 → ⊥
never-five w l k u narrow whole c e =
    never-5 (as_floats l) k (room u.before) (wholes-within w l narrow whole)
    (ap (λ (d : Call). (answer d (room u.before)).number) (sym c) ∙ sym (ap (λ (a : Answer). a.number) u.answered) ∙ e)

pub never-five-16 : (u : SixteenRun) → (sixteen_served u).says.number ≡ 5 → ⊥
never-five-16 u =
    never-five 16 (sixteen_numbers u) (block_of (sixteen_dims u) (sixteen_low u) (sixteen_high u) (sixteen_plane u)) (sixteen_served u) (lit≤ tt) u.fits.1.1 refl

pub never-five-8 : (u : EightRun) → (eight_served u).says.number ≡ 5 → ⊥
never-five-8 u =
    never-five 8 (eight_numbers u) (block_of (eight_dims u) (eight_low u) (eight_high u) (eight_plane u)) (eight_served u) (lit≤ tt) u.fits.1.1 refl

pub never-five-bed-16 : (u : BedSixteenRun) → (bed_sixteen_served u).says.number ≡ 5 → ⊥
never-five-bed-16 u =
    never-five 16 (bed_sixteen_numbers u) (block_of (bed_sixteen_dims u) (bed_sixteen_low u) (bed_sixteen_high u) (bed_sixteen_plane u)) (bed_sixteen_served u) (lit≤ tt) u.fits.1.1 refl

pub never-five-bed-8 : (u : BedEightRun) → (bed_eight_served u).says.number ≡ 5 → ⊥
never-five-bed-8 u =
    never-five 8 (bed_eight_numbers u) (block_of (bed_eight_dims u) (bed_eight_low u) (bed_eight_high u) (bed_eight_plane u)) (bed_eight_served u) (lit≤ tt) u.fits.1.1 refl

-- ---- the closed cell, as of every call of document 01

pub sixteen-closed : (u : SixteenRun) → Done (sixteen_served u) → ClosedMesh (sixteen_served u)
sixteen-closed u = closed-mesh (sixteen_served u)

pub eight-closed : (u : EightRun) → Done (eight_served u) → ClosedMesh (eight_served u)
eight-closed u = closed-mesh (eight_served u)

pub bed-sixteen-closed : (u : BedSixteenRun) → Done (bed_sixteen_served u) → ClosedMesh (bed_sixteen_served u)
bed-sixteen-closed u = closed-mesh (bed_sixteen_served u)

pub bed-eight-closed : (u : BedEightRun) → Done (bed_eight_served u) → ClosedMesh (bed_eight_served u)
bed-eight-closed u = closed-mesh (bed_eight_served u)
