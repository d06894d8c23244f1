-- Document 02, request 5: calls over 16-bit and over 8-bit whole numbers, "each number meaning the float of the same value", with an outcome that fits the
-- contract. Each is a call of document 01 on the floats of those numbers, with what came of it (`Served`). So whatever is proved over `Served` holds of these
-- calls as it stands: of the lists that are left (`Done`, `Again`), what they depend on (`Local`), flat boxes (`Flat`), the closed cell (`ClosedMesh`), the
-- crossings (`Crossings`) and the cutting law (`CutMesh`, `CutVertices`). Assumes nothing.
use mathlib.Core.List.{List}
use lib.IntN.{ℤ}
use contract.Lifetimes.{Lfts}
use borrow.Fn.Kinds.{Dens}
use Rattle.grid.specs.declared.Extent.{Extent}
use Rattle.grid.specs.declared.EachAxis.{EachAxis}
use Rattle.grid.specs.Values.{as_floats}
use Rattle.grid.proofs.Widths.{wholes-fit}
use Rattle.grid.proofs.Instances.{sixteen-type, eight-type}
use Rattle.whole_box.specs.LentLists.{buffers, buffers_given}
use Rattle.surface_nets.specs.AsRules.{call_made}
use Rattle.bed.specs.Boundary.{said}
use Rattle.bed.specs.Words12 as words12
use Rattle.promises.specs.Served.{Served}
use Rattle.promises.proofs.OneOutcome.{Outcome, FitsContract}
use Rattle.promises.proofs.Runs.{RunOf, numbers_in, dims_in, low_in, high_in, plane_in, served_of}
use Rattle.bed.proofs.wholes.bed_surface_nets_i16.Kinds as bed-sixteen-kinds
use Rattle.bed.proofs.wholes.bed_surface_nets_i16.Reads as bed-sixteen
use Rattle.bed.proofs.wholes.bed_surface_nets_i8.Kinds as bed-eight-kinds
use Rattle.bed.proofs.wholes.bed_surface_nets_i8.Reads as bed-eight

-- ---- surface_nets over 16-bit numbers

abbrev pub SixteenRun : Type 0
SixteenRun = RunOf sixteen-type

-- the numbers as they were lent, and the other arguments that are not lent for writing
abbrev pub sixteen_numbers : SixteenRun → List ℤ
sixteen_numbers = numbers_in sixteen-type

abbrev pub sixteen_dims : SixteenRun → Extent
sixteen_dims = dims_in sixteen-type

abbrev pub sixteen_low : SixteenRun → Extent
sixteen_low = low_in sixteen-type

abbrev pub sixteen_high : SixteenRun → Extent
sixteen_high = high_in sixteen-type

abbrev pub sixteen_plane : SixteenRun → EachAxis
sixteen_plane = plane_in sixteen-type

abbrev pub sixteen_served : SixteenRun → Served
sixteen_served = served_of sixteen-type

-- ---- surface_nets over 8-bit numbers

abbrev pub EightRun : Type 0
EightRun = RunOf eight-type

-- the numbers as they were lent, and the other arguments that are not lent for writing
abbrev pub eight_numbers : EightRun → List ℤ
eight_numbers = numbers_in eight-type

abbrev pub eight_dims : EightRun → Extent
eight_dims = dims_in eight-type

abbrev pub eight_low : EightRun → Extent
eight_low = low_in eight-type

abbrev pub eight_high : EightRun → Extent
eight_high = high_in eight-type

abbrev pub eight_plane : EightRun → EachAxis
eight_plane = plane_in eight-type

abbrev pub eight_served : EightRun → Served
eight_served = served_of eight-type

-- ---- bed_surface_nets_i16: the twelve words taken apart, and V and I behind the last two parameters

pub record BedSixteenRun : Type 0 where
  pub lifetimes : Lfts 11
  pub args : Dens lifetimes bed-sixteen-kinds.ps
  pub outcome : Outcome 11 bed-sixteen-kinds.ps bed-sixteen-kinds.r lifetimes args
  pub fits : FitsContract 11 bed-sixteen-kinds.ps bed-sixteen-kinds.r bed-sixteen.Learnt lifetimes args outcome

abbrev pub bed_sixteen_numbers : BedSixteenRun → List ℤ
bed_sixteen_numbers u = u.args.0.now

abbrev pub bed_sixteen_dims : BedSixteenRun → Extent
bed_sixteen_dims u = words12.dims_asked u.args.1.0.now

abbrev pub bed_sixteen_low : BedSixteenRun → Extent
bed_sixteen_low u = words12.low_asked u.args.1.0.now

abbrev pub bed_sixteen_high : BedSixteenRun → Extent
bed_sixteen_high u = words12.high_asked u.args.1.0.now

abbrev pub bed_sixteen_plane : BedSixteenRun → EachAxis
bed_sixteen_plane u = words12.planes_asked u.args.1.0.now

abbrev pub bed_sixteen_served : BedSixteenRun → Served
bed_sixteen_served u =
    let (positions, (normals, (cells, (strides, (crossings, (map, (indices, _))))))) = u.args.1.1 in
    let (positions', (normals', (cells', (strides', (crossings', (map', (indices', (v, (i, _))))))))) = u.outcome.last.1.1 in
    record {
      call = call_made (as_floats (bed_sixteen_numbers u)) (bed_sixteen_dims u) (bed_sixteen_low u) (bed_sixteen_high u) (bed_sixteen_plane u);
      before = buffers_given positions normals cells strides crossings map indices;
      says = said u.outcome.result v i;
      after = buffers positions' normals' cells' strides' crossings' map' indices';
      answered = u.fits.0;
      left = u.fits.1.0;
      numbers = wholes-fit (bed_sixteen_numbers u);
    }

-- ---- bed_surface_nets_i8

pub record BedEightRun : Type 0 where
  pub lifetimes : Lfts 11
  pub args : Dens lifetimes bed-eight-kinds.ps
  pub outcome : Outcome 11 bed-eight-kinds.ps bed-eight-kinds.r lifetimes args
  pub fits : FitsContract 11 bed-eight-kinds.ps bed-eight-kinds.r bed-eight.Learnt lifetimes args outcome

abbrev pub bed_eight_numbers : BedEightRun → List ℤ
bed_eight_numbers u = u.args.0.now

abbrev pub bed_eight_dims : BedEightRun → Extent
bed_eight_dims u = words12.dims_asked u.args.1.0.now

abbrev pub bed_eight_low : BedEightRun → Extent
bed_eight_low u = words12.low_asked u.args.1.0.now

abbrev pub bed_eight_high : BedEightRun → Extent
bed_eight_high u = words12.high_asked u.args.1.0.now

abbrev pub bed_eight_plane : BedEightRun → EachAxis
bed_eight_plane u = words12.planes_asked u.args.1.0.now

abbrev pub bed_eight_served : BedEightRun → Served
bed_eight_served u =
    let (positions, (normals, (cells, (strides, (crossings, (map, (indices, _))))))) = u.args.1.1 in
    let (positions', (normals', (cells', (strides', (crossings', (map', (indices', (v, (i, _))))))))) = u.outcome.last.1.1 in
    record {
      call = call_made (as_floats (bed_eight_numbers u)) (bed_eight_dims u) (bed_eight_low u) (bed_eight_high u) (bed_eight_plane u);
      before = buffers_given positions normals cells strides crossings map indices;
      says = said u.outcome.result v i;
      after = buffers positions' normals' cells' strides' crossings' map' indices';
      answered = u.fits.0;
      left = u.fits.1.0;
      numbers = wholes-fit (bed_eight_numbers u);
    }
