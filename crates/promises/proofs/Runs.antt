-- The calls of surface_nets, and of bed_surface_nets, with an outcome that fits the contract: each is a call of document 01 with what came of
-- it. The two contracts say one thing. Assumes nothing.
use mathlib.Core.List.{List}
use lib.Ieee.{Float}
use contract.Lifetimes.{Lfts}
use borrow.Fn.Kinds.{Dens}
use Rattle.grid.specs.declared.Extent.{Extent}
use Rattle.grid.specs.declared.EachAxis.{EachAxis}
use Rattle.grid.proofs.Instances.{DistanceType, float-type}
use Rattle.judge.specs.AsRules.{answer_of}
use Rattle.whole_box.specs.LentLists.{buffers, buffers_given}
use Rattle.surface_nets.specs.AsRules.{call_made}
use Rattle.bed.specs.Boundary.{said}
use Rattle.bed.specs.Words12 as words12
use Rattle.promises.specs.Served.{Served}
use Rattle.promises.proofs.OneOutcome.{Outcome, FitsContract}
use Rattle.surface_nets.proofs.surface_nets.Kinds as surface-nets-kinds
use Rattle.surface_nets.proofs.surface_nets.Reads as surface-nets
use Rattle.bed.proofs.bed_surface_nets.Kinds as bed-surface-nets-kinds
use Rattle.bed.proofs.bed_surface_nets.Reads as bed-surface-nets

-- ---- surface_nets, at any type of distances

module _ (t : DistanceType) where
  -- arguments, an outcome, and that it fits the contract
  pub record RunOf : Type 0 where
    pub lifetimes : Lfts 9
    pub args : Dens lifetimes (surface-nets-kinds.ps t.type t.laws t.copy)
    pub outcome : Outcome 9 (surface-nets-kinds.ps t.type t.laws t.copy) (surface-nets-kinds.r t.type t.laws t.copy) lifetimes args
    pub fits : FitsContract 9 (surface-nets-kinds.ps t.type t.laws t.copy) (surface-nets-kinds.r t.type t.laws t.copy)
        (surface-nets.Learnt t.type t.laws t.copy t.distance t.distance_dict t.clone t.clone_dict) lifetimes args outcome

  -- the arguments that are not lent for writing
  abbrev pub numbers_in : RunOf → List t.type.Denot
  numbers_in u = u.args.0.now

  abbrev pub dims_in : RunOf → Extent
  dims_in u = u.args.1.0

  abbrev pub low_in : RunOf → Extent
  low_in u = u.args.1.1.0

  abbrev pub high_in : RunOf → Extent
  high_in u = u.args.1.1.1.0

  abbrev pub plane_in : RunOf → EachAxis
  plane_in u = u.args.1.1.1.1.0

  abbrev pub served_of : RunOf → Served
  served_of u =
      let (positions, (normals, (cells, (strides, (crossings, (map, (indices, _))))))) = u.args.1.1.1.1.1 in
      let (positions', (normals', (cells', (strides', (crossings', (map', (indices', _))))))) = u.outcome.last.1.1.1.1.1 in
      record {
        call = call_made (t.distance.floats (numbers_in u)) (dims_in u) (low_in u) (high_in u) (plane_in u);
        before = buffers_given positions normals cells strides crossings map indices;
        says = answer_of u.outcome.result;
        after = buffers positions' normals' cells' strides' crossings' map' indices';
        answered = u.fits.0;
        left = u.fits.1.0;
        numbers = t.fit (numbers_in u) u.fits.1.1;
      }

-- of floats
abbrev pub Run : Type 0
Run = RunOf float-type

abbrev pub grid_of : Run → List Float
grid_of = numbers_in float-type

abbrev pub dims_of : Run → Extent
dims_of = dims_in float-type

abbrev pub low_of : Run → Extent
low_of = low_in float-type

abbrev pub high_of : Run → Extent
high_of = high_in float-type

abbrev pub plane_of : Run → EachAxis
plane_of = plane_in float-type

abbrev pub served : Run → Served
served = served_of float-type

-- ---- bed_surface_nets

pub record BedRun : Type 0 where
  pub lifetimes : Lfts 11
  pub args : Dens lifetimes bed-surface-nets-kinds.ps
  pub outcome : Outcome 11 bed-surface-nets-kinds.ps bed-surface-nets-kinds.r lifetimes args
  pub fits : FitsContract 11 bed-surface-nets-kinds.ps bed-surface-nets-kinds.r bed-surface-nets.Learnt lifetimes args outcome

abbrev pub bed_grid : BedRun → List Float
bed_grid u = u.args.0.now

-- the twelve words, taken apart
abbrev pub bed_dims : BedRun → Extent
bed_dims u = words12.dims_asked u.args.1.0.now

abbrev pub bed_low : BedRun → Extent
bed_low u = words12.low_asked u.args.1.0.now

abbrev pub bed_high : BedRun → Extent
bed_high u = words12.high_asked u.args.1.0.now

abbrev pub bed_plane : BedRun → EachAxis
bed_plane u = words12.planes_asked u.args.1.0.now

-- V and I stand behind the last two parameters
abbrev pub bed_served : BedRun → Served
bed_served u =
    let (positions, (normals, (cells, (strides, (crossings, (map, (indices, _))))))) = u.args.1.1 in
    let (positions', (normals', (cells', (strides', (crossings', (map', (indices', (v, (i, _))))))))) = u.outcome.last.1.1 in
    record {
      call = call_made (bed_grid u) (bed_dims u) (bed_low u) (bed_high u) (bed_plane u);
      before = buffers_given positions normals cells strides crossings map indices;
      says = said u.outcome.result v i;
      after = buffers positions' normals' cells' strides' crossings' map' indices';
      answered = u.fits.0;
      left = u.fits.1.0;
      numbers = u.fits.1.1;
    }
