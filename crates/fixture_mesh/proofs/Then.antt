-- "The mesher then reads that grid", over the contracts: a call of cut_fixtures, and a call of surface_nets on the grid that it left. Where document 01's conditions 1 to
-- 5 let the grid pass before the cut, the mesh call is answered by its room alone, with the counts of the cut grid. And the rake of Cases, cut and meshed: the two calls
-- with their numbers, so that no premise is one that no call meets. Assumes nothing.
use Prim.Native.Nat.{ℕ}
use mathlib.Core.Bool.{false}
use Rattle.std.specs.Prelude.{Ok}
use mathlib.Core.List.{List, []}
use mathlib.Core.Path.{◌≡◌, sym, ap, ap₂, subst, ◌∙◌}
use contract.Lifetimes.{Lfts}
use denote.Ref.{Bor, MutBor}
use borrow.Fn.Kinds.{Dens}
use lib.ListN.{length}
use lib.Ieee.{Float}
use Rattle.rules.specs.Call.{Call, Answer, room, answers, answer, room_answer, vertex_count, index_count}
use Rattle.rules.proofs.Accepted.{Accepted, accepted-answer, done-accepted, done-counted}
use Rattle.grid.specs.declared.Extent.{Extent}
use Rattle.grid.specs.declared.EachAxis.{EachAxis}
use Rattle.grid.specs.Block.{point}
use Rattle.surface_nets.specs.AsRules.{call_made}
use Rattle.promises.specs.Served.{Served}
use Rattle.promises.proofs.OneOutcome.{Outcome, FitsContract}
use Rattle.fixtures.proofs.cut.cut_fixtures.Kinds as cut-kinds
use Rattle.fixtures.proofs.cut.cut_fixtures.Reads as cut-reads
use Rattle.fixture_mesh.proofs.Accepted.{field, cut-accepted}
use Rattle.fixture_mesh.proofs.Cases.{file, floats_of, rake, rake-holds, roomy, rake-before, rake-counted}

-- a call of cut_fixtures with an outcome that fits its contract
pub record CutRun : Type 0 where
  pub lifetimes : Lfts 2
  pub args : Dens lifetimes cut-kinds.ps
  pub outcome : Outcome 2 cut-kinds.ps cut-kinds.r lifetimes args
  pub fits : FitsContract 2 cut-kinds.ps cut-kinds.r cut-reads.Learnt lifetimes args outcome

abbrev pub file_of : CutRun → List ℕ
file_of u = u.args.0.now

abbrev pub dims_of : CutRun → Extent
dims_of u = u.args.1.0

abbrev pub grid_before : CutRun → List Float
grid_before u = u.args.1.1.0.now

abbrev pub grid_after : CutRun → List Float
grid_after u = u.outcome.last.1.1.0

-- the mesh call on a grid of the same dimensions
module _ (u : CutRun) (low high : Extent) (plane : EachAxis) where
  abbrev pub meshing : List Float → Call
  meshing grid = call_made grid (dims_of u) low high plane

  pub cut-then-meshed : (v : Served) → v.call ≡ meshing (grid_after u)
      → Accepted (meshing (grid_before u)).grid (length (grid_before u)) (room v.before).map (meshing (grid_before u)).box
      → v.says ≡ room_answer (room v.before) (vertex_count (meshing (grid_after u))) (index_count (meshing (grid_after u)))
  cut-then-meshed v same a =
      let d = point (dims_of u) in
      let b = (meshing (grid_before u)).box in
      let cut = u.fits.1 in
      let kept = cut-accepted (file_of u) d (grid_before u) (room v.before).map b a in
      let passes : Accepted (meshing (grid_after u)).grid (length (grid_after u)) (room v.before).map b =
      subst (λ (g : List Float). Accepted (field d g) (length g) (room v.before).map b) (sym cut) kept in
      v.answered
      ∙ (ap (λ (c : Call). answer c (room v.before)) same ∙ accepted-answer (meshing (grid_after u)) (room v.before) passes)

-- ---- the rake

abbrev extent : ℕ → ℕ → ℕ → Extent
extent x y z = record { x = x; y = y; z = z }

abbrev to : {X : Type 0} → X → Bor X
to x = record { ref_ptr = (0, 0); now = x }

-- for writing
abbrev lent : {X : Type 0} → X → MutBor X
lent x = record { ref_ptr = (0, 0); ghost_name = 0; now = x }

-- answered 0, and the grid that Cases has
abbrev pub raked : CutRun
raked =
    record {
      lifetimes = ([], ([], tt));
      args = (to (file rake), (extent 5 5 5, (lent (floats_of rake.grid), tt)));
      outcome = record { result = Ok tt; last = (tt, (tt, (floats_of rake.after, tt))) };
      fits = (sym rake-holds.0, sym rake-holds.1);
    }

abbrev no_plane : EachAxis
no_plane = record { x = false; y = false; z = false }

abbrev on : List Float → Call
on grid = meshing raked (extent 0 0 0) (extent 4 4 4) no_plane grid

-- document 01's conditions let the bed pass before the cut: its mesh is done
rake-accepted : Accepted (on (floats_of rake.grid)).grid 125 125 (on (floats_of rake.grid)).box
rake-accepted = done-accepted (on (floats_of rake.grid)) roomy (ap (λ (a : Answer). a.number) rake-before)

-- and any call on what is left, whose map is as long as the grid, is answered by its room, 52 vertices and 162 indices
pub rake-then-meshed : (v : Served) → v.call ≡ on (floats_of rake.after) → (room v.before).map ≡ 125 → v.says ≡ room_answer (room v.before) 52 162
rake-then-meshed v same long =
    let counted : answer (on (floats_of rake.after)) roomy ≡ answers 0 52 162 = rake-counted in
    let c = done-counted (on (floats_of rake.after)) roomy (ap (λ (a : Answer). a.number) counted) in
    cut-then-meshed raked (extent 0 0 0) (extent 4 4 4) no_plane v same
    (subst (λ (n : ℕ). Accepted (on (floats_of rake.grid)).grid 125 n (on (floats_of rake.grid)).box) (sym long) rake-accepted)
    ∙ ap₂ (room_answer (room v.before)) (sym c.0 ∙ ap (λ (a : Answer). a.vertices) counted) (sym c.1 ∙ ap (λ (a : Answer). a.indices) counted)
