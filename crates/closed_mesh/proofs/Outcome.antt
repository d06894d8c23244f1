-- An outcome of a function that fits its contract: what went in, and what came back and stands behind the parameters at exit. `Learnt` of a
-- function's Reads is what a caller learns from the function's own `ensures`, so this is no copy of it. A generic function has an outcome for each type of
-- distances. Definitions only. Assumes nothing.
use Prim.Native.Nat.{ℕ}
use mathlib.Core.List.{List}
use contract.Lifetimes.{Lfts}
use denote.Triple.Clauses.{AtExit}
use borrow.Fn.Kinds.{ParamKind, ResultKind, Out, Dens, res_t, ended_of}
use lib.Ieee.{Float}
use Rattle.grid.proofs.Instances.{DistanceType, float-type}
use Rattle.rules.specs.Grid.{Box, Field}
use Rattle.rules.specs.Call.{Answer, Buffers}
use Rattle.grid.specs.declared.Extent.{Extent}
use Rattle.grid.specs.declared.EachAxis.{EachAxis}
use Rattle.judge.specs.AsRules.{answer_of}
use Rattle.whole_box.specs.LentLists.{buffers_given}
use Rattle.skin.specs.Answer.{answer_of as said_of_test}
use Rattle.skin.specs.Scan.{Tested, answers, grid_of, box_from}
use Rattle.bed.specs.Boundary.{said}
use Rattle.bed.specs.Words12.{dims_asked, low_asked, high_asked, planes_asked}
use Rattle.surface_nets.proofs.surface_nets.Kinds as mesh-kinds
use Rattle.surface_nets.proofs.surface_nets.Reads as mesh
use Rattle.skin.proofs.is_enclosed.Kinds as test-kinds
use Rattle.skin.proofs.is_enclosed.Reads as test
use Rattle.bed.proofs.bed_surface_nets.Kinds as bed-mesh-kinds
use Rattle.bed.proofs.bed_surface_nets.Reads as bed-mesh
use Rattle.bed.proofs.enclosed.bed_is_enclosed.Kinds as bed-test-kinds
use Rattle.bed.proofs.enclosed.bed_is_enclosed.Reads as bed-test

-- n, ps and r are the signature's: how many lifetimes, the parameters and the result
pub record Outcome (n : ℕ) (ps : List (ParamKind n)) (r : ResultKind n) (Learnt : Out n ps r) : Type 0 where
  pub lifetimes : Lfts n
  pub args : Dens lifetimes ps
  pub result : (res_t r lifetimes).Denot
  pub exit : AtExit (ended_of n ps r) lifetimes
  pub learnt : Learnt lifetimes args result exit

-- the grid's numbers, its dimensions and the corners of the box, which each of the four functions takes
pub record Input : Type 0 where
  pub sdf : List Float
  pub dims : Extent
  pub low : Extent
  pub high : Extent

abbrev pub input : List Float → Extent → Extent → Extent → Input
input sdf dims low high = record { sdf = sdf; dims = dims; low = low; high = high }

abbrev pub grid : Input → Field
grid i = grid_of i.sdf i.dims

abbrev pub box : Input → Box
box i = box_from i.low i.high

-- ---- surface_nets and is_enclosed, on numbers of a type

module _ (D : DistanceType) where
  abbrev pub MeshOf : Type 0
  MeshOf =
      Outcome 9 (mesh-kinds.ps D.type D.laws D.copy) (mesh-kinds.r D.type D.laws D.copy)
      (mesh.Learnt D.type D.laws D.copy D.distance D.distance_dict D.clone D.clone_dict)

  abbrev pub TestOf : Type 0
  TestOf =
      Outcome 2 (test-kinds.ps D.type D.laws D.copy) (test-kinds.r D.type D.laws D.copy)
      (test.Learnt D.type D.laws D.copy D.distance D.distance_dict D.clone D.clone_dict)

  module _ (o : MeshOf) where
    abbrev pub mesh_input_of : Input
    mesh_input_of =
        let (sdf, (dims, (low, (high, _)))) = o.args in
        input (D.distance.floats sdf.now) dims low high

    abbrev pub mesh_plane_of : EachAxis
    mesh_plane_of = o.args.1.1.1.1.0

    abbrev pub mesh_answer_of : Answer
    mesh_answer_of = answer_of o.result

    abbrev pub mesh_entry_of : Buffers
    mesh_entry_of =
        let (positions, (normals, (cells, (strides, (crossings, (map, (indices, _))))))) = o.args.1.1.1.1.1 in
        buffers_given positions normals cells strides crossings map indices

    abbrev pub mesh_exit_of : Buffers
    mesh_exit_of =
        let (positions, (normals, (cells, (strides, (crossings, (map, (indices, _))))))) = o.exit.1.1.1.1.1 in
        buffers_given positions normals cells strides crossings map indices

  module _ (t : TestOf) where
    abbrev pub test_input_of : Input
    test_input_of =
        let (sdf, (dims, (low, (high, _)))) = t.args in
        input (D.distance.floats sdf.now) dims low high

    abbrev pub tested_of : Tested
    tested_of = said_of_test t.result

-- ---- and on floats

abbrev pub Mesh : Type 0
Mesh = MeshOf float-type

abbrev pub mesh_input : Mesh → Input
mesh_input = mesh_input_of float-type

abbrev pub mesh_plane : Mesh → EachAxis
mesh_plane = mesh_plane_of float-type

abbrev pub mesh_answer : Mesh → Answer
mesh_answer = mesh_answer_of float-type

abbrev pub mesh_entry : Mesh → Buffers
mesh_entry = mesh_entry_of float-type

abbrev pub mesh_exit : Mesh → Buffers
mesh_exit = mesh_exit_of float-type

abbrev pub Test : Type 0
Test = TestOf float-type

abbrev pub test_input : Test → Input
test_input = test_input_of float-type

abbrev pub tested : Test → Tested
tested = tested_of float-type

-- ---- the same two for C

abbrev pub BedMesh : Type 0
BedMesh = Outcome 11 bed-mesh-kinds.ps bed-mesh-kinds.r bed-mesh.Learnt

module _ (o : BedMesh) where
  abbrev pub bed_mesh_input : Input
  bed_mesh_input =
      let (sdf, (words, _)) = o.args in
      input sdf.now (dims_asked words.now) (low_asked words.now) (high_asked words.now)

  abbrev pub bed_mesh_plane : EachAxis
  bed_mesh_plane = planes_asked o.args.1.0.now

  abbrev pub bed_mesh_answer : Answer
  bed_mesh_answer =
      let (_, (_, (_, (_, (_, (_, (_, (_, (_, (vertices, (indices, _))))))))))) = o.exit in
      said o.result vertices.now indices.now

  abbrev pub bed_mesh_entry : Buffers
  bed_mesh_entry =
      let (_, (_, (positions, (normals, (cells, (strides, (crossings, (map, (indices, _))))))))) = o.args in
      buffers_given positions normals cells strides crossings map indices

  abbrev pub bed_mesh_exit : Buffers
  bed_mesh_exit =
      let (_, (_, (positions, (normals, (cells, (strides, (crossings, (map, (indices, _))))))))) = o.exit in
      buffers_given positions normals cells strides crossings map indices

abbrev pub BedTest : Type 0
BedTest = Outcome 3 bed-test-kinds.ps bed-test-kinds.r bed-test.Learnt

module _ (t : BedTest) where
  abbrev pub bed_test_input : Input
  bed_test_input =
      let (sdf, (words, _)) = t.args in
      input sdf.now (dims_asked words.now) (low_asked words.now) (high_asked words.now)

  abbrev pub bed_tested : Tested
  bed_tested =
      let (_, (_, (enclosed, _))) = t.exit in
      answers t.result enclosed.now
