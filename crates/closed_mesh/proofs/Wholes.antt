-- Document 02, requests 5 and 8 together: the test over 16-bit and over 8-bit whole numbers answers what the test over floats answers on the grid of the
-- floats of those numbers, and two outcomes that fit its contract are equal; after its yes a mesh of the same numbers and box has no hole. The same of the
-- functions for C. By the laws of Once and Calls, which hold for any type of distances. Assumes nothing.
use mathlib.Core.Bool.{true}
use mathlib.Core.Path.{◌≡◌}
use lib.ListN.{take}
use Rattle.grid.proofs.Instances.{float-type, sixteen-type, eight-type}
use Rattle.rules.specs.Call.{Answer, Buffers}
use Rattle.grid.specs.declared.EachAxis.{EachAxis}
use Rattle.grid.specs.Values.{as_floats}
use Rattle.whole_box.specs.LentLists.{buffers_given}
use Rattle.skin.specs.Links.{links}
use Rattle.skin.specs.Scan.{Tested, answers}
use Rattle.bed.specs.Boundary.{said}
use Rattle.bed.specs.Words12.{dims_asked, low_asked, high_asked, planes_asked}
use Rattle.closed_mesh.proofs.Outcome.{Outcome, Input, input, TestOf, test_input_of, tested_of, MeshOf, mesh_input_of, mesh_plane_of, mesh_answer_of, mesh_entry_of, mesh_exit_of}
use Rattle.closed_mesh.proofs.Outcome.{Test, test_input, BedTest, bed_test_input, bed_tested}
use Rattle.closed_mesh.proofs.Closed.{Even, Meshed, mesh-closed-yes}
use Rattle.closed_mesh.proofs.Calls.{moved, mesh-is-of, mesh-closed-of}
use Rattle.closed_mesh.proofs.Once.{same_test, is-enclosed-alike}
use Rattle.bed.proofs.enclosed.bed_is_enclosed_i16.Kinds as bed-test-16-kinds
use Rattle.bed.proofs.enclosed.bed_is_enclosed_i16.Reads as bed-test-16
use Rattle.bed.proofs.wholes.bed_surface_nets_i16.Kinds as bed-mesh-16-kinds
use Rattle.bed.proofs.wholes.bed_surface_nets_i16.Reads as bed-mesh-16
use Rattle.bed.proofs.enclosed.bed_is_enclosed_i8.Kinds as bed-test-8-kinds
use Rattle.bed.proofs.enclosed.bed_is_enclosed_i8.Reads as bed-test-8
use Rattle.bed.proofs.wholes.bed_surface_nets_i8.Kinds as bed-mesh-8-kinds
use Rattle.bed.proofs.wholes.bed_surface_nets_i8.Reads as bed-mesh-8

-- ---- 16-bit numbers: the test

abbrev pub Test16 : Type 0
Test16 = TestOf sixteen-type

abbrev pub test16_input : Test16 → Input
test16_input = test_input_of sixteen-type

abbrev pub tested16 : Test16 → Tested
tested16 = tested_of sixteen-type

pub is-enclosed-i16-once : (t t' : Test16) → test16_input t ≡ test16_input t' → t.result ≡ t'.result
is-enclosed-i16-once = is-enclosed-alike sixteen-type sixteen-type

pub is-enclosed-i16-as-floats : (t : Test16) (u : Test) → test16_input t ≡ test_input u → t.result ≡ u.result
is-enclosed-i16-as-floats = is-enclosed-alike sixteen-type float-type

abbrev pub BedTest16 : Type 0
BedTest16 = Outcome 3 bed-test-16-kinds.ps bed-test-16-kinds.r bed-test-16.Learnt

module _ (t : BedTest16) where
  abbrev pub bed_test16_input : Input
  bed_test16_input =
      let (sdf, (words, _)) = t.args in
      input (as_floats sdf.now) (dims_asked words.now) (low_asked words.now) (high_asked words.now)

  abbrev pub bed_tested16 : Tested
  bed_tested16 =
      let (_, (_, (enclosed, _))) = t.exit in
      answers t.result enclosed.now

pub bed-is-enclosed-i16-once : (t t' : BedTest16) → bed_test16_input t ≡ bed_test16_input t' → bed_tested16 t ≡ bed_tested16 t'
bed-is-enclosed-i16-once t t' same = same_test same t.learnt t'.learnt

pub bed-is-enclosed-i16-as-floats : (t : BedTest16) (u : BedTest) → bed_test16_input t ≡ bed_test_input u → bed_tested16 t ≡ bed_tested u
bed-is-enclosed-i16-as-floats t u same = same_test same t.learnt u.learnt

-- ---- 16-bit numbers: a mesh after a yes

abbrev pub Mesh16 : Type 0
Mesh16 = MeshOf sixteen-type

abbrev pub mesh16_input : Mesh16 → Input
mesh16_input = mesh_input_of sixteen-type

abbrev pub mesh16_plane : Mesh16 → EachAxis
mesh16_plane = mesh_plane_of sixteen-type

abbrev pub mesh16_answer : Mesh16 → Answer
mesh16_answer = mesh_answer_of sixteen-type

abbrev pub mesh16_entry : Mesh16 → Buffers
mesh16_entry = mesh_entry_of sixteen-type

abbrev pub mesh16_exit : Mesh16 → Buffers
mesh16_exit = mesh_exit_of sixteen-type

pub mesh-16-is : (o : Mesh16) → (mesh16_answer o).number ≡ 0 → Meshed (mesh16_input o) (mesh16_plane o) (mesh16_answer o) (mesh16_entry o) (mesh16_exit o)
mesh-16-is = mesh-is-of sixteen-type

pub surface-nets-i16-closed : (t : Test16) (o : Mesh16) → test16_input t ≡ mesh16_input o → tested16 t ≡ answers 0 true → (mesh16_answer o).number ≡ 0
    → Even (links (take (mesh16_answer o).indices (mesh16_exit o).indices))
surface-nets-i16-closed t o same yes' done = mesh-closed-of sixteen-type o done sixteen-type t same yes'

abbrev pub BedMesh16 : Type 0
BedMesh16 = Outcome 11 bed-mesh-16-kinds.ps bed-mesh-16-kinds.r bed-mesh-16.Learnt

module _ (o : BedMesh16) where
  abbrev pub bed_mesh16_input : Input
  bed_mesh16_input =
      let (sdf, (words, _)) = o.args in
      input (as_floats sdf.now) (dims_asked words.now) (low_asked words.now) (high_asked words.now)

  abbrev pub bed_mesh16_plane : EachAxis
  bed_mesh16_plane = planes_asked o.args.1.0.now

  abbrev pub bed_mesh16_answer : Answer
  bed_mesh16_answer =
      let (_, (_, (_, (_, (_, (_, (_, (_, (_, (vertices, (indices, _))))))))))) = o.exit in
      said o.result vertices.now indices.now

  abbrev pub bed_mesh16_entry : Buffers
  bed_mesh16_entry =
      let (_, (_, (positions, (normals, (cells, (strides, (crossings, (map, (indices, _))))))))) = o.args in
      buffers_given positions normals cells strides crossings map indices

  abbrev pub bed_mesh16_exit : Buffers
  bed_mesh16_exit =
      let (_, (_, (positions, (normals, (cells, (strides, (crossings, (map, (indices, _))))))))) = o.exit in
      buffers_given positions normals cells strides crossings map indices

  pub bed-mesh-16-is : o.result ≡ 0 → Meshed bed_mesh16_input bed_mesh16_plane bed_mesh16_answer bed_mesh16_entry bed_mesh16_exit
  bed-mesh-16-is done = record { said = o.learnt.0; left = o.learnt.1.0; done = done }

pub bed-surface-nets-i16-closed : (t : BedTest16) (o : BedMesh16) → bed_test16_input t ≡ bed_mesh16_input o → bed_tested16 t ≡ answers 0 true → o.result ≡ 0
    → Even (links (take (bed_mesh16_answer o).indices (bed_mesh16_exit o).indices))
bed-surface-nets-i16-closed t o same yes' done = mesh-closed-yes (bed-mesh-16-is o done) (moved same t.learnt yes')

-- ---- 8-bit numbers: the test

abbrev pub Test8 : Type 0
Test8 = TestOf eight-type

abbrev pub test8_input : Test8 → Input
test8_input = test_input_of eight-type

abbrev pub tested8 : Test8 → Tested
tested8 = tested_of eight-type

pub is-enclosed-i8-once : (t t' : Test8) → test8_input t ≡ test8_input t' → t.result ≡ t'.result
is-enclosed-i8-once = is-enclosed-alike eight-type eight-type

pub is-enclosed-i8-as-floats : (t : Test8) (u : Test) → test8_input t ≡ test_input u → t.result ≡ u.result
is-enclosed-i8-as-floats = is-enclosed-alike eight-type float-type

abbrev pub BedTest8 : Type 0
BedTest8 = Outcome 3 bed-test-8-kinds.ps bed-test-8-kinds.r bed-test-8.Learnt

module _ (t : BedTest8) where
  abbrev pub bed_test8_input : Input
  bed_test8_input =
      let (sdf, (words, _)) = t.args in
      input (as_floats sdf.now) (dims_asked words.now) (low_asked words.now) (high_asked words.now)

  abbrev pub bed_tested8 : Tested
  bed_tested8 =
      let (_, (_, (enclosed, _))) = t.exit in
      answers t.result enclosed.now

pub bed-is-enclosed-i8-once : (t t' : BedTest8) → bed_test8_input t ≡ bed_test8_input t' → bed_tested8 t ≡ bed_tested8 t'
bed-is-enclosed-i8-once t t' same = same_test same t.learnt t'.learnt

pub bed-is-enclosed-i8-as-floats : (t : BedTest8) (u : BedTest) → bed_test8_input t ≡ bed_test_input u → bed_tested8 t ≡ bed_tested u
bed-is-enclosed-i8-as-floats t u same = same_test same t.learnt u.learnt

-- ---- 8-bit numbers: a mesh after a yes

abbrev pub Mesh8 : Type 0
Mesh8 = MeshOf eight-type

abbrev pub mesh8_input : Mesh8 → Input
mesh8_input = mesh_input_of eight-type

abbrev pub mesh8_plane : Mesh8 → EachAxis
mesh8_plane = mesh_plane_of eight-type

abbrev pub mesh8_answer : Mesh8 → Answer
mesh8_answer = mesh_answer_of eight-type

abbrev pub mesh8_entry : Mesh8 → Buffers
mesh8_entry = mesh_entry_of eight-type

abbrev pub mesh8_exit : Mesh8 → Buffers
mesh8_exit = mesh_exit_of eight-type

pub mesh-8-is : (o : Mesh8) → (mesh8_answer o).number ≡ 0 → Meshed (mesh8_input o) (mesh8_plane o) (mesh8_answer o) (mesh8_entry o) (mesh8_exit o)
mesh-8-is = mesh-is-of eight-type

pub surface-nets-i8-closed : (t : Test8) (o : Mesh8) → test8_input t ≡ mesh8_input o → tested8 t ≡ answers 0 true → (mesh8_answer o).number ≡ 0
    → Even (links (take (mesh8_answer o).indices (mesh8_exit o).indices))
surface-nets-i8-closed t o same yes' done = mesh-closed-of eight-type o done eight-type t same yes'

abbrev pub BedMesh8 : Type 0
BedMesh8 = Outcome 11 bed-mesh-8-kinds.ps bed-mesh-8-kinds.r bed-mesh-8.Learnt

module _ (o : BedMesh8) where
  abbrev pub bed_mesh8_input : Input
  bed_mesh8_input =
      let (sdf, (words, _)) = o.args in
      input (as_floats sdf.now) (dims_asked words.now) (low_asked words.now) (high_asked words.now)

  abbrev pub bed_mesh8_plane : EachAxis
  bed_mesh8_plane = planes_asked o.args.1.0.now

  abbrev pub bed_mesh8_answer : Answer
  bed_mesh8_answer =
      let (_, (_, (_, (_, (_, (_, (_, (_, (_, (vertices, (indices, _))))))))))) = o.exit in
      said o.result vertices.now indices.now

  abbrev pub bed_mesh8_entry : Buffers
  bed_mesh8_entry =
      let (_, (_, (positions, (normals, (cells, (strides, (crossings, (map, (indices, _))))))))) = o.args in
      buffers_given positions normals cells strides crossings map indices

  abbrev pub bed_mesh8_exit : Buffers
  bed_mesh8_exit =
      let (_, (_, (positions, (normals, (cells, (strides, (crossings, (map, (indices, _))))))))) = o.exit in
      buffers_given positions normals cells strides crossings map indices

  pub bed-mesh-8-is : o.result ≡ 0 → Meshed bed_mesh8_input bed_mesh8_plane bed_mesh8_answer bed_mesh8_entry bed_mesh8_exit
  bed-mesh-8-is done = record { said = o.learnt.0; left = o.learnt.1.0; done = done }

pub bed-surface-nets-i8-closed : (t : BedTest8) (o : BedMesh8) → bed_test8_input t ≡ bed_mesh8_input o → bed_tested8 t ≡ answers 0 true → o.result ≡ 0
    → Even (links (take (bed_mesh8_answer o).indices (bed_mesh8_exit o).indices))
bed-surface-nets-i8-closed t o same yes' done = mesh-closed-yes (bed-mesh-8-is o done) (moved same t.learnt yes')
