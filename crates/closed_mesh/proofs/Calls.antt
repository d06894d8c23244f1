-- Document 02, request 8, over the contracts themselves: an outcome of `surface_nets` with the answer 0 is a mesh of Closed, so after a yes of
-- `is_enclosed` on the same grid and box it has no hole; and the same of the two functions for C. Assumes nothing.
use mathlib.Core.Bool.{true}
use mathlib.Core.Path.{◌≡◌, sym, subst, ◌∙◌}
use lib.ListN.{take}
use Rattle.grid.proofs.Instances.{DistanceType, float-type}
use Rattle.skin.specs.Links.{links}
use Rattle.skin.specs.Scan.{Tested, answers, examined}
use Rattle.closed_mesh.proofs.Outcome.{
  Input,
  MeshOf,
  mesh_input_of,
  mesh_plane_of,
  mesh_answer_of,
  mesh_entry_of,
  mesh_exit_of,
  Mesh,
  mesh_input,
  mesh_plane,
  mesh_answer,
  mesh_entry,
  mesh_exit,
  TestOf,
  test_input_of,
  tested_of,
  Test,
  test_input,
  tested,
  BedMesh,
  bed_mesh_input,
  bed_mesh_plane,
  bed_mesh_answer,
  bed_mesh_entry,
  bed_mesh_exit,
  BedTest,
  bed_test_input,
  bed_tested,
}
use Rattle.closed_mesh.proofs.Closed.{Even, Meshed, mesh-closed-yes}

-- the test of one input, said of another that is the same
pub moved : {i k : Input} {r : Tested} → i ≡ k → r ≡ examined i.sdf i.dims i.low i.high → r ≡ answers 0 true
    → examined k.sdf k.dims k.low k.high ≡ answers 0 true
moved p e y = subst (λ (k : Input). examined k.sdf k.dims k.low k.high ≡ answers 0 true) p (sym e ∙ y)

-- ---- surface_nets and is_enclosed

-- on numbers of any types that mean the same floats
module _ (D : DistanceType) (o : MeshOf D) (done : (mesh_answer_of D o).number ≡ 0) where
  pub mesh-is-of : Meshed (mesh_input_of D o) (mesh_plane_of D o) (mesh_answer_of D o) (mesh_entry_of D o) (mesh_exit_of D o)
  mesh-is-of = record { said = o.learnt.0; left = o.learnt.1.0; done = done }

  pub mesh-closed-of : (E : DistanceType) (t : TestOf E) → test_input_of E t ≡ mesh_input_of D o → tested_of E t ≡ answers 0 true
      → Even (links (take (mesh_answer_of D o).indices (mesh_exit_of D o).indices))
  mesh-closed-of E t same yes' = mesh-closed-yes mesh-is-of (moved same t.learnt yes')

pub mesh-is : (o : Mesh) → (mesh_answer o).number ≡ 0 → Meshed (mesh_input o) (mesh_plane o) (mesh_answer o) (mesh_entry o) (mesh_exit o)
mesh-is = mesh-is-of float-type

pub surface-nets-closed : (t : Test) (o : Mesh) → test_input t ≡ mesh_input o → tested t ≡ answers 0 true → (mesh_answer o).number ≡ 0
    → Even (links (take (mesh_answer o).indices (mesh_exit o).indices))
surface-nets-closed t o same yes' done = mesh-closed-of float-type o done float-type t same yes'

-- ---- bed_surface_nets and bed_is_enclosed

pub bed-mesh-is : (o : BedMesh) → o.result ≡ 0 → Meshed (bed_mesh_input o) (bed_mesh_plane o) (bed_mesh_answer o) (bed_mesh_entry o) (bed_mesh_exit o)
bed-mesh-is o done = record { said = o.learnt.0; left = o.learnt.1.0; done = done }

pub bed-surface-nets-closed : (t : BedTest) (o : BedMesh) → bed_test_input t ≡ bed_mesh_input o → bed_tested t ≡ answers 0 true → o.result ≡ 0
    → Even (links (take (bed_mesh_answer o).indices (bed_mesh_exit o).indices))
bed-surface-nets-closed t o same yes' done = mesh-closed-yes (bed-mesh-is o done) (moved same t.learnt yes')
