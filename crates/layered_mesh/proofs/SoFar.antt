-- What has come out after some layers of a bed: the lists joined so far are the beginning of those that come out in all, the vertices and indices of the layers of cells between
-- the layers taken. Assumes nothing.
use Prim.Native.Nat.{ℕ, suc, ◌+◌, ◌*◌, ◌≤◌}
use native.Mathlib.Omega.{arith}
use mathlib.Core.List.{List, ◌++◌}
use mathlib.Core.Path.{◌≡◌, refl, sym, ap, ap₂, ◌∙◌}
use lib.Ieee.{Float}
use lib.ListN.{length, length-map}
use lib.Seq.{take_at}
use Rattle.lists.specs.Lists.{up_to, joined}
use Rattle.lists.proofs.Lists.{joined-append}
use Rattle.lists.proofs.Runs.{up_to-split}
use Rattle.rules.specs.Grid.{GridPoint, Field, index}
use Rattle.rules.specs.Vertices.{vertices, layer_vertices, first_vertex, vertex_position, vertex_normal, vertex_crossings}
use Rattle.rules.specs.Faces.{indices, layer_indices}
use Rattle.rules.proofs.Seen.{length-points, length-vectors}
use Rattle.grid.specs.declared.Block.{Block}
use Rattle.grid.specs.Block.{box_of, flags_of, field_of}
use Rattle.grid.specs.Inside.{Inside}
use Rattle.whole_box.specs.Layers.{vertices_to, indices_to}
use Rattle.layers.specs.declared.State.{State}
use Rattle.layers.specs.Memory.{Memory}
use Rattle.layers.specs.Offer.{Output}
use Rattle.layered_mesh.specs.Fed.{first_of, joined_with, Fed, points_in_z}
use Rattle.layered_mesh.proofs.Step.{mesh_of, mesh-join}
use Rattle.layered_mesh.proofs.Layered.{low-high, layered-mesh, mesh-so-far}

-- ---- the beginning of the mesh

first-joined : (g : Field) (vs ws : List GridPoint) (is js : List ℕ) → first_of (length vs) (length is) (joined_with (mesh_of g vs is) (mesh_of g ws js)) ≡ mesh_of g vs is
first-joined g vs ws is js =
    let a = mesh_of g vs is in
    let b = mesh_of g ws js in
    let v = length vs in
    λ i.
    record {
      positions = take_at a.positions b.positions (3 * v) (length-vectors (vertex_position g) vs) i;
      normals = take_at a.normals b.normals (3 * v) (length-vectors (vertex_normal g) vs) i;
      cells = take_at a.cells b.cells (3 * v) (length-points vs) i;
      strides = take_at a.strides b.strides v (length-map vs (index g.dims)) i;
      crossings = take_at a.crossings b.crossings v (length-map vs (vertex_crossings g)) i;
      indices = take_at is js (length is) refl i;
    }

module _ (sdf : List Float) (k : Block) (inside : Inside sdf k) {n c : ℕ} {s t : State} {m o : Memory} {so_far out : Output}
    (some : Fed sdf k (suc n) s m so_far) (fed : Fed sdf k c t o out)
    (all_in : c ≡ points_in_z k) (fewer : suc n ≤ points_in_z k) where
  abbrev z : ℕ
  z = k.low.z + n

  -- with n + 1 layers of points come the vertices and indices of n layers of cells, and with the rest of them the others
  pub so-far-begins : so_far ≡ first_of (length (vertices_to (field_of sdf k) (box_of k) z)) (length (indices_to (field_of sdf k) (box_of k) (flags_of k) z)) out
  unfolding vertices indices
  so-far-begins =
      let l = low-high sdf k inside in
      let g = field_of sdf k in
      let b = box_of k in
      let f : ℕ → List ℕ = λ y. layer_indices g b (flags_of k) (first_vertex g b y) y in
      let split = up_to-split k.low.z z k.high.z (omega arith) (omega arith) in
      let vs = vertices_to g b z in
      let is = indices_to g b (flags_of k) z in
      let ws = joined (layer_vertices g b) (up_to z k.high.z) in
      let js = joined f (up_to z k.high.z) in
      let v : vertices g b ≡ vs ++ ws = ap (joined (layer_vertices g b)) split ∙ joined-append (layer_vertices g b) (up_to k.low.z z) (up_to z k.high.z) in
      let i : indices g b (flags_of k) ≡ is ++ js = ap (joined f) split ∙ joined-append f (up_to k.low.z z) (up_to z k.high.z) in
      mesh-so-far sdf k inside some
      ∙ sym (first-joined g vs ws is js)
      ∙ ap (first_of (length vs) (length is)) (mesh-join g vs ws is js ∙ sym (ap₂ (mesh_of g) v i) ∙ sym (layered-mesh sdf k inside fed all_in))
