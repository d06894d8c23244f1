-- The theorems over the contracts themselves. After an answer 0 of a call that closes a grid: the test for holes says yes of the closed grid's whole box, a mesh
-- of it has no hole, conditions 1 to 5 let it pass where they let the open grid pass; and the layers closed one by one are what the one call wrote. Assumes
-- nothing.
use Prim.Native.Nat.{ℕ, ◌+◌, ◌≤◌, ◌<◌}
use mathlib.Core.Bool.{true, not}
use mathlib.Core.List.{List}
use mathlib.Core.Path.{◌≡◌, refl, sym, ap, subst, ◌∙◌}
use lib.Dec.{T}
use lib.Ieee.{Float}
use lib.ListN.{length, take}
use lib.Seq.{take_at}
use Rattle.lists.specs.Lists.{up_to, joined}
use Rattle.lists.proofs.Lists.{joined_same}
use Rattle.lists.proofs.Runs.{up_to-each}
use Rattle.rules.specs.Grid.{GridPoint}
use Rattle.rules.specs.Call.{Room, bad_distance, answer, room_answer, vertex_count, index_count}
use Rattle.rules.proofs.Accepted.{Accepted, accepted-answer}
use Rattle.grid.specs.declared.Extent.{Extent}
use Rattle.grid.specs.declared.EachAxis.{EachAxis}
use Rattle.grid.specs.Block.{point}
use Rattle.grid.specs.Values.{floats-themselves}
use Rattle.grid.proofs.Instances.{DistanceType, float-type, sixteen-type, eight-type}
use Rattle.surface_nets.specs.AsRules.{call_made}
use Rattle.skin.specs.Links.{links}
use Rattle.skin.specs.Scan.{answers, examined}
use Rattle.closing.specs.Refused.{answer_of}
use Rattle.closing.specs.Closed.{closed_dims, point_count, layer_count, open_field, closed_list, closed_layer}
use Rattle.closing.specs.Answers.{layer_answer, layer_room}
use Rattle.closing.proofs.Answers.{layer-done}
use Rattle.closed_mesh.proofs.Outcome.{Input, Mesh, mesh_input, mesh_answer, mesh_exit, Test, test_input, tested, BedMesh, bed_mesh_input, bed_mesh_answer, bed_mesh_exit, BedTest, bed_test_input, bed_tested}
use Rattle.closed_mesh.proofs.Closed.{Even, mesh-closed-yes}
use Rattle.closed_mesh.proofs.Calls.{mesh-is, bed-mesh-is}
use Rattle.closed_bed.specs.Standing.{whole_box}
use Rattle.closed_bed.specs.Layers.{layer_of}
use Rattle.closed_bed.proofs.Values.{Closes, call-accepted, call-closed}
use Rattle.closed_bed.proofs.Enclosing.{closed-judged}
use Rattle.closed_bed.proofs.Passing.{closed-passes}
use Rattle.closed_bed.proofs.Outcome.{closed_extent, origin, far_corner, closed_input, FloatsAre, CloseAt, close_dims_at, close_exit_at, close-is-at, Close, close_dims, close_exit, close-is, Close16, close_dims16, close_exit16, Close8, close_dims8, close_exit8, CloseLayer, layer_exit, BedClose, bed_close_dims, bed_close_exit, bed-close-is, BedClose16, bed_close_dims16, bed_close_exit16, bed-close-is-16, BedClose8, bed_close_dims8, bed_close_exit8, bed-close-is-8}
use Rattle.closed_bed.proofs.Joining.{closed-layer-long, layers-joined}

-- the test and the mesh of the same input
says-yes : (t : Test) {i : Input} → test_input t ≡ i → examined i.sdf i.dims i.low i.high ≡ answers 0 true → tested t ≡ answers 0 true
says-yes t same yes' = t.learnt ∙ subst (λ (k : Input). examined k.sdf k.dims k.low k.high ≡ answers 0 true) (sym same) yes'

meshed : (m : Mesh) {i : Input} → mesh_input m ≡ i → examined i.sdf i.dims i.low i.high ≡ answers 0 true → (mesh_answer m).number ≡ 0
    → Even (links (take (mesh_answer m).indices (mesh_exit m).indices))
meshed m same yes' made =
    mesh-closed-yes (mesh-is m made) (subst (λ (k : Input). examined k.sdf k.dims k.low k.high ≡ answers 0 true) (sym same) yes')

bed-says-yes : (t : BedTest) {i : Input} → bed_test_input t ≡ i → examined i.sdf i.dims i.low i.high ≡ answers 0 true → bed_tested t ≡ answers 0 true
bed-says-yes t same yes' = t.learnt ∙ subst (λ (k : Input). examined k.sdf k.dims k.low k.high ≡ answers 0 true) (sym same) yes'

bed-meshed : (m : BedMesh) {i : Input} → bed_mesh_input m ≡ i → examined i.sdf i.dims i.low i.high ≡ answers 0 true → m.result ≡ 0
    → Even (links (take (bed_mesh_answer m).indices (bed_mesh_exit m).indices))
bed-meshed m same yes' made =
    mesh-closed-yes (bed-mesh-is m made) (subst (λ (k : Input). examined k.sdf k.dims k.low k.high ≡ answers 0 true) (sym same) yes')

module _ {dims : Extent} {wall : Float} {sdf old exit : List Float} {r : ℕ} (c : Closes (point dims) wall sdf old r exit) where
  -- the test says yes
  pub examined-yes : examined (take (point_count (closed_dims (point dims))) exit) (closed_extent dims) origin (far_corner dims) ≡ answers 0 true
  examined-yes =
      ap (λ (l : List Float). examined l (closed_extent dims) origin (far_corner dims)) (call-closed c)
      ∙ closed-judged (point dims) sdf wall (call-accepted c).far (call-accepted c).closable

  -- a mesh call on the closed grid passes conditions 1 to 5, and is answered by its room alone: 0, 6 or 7
  pub passed : T (not (bad_distance (open_field (point dims) sdf) (whole_box (point dims)))) → (plane : EachAxis) (room : Room)
      → point_count (closed_dims (point dims)) ≤ room.map
      → (let k = call_made (take (point_count (closed_dims (point dims))) exit) (closed_extent dims) origin (far_corner dims) plane in
      answer k room ≡ room_answer room (vertex_count k) (index_count k))
  passed fine plane room long =
      let d = point dims in
      accepted-answer (call_made (take (point_count (closed_dims d)) exit) (closed_extent dims) origin (far_corner dims) plane) room
      (subst (λ (l : List Float). Accepted (open_field (closed_dims d) l) (length l) room.map (whole_box (closed_dims d))) (sym (call-closed c))
      (closed-passes d sdf wall (call-accepted c).far (call-accepted c).closable fine room.map long))

-- ---- close, then is_enclosed or surface_nets, for any type of numbers and for each width

module _ (D : DistanceType) (are : FloatsAre D) (o : CloseAt D) (done : answer_of o.result ≡ 0) where
  pub is-enclosed-after-close-at : (t : Test) → test_input t ≡ closed_input (close_dims_at D o) (close_exit_at D o) → tested t ≡ answers 0 true
  is-enclosed-after-close-at t same = says-yes t same (examined-yes (close-is-at D o are done))

  pub no-hole-after-close-at : (m : Mesh) → mesh_input m ≡ closed_input (close_dims_at D o) (close_exit_at D o) → (mesh_answer m).number ≡ 0
      → Even (links (take (mesh_answer m).indices (mesh_exit m).indices))
  no-hole-after-close-at m same made = meshed m same (examined-yes (close-is-at D o are done)) made

module _ (o : Close) (done : answer_of o.result ≡ 0) where
  pub is-enclosed-after-close : (t : Test) → test_input t ≡ closed_input (close_dims o) (close_exit o) → tested t ≡ answers 0 true
  is-enclosed-after-close = is-enclosed-after-close-at float-type floats-themselves o done

  pub no-hole-after-close : (m : Mesh) → mesh_input m ≡ closed_input (close_dims o) (close_exit o) → (mesh_answer m).number ≡ 0
      → Even (links (take (mesh_answer m).indices (mesh_exit m).indices))
  no-hole-after-close = no-hole-after-close-at float-type floats-themselves o done

module _ (o : Close16) (done : answer_of o.result ≡ 0) where
  pub is-enclosed-after-close-16 : (t : Test) → test_input t ≡ closed_input (close_dims16 o) (close_exit16 o) → tested t ≡ answers 0 true
  is-enclosed-after-close-16 = is-enclosed-after-close-at sixteen-type (λ l. refl) o done

  pub no-hole-after-close-16 : (m : Mesh) → mesh_input m ≡ closed_input (close_dims16 o) (close_exit16 o) → (mesh_answer m).number ≡ 0
      → Even (links (take (mesh_answer m).indices (mesh_exit m).indices))
  no-hole-after-close-16 = no-hole-after-close-at sixteen-type (λ l. refl) o done

module _ (o : Close8) (done : answer_of o.result ≡ 0) where
  pub is-enclosed-after-close-8 : (t : Test) → test_input t ≡ closed_input (close_dims8 o) (close_exit8 o) → tested t ≡ answers 0 true
  is-enclosed-after-close-8 = is-enclosed-after-close-at eight-type (λ l. refl) o done

  pub no-hole-after-close-8 : (m : Mesh) → mesh_input m ≡ closed_input (close_dims8 o) (close_exit8 o) → (mesh_answer m).number ≡ 0
      → Even (links (take (mesh_answer m).indices (mesh_exit m).indices))
  no-hole-after-close-8 = no-hole-after-close-at eight-type (λ l. refl) o done

-- ---- the same of the functions for C

module _ (o : BedClose) (done : o.result ≡ 0) where
  pub bed-is-enclosed-after-close : (t : BedTest) → bed_test_input t ≡ closed_input (bed_close_dims o) (bed_close_exit o) → bed_tested t ≡ answers 0 true
  bed-is-enclosed-after-close t same = bed-says-yes t same (examined-yes (bed-close-is o done))

  pub bed-no-hole-after-close : (m : BedMesh) → bed_mesh_input m ≡ closed_input (bed_close_dims o) (bed_close_exit o) → m.result ≡ 0
      → Even (links (take (bed_mesh_answer m).indices (bed_mesh_exit m).indices))
  bed-no-hole-after-close m same made = bed-meshed m same (examined-yes (bed-close-is o done)) made

module _ (o : BedClose16) (done : o.result ≡ 0) where
  pub bed-is-enclosed-after-close-16 : (t : BedTest) → bed_test_input t ≡ closed_input (bed_close_dims16 o) (bed_close_exit16 o) → bed_tested t ≡ answers 0 true
  bed-is-enclosed-after-close-16 t same = bed-says-yes t same (examined-yes (bed-close-is-16 o done))

  pub bed-no-hole-after-close-16 : (m : BedMesh) → bed_mesh_input m ≡ closed_input (bed_close_dims16 o) (bed_close_exit16 o) → m.result ≡ 0
      → Even (links (take (bed_mesh_answer m).indices (bed_mesh_exit m).indices))
  bed-no-hole-after-close-16 m same made = bed-meshed m same (examined-yes (bed-close-is-16 o done)) made

module _ (o : BedClose8) (done : o.result ≡ 0) where
  pub bed-is-enclosed-after-close-8 : (t : BedTest) → bed_test_input t ≡ closed_input (bed_close_dims8 o) (bed_close_exit8 o) → bed_tested t ≡ answers 0 true
  bed-is-enclosed-after-close-8 t same = bed-says-yes t same (examined-yes (bed-close-is-8 o done))

  pub bed-no-hole-after-close-8 : (m : BedMesh) → bed_mesh_input m ≡ closed_input (bed_close_dims8 o) (bed_close_exit8 o) → m.result ≡ 0
      → Even (links (take (bed_mesh_answer m).indices (bed_mesh_exit m).indices))
  bed-no-hole-after-close-8 m same made = bed-meshed m same (examined-yes (bed-close-is-8 o done)) made

-- ---- layer by layer

-- a call for each layer of the closed grid, given what the open grid has there, and answered 0
pub record Layered (dims : Extent) (wall : Float) (sdf : List Float) (calls : ℕ → CloseLayer) : Type 0 where
  pub given : (z : ℕ) → z < dims.z + 3 → (let (layer, (dims', (z', (wall', _)))) = (calls z).args in
      (layer.now ≡ layer_of (point dims) sdf z) × (dims' ≡ dims) × (z' ≡ z) × (wall' ≡ wall))
  pub done : (z : ℕ) → z < dims.z + 3 → answer_of (calls z).result ≡ 0

-- what one such call left
layer-left : (d : GridPoint) (wall : Float) (z : ℕ) (layer old exit : List Float) {r : ℕ} → r ≡ layer_answer d z (length layer) wall (length old) → r ≡ 0
    → exit ≡ layer_room d wall z layer old → take (layer_count (closed_dims d)) exit ≡ closed_layer d wall z layer
layer-left d wall z layer old exit e f g =
    ap (take (layer_count (closed_dims d))) (g ∙ layer-done d wall z layer old (sym e ∙ f))
    ∙ take_at (closed_layer d wall z layer) _ (layer_count (closed_dims d)) (closed-layer-long d wall z layer)

pub layers-are-closed : (dims : Extent) (wall : Float) (sdf : List Float) (calls : ℕ → CloseLayer) → Layered dims wall sdf calls
    → joined (λ z. take (layer_count (closed_dims (point dims))) (layer_exit (calls z))) (up_to 0 (dims.z + 3)) ≡ closed_list (open_field (point dims) sdf) wall
layers-are-closed dims wall sdf calls l =
    joined_same (up_to-each 0 (dims.z + 3) (λ z h k. one z k)) ∙ layers-joined (point dims) sdf wall
  where
    one : (z : ℕ) → z < dims.z + 3 → take (layer_count (closed_dims (point dims))) (layer_exit (calls z)) ≡ closed_layer (point dims) wall z (layer_of (point dims) sdf z)
    one z k =
        let (layer, (dims', (z', (wall', (closed, _))))) = (calls z).args in
        let g = l.given z k in
        let left = layer-left (point dims') wall' z' layer.now closed.now (layer_exit (calls z)) (calls z).learnt.0 (l.done z k) (calls z).learnt.1 in
        subst (λ (e : Extent). take (layer_count (closed_dims (point e))) (layer_exit (calls z)) ≡ closed_layer (point e) wall z (layer_of (point dims) sdf z)) g.1
        (left ∙ (λ j. closed_layer (point dims') (g.3 j) (g.2 j) (g.0 j)))

-- the one call, and the layers
pub layers-are-the-grid : (o : Close) → answer_of o.result ≡ 0 → (calls : ℕ → CloseLayer)
    → (let (sdf, (dims, (wall, _))) = o.args in Layered dims wall sdf.now calls
    → joined (λ z. take (layer_count (closed_dims (point dims))) (layer_exit (calls z))) (up_to 0 (dims.z + 3)) ≡ take (point_count (closed_dims (point dims))) (close_exit o))
layers-are-the-grid o done calls l =
    let (sdf, (dims, (wall, _))) = o.args in
    layers-are-closed dims wall sdf.now calls l ∙ sym (call-closed (close-is o done))
