-- Where the wall stands in what a call wrote: of every vertex, by the lists of cells and of positions alone. From the contracts of `close` and of `surface_nets`.
-- Assumes nothing.
use Prim.Native.Nat.{ℕ, ◌+◌, ◌*◌, ◌<◌}
use native.Mathlib.Nat.{add-zero}
use native.Mathlib.Omega.{arith}
use mathlib.Core.Bool.{not}
use mathlib.Core.List.{List, map}
use mathlib.Core.Path.{◌≡◌, refl, sym, ap, subst, ◌∙◌}
use lib.Dec.{T}
use lib.Ieee.{Float, nan}
use lib.ListN.{length, get_or, take, drop, length-map, get_or-map}
use Rattle.lists.specs.Floats.{Binary32}
use Rattle.lists.specs.Lists.{over}
use Rattle.lists.proofs.Lists.{all-at}
use Rattle.rules.specs.Grid.{GridPoint, Axis, axis_x, axis_y, axis_z, along}
use Rattle.rules.specs.Cell.{Vector}
use Rattle.rules.specs.Vertices.{vertices, vertex_position}
use Rattle.rules.specs.Call.{Call, Answer, Buffers, bad_distance, room, answer, flat_points, flat_vectors, written, vertex_count}
use Rattle.rules.proofs.Accepted.{done-accepted, done-counted}
use Rattle.rules.proofs.Locality.{when-done}
use Rattle.rules.proofs.Seen.{ThreeAt, three-at, three-over, length-points, length-vectors}
use Rattle.grid.specs.declared.Extent.{Extent}
use Rattle.grid.specs.declared.EachAxis.{EachAxis}
use Rattle.grid.specs.Block.{point}
use Rattle.surface_nets.specs.AsRules.{call_made}
use Rattle.closing.specs.Refused.{answer_of}
use Rattle.closing.specs.Closed.{closed_dims, point_count, open_field, closed_list}
use Rattle.grid.specs.Values.{as_floats, floats-themselves}
use Rattle.grid.proofs.Instances.{DistanceType, float-type, sixteen-type, eight-type}
use Rattle.closed_mesh.proofs.Outcome.{Input, Mesh, mesh_input, mesh_plane, mesh_answer, mesh_entry, mesh_exit, BedMesh, bed_mesh_input, bed_mesh_plane, bed_mesh_answer, bed_mesh_entry, bed_mesh_exit}
use Rattle.closed_mesh.proofs.Closed.{Meshed}
use Rattle.closed_mesh.proofs.Calls.{mesh-is, bed-mesh-is}
use Rattle.closed_bed.specs.Standing.{whole_box, FarWall, component, Stands, axis_place, StandsAt}
use Rattle.closed_bed.proofs.Values.{Closes, call-accepted, call-closed}
use Rattle.closed_bed.proofs.Standing.{all-stand}
use Rattle.closed_bed.proofs.Outcome.{closed_extent, origin, far_corner, closed_input, FloatsAre, CloseAt, close_dims_at, close_exit_at, close-is-at, Close, close_dims, close_exit, Close16, close_dims16, close_exit16, Close8, close_dims8, close_exit8, BedClose, bed_close_dims, bed_close_exit, bed-close-is}

-- any cell, where a list is too short
abbrev pub zero-point : GridPoint
zero-point = record { x = 0; y = 0; z = 0 }

-- ---- three numbers for each vertex

abbrev pick : {B : Type 0} → Axis → B → B → B → B
pick axis_x x y z = x
pick axis_y x y z = y
pick axis_z x y z = z

three-axis : {A B : Type 0} (f h i : A → B) (l : List B) (v : ℕ) (d : B) (x : A) → ThreeAt f h i l v d x → (a : Axis)
    → get_or l (3 * v + axis_place a) d ≡ pick a (f x) (h x) (i x)
three-axis f h i l v d x t axis_x = ap (λ (n : ℕ). get_or l n d) (add-zero (3 * v)) ∙ t.first
three-axis f h i l v d x t axis_y = t.second
three-axis f h i l v d x t axis_z = t.third

points-at : (vs : List GridPoint) (old : List ℕ) (v : ℕ) → v < length vs
    → ThreeAt (λ (c : GridPoint). c.x) (λ (c : GridPoint). c.y) (λ (c : GridPoint). c.z) (over (flat_points vs) old) v 0 (get_or vs v zero-point)
points-at vs old v k =
    three-over (λ (c : GridPoint). c.x) (λ (c : GridPoint). c.y) (λ (c : GridPoint). c.z) (flat_points vs) (drop (length (flat_points vs)) old) v 0 (get_or vs v zero-point)
    (omega (arith, length-points vs)) (three-at (λ (c : GridPoint). c.x) (λ (c : GridPoint). c.y) (λ (c : GridPoint). c.z) vs v 0 zero-point k)

vectors-at : (f : GridPoint → Vector) (vs : List GridPoint) (old : List Float) (v : ℕ) → v < length vs
    → ThreeAt (λ (w : Vector). w.x) (λ (w : Vector). w.y) (λ (w : Vector). w.z) (over (flat_vectors (map f vs)) old) v nan (f (get_or vs v zero-point))
vectors-at f vs old v k =
    three-over (λ (w : Vector). w.x) (λ (w : Vector). w.y) (λ (w : Vector). w.z) (flat_vectors (map f vs)) (drop (length (flat_vectors (map f vs))) old) v nan
    (f (get_or vs v zero-point))
    (omega (arith, length-vectors f vs))
    (subst (ThreeAt (λ (w : Vector). w.x) (λ (w : Vector). w.y) (λ (w : Vector). w.z) (flat_vectors (map f vs)) v nan) (get_or-map f vs v zero-point)
    (three-at (λ (w : Vector). w.x) (λ (w : Vector). w.y) (λ (w : Vector). w.z) (map f vs) v nan (f zero-point) (rw (length-map vs f) k)))

cell-pick : (a : Axis) (c : GridPoint) → pick a c.x c.y c.z ≡ along a c
cell-pick axis_x c = refl
cell-pick axis_y c = refl
cell-pick axis_z c = refl

vector-pick : (a : Axis) (w : Vector) → pick a w.x w.y w.z ≡ component a w
vector-pick axis_x w = refl
vector-pick axis_y w = refl
vector-pick axis_z w = refl

-- ---- what is written

module _ (c : Call) (s : Buffers) (d : GridPoint) where
  pub written_stands : (v : ℕ) → v < vertex_count c → Stands d c.grid (get_or (vertices c.grid c.box) v zero-point) → (a : Axis)
      → StandsAt (along a d) (get_or (written c s).cells (3 * v + axis_place a) 0) (get_or (written c s).positions (3 * v + axis_place a) nan)
  unfolding written
  written_stands v k st a =
      let vs = vertices c.grid c.box in
      let x = get_or vs v zero-point in
      let n : get_or (over (flat_points vs) s.cells) (3 * v + axis_place a) 0 ≡ along a x =
      three-axis (λ (q : GridPoint). q.x) (λ (q : GridPoint). q.y) (λ (q : GridPoint). q.z) (over (flat_points vs) s.cells) v 0 x (points-at vs s.cells v k) a ∙ cell-pick a x in
      let p : get_or (over (flat_vectors (map (vertex_position c.grid) vs)) s.positions) (3 * v + axis_place a) nan ≡ component a (vertex_position c.grid x) =
      three-axis (λ (w : Vector). w.x) (λ (w : Vector). w.y) (λ (w : Vector). w.z) (over (flat_vectors (map (vertex_position c.grid) vs)) s.positions) v nan
      (vertex_position c.grid x) (vectors-at (vertex_position c.grid) vs s.positions v k) a
      ∙ vector-pick a (vertex_position c.grid x) in
      record { low = λ e. p ∙ st.low a (sym n ∙ e); high = λ e. p ∙ st.high a (sym n ∙ e) }

-- ---- a call that closed a grid, and a mesh call on it

module _ {dims : Extent} {wall : Float} {sdf old exit : List Float} {r : ℕ} (c : Closes (point dims) wall sdf old r exit) (far : FarWall wall sdf)
    {plane : EachAxis} {said : Answer} {entry left : Buffers} (m : Meshed (closed_input dims exit) plane said entry left)
    (numbers : Binary32 (take (point_count (closed_dims (point dims))) exit)) where
  pub mesh-stands : (v : ℕ) → v < said.vertices → (a : Axis)
      → StandsAt (along a (point dims)) (get_or left.cells (3 * v + axis_place a) 0) (get_or left.positions (3 * v + axis_place a) nan)
  mesh-stands v k a =
      let d = point dims in
      let call = call_made (take (point_count (closed_dims d)) exit) (closed_extent dims) origin (far_corner dims) plane in
      let done : (answer call (room entry)).number ≡ 0 = sym (ap (λ (x : Answer). x.number) m.said) ∙ m.done in
      let k' : v < vertex_count call = subst (λ (n : ℕ). v < n) (ap (λ (x : Answer). x.vertices) m.said ∙ (done-counted call (room entry) done).0) k in
      let g = open_field (closed_dims d) (closed_list (open_field d sdf) wall) in
      let same : take (point_count (closed_dims d)) exit ≡ closed_list (open_field d sdf) wall = call-closed c in
      let fine = subst (λ (l : List Float). T (not (bad_distance (open_field (closed_dims d) l) (whole_box (closed_dims d))))) same (done-accepted call (room entry) done).distance in
      let all = all-stand d sdf wall (length old) (call-accepted c) far fine (subst Binary32 same numbers) in
      let st : Stands d call.grid (get_or (vertices call.grid call.box) v zero-point) =
      subst (λ (l : List Float). (v < length (vertices (open_field (closed_dims d) l) (whole_box (closed_dims d))))
      → Stands d (open_field (closed_dims d) l) (get_or (vertices (open_field (closed_dims d) l) (whole_box (closed_dims d))) v zero-point)) (sym same)
      (λ h. all-at all v h zero-point) k' in
      subst (λ (b : Buffers). StandsAt (along a d) (get_or b.cells (3 * v + axis_place a) 0) (get_or b.positions (3 * v + axis_place a) nan))
      (sym (m.left ∙ when-done call entry done)) (written_stands call entry d v k' st a)

-- ---- close, then surface_nets, for any type of numbers and for each width

-- a mesh call on the closed grid, by what it was given
meshed : (m : Mesh) (dims : Extent) (exit : List Float) → mesh_input m ≡ closed_input dims exit → (mesh_answer m).number ≡ 0
    → Meshed (closed_input dims exit) (mesh_plane m) (mesh_answer m) (mesh_entry m) (mesh_exit m) × Binary32 (take (point_count (closed_dims (point dims))) exit)
meshed m dims exit same made = (
  subst (λ (i : Input). Meshed i (mesh_plane m) (mesh_answer m) (mesh_entry m) (mesh_exit m)) same (mesh-is m made),
  subst (λ (i : Input). Binary32 i.sdf) same m.learnt.1.1,
)

pub far-wall-stands-at : (D : DistanceType) → FloatsAre D → (o : CloseAt D) → answer_of o.result ≡ 0 → (let (sdf, (dims, (wall, _))) = o.args in FarWall wall (D.distance.floats sdf.now)
    → (m : Mesh) → mesh_input m ≡ closed_input (close_dims_at D o) (close_exit_at D o) → (mesh_answer m).number ≡ 0 → (v : ℕ) → v < (mesh_answer m).vertices → (a : Axis)
    → StandsAt (along a (point dims)) (get_or (mesh_exit m).cells (3 * v + axis_place a) 0) (get_or (mesh_exit m).positions (3 * v + axis_place a) nan))
far-wall-stands-at D are o done far m same made = let u = meshed m (close_dims_at D o) (close_exit_at D o) same made in mesh-stands (close-is-at D o are done) far u.0 u.1

pub far-wall-stands : (o : Close) → answer_of o.result ≡ 0 → (let (sdf, (dims, (wall, _))) = o.args in FarWall wall sdf.now
    → (m : Mesh) → mesh_input m ≡ closed_input (close_dims o) (close_exit o) → (mesh_answer m).number ≡ 0 → (v : ℕ) → v < (mesh_answer m).vertices → (a : Axis)
    → StandsAt (along a (point dims)) (get_or (mesh_exit m).cells (3 * v + axis_place a) 0) (get_or (mesh_exit m).positions (3 * v + axis_place a) nan))
far-wall-stands = far-wall-stands-at float-type floats-themselves

pub far-wall-stands-16 : (o : Close16) → answer_of o.result ≡ 0 → (let (sdf, (dims, (wall, _))) = o.args in FarWall wall (as_floats sdf.now)
    → (m : Mesh) → mesh_input m ≡ closed_input (close_dims16 o) (close_exit16 o) → (mesh_answer m).number ≡ 0 → (v : ℕ) → v < (mesh_answer m).vertices → (a : Axis)
    → StandsAt (along a (point dims)) (get_or (mesh_exit m).cells (3 * v + axis_place a) 0) (get_or (mesh_exit m).positions (3 * v + axis_place a) nan))
far-wall-stands-16 = far-wall-stands-at sixteen-type (λ l. refl)

pub far-wall-stands-8 : (o : Close8) → answer_of o.result ≡ 0 → (let (sdf, (dims, (wall, _))) = o.args in FarWall wall (as_floats sdf.now)
    → (m : Mesh) → mesh_input m ≡ closed_input (close_dims8 o) (close_exit8 o) → (mesh_answer m).number ≡ 0 → (v : ℕ) → v < (mesh_answer m).vertices → (a : Axis)
    → StandsAt (along a (point dims)) (get_or (mesh_exit m).cells (3 * v + axis_place a) 0) (get_or (mesh_exit m).positions (3 * v + axis_place a) nan))
far-wall-stands-8 = far-wall-stands-at eight-type (λ l. refl)

-- ---- bed_close, then bed_surface_nets

pub bed-far-wall-stands : (o : BedClose) → o.result ≡ 0 → (let (sdf, (_, (wall, _))) = o.args in FarWall wall sdf.now
    → (m : BedMesh) → bed_mesh_input m ≡ closed_input (bed_close_dims o) (bed_close_exit o) → m.result ≡ 0 → (v : ℕ) → v < (bed_mesh_answer m).vertices → (a : Axis)
    → StandsAt (along a (point (bed_close_dims o))) (get_or (bed_mesh_exit m).cells (3 * v + axis_place a) 0) (get_or (bed_mesh_exit m).positions (3 * v + axis_place a) nan))
bed-far-wall-stands o done far m same made =
    mesh-stands (bed-close-is o done) far
    (subst (λ (i : Input). Meshed i (bed_mesh_plane m) (bed_mesh_answer m) (bed_mesh_entry m) (bed_mesh_exit m)) same (bed-mesh-is m made))
    (subst (λ (i : Input). Binary32 i.sdf) same m.learnt.1.1)
