-- The theorems over the contracts themselves: after an answer 0 of a call that closes a full tank with a far wall, a mesh call answered 0 on the whole closed grid,
-- with any flags, leaves a mesh that weighs exactly the cells between the open grid's outermost points; the weighing never refuses it and says so, and the volume's
-- call says the same where it is answered 0.
-- Assumes nothing.
use Prim.Native.Nat.{ℕ, ◌<◌}
use mathlib.Core.Bool.{not}
use mathlib.Core.List.{List}
use mathlib.Core.Path.{◌≡◌, refl, sym, ap, subst, ◌∙◌}
use lib.Dec.{T}
use lib.IntN.{pos}
use lib.Ieee.{Float, binary32, fits}
use lib.ListN.{length, take}
use Rattle.lists.specs.Floats.{Binary32}
use Rattle.rules.specs.Faces.{edges}
use Rattle.rules.specs.Call.{Call, bad_distance}
use Rattle.grid.specs.declared.Extent.{Extent}
use Rattle.grid.specs.declared.EachAxis.{EachAxis}
use Rattle.grid.specs.Block.{point}
use Rattle.grid.specs.Values.{as_floats, floats-themselves}
use Rattle.grid.proofs.Instances.{DistanceType, float-type, sixteen-type, eight-type}
use Rattle.surface_nets.specs.AsRules.{call_made}
use Rattle.skin.specs.Links.{links}
use Rattle.skin.specs.Enclosed.{Enclosed}
use Rattle.skin.proofs.Skin.{skin-law}
use Rattle.closing.specs.Refused.{answer_of}
use Rattle.closing.specs.Closed.{closed_dims, point_count, open_field, closed_list}
use Rattle.weigh.specs.Answers.{weight as answered, sum_in}
use Rattle.promises.specs.Served.{Served, Done}
use Rattle.promises.proofs.Done.{done-accepts}
use Rattle.promises.proofs.ReadBack.{indices-back}
use Rattle.promises.proofs.Runs.{Run, grid_of, dims_of, low_of, high_of, plane_of, served, BedRun, bed_grid, bed_dims, bed_low, bed_high, bed_plane, bed_served}
use Rattle.closed_mesh.proofs.Outcome.{Input, input}
use Rattle.weighed_mesh.specs.Told.{Told as Volumed, positions_of, indices_of, weight_of}
use Rattle.weighed_mesh.proofs.Sides.{Even}
use Rattle.weighed_mesh.proofs.Faces.{sum_z, face_sum}
use Rattle.weighed_mesh.proofs.Cut.{weight_is}
use Rattle.weighed_mesh.proofs.Mesh.{OwnMesh as OwnVolume}
use Rattle.closed_bed.specs.Standing.{FarWall}
use Rattle.closed_bed.proofs.Values.{Closes, call-accepted, call-closed}
use Rattle.closed_bed.proofs.Enclosing.{closed-enclosed}
use Rattle.closed_bed.proofs.Outcome.{closed_extent, origin, far_corner, closed_input, FloatsAre, CloseAt, close_dims_at, close_exit_at, close-is-at, Close, close_dims, close_exit, Close16, close_dims16, close_exit16, Close8, close_dims8, close_exit8, BedClose, bed_close_dims, bed_close_exit, bed-close-is, BedClose16, bed_close_dims16, bed_close_exit16, bed-close-is-16, BedClose8, bed_close_dims8, bed_close_exit8, bed-close-is-8}
use Rattle.weighed_bed.specs.Told.{Told}
use Rattle.weighed_bed.proofs.Agree.{pillars-sixfold, own-mesh-agree}
use Rattle.weighed_bed.proofs.Fits.{OwnMesh, own-mesh-done, own-mesh-sum}
use Rattle.full_tank.specs.Tank.{Full, full_weight}
use Rattle.full_tank.proofs.Filled.{faces-weigh}

-- what is said of a mesh of the closed grid, whose open dimensions are these
pub record WeighsFull (u : Served) (dims : Extent) : Type 0 where
  -- document 02, request 14: the sum over the triangles that the call left
  pub weight : weight_of u ≡ pos (full_weight (point dims))
  -- a call of the weighing on them is answered 0, and has that sum
  pub weighed : (t : Told) → OwnMesh u t → (t.says.answer ≡ 0) × (sum_in t.says ≡ pos (full_weight (point dims)))
  -- and a call of the volume on them, where it is answered 0
  pub volume : (t : Volumed) → OwnVolume u t → t.says.volume ≡ pos (full_weight (point dims))

-- ---- a call that closed a grid, and a mesh call on what it left

module _ {dims : Extent} {wall : Float} {sdf old exit : List Float} {r : ℕ} (c : Closes (point dims) wall sdf old r exit) (far : FarWall wall sdf) (full : Full sdf)
    (u : Served) (done : Done u) (plane : EachAxis)
    (given : u.call ≡ call_made (take (point_count (closed_dims (point dims))) exit) (closed_extent dims) origin (far_corner dims) plane) where
  abbrev closed : List Float
  closed = closed_list (open_field (point dims) sdf) wall

  abbrev call : Call
  call = call_made closed (closed_extent dims) origin (far_corner dims) plane

  made : u.call ≡ call_made (closed_list (open_field (point dims) sdf) wall) (closed_extent dims) origin (far_corner dims) plane
  made = given ∙ ap (λ (l : List Float). call_made l (closed_extent dims) origin (far_corner dims) plane) (call-closed c)

  fine : T (not (bad_distance call.grid call.box))
  fine = subst (λ (k : Call). T (not (bad_distance k.grid k.box))) made (done-accepts u done).distance

  numbers : Binary32 (closed_list (open_field (point dims) sdf) wall)
  numbers = subst (λ (k : Call). (i : ℕ) → i < k.size → T (fits binary32 (k.grid.dist i))) made u.numbers

  weight : weight_of u ≡ pos (full_weight (point dims))
  weight =
      weight_is u done
      ∙ ap (λ (k : Call). sum_z (face_sum k.grid) (edges k.grid k.box k.flags)) made
      ∙ faces-weigh (point dims) sdf wall (length old) (call-accepted c) far fine numbers full call.flags

  enclosed : Enclosed u.call.grid u.call.box
  enclosed = subst (λ (k : Call). Enclosed k.grid k.box) (sym made) (closed-enclosed (point dims) sdf wall (call-accepted c).far)

  even : Even (links (indices_of u))
  even = subst (λ (l : List ℕ). Even (links l)) (sym (indices-back u done)) (skin-law u.call.grid u.call.box u.call.flags enclosed)

  weighed : (t : Told) → OwnMesh u t → (t.says.answer ≡ 0) × (sum_in t.says ≡ pos (full_weight (point dims)))
  weighed t o = (own-mesh-done u t done o, own-mesh-sum u t done o ∙ pillars-sixfold (positions_of u) (indices_of u) even ∙ weight)

  -- the volume's call agrees with the weighing of the same lists
  volume : (t : Volumed) → OwnVolume u t → t.says.volume ≡ pos (full_weight (point dims))
  volume t o =
      let s : Told = record { positions = t.positions; first = 0; indices = t.indices; says = answered t.positions 0 t.indices; told = refl } in
      let own : OwnMesh u s = record { positions = o.positions; first = refl; indices = o.indices } in
      sym (own-mesh-agree u s t done enclosed o.positions o.indices (record { first = refl; positions = refl; indices = refl; weighed = (weighed s own).0; volumed = o.weighed }))
      ∙ (weighed s own).1

  pub weighs-full : WeighsFull u dims
  weighs-full = record { weight = weight; weighed = weighed; volume = volume }

-- ---- close, then surface_nets, for any type of numbers and for each width

-- what a call was given
abbrev pub run_input : Run → Input
run_input u = input (grid_of u) (dims_of u) (low_of u) (high_of u)

abbrev pub bed_run_input : BedRun → Input
bed_run_input u = input (bed_grid u) (bed_dims u) (bed_low u) (bed_high u)

-- as a call of document 01
called : {i k : Input} (plane : EachAxis) → i ≡ k → call_made i.sdf i.dims i.low i.high plane ≡ call_made k.sdf k.dims k.low k.high plane
called plane = ap (λ (i : Input). call_made i.sdf i.dims i.low i.high plane)

pub full-tank-weighs-at : (D : DistanceType) → FloatsAre D → (o : CloseAt D) → answer_of o.result ≡ 0
    → (let (sdf, (dims, (wall, _))) = o.args in FarWall wall (D.distance.floats sdf.now) → Full (D.distance.floats sdf.now)
    → (u : Run) → run_input u ≡ closed_input (close_dims_at D o) (close_exit_at D o) → Done (served u) → WeighsFull (served u) dims)
full-tank-weighs-at D are o done far full u same made = weighs-full (close-is-at D o are done) far full (served u) made (plane_of u) (called (plane_of u) same)

pub full-tank-weighs : (o : Close) → answer_of o.result ≡ 0 → (let (sdf, (dims, (wall, _))) = o.args in FarWall wall sdf.now → Full sdf.now
    → (u : Run) → run_input u ≡ closed_input (close_dims o) (close_exit o) → Done (served u) → WeighsFull (served u) dims)
full-tank-weighs = full-tank-weighs-at float-type floats-themselves

pub full-tank-weighs-16 : (o : Close16) → answer_of o.result ≡ 0 → (let (sdf, (dims, (wall, _))) = o.args in FarWall wall (as_floats sdf.now) → Full (as_floats sdf.now)
    → (u : Run) → run_input u ≡ closed_input (close_dims16 o) (close_exit16 o) → Done (served u) → WeighsFull (served u) dims)
full-tank-weighs-16 = full-tank-weighs-at sixteen-type (λ l. refl)

pub full-tank-weighs-8 : (o : Close8) → answer_of o.result ≡ 0 → (let (sdf, (dims, (wall, _))) = o.args in FarWall wall (as_floats sdf.now) → Full (as_floats sdf.now)
    → (u : Run) → run_input u ≡ closed_input (close_dims8 o) (close_exit8 o) → Done (served u) → WeighsFull (served u) dims)
full-tank-weighs-8 = full-tank-weighs-at eight-type (λ l. refl)

-- ---- bed_close, then bed_surface_nets

pub bed-full-tank-weighs : (o : BedClose) → o.result ≡ 0 → (let (sdf, (_, (wall, _))) = o.args in FarWall wall sdf.now → Full sdf.now
    → (u : BedRun) → bed_run_input u ≡ closed_input (bed_close_dims o) (bed_close_exit o) → Done (bed_served u) → WeighsFull (bed_served u) (bed_close_dims o))
bed-full-tank-weighs o done far full u same made = weighs-full (bed-close-is o done) far full (bed_served u) made (bed_plane u) (called (bed_plane u) same)

pub bed-full-tank-weighs-16 : (o : BedClose16) → o.result ≡ 0 → (let (sdf, (_, (wall, _))) = o.args in FarWall wall (as_floats sdf.now) → Full (as_floats sdf.now)
    → (u : BedRun) → bed_run_input u ≡ closed_input (bed_close_dims16 o) (bed_close_exit16 o) → Done (bed_served u) → WeighsFull (bed_served u) (bed_close_dims16 o))
bed-full-tank-weighs-16 o done far full u same made = weighs-full (bed-close-is-16 o done) far full (bed_served u) made (bed_plane u) (called (bed_plane u) same)

pub bed-full-tank-weighs-8 : (o : BedClose8) → o.result ≡ 0 → (let (sdf, (_, (wall, _))) = o.args in FarWall wall (as_floats sdf.now) → Full (as_floats sdf.now)
    → (u : BedRun) → bed_run_input u ≡ closed_input (bed_close_dims8 o) (bed_close_exit8 o) → Done (bed_served u) → WeighsFull (bed_served u) (bed_close_dims8 o))
bed-full-tank-weighs-8 o done far full u same made = weighs-full (bed-close-is-8 o done) far full (bed_served u) made (bed_plane u) (called (bed_plane u) same)
