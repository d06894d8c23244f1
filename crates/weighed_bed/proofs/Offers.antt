-- Document 02, request 1's bed taken layer by layer, weighed on the way: every call of the weighing is answered 0, and the sums and shadows of all of them add up to
-- those of the whole mesh, whatever offers were refused between. Over the offers' contracts, through the mesh that came out. Assumes nothing.
use Prim.Native.Nat.{ℕ, zero, suc, ◌+◌, ◌-◌, ◌*◌, ◌/◌, ◌^◌, ◌≤◌, ◌<◌}
use native.Mathlib.Omega.{arith}
use mathlib.Core.Bool.{not}
use mathlib.Core.List.{List, [], ◌∷◌, ◌++◌, map, map-append}
use mathlib.Core.Path.{◌≡◌, refl, sym, ap, ap₂, subst, ◌∙◌}
use lib.Dec.{T}
use lib.IntN.{ℤ, pos, ◌+ℤ◌, +ℤ_idl}
use lib.Ieee.{Float, binary32, fits}
use lib.ListN.{length, drop}
use lib.Seq.{drop_at}
use Rattle.lists.specs.Lists.{some, joined, up_to, below}
use Rattle.lists.specs.Floats.{Binary32}
use Rattle.lists.proofs.Lists.{All, none, more, all_then, all_map}
use Rattle.lists.proofs.Tests.{below-low, below-high}
use Rattle.lists.proofs.Runs.{up_to-none, up_to-last, up_to-all}
use Rattle.rules.specs.Grid.{GridPoint, Box, Field, in_box, index, value}
use Rattle.rules.specs.Vertices.{vertices, layers, layer_vertices, first_vertex, vertex_position}
use Rattle.rules.specs.Faces.{Flags, indices, layer_indices}
use Rattle.rules.specs.Call.{bad_distance, flat_vectors}
use Rattle.rules.proofs.Indexes.{index_below}
use Rattle.rules.proofs.Seen.{length-vectors}
use Rattle.grid.specs.declared.Block.{Block}
use Rattle.grid.specs.Block.{point, box_of, flags_of, field_of}
use Rattle.grid.specs.Inside.{Inside}
use Rattle.grid.proofs.Bounds.{fits as box-within}
use Rattle.layer_vertices.proofs.Passing.{vectors-append}
use Rattle.whole_box.specs.Layers.{vertices_to, indices_to}
use Rattle.whole_box.proofs.Lent.{vertices-few}
use Rattle.whole_box.proofs.Steps.{vertices-more, indices-more}
use Rattle.layers.specs.declared.State.{State}
use Rattle.layers.specs.Memory.{Memory}
use Rattle.layers.specs.Offer.{Output}
use Rattle.layered_mesh.specs.Fed.{wrote, joined_with, nothing, Fed, started, taken, refused, points_in_z}
use Rattle.layered_mesh.proofs.Layered.{mesh-so-far, all-distances, layered-mesh}
use Rattle.layered_mesh.proofs.Step.{mesh_to}
use Rattle.volume.specs.declared.Corner.{Corner}
use Rattle.volume.specs.Volume.{corner_at}
use Rattle.weigh.specs.Sums.{shadow_of, pillar_of, sum_of}
use Rattle.weigh.specs.Answers.{Answer, some_wide, says, weight, sum_in}
use Rattle.weigh.proofs.Words.{words-make}
use Rattle.weigh.proofs.Weighing.{Accepted, weighs}
use Rattle.weighed_mesh.proofs.Faces.{sum_z}
use Rattle.weighed_bed.specs.Layered.{vertices_below, layer_positions, layer_first, layer_triangles}
use Rattle.weighed_bed.specs.Offers.{Asked, asked, answered, last_positions, all_asked}
use Rattle.weighed_bed.proofs.Whole.{from_zero}
use Rattle.weighed_bed.proofs.Fits.{rules-weighed}
use Rattle.weighed_bed.proofs.Layered.{below-when, below_none, layers-sum}
use Rattle.weighed_bed.proofs.LayerFits.{layer-accepted, layer-told, layer-shadow}

-- the same list before two others
cancel : {A : Type 0} (a a' x y : List A) → a ≡ a' → a ++ x ≡ a' ++ y → x ≡ y
cancel a a' x y e f = sym (drop_at a x (length a) refl) ∙ ap (drop (length a)) f ∙ drop_at a' y (length a) (ap length (sym e))

module _ (sdf : List Float) (k : Block) (i : Inside sdf k) where
  abbrev g : Field
  g = field_of sdf k

  abbrev b : Box
  b = box_of k

  abbrev m : Flags
  m = flags_of k

  abbrev low : ℕ
  low = k.low.z

  abbrev places_of : List GridPoint → List Float
  places_of vs = flat_vectors (map (vertex_position (field_of sdf k)) vs)

  -- the call for a layer of cells
  abbrev pub layer_asked : ℕ → Asked
  layer_asked z = asked (layer_positions (field_of sdf k) (box_of k) z) (layer_first (field_of sdf k) (box_of k) z) (layer_triangles (field_of sdf k) (box_of k) (flags_of k) z)

  -- ---- before the first layer

  before-any : {s : State} {mm : Memory} {out : Output} (f : Fed sdf k zero s mm out) → (last_positions f ≡ []) × (all_asked f ≡ []) × (out ≡ nothing)
  unfolding last_positions all_asked
  before-any (started mm e) = (refl, refl, refl)
  before-any (refused f u a c d) = before-any f

  nothing_yet : vertices_to g b (low + 0) ≡ []
  unfolding joined
  nothing_yet = ap (joined (layer_vertices g b)) (up_to-none low (low + 0) (omega arith))

  no-triangles : indices_to g b m (low + 0) ≡ []
  unfolding joined
  no-triangles = ap (joined (λ (y : ℕ). layer_indices g b m (first_vertex g b y) y)) (up_to-none low (low + 0) (omega arith))

  no-places : places_of [] ≡ []
  unfolding joined
  no-places = refl

  -- ---- after some

  record After (n : ℕ) (positions : List Float) (made : List Asked) : Type 0 where
    last : positions ≡ places_of (vertices_below g b (low + n))
    calls : made ≡ asked [] 0 [] ∷ map layer_asked (up_to low (low + n))

  -- the first layer of points brings nothing out
  first-layer : (out o : Output) → out ≡ nothing → joined_with out o ≡ mesh_to sdf k (low + 0) → (o.positions ≡ []) × (o.indices ≡ [])
  first-layer out o e h =
      let w : joined_with nothing o ≡ mesh_to sdf k (low + 0) = ap (λ (a : Output). joined_with a o) (sym e) ∙ h in
      (ap (λ (a : Output). a.positions) w ∙ ap places_of nothing_yet ∙ no-places, ap (λ (a : Output). a.indices) w ∙ no-triangles)

  -- a later one, the vertices and triangles of the cells below it
  later-layer : (n : ℕ) (out o : Output) → out ≡ mesh_to sdf k (low + n) → joined_with out o ≡ mesh_to sdf k (low + suc n)
      → (o.positions ≡ places_of (layer_vertices g b (low + n))) × (o.indices ≡ layer_triangles g b m (low + n))
  later-layer n out o e h =
      let z : ℕ = low + n in
      let next : low + suc n ≡ z + 1 = omega arith in
      let w : joined_with out o ≡ mesh_to sdf k (z + 1) = h ∙ ap (mesh_to sdf k) next in
      let ps : out.positions ++ o.positions ≡ places_of (vertices_to g b z) ++ places_of (layer_vertices g b z) =
      ap (λ (a : Output). a.positions) w ∙ ap places_of (vertices-more g b m z (omega arith)) ∙ sym (vectors-append (vertex_position g) (vertices_to g b z) (layer_vertices g b z)) in
      let is : out.indices ++ o.indices ≡ indices_to g b m z ++ layer_triangles g b m z = ap (λ (a : Output). a.indices) w ∙ indices-more g b m z (omega arith) in (
        cancel out.positions (places_of (vertices_to g b z)) o.positions (places_of (layer_vertices g b z)) (ap (λ (a : Output). a.positions) e) ps,
        cancel out.indices (indices_to g b m z) o.indices (layer_triangles g b m z) (ap (λ (a : Output). a.indices) e) is,
      )

  first-is : (n : ℕ) (out : Output) (last : List Float) → out ≡ mesh_to sdf k (low + n) → last ≡ places_of (vertices_below g b (low + n))
      → length out.positions / 3 - length last / 3 ≡ layer_first g b (low + n)
  unfolding first_vertex
  first-is n out last e l =
      let p : length out.positions ≡ 3 * length (vertices_to g b (low + n)) =
      ap (λ (a : Output). length a.positions) e ∙ length-vectors (vertex_position g) (vertices_to g b (low + n)) in
      let q : length last ≡ 3 * length (vertices_below g b (low + n)) = ap length l ∙ length-vectors (vertex_position g) (vertices_below g b (low + n)) in
      omega arith

  after : {n : ℕ} {s : State} {mm : Memory} {out : Output} (f : Fed sdf k (suc n) s mm out) → After n (last_positions f) (all_asked f)
  unfolding last_positions all_asked
  after (refused f u a c d) = after f
  after (taken {n = zero} {out = out} f u a c d e) =
      let r = before-any f in
      let w = first-layer out (wrote u) r.2 (mesh-so-far sdf k i (taken f u a c d e)) in
      let n : length out.positions / 3 - length (last_positions f) / 3 ≡ 0 = ap₂ (λ (o : Output) (l : List Float). length o.positions / 3 - length l / 3) r.2 r.0 in
      record {
        last = w.0 ∙ sym no-places ∙ ap places_of (sym (below_none g b (low + 0) (omega arith) (omega arith)));
        calls = (λ j. r.1 j ++ (asked (r.0 j ++ w.0 j) (n j) (w.1 j) ∷ []))
            ∙ ap (λ (l : List ℕ). asked [] 0 [] ∷ map layer_asked l) (sym (up_to-none low (low + 0) (omega arith)));
      }
  after (taken {n = suc n} {out = out} f u a c d e) =
      let h = after f in
      let o = mesh-so-far sdf k i f in
      let w = later-layer n out (wrote u) o (mesh-so-far sdf k i (taken f u a c d e)) in
      let z : ℕ = low + n in
      let back : low + suc n - 1 ≡ z = omega arith in
      let on : low + suc n ≡ suc z = omega arith in
      record {
        last = w.0 ∙ ap (λ (y : ℕ). places_of (layer_vertices g b y)) (sym back) ∙ ap places_of (sym (below-when g b (low + suc n) (omega arith) (omega arith)));
        calls = (λ j. h.calls j ++ (asked (h.last j ++ w.0 j) (first-is n out (last_positions f) o h.last j) (w.1 j) ∷ []))
            ∙ ap (λ (p : List Float). (asked [] 0 [] ∷ map layer_asked (up_to low z)) ++ (asked p (layer_first g b z) (layer_triangles g b m z) ∷ []))
            (vectors-append (vertex_position g) (vertices_below g b z) (layer_vertices g b z))
            ∙ ap (λ (l : List Asked). asked [] 0 [] ∷ l) (sym (map-append layer_asked (up_to low z) (z ∷ [])))
            ∙ ap (λ (l : List ℕ). asked [] 0 [] ∷ map layer_asked l) (sym (up_to-last low z (omega arith)) ∙ ap (up_to low) (sym on));
      }

  -- all layers taken: a call for each layer of cells, and one before them on nothing
  pub layers-asked : {n : ℕ} {s : State} {mm : Memory} {out : Output} (f : Fed sdf k n s mm out) → n ≡ points_in_z k
      → all_asked f ≡ asked [] 0 [] ∷ map layer_asked (layers (box_of k))
  layers-asked {n = zero} f e = absurd (omega arith)
  layers-asked {n = suc n} f e =
      let w = box-within sdf k i in
      let h : low + n ≡ k.high.z = omega arith in
      (after f).calls ∙ ap (λ (y : ℕ). asked [] 0 [] ∷ map layer_asked (up_to low y)) h

-- ---- what they tell

sum_z-map : {A B : Type 0} (f : B → ℤ) (h : A → B) (l : List A) → sum_z f (map h l) ≡ sum_z (λ (x : A). f (h x)) l
unfolding sum_z
sum_z-map f h [] = refl
sum_z-map f h (x ∷ l) = ap (λ (z : ℤ). f (h x) +ℤ z) (sum_z-map f h l)

sum_z-same : {A : Type 0} {f h : A → ℤ} {l : List A} → All (λ (x : A). f x ≡ h x) l → sum_z f l ≡ sum_z h l
unfolding sum_z
sum_z-same none = refl
sum_z-same (more p ps) = ap₂ ◌+ℤ◌ p (sum_z-same ps)

-- a mesh of nothing
nothing-weighs : answered (asked [] 0 []) ≡ says 0 (pos 0) (pos 0)
unfolding weight some some_wide sum_of
nothing-weighs = refl

module _ (sdf : List Float) (k : Block) (i : Inside sdf k) (floats : Binary32 sdf) {n : ℕ} {s : State} {mm : Memory} {out : Output} (f : Fed sdf k n s mm out) (all : n ≡ points_in_z k) where
  abbrev field : Field
  field = field_of sdf k

  distances : T (not (bad_distance (field_of sdf k) (box_of k)))
  distances = all-distances sdf k i f all

  values32 : (p : GridPoint) → T (in_box (box_of k) p) → T (fits binary32 (value (field_of sdf k) p))
  values32 p t = floats (index (point k.dims) p) (index_below (point k.dims) (box_of k) (length sdf) p i.box i.size t)

  few : length (vertices (field_of sdf k) (box_of k)) ≤ 2 ^ 30
  few = vertices-few sdf k i

  abbrev InLayers : ℕ → Type 0
  InLayers z = T (below k.low.z k.high.z z)

  each : {P : ℕ → Type 0} → ((z : ℕ) → k.low.z ≤ z → z < k.high.z → P z) → All P (layers (box_of k))
  each h = all_then (λ (z : ℕ) (t : InLayers z). h z (below-low k.low.z k.high.z z t) (below-high k.low.z k.high.z z t)) (up_to-all k.low.z k.high.z)

  accepts : (z : ℕ) → k.low.z ≤ z → z < k.high.z
      → Accepted (layer_positions (field_of sdf k) (box_of k) z) (layer_first (field_of sdf k) (box_of k) z) (layer_triangles (field_of sdf k) (box_of k) (flags_of k) z)
  accepts z l h = layer-accepted (field_of sdf k) (box_of k) (flags_of k) values32 i.dims i.box distances few z l h

  -- no call is refused
  pub layers-done : All (λ (a : Asked). (answered a).answer ≡ 0) (all_asked f)
  layers-done =
      subst (All (λ (a : Asked). (answered a).answer ≡ 0)) (sym (layers-asked sdf k i f all))
      (more (ap (λ (w : Answer). w.answer) nothing-weighs)
      (all_map (layer_asked sdf k i) (each (λ z l h. ap (λ (w : Answer). w.answer) (weighs _ _ _ (accepts z l h))))))

  -- what came out is weighed as a whole
  whole-weighs : weight out.positions 0 out.indices
      ≡ says 0 (sum_of pillar_of (corner_at (flat_vectors (map (vertex_position (field_of sdf k)) (vertices (field_of sdf k) (box_of k))))) (indices (field_of sdf k) (box_of k) (flags_of k)))
      (sum_of shadow_of (corner_at (flat_vectors (map (vertex_position (field_of sdf k)) (vertices (field_of sdf k) (box_of k))))) (indices (field_of sdf k) (box_of k) (flags_of k)))
  whole-weighs =
      let xs : List Float = flat_vectors (map (vertex_position (field_of sdf k)) (vertices (field_of sdf k) (box_of k))) in
      let is : List ℕ = indices (field_of sdf k) (box_of k) (flags_of k) in
      ap (λ (o : Output). weight o.positions 0 o.indices) (layered-mesh sdf k i f all)
      ∙ weighs xs 0 is (rules-weighed (field_of sdf k) (box_of k) (flags_of k) values32 i.dims i.box distances few)
      ∙ ap (λ (at : ℕ → Corner). says 0 (sum_of pillar_of at is) (sum_of shadow_of at is)) (from_zero xs)

  -- the sums add up to that of the whole, and so do the shadows
  pub layers-add-up : sum_z (λ (a : Asked). sum_in (answered a)) (all_asked f) ≡ sum_in (weight out.positions 0 out.indices)
  unfolding sum_z
  layers-add-up =
      ap (sum_z (λ (a : Asked). sum_in (answered a))) (layers-asked sdf k i f all)
      ∙ ap₂ ◌+ℤ◌ (ap sum_in nothing-weighs ∙ words-make (pos 0)) (sum_z-map (λ (a : Asked). sum_in (answered a)) (layer_asked sdf k i) (layers (box_of k)))
      ∙ +ℤ_idl (sum_z (λ (z : ℕ). sum_in (answered (layer_asked sdf k i z))) (layers (box_of k)))
      ∙ sum_z-same (each (λ z l h. layer-told (field_of sdf k) (box_of k) (flags_of k) values32 i.dims i.box distances few z l h))
      ∙ layers-sum pillar_of (field_of sdf k) (box_of k) (flags_of k)
      ∙ sym (ap sum_in whole-weighs ∙ words-make _)

  pub layers-shadow : sum_z (λ (a : Asked). (answered a).shadow) (all_asked f) ≡ (weight out.positions 0 out.indices).shadow
  unfolding sum_z
  layers-shadow =
      ap (sum_z (λ (a : Asked). (answered a).shadow)) (layers-asked sdf k i f all)
      ∙ ap₂ ◌+ℤ◌ (ap (λ (w : Answer). w.shadow) nothing-weighs) (sum_z-map (λ (a : Asked). (answered a).shadow) (layer_asked sdf k i) (layers (box_of k)))
      ∙ +ℤ_idl (sum_z (λ (z : ℕ). (answered (layer_asked sdf k i z)).shadow) (layers (box_of k)))
      ∙ sum_z-same (each (λ z l h. layer-shadow (field_of sdf k) (box_of k) (flags_of k) values32 i.dims i.box distances few z l h))
      ∙ layers-sum shadow_of (field_of sdf k) (box_of k) (flags_of k)
      ∙ sym (ap (λ (w : Answer). w.shadow) whole-weighs)
