-- Every mesh that a call answered 0 leaves can be weighed: the lists are in threes, each coordinate lies in its closed cell and so from 0 to 16,777,216, every
-- index has its vertex, there are at most 6·2^30 triangles, and none is wide. No premise beside the answer 0. Assumes nothing.
use Prim.Native.Nat.{ℕ, ◌+◌, ◌*◌, ◌/◌, ◌^◌, ◌≤◌, ◌<◌}
use native.Mathlib.Nat.{le_trans, mul-le-mul_right}
use native.Mathlib.Omega.{arith}
use mathlib.Core.Bool.{Bool, true, false, not}
use mathlib.Core.List.{List, [], ◌∷◌, map}
use mathlib.Core.Path.{◌≡◌, refl, sym, ap, subst, ◌∙◌}
use borrow.Author.Tests.{le-ltb, lt-leb}
use lib.Dec.{T, leb, ltb}
use lib.Ieee.{Float, nan, inf, fin, up, down, binary32, fits}
use lib.ListN.{length, length-append, length-map}
use Rattle.lists.specs.Lists.{some, joined, place}
use Rattle.lists.proofs.Either.{or-none}
use Rattle.lists.proofs.Lists.{All, none, more, all_then, all_map, all-joined, joined-joined, joined_length, length-keep, many-most}
use Rattle.rules.specs.Grid.{GridPoint, Box, Field, index, in_box, is_cell, value, same_point}
use Rattle.rules.specs.Vertices.{surface_cell, vertices, layers, layer_vertices, vertex_position}
use Rattle.rules.specs.Faces.{Edge, Flags, gives, edges_at, cell_edges, layer_edges, edges, indices, face_cells}
use Rattle.rules.specs.Call.{Call, room, bad_dimensions, bad_box, bad_distance, flat_vectors}
use Rattle.rules.proofs.Accepted.{Accepted as Passes}
use Rattle.rules.proofs.Indexes.{index_below}
use Rattle.rules.proofs.Inside.{vertices-all}
use Rattle.rules.proofs.Edges.{face_cells-length}
use Rattle.rules.proofs.Numbers.{face_numbers, indices-are, every-index-below}
use Rattle.rules.proofs.Seen.{length-vectors}
use Rattle.cube.proofs.ClosedCell.{InCell}
use Rattle.cube.proofs.UnderCaps.{cell-counted, under-caps}
use Rattle.volume.specs.declared.Corner.{Corner}
use Rattle.volume.specs.Steps.{past}
use Rattle.volume.specs.Answers.{not_threes}
use Rattle.volume.proofs.Weighing.{three-is}
use Rattle.weigh.specs.Answers.{Answer, beyond, no_vertex, some_wide, says, weight, sum_in}
use Rattle.weigh.proofs.Words.{words-make}
use Rattle.weigh.proofs.Weighing.{Accepted, weighs}
use Rattle.promises.specs.Served.{Served, Done}
use Rattle.promises.proofs.Done.{done-accepts, done-counts, done-few}
use Rattle.promises.proofs.ReadBack.{positions-back, indices-back}
use Rattle.weighed_mesh.specs.Told.{positions_of, indices_of}
use Rattle.weighed_bed.specs.Told.{Told, pillars_of, shadows_of}
use Rattle.weighed_bed.proofs.Whole.{from_zero}
use Rattle.weighed_bed.proofs.Narrow.{mesh-narrow}

pub none_passes : {A : Type 0} (f : A → Bool) {l : List A} → All (λ (x : A). f x ≡ false) l → some f l ≡ false
unfolding some
none_passes f none = refl
none_passes f (more {x = x} {xs = l} h hs) = or-none (f x) (some f l) h (none_passes f hs)

-- ---- 63: a coordinate in a cell below 2^24

pub in-cell-permitted : (n : ℕ) (x : Float) → n < 2 ^ 24 → InCell n x → beyond x ≡ false
unfolding past
in-cell-permitted n nan l h = absurd h.0
in-cell-permitted n (inf s) l h = absurd h.0
in-cell-permitted n (fin true m e) l h = absurd h.0
in-cell-permitted n (fin false m e) l h = le-ltb (16777216 * down e) (m * up e) (le_trans h.2 (mul-le-mul_right (down e) (omega arith)))

-- ---- 75: each vertex begins three edges at most

pub joined-most : {A B : Type 0} (h : A → List B) (k : ℕ) → ((x : A) → length (h x) ≤ k) → (l : List A) → length (joined h l) ≤ k * length l
unfolding joined
joined-most h k most [] = omega arith
joined-most h k most (x ∷ l) = omega (arith, length-append (h x) (joined h l), most x, joined-most h k most l)

pub cell-edges-most : (g : Field) (b : Box) (m : Flags) (c : GridPoint) → length (cell_edges g b m c) ≤ 3
unfolding cell_edges
cell-edges-most g b m c = omega (arith, length-keep (gives g b m) (edges_at c), many-most (gives g b m) (edges_at c))

edges_most : (g : Field) (b : Box) (m : Flags) → length (edges g b m) ≤ 3 * length (vertices g b)
unfolding edges vertices layer_edges
edges_most g b m =
    subst (λ (l : List Edge). length l ≤ 3 * length (joined (layer_vertices g b) (layers b))) (joined-joined (cell_edges g b m) (layer_vertices g b) (layers b))
    (joined-most (cell_edges g b m) 3 (cell-edges-most g b m) (joined (layer_vertices g b) (layers b)))

indices-length : (g : Field) (b : Box) (m : Flags) → length (indices g b m) ≡ 6 * length (edges g b m)
indices-length g b m =
    ap length (indices-are g b m)
    ∙ joined_length (face_numbers g b) 6 (λ e. length-map (face_cells g e) (λ (c : GridPoint). place (same_point c) (vertices g b)) ∙ face_cells-length g e) (edges g b m)

-- ---- all five

module _ (g : Field) (b : Box) (m : Flags) (values32 : (p : GridPoint) → T (in_box b p) → T (fits binary32 (value g p))) (dims : T (not (bad_dimensions g.dims)))
    (fit : T (not (bad_box g.dims b))) (distances : T (not (bad_distance g b))) (few : length (vertices g b) ≤ 2 ^ 30) where
  abbrev vs : List GridPoint
  vs = vertices g b

  abbrev xs : List Float
  xs = flat_vectors (map (vertex_position g) (vertices g b))

  abbrev is : List ℕ
  is = indices g b m

  all-permitted : All (λ (x : Float). beyond x ≡ false) xs
  all-permitted = all-joined (all_map (vertex_position g) (all_then three (vertices-all g b)))
    where
      three : (c : GridPoint) → T (is_cell b c) × T (surface_cell g c)
          → All (λ (x : Float). beyond x ≡ false) ((vertex_position g c).x ∷ (vertex_position g c).y ∷ (vertex_position g c).z ∷ [])
      three c t =
          let n = cell-counted g.dims b c dims fit t.0 in
          let u = (under-caps g b c values32 dims fit distances t.0 t.1).inside in
          more (in-cell-permitted c.x (vertex_position g c).x n.0 u.0)
          (more (in-cell-permitted c.y (vertex_position g c).y n.1 u.1) (more (in-cell-permitted c.z (vertex_position g c).z n.2 u.2) none))

  long : length xs / 3 ≡ length vs
  long = let e : length xs ≡ 3 * length vs = length-vectors (vertex_position g) vs in omega arith

  has-vertex : (v : ℕ) → v < length vs → no_vertex 0 (length vs) v ≡ false
  has-vertex v h = or-none (ltb v 0) (leb (0 + length vs) v) (le-ltb v 0 (omega arith)) (lt-leb (0 + length vs) v (omega arith))

  pub rules-weighed : Accepted xs 0 is
  rules-weighed =
      let e : length xs ≡ 3 * length vs = length-vectors (vertex_position g) vs in
      let n : length is ≡ 6 * length (edges g b m) = indices-length g b m in
      let k : length (edges g b m) ≤ 3 * length vs = edges_most g b m in
      record {
        threes = or-none (not_threes (length xs)) (not_threes (length is)) (three-is (length xs) (omega arith)) (three-is (length is) (omega arith));
        inside = none_passes beyond all-permitted;
        used = ap (λ (w : ℕ). some (no_vertex 0 w) is) long ∙ none_passes (no_vertex 0 (length vs)) (all_then has-vertex (every-index-below g b m));
        few = le-ltb (2 ^ 33) (length is / 3) (omega arith);
        narrow = ap (λ (at : ℕ → Corner). some_wide at is) (from_zero xs) ∙ mesh-narrow g b m values32 dims fit distances;
      }

-- ---- over what is written

module _ (u : Served) (d : Done u) where
  c : Call
  c = u.call

  a : Passes u.call.grid u.call.size (room u.before).map u.call.box
  a = done-accepts u d

  values32 : (p : GridPoint) → T (in_box u.call.box p) → T (fits binary32 (value u.call.grid p))
  values32 p t = u.numbers (index u.call.grid.dims p) (index_below u.call.grid.dims u.call.box u.call.size p a.box a.length t)

  pub mesh-accepted : Accepted (positions_of u) 0 (indices_of u)
  mesh-accepted =
      let few : length (vertices u.call.grid u.call.box) ≤ 2 ^ 30 = rw (← (done-counts u d).0) (done-few u d) in
      subst (λ (p : List Float). Accepted p 0 (indices_of u)) (sym (positions-back u d))
      (subst (Accepted (flat_vectors (map (vertex_position u.call.grid) (vertices u.call.grid u.call.box))) 0) (sym (indices-back u d))
      (rules-weighed u.call.grid u.call.box u.call.flags values32 a.dims a.box a.distance few))

  -- a call of the weighing on it says its sum and its shadow, and is never refused
  pub mesh-weighs : weight (positions_of u) 0 (indices_of u) ≡ says 0 (pillars_of u) (shadows_of u)
  mesh-weighs = weighs (positions_of u) 0 (indices_of u) mesh-accepted

-- a call of the weighing on what a mesh call left
pub record OwnMesh (u : Served) (t : Told) : Type 0 where
  pub positions : t.positions ≡ positions_of u
  pub first : t.first ≡ 0
  pub indices : t.indices ≡ indices_of u

module _ (u : Served) (t : Told) (d : Done u) (o : OwnMesh u t) where
  pub own-mesh-weighs : t.says ≡ says 0 (pillars_of u) (shadows_of u)
  own-mesh-weighs = t.told ∙ (λ i. weight (o.positions i) (o.first i) (o.indices i)) ∙ mesh-weighs u d

  pub own-mesh-done : t.says.answer ≡ 0
  own-mesh-done = ap (λ (w : Answer). w.answer) own-mesh-weighs

  pub own-mesh-sum : sum_in t.says ≡ pillars_of u
  own-mesh-sum = ap sum_in own-mesh-weighs ∙ words-make (pillars_of u)

  pub own-mesh-shadow : t.says.shadow ≡ shadows_of u
  own-mesh-shadow = ap (λ (w : Answer). w.shadow) own-mesh-weighs
