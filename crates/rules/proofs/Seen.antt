-- The faces that a mesh shows, its indices looked up in its own cells and positions, are the faces that its edges define, and its vertices are those that
-- its surface cells define. From the place of each vertex and the edge that a face shows. Assumes nothing.
use Prim.Native.Nat.{ℕ, zero, suc, ◌+◌, ◌*◌, ◌≤◌, ◌<◌, zero-le}
use native.Mathlib.Nat.{le_refl}
use native.Mathlib.Omega.{arith}
use mathlib.Core.List.{List, [], ◌∷◌, ◌++◌, map, map-id, map-map, map-append}
use mathlib.Core.Path.{◌≡◌, refl, sym, ap, ap₂, subst, ◌∙◌}
use lib.Dec.{T}
use lib.Ieee.{Float, nan}
use lib.ListN.{length, get_or, length-map, take, get_or-map, get_or-append}
use lib.Seq.{take-length, take-suc}
use Rattle.lists.specs.Lists.{up_to, joined, place}
use Rattle.rules.specs.Grid.{GridPoint, Box, Field, same_point, is_cell}
use Rattle.rules.specs.Cell.{Vector}
use Rattle.rules.specs.Vertices.{surface_cell, vertices, vertex_position, vertex_normal, vertex_crossings}
use Rattle.rules.specs.Faces.{Edge, Flags, gives, edges, face_cells, indices, changing_edges}
use Rattle.rules.specs.Call.{flat_points, flat_vectors}
use Rattle.rules.specs.Cutting.{Piece, Corner, Face, corner_at, face_of, edge_shown, sixes, point_in, vector_in, looked, face_seen, faces_seen, vertex_of, vertices_seen}
use Rattle.lists.proofs.Lists.{All, all_then, map_same, joined_length, none, more}
use Rattle.lists.proofs.Runs.{up_to-none, up_to-last, up_to-each}
use Rattle.rules.proofs.FourCells.{Owned, owned-says, gives-owned}
use Rattle.rules.proofs.Edges.{edges-all, edge_count, face_cells-length}
use Rattle.rules.proofs.Numbers.{number-below, vertex-at, four-each, face-all, face_numbers, indices-are}
use Rattle.rules.proofs.Shown.{face-shows}

-- the edges that give a piece's faces
abbrev pub edges_of : Field → Piece → List Edge
edges_of g q = edges g q.box q.flags

-- what is seen of a call's own cells, positions and indices
abbrev pub seen : Field → Piece → List Face
seen g q =
    faces_seen (flat_points (vertices g q.box)) (flat_vectors (map (vertex_position g) (vertices g q.box))) (indices g q.box q.flags)

-- three numbers for each element: those of the element v stand from 3·v
module _ {A B : Type 0} (f h i : A → B) where
  abbrev pub threes : List A → List B
  threes l = joined (λ (a : A). f a ∷ h a ∷ i a ∷ []) l

  pub record ThreeAt (l : List B) (v : ℕ) (d : B) (a : A) : Type 0 where
    pub first : get_or l (3 * v) d ≡ f a
    pub second : get_or l (3 * v + 1) d ≡ h a
    pub third : get_or l (3 * v + 2) d ≡ i a

  pub three-at : (l : List A) (v : ℕ) (d : B) (a : A) → v < length l → ThreeAt (threes l) v d (get_or l v a)
  unfolding joined
  three-at [] v d a k = absurd (omega arith)
  three-at (x ∷ xs) zero d a k = record { first = refl; second = refl; third = refl }
  three-at (x ∷ xs) (suc v) d a k =
      let r : ThreeAt (threes xs) v d (get_or xs v a) = three-at xs v d a (omega arith) in
      let e0 : 3 * suc v ≡ suc (suc (suc (3 * v))) = omega arith in
      let e1 : 3 * suc v + 1 ≡ suc (suc (suc (3 * v + 1))) = omega arith in
      let e2 : 3 * suc v + 2 ≡ suc (suc (suc (3 * v + 2))) = omega arith in
      record { first = rw e0 r.first; second = rw e1 r.second; third = rw e2 r.third }

  -- the first numbers of a longer list
  pub three-over : (l r : List B) (v : ℕ) (d : B) (a : A) → 3 * v + 2 < length l → ThreeAt l v d a → ThreeAt (l ++ r) v d a
  three-over l r v d a k t =
      record {
        first = get_or-append l r d (3 * v) (omega arith) ∙ t.first;
        second = get_or-append l r d (3 * v + 1) (omega arith) ∙ t.second;
        third = get_or-append l r d (3 * v + 2) k ∙ t.third;
      }

pub length-points : (vs : List GridPoint) → length (flat_points vs) ≡ 3 * length vs
length-points vs = joined_length (λ (p : GridPoint). p.x ∷ p.y ∷ p.z ∷ []) 3 (λ p. refl) vs

pub length-vectors : {A : Type 0} (f : A → Vector) (vs : List A) → length (flat_vectors (map f vs)) ≡ 3 * length vs
length-vectors f vs = joined_length (λ (v : Vector). v.x ∷ v.y ∷ v.z ∷ []) 3 (λ v. refl) (map f vs) ∙ ap (λ n. 3 * n) (length-map vs f)

pub flat_points-at : (l : List GridPoint) (v : ℕ) (c : GridPoint) → v < length l → get_or l v c ≡ c
    → ThreeAt (λ (q : GridPoint). q.x) (λ (q : GridPoint). q.y) (λ (q : GridPoint). q.z) (flat_points l) v 0 c
flat_points-at l v c h e =
    subst (ThreeAt (λ (q : GridPoint). q.x) (λ (q : GridPoint). q.y) (λ (q : GridPoint). q.z) (flat_points l) v 0) e
    (three-at (λ (q : GridPoint). q.x) (λ (q : GridPoint). q.y) (λ (q : GridPoint). q.z) l v 0 c h)

pub flat_vectors-at : (l : List Vector) (v : ℕ) (u : Vector) → v < length l → get_or l v u ≡ u
    → ThreeAt (λ (q : Vector). q.x) (λ (q : Vector). q.y) (λ (q : Vector). q.z) (flat_vectors l) v nan u
flat_vectors-at l v u h e =
    subst (ThreeAt (λ (q : Vector). q.x) (λ (q : Vector). q.y) (λ (q : Vector). q.z) (flat_vectors l) v nan) e
    (three-at (λ (q : Vector). q.x) (λ (q : Vector). q.y) (λ (q : Vector). q.z) l v nan u h)

-- ---- faces

sixes-first : {A : Type 0} (s t : List A) → length s ≡ 6 → sixes (s ++ t) ≡ s ∷ sixes t
unfolding sixes
sixes-first [] t h = absurd (omega arith)
sixes-first (a ∷ []) t h = absurd (omega arith)
sixes-first (a ∷ b ∷ []) t h = absurd (omega arith)
sixes-first (a ∷ b ∷ c ∷ []) t h = absurd (omega arith)
sixes-first (a ∷ b ∷ c ∷ d ∷ []) t h = absurd (omega arith)
sixes-first (a ∷ b ∷ c ∷ d ∷ e ∷ []) t h = absurd (omega arith)
sixes-first (a ∷ b ∷ c ∷ d ∷ e ∷ f ∷ []) t h = refl
sixes-first (a ∷ b ∷ c ∷ d ∷ e ∷ f ∷ x ∷ s) t h = absurd (omega arith)

-- the corners that an edge defines show the face of that edge
face-seen : (g : Field) (e : Edge) → edge_shown (face_cells g e) ≡ e ∷ [] → face_seen (map (corner_at g) (face_cells g e)) ≡ face_of g e ∷ []
unfolding face_seen
face-seen g e h =
    ap (λ (cs : List GridPoint). map label (edge_shown cs)) (map-map (λ (c : Corner). c.cell) (corner_at g) (face_cells g e) ∙ map-id (face_cells g e))
    ∙ ap (map label) h
  where
    label : Edge → Face
    label d = record { edge = d; corners = map (corner_at g) (face_cells g e) }

module _ (g : Field) (b : Box) where
  -- a vertex's number, looked up, gives its cell and its position
  looked-is : (c : GridPoint) → T (is_cell b c) → T (surface_cell g c)
      → looked (flat_points (vertices g b)) (flat_vectors (map (vertex_position g) (vertices g b))) (place (same_point c) (vertices g b)) ≡ corner_at g c
  looked-is c t s =
      λ j.
      record {
        cell = record { x = p.first j; y = p.second j; z = p.third j };
        position = record { x = v.first j; y = v.second j; z = v.third j };
      }
    where
      n : ℕ
      n = place (same_point c) (vertices g b)

      is : get_or (vertices g b) n c ≡ c
      is = vertex-at g b c c t s

      within : n < length (vertices g b)
      within = number-below g b c t s

      p : ThreeAt (λ (q : GridPoint). q.x) (λ (q : GridPoint). q.y) (λ (q : GridPoint). q.z) (flat_points (vertices g b)) n 0 c
      p = flat_points-at (vertices g b) n c within is

      us : List Vector
      us = map (vertex_position g) (vertices g b)

      v : ThreeAt (λ (q : Vector). q.x) (λ (q : Vector). q.y) (λ (q : Vector). q.z) (flat_vectors us) n nan (vertex_position g c)
      v =
          flat_vectors-at us n (vertex_position g c) (rw (length-map (vertices g b) (vertex_position g)) within)
          (get_or-map (vertex_position g) (vertices g b) n c ∙ ap (vertex_position g) is)

  -- six numbers for each edge, of cells that look up as they should and show that edge
  faces-seen : (ns : List ℕ) (xs : List Float) {es : List Edge}
      → All (λ e. (edge_shown (face_cells g e) ≡ e ∷ []) × All (λ c. looked ns xs (place (same_point c) (vertices g b)) ≡ corner_at g c) (face_cells g e)) es
      → faces_seen ns xs (joined (face_numbers g b) es) ≡ map (face_of g) es
  unfolding faces_seen joined sixes
  faces-seen ns xs none = refl
  faces-seen ns xs (more {x = e} {xs = es} h k) =
      ap (joined (λ (six : List ℕ). face_seen (map (looked ns xs) six))) (sixes-first (face_numbers g b e) (joined (face_numbers g b) es) six-long)
      ∙ ap₂ {A = List Face} ◌++◌ (ap face_seen corners ∙ face-seen g e h.0) (faces-seen ns xs k)
    where
      six-long : length (face_numbers g b e) ≡ 6
      six-long = length-map (face_cells g e) (λ (c : GridPoint). place (same_point c) (vertices g b)) ∙ face_cells-length g e

      corners : map (looked ns xs) (face_numbers g b e) ≡ map (corner_at g) (face_cells g e)
      corners = map-map (looked ns xs) (λ (c : GridPoint). place (same_point c) (vertices g b)) (face_cells g e) ∙ map_same h.1

-- an edge that gives a face is above the box's low corner on B and C, so its six cells show it
gives-shown : (g : Field) (b : Box) (m : Flags) (e : Edge) → T (gives g b m e) → edge_shown (face_cells g e) ≡ e ∷ []
gives-shown g b m e t =
    let o : Owned b m e = owned-says b m e (gives-owned g b m e t) in
    face-shows g e (omega (arith, o.above_b)) (omega (arith, o.above_c))

-- each six of the indices shows an edge and the corners that the edge defines, edge after edge
pub seen-is : (g : Field) (q : Piece) → seen g q ≡ map (face_of g) (edges g q.box q.flags)
seen-is g q =
    ap (faces_seen ns xs) (indices-are g q.box q.flags) ∙ faces-seen g q.box ns xs (all_then at (edges-all g q.box q.flags))
  where
    ns : List ℕ
    ns = flat_points (vertices g q.box)

    xs : List Float
    xs = flat_vectors (map (vertex_position g) (vertices g q.box))

    at : (e : Edge) → T (gives g q.box q.flags e)
        → (edge_shown (face_cells g e) ≡ e ∷ []) × All (λ c. looked ns xs (place (same_point c) (vertices g q.box)) ≡ corner_at g c) (face_cells g e)
    at e t = (gives-shown g q.box q.flags e t, face-all g e (four-each g q.box q.flags e t (λ c i s l. looked-is g q.box c i s)))

pub seen-number : (g : Field) (q : Piece) → length (seen g q) ≡ changing_edges g q.box q.flags
seen-number g q = ap length (seen-is g q) ∙ length-map (edges_of g q) (face_of g) ∙ edge_count g q.box q.flags

-- ---- vertices

numbered : {A : Type 0} (d : A) (l : List A) (n : ℕ) → n ≤ length l → map (λ (v : ℕ). get_or l v d) (up_to 0 n) ≡ take n l
numbered d l zero h = ap (map (λ (v : ℕ). get_or l v d)) (up_to-none 0 0 zero-le)
numbered d l (suc n) h =
    ap (map (λ (v : ℕ). get_or l v d)) (up_to-last 0 n zero-le)
    ∙ map-append (λ (v : ℕ). get_or l v d) (up_to 0 n) (n ∷ [])
    ∙ ap (λ r. r ++ (get_or l n d ∷ [])) (numbered d l n (omega arith))
    ∙ sym (take-suc l n d h)

-- one number for each element: that of the element v stands at v
pub one_at : {A B : Type 0} (f : A → B) (l : List A) (v : ℕ) (d : B) (a : A) → v < length l → get_or (map f l) v d ≡ f (get_or l v a)
one_at f [] v d a k = absurd (omega arith)
one_at f (x ∷ xs) zero d a k = refl
one_at f (x ∷ xs) (suc v) d a k = one_at f xs v d a (omega arith)

-- three numbers each of cells, positions and normals, and one of the crossings, show the vertices that the cells define
pub vertices-seen : (g : Field) (vs : List GridPoint)
    → vertices_seen (length vs) (flat_points vs) (flat_vectors (map (vertex_position g) vs)) (flat_vectors (map (vertex_normal g) vs)) (map (vertex_crossings g) vs) ≡ map (vertex_of g) vs
unfolding vertices_seen
vertices-seen g vs =
    map_same (up_to-each 0 (length vs) (λ v l k. at v k))
    ∙ sym (map-map (vertex_of g) (λ (v : ℕ). get_or vs v origin) (up_to 0 (length vs)))
    ∙ ap (map (vertex_of g)) (numbered origin vs (length vs) (le_refl (length vs)) ∙ take-length vs)
  where
    origin : GridPoint
    origin = record { x = 0; y = 0; z = 0 }

    vectors : (f : GridPoint → Vector) (v : ℕ) → v < length vs
        → ThreeAt (λ (q : Vector). q.x) (λ (q : Vector). q.y) (λ (q : Vector). q.z) (flat_vectors (map f vs)) v nan (f (get_or vs v origin))
    vectors f v k =
        subst (ThreeAt (λ (q : Vector). q.x) (λ (q : Vector). q.y) (λ (q : Vector). q.z) (flat_vectors (map f vs)) v nan) (get_or-map f vs v origin)
        (three-at (λ (q : Vector). q.x) (λ (q : Vector). q.y) (λ (q : Vector). q.z) (map f vs) v nan (f origin) (rw (length-map vs f) k))

    positions : List Float
    positions = flat_vectors (map (vertex_position g) vs)

    normals : List Float
    normals = flat_vectors (map (vertex_normal g) vs)

    numbers : List ℕ
    numbers = map (vertex_crossings g) vs

    at : (v : ℕ) → v < length vs
        → record { cell = point_in (flat_points vs) v; position = vector_in positions v; normal = vector_in normals v; crossings = get_or numbers v 0 } ≡ vertex_of g (get_or vs v origin)
    at v k =
        let c = three-at (λ (q : GridPoint). q.x) (λ (q : GridPoint). q.y) (λ (q : GridPoint). q.z) vs v 0 origin k in
        let p = vectors (vertex_position g) v k in
        let n = vectors (vertex_normal g) v k in
        let m = one_at (vertex_crossings g) vs v 0 origin k in
        λ j.
        record {
          cell = record { x = c.first j; y = c.second j; z = c.third j };
          position = record { x = p.first j; y = p.second j; z = p.third j };
          normal = record { x = n.first j; y = n.second j; z = n.third j };
          crossings = m j;
        }
