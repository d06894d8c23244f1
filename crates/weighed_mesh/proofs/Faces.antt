-- The sum over the index list of a mesh is the sum over the faces that its edges define: each edge's two triangles, their corners by the rules alone.
-- Assumes nothing.
use Prim.Native.Nat.{ℕ, ◌%◌}
use mathlib.Core.List.{List, [], ◌∷◌, ◌++◌, map, map-map}
use mathlib.Core.Path.{◌≡◌, refl, sym, ap, ap₂, ◌∙◌}
use lib.Dec.{T}
use lib.IntN.{ℤ, pos, ◌+ℤ◌, +ℤ_assoc, +ℤ_comm, +ℤ_idl}
use lib.ListN.{length, length-map, get_or-map}
use lib.Ieee.{Float, nan}
use Rattle.lists.specs.Lists.{joined, place}
use Rattle.rules.specs.Grid.{GridPoint, Box, Field, same_point, is_cell}
use Rattle.rules.specs.Cell.{Vector}
use Rattle.rules.specs.Vertices.{surface_cell, vertices, vertex_position}
use Rattle.rules.specs.Faces.{Edge, Flags, gives, edges, face_cells, indices}
use Rattle.rules.specs.Call.{flat_vectors}
use Rattle.lists.proofs.Lists.{All, none, more, all_then, map_same}
use Rattle.lists.proofs.Permutation.{Perm, nil, skip, swap, trans}
use Rattle.rules.proofs.Edges.{edges-all, face_cells-length}
use Rattle.rules.proofs.Numbers.{four-each, face-all, face_numbers, indices-are, number-below, vertex-at}
use Rattle.rules.proofs.Seen.{ThreeAt, flat_vectors-at}
use Rattle.volume.specs.declared.Corner.{Corner}
use Rattle.volume.specs.Steps.{steps}
use Rattle.volume.specs.Volume.{corner, corner_at, determinant, sum_over}
use Rattle.volume.proofs.Laws.{joined-sum}
use Rattle.weighed_mesh.specs.Facing.{steps_of}

-- ---- sums of whole numbers with a sign

unfoldable pub sum_z : {A : Type 0} → (A → ℤ) → List A → ℤ
sum_z f [] = pos 0
sum_z f (x ∷ xs) = f x +ℤ sum_z f xs

pub sum_z-append : {A : Type 0} (f : A → ℤ) (s t : List A) → sum_z f (s ++ t) ≡ sum_z f s +ℤ sum_z f t
unfolding sum_z
sum_z-append f [] t = sym (+ℤ_idl (sum_z f t))
sum_z-append f (x ∷ s) t = ap (λ (n : ℤ). f x +ℤ n) (sum_z-append f s t) ∙ sym (+ℤ_assoc (f x) (sum_z f s) (sum_z f t))

pub sum_z-joined : {A B : Type 0} (f : B → ℤ) (h : A → List B) (l : List A) → sum_z f (joined h l) ≡ sum_z (λ (x : A). sum_z f (h x)) l
unfolding sum_z joined
sum_z-joined f h [] = refl
sum_z-joined f h (x ∷ l) = sum_z-append f (h x) (joined h l) ∙ ap (λ (n : ℤ). sum_z f (h x) +ℤ n) (sum_z-joined f h l)

past : (a b n : ℤ) → a +ℤ (b +ℤ n) ≡ b +ℤ (a +ℤ n)
past a b n = sym (+ℤ_assoc a b n) ∙ ap (λ (m : ℤ). m +ℤ n) (+ℤ_comm a b) ∙ +ℤ_assoc b a n

pub perm-sum_z : {A : Type 0} (f : A → ℤ) {s t : List A} → Perm s t → sum_z f s ≡ sum_z f t
unfolding sum_z
perm-sum_z f nil = refl
perm-sum_z f (skip {x = x} p) = ap (λ (n : ℤ). f x +ℤ n) (perm-sum_z f p)
perm-sum_z f (swap {x = x} {y = y} {s = s}) = past (f x) (f y) (sum_z f s)
perm-sum_z f (trans p q) = perm-sum_z f p ∙ perm-sum_z f q

-- ---- one face

-- the determinants of a list of corners, three a triangle
unfoldable pub corners_sum : List Corner → ℤ
corners_sum [] = pos 0
corners_sum (a ∷ []) = pos 0
corners_sum (a ∷ b ∷ []) = pos 0
corners_sum (a ∷ b ∷ c ∷ cs) = determinant a b c +ℤ corners_sum cs

-- of the face that an edge defines
unfoldable pub face_sum : Field → Edge → ℤ
face_sum g e = corners_sum (map (λ (c : GridPoint). steps_of (vertex_position g c)) (face_cells g e))

sum-corners : (at : ℕ → Corner) (l : List ℕ) → sum_over at l ≡ corners_sum (map at l)
unfolding sum_over corners_sum
sum-corners at [] = refl
sum-corners at (i ∷ []) = refl
sum-corners at (i ∷ j ∷ []) = refl
sum-corners at (i ∷ j ∷ k ∷ is) = ap (λ (n : ℤ). determinant (at i) (at j) (at k) +ℤ n) (sum-corners at is)

-- ---- all faces

module _ (g : Field) (b : Box) (m : Flags) where
  abbrev vs : List GridPoint
  vs = vertices g b

  abbrev xs : List Float
  xs = flat_vectors (map (vertex_position g) (vertices g b))

  -- a vertex's number, looked up, gives its position
  pub corner-is : (c : GridPoint) → T (is_cell b c) → T (surface_cell g c) → corner_at xs (place (same_point c) (vertices g b)) ≡ steps_of (vertex_position g c)
  corner-is c t s = λ j. corner (steps (v.first j)) (steps (v.second j)) (steps (v.third j))
    where
      n : ℕ
      n = place (same_point c) (vertices g b)

      us : List Vector
      us = map (vertex_position g) (vertices g b)

      v : ThreeAt (λ (q : Vector). q.x) (λ (q : Vector). q.y) (λ (q : Vector). q.z) (flat_vectors us) n nan (vertex_position g c)
      v =
          flat_vectors-at us n (vertex_position g c) (rw (length-map (vertices g b) (vertex_position g)) (number-below g b c t s))
          (get_or-map (vertex_position g) (vertices g b) n c ∙ ap (vertex_position g) (vertex-at g b c c t s))

  faces-sum : {es : List Edge} → All (λ (e : Edge). All (λ (c : GridPoint). corner_at xs (place (same_point c) vs) ≡ steps_of (vertex_position g c)) (face_cells g e)) es
      → sum_over (corner_at xs) (joined (face_numbers g b) es) ≡ sum_z (face_sum g) es
  unfolding sum_z joined sum_over face_sum
  faces-sum none = refl
  faces-sum (more {x = e} {xs = es} h k) =
      joined-sum (corner_at xs) (face_numbers g b e) (joined (face_numbers g b) es) six-long
      ∙ ap₂ ◌+ℤ◌ (sum-corners (corner_at xs) (face_numbers g b e) ∙ ap corners_sum (map-map (corner_at xs) (λ (c : GridPoint). place (same_point c) vs) (face_cells g e) ∙ map_same h))
      (faces-sum k)
    where
      six-long : length (face_numbers g b e) % 3 ≡ 0
      six-long = ap (λ (n : ℕ). n % 3) (length-map (face_cells g e) (λ (c : GridPoint). place (same_point c) vs) ∙ face_cells-length g e)

  -- the sum over the rules' index list, its vertices in the rules' order
  pub mesh-sum : sum_over (corner_at xs) (indices g b m) ≡ sum_z (face_sum g) (edges g b m)
  mesh-sum =
      ap (sum_over (corner_at xs)) (indices-are g b m)
      ∙ faces-sum (all_then (λ (e : Edge) (t : T (gives g b m e)). face-all g e (four-each g b m e t (λ c i s l. corner-is c i s))) (edges-all g b m))
