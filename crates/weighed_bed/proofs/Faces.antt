-- A sum over the index list of a mesh is the sum over the faces that its edges define, for any term of a triangle's corners. Assumes nothing.
use Prim.Native.Nat.{ℕ, ◌%◌}
use mathlib.Core.List.{List, [], ◌∷◌, map, map-map}
use mathlib.Core.Path.{◌≡◌, refl, ap, ap₂, ◌∙◌}
use lib.Dec.{T}
use lib.IntN.{ℤ, pos, ◌+ℤ◌}
use lib.ListN.{length, length-map}
use Rattle.lists.specs.Lists.{joined, place}
use Rattle.lists.proofs.Lists.{All, none, more, all_then, map_same}
use Rattle.rules.specs.Grid.{GridPoint, Box, Field, same_point}
use Rattle.rules.specs.Vertices.{vertices, vertex_position}
use Rattle.rules.specs.Faces.{Edge, Flags, gives, edges, face_cells, indices}
use Rattle.rules.specs.Call.{flat_vectors}
use Rattle.rules.proofs.Edges.{edges-all, face_cells-length}
use Rattle.rules.proofs.Numbers.{four-each, face-all, indices-are}
use Rattle.volume.specs.declared.Corner.{Corner}
use Rattle.volume.specs.Volume.{corner_at}
use Rattle.weigh.specs.Sums.{sum_of}
use Rattle.weigh.proofs.Laws.{joined-sum}
use Rattle.weighed_mesh.specs.Facing.{steps_of}
use Rattle.weighed_mesh.proofs.Faces.{sum_z, corner-is}

module _ (f : Corner → Corner → Corner → ℤ) where
  -- the terms of a list of corners, three a triangle
  unfoldable pub corners_sum : List Corner → ℤ
  corners_sum [] = pos 0
  corners_sum (a ∷ []) = pos 0
  corners_sum (a ∷ b ∷ []) = pos 0
  corners_sum (a ∷ b ∷ c ∷ cs) = f a b c +ℤ corners_sum cs

  -- of the face that an edge defines
  unfoldable pub face_sum : Field → Edge → ℤ
  face_sum g e = corners_sum (map (λ (c : GridPoint). steps_of (vertex_position g c)) (face_cells g e))

  sum-corners : (at : ℕ → Corner) (l : List ℕ) → sum_of f at l ≡ corners_sum (map at l)
  unfolding sum_of corners_sum
  sum-corners at [] = refl
  sum-corners at (i ∷ []) = refl
  sum-corners at (i ∷ j ∷ []) = refl
  sum-corners at (i ∷ j ∷ k ∷ is) = ap (λ (n : ℤ). f (at i) (at j) (at k) +ℤ n) (sum-corners at is)

  -- faces whose corners, looked up by their numbers, are the vertices of their cells
  pub numbers-sum : (g : Field) (number : GridPoint → ℕ) (at : ℕ → Corner) {es : List Edge}
      → All (λ (e : Edge). All (λ (c : GridPoint). at (number c) ≡ steps_of (vertex_position g c)) (face_cells g e)) es
      → sum_of f at (joined (λ (e : Edge). map number (face_cells g e)) es) ≡ sum_z (face_sum g) es
  unfolding sum_z joined sum_of face_sum
  numbers-sum g number at none = refl
  numbers-sum g number at (more {x = e} {xs = es} h k) =
      joined-sum f at (map number (face_cells g e)) (joined (λ (d : Edge). map number (face_cells g d)) es) six-long
      ∙ ap₂ ◌+ℤ◌ (sum-corners at (map number (face_cells g e)) ∙ ap corners_sum (map-map at number (face_cells g e) ∙ map_same h)) (numbers-sum g number at k)
    where
      six-long : length (map number (face_cells g e)) % 3 ≡ 0
      six-long = ap (λ (n : ℕ). n % 3) (length-map (face_cells g e) number ∙ face_cells-length g e)

  -- the sum over the rules' index list, its vertices in the rules' order
  pub mesh-sum : (g : Field) (b : Box) (m : Flags) → sum_of f (corner_at (flat_vectors (map (vertex_position g) (vertices g b)))) (indices g b m) ≡ sum_z (face_sum g) (edges g b m)
  mesh-sum g b m =
      ap (sum_of f (corner_at (flat_vectors (map (vertex_position g) (vertices g b))))) (indices-are g b m)
      ∙ numbers-sum g (λ (c : GridPoint). place (same_point c) (vertices g b)) (corner_at (flat_vectors (map (vertex_position g) (vertices g b))))
      (all_then (λ (e : Edge) (t : T (gives g b m e)). face-all g e (four-each g b m e t (λ c i s l. corner-is g b m c i s))) (edges-all g b m))
