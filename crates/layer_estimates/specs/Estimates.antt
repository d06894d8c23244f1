-- The vertices of a layer's surface cells, as the code works them out: a list of cells, the corner values that are read for each, 32 of them side by
-- side, and the lists that positions, normals and numbers of crossings go to. Definitions only. Assumes nothing.
use Rattle.std.specs.Prelude.{ℕ, ◌+◌, ◌*◌, ◌<◌, ◌≤◌, List, [], ◌∷◌, map, ◌≡◌, length, get_or, set, Float}
use Rattle.std.proofs.lemmas.List.Edits.{sets}
use Rattle.std.specs.Float.{nan}
use Rattle.rules.specs.Grid.{GridPoint}
use Rattle.rules.specs.Cell.{Vector, centroid, position, normal, crossings}
use Rattle.rules.specs.Call.{flat_vectors}
use Rattle.rules.specs.Cutting.{Vertex, point_in}
use Rattle.grid.specs.Corners.{side_between, eight_of}

-- ---- the lists

-- the lists hold n vertices
pub record RoomFor (n : ℕ) (ps ns : List Float) (xs : List ℕ) : Type 0 where
  pub positions : 3 * n ≤ length ps
  pub normals : 3 * n ≤ length ns
  pub crossings : n ≤ length xs

pub record Lists : Type 0 where
  pub positions : List Float
  pub normals : List Float
  pub crossings : List ℕ

abbrev pub lists : List Float → List Float → List ℕ → Lists
lists positions normals crossings = record { positions = positions; normals = normals; crossings = crossings }

-- some vertices written from a place on
unfoldable pub written : ℕ → List Vertex → Lists → Lists
written place vs s =
    record {
      positions = sets s.positions (3 * place) (flat_vectors (map (λ (v : Vertex). v.position) vs));
      normals = sets s.normals (3 * place) (flat_vectors (map (λ (v : Vertex). v.normal) vs));
      crossings = sets s.crossings place (map (λ (v : Vertex). v.crossings) vs);
    }

-- ---- a cell between two layers of distances, `row` being the step to the next row

-- both of its sides lie in both layers
abbrev pub Reads : List Float → List Float → ℕ → GridPoint → Type 0
Reads lower upper row c = (c.x + row * c.y + 1 + row < length lower) × (c.x + row * c.y + 1 + row < length upper)

-- its corner values
abbrev pub corners_of : List Float → List Float → ℕ → GridPoint → List Float
corners_of lower upper row c = eight_of (side_between lower upper (c.x + row * c.y) row) (side_between lower upper (c.x + row * c.y + 1) row)

-- its vertex, by its corner values
abbrev pub vertex_by : List Float → GridPoint → Vertex
vertex_by d c = record { cell = c; position = position c (centroid d); normal = normal d (centroid d); crossings = crossings d }

-- the vertex of the cell i of a list of cells, three numbers each
abbrev pub estimated : List Float → List Float → ℕ → List ℕ → ℕ → Vertex
estimated lower upper row cells i = vertex_by (corners_of lower upper row (point_in cells i)) (point_in cells i)

-- ---- a batch: n cells of a list from one on, at most 32, side by side

-- the list has them, and each can be read
pub record Batch (lower upper : List Float) (row : ℕ) (cells : List ℕ) (from n : ℕ) : Type 0 where
  pub few : n ≤ 32
  pub held : 3 * (from + n) ≤ length cells
  pub reads : (j : ℕ) → j < n → Reads lower upper row (point_in cells (from + j))

-- the corner values of the j-th of 32 cells, and a vector of it
abbrev pub eight_at : List Float → ℕ → List Float
eight_at l j =
    get_or l j nan ∷ get_or l (32 + j) nan ∷ get_or l (64 + j) nan ∷ get_or l (96 + j) nan
    ∷ get_or l (128 + j) nan ∷ get_or l (160 + j) nan ∷ get_or l (192 + j) nan ∷ get_or l (224 + j) nan ∷ []

abbrev pub vector_at : List Float → ℕ → Vector
vector_at l j = record { x = get_or l j nan; y = get_or l (32 + j) nan; z = get_or l (64 + j) nan }

-- where they stand, and values stored at places one after the other
abbrev pub eight_places : ℕ → List ℕ
eight_places j = j ∷ (32 + j) ∷ (64 + j) ∷ (96 + j) ∷ (128 + j) ∷ (160 + j) ∷ (192 + j) ∷ (224 + j) ∷ []

abbrev pub three_places : ℕ → List ℕ
three_places j = j ∷ (32 + j) ∷ (64 + j) ∷ []

module _ {A : Type 0} where
  abbrev pub stored : List A → List ℕ → List A → List A
  stored l [] vs = l
  stored l (p ∷ ps) [] = l
  stored l (p ∷ ps) (v ∷ vs) = stored (set l p v) ps vs

-- the corner values of the first n are those of the batch
pub record Gathered (lower upper : List Float) (row : ℕ) (cells : List ℕ) (from : ℕ) (corners : List Float) (n : ℕ) : Type 0 where
  pub each : (j : ℕ) → j < n → eight_at corners j ≡ corners_of lower upper row (point_in cells (from + j))

-- what is worked out of the j-th
pub record SolvedAt (corners centroids gradients : List Float) (counts : List ℕ) (j : ℕ) : Type 0 where
  pub average : vector_at centroids j ≡ centroid (eight_at corners j)
  pub gradient : vector_at gradients j ≡ normal (eight_at corners j) (centroid (eight_at corners j))
  pub count : get_or counts j 0 ≡ crossings (eight_at corners j)

-- of the first n
pub record Solved (corners centroids gradients : List Float) (counts : List ℕ) (n : ℕ) : Type 0 where
  pub each : (j : ℕ) → j < n → SolvedAt corners centroids gradients counts j

-- the vertex of the j-th
abbrev pub vertex_at : List ℕ → ℕ → List Float → List Float → List ℕ → ℕ → Vertex
vertex_at cells from centroids gradients counts j =
    record {
      cell = point_in cells (from + j);
      position = position (point_in cells (from + j)) (vector_at centroids j);
      normal = vector_at gradients j;
      crossings = get_or counts j 0;
    }
