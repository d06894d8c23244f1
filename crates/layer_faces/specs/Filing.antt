-- How the code keeps the edges of a batch that give a face, those along each axis among the entries of their own: the axis a has the entries from 32 a
-- on, each with the vertex of an edge and the edge's place among all that are listed, and the faces along an axis are put each at its own place. These
-- follow the code and stand in no contract that another crate sees. Definitions only. Assumes nothing.
use Rattle.std.specs.Prelude.{◌≡◌, ℕ, zero, suc, ◌+◌, ◌*◌, ◌%◌, ◌<◌, ◌≤◌, List, length, slice_index, slice_index_or, Float}
use Rattle.std.proofs.lemmas.List.Edits.{sets}
use Rattle.rules.specs.Grid as rules
use Rattle.layer_faces.specs.declared.Axis.{Axis}
use Rattle.layer_faces.specs.declared.Axis.TheVariants.{X, Y, Z}
use Rattle.layer_faces.specs.Quads.{axis_of, Ready}

-- ---- an axis of src/

abbrev pub axis_number : Axis → ℕ
axis_number X = 0
axis_number Y = 1
axis_number Z = 2

-- as the rules' axis
abbrev pub along : Axis → rules.Axis
along a = axis_of (axis_number a)

-- ---- the entries

-- an entry names an edge of the list along the axis, by its vertex and its place in the list
pub record Names (edges who rank : List ℕ) (axis entry : ℕ) : Type 0 where
  pub within : slice_index_or rank entry 0 < length edges
  pub is : slice_index_or edges (slice_index rank entry) 0 ≡ 3 * slice_index who entry + axis

-- one of the first entries of the axis has the place r
pub record Found (rank : List ℕ) (axis count r : ℕ) : Type 0 where
  pub q : ℕ
  pub low : q < count
  pub is : slice_index_or rank (32 * axis + q) 0 ≡ r

-- the entries of one axis, those from 32 a on: each names a listed edge along it, and each such edge has one
pub record Filed (edges who rank : List ℕ) (axis count : ℕ) : Type 0 where
  pub few : count ≤ 32
  pub each : (q : ℕ) → q < count → Names edges who rank axis (32 * axis + q)
  pub all : (r : ℕ) → r < length edges → slice_index edges r % 3 ≡ axis → Found rank axis count r

-- those of the three axes, with how many each has and how many edges are listed
pub record AllFiled (edges who rank : List ℕ) (x y z all : ℕ) : Type 0 where
  pub along-x : Filed edges who rank 0 x
  pub along-y : Filed edges who rank 1 y
  pub along-z : Filed edges who rank 2 z
  pub count : all ≡ length edges

-- ---- the faces along one axis

-- all that the quads of the first entries of the axis are made of stands in its list, and there is room for each
pub record AllReady (lower : List Float) (row first : ℕ) (cs map : List ℕ) (positions : List Float) (under who rank : List ℕ) (from axis count at indices : ℕ) : Type 0 where
  pub narrow : row < 4294967296
  pub entries : 32 * axis + count ≤ 96
  pub each : (q : ℕ) → q < count → Ready lower row first cs map positions under (from + slice_index who (32 * axis + q)) (axis_of axis)
  pub room : (q : ℕ) → q < count → at + 6 * slice_index rank (32 * axis + q) + 6 ≤ indices

-- the faces of n entries from `start` on, put one after the other, each at its place
unfoldable pub faces_put : (ℕ → List ℕ) → List ℕ → List ℕ → ℕ → ℕ → ℕ → ℕ → List ℕ → List ℕ
faces_put quad who rank start from at zero l = l
faces_put quad who rank start from at (suc n) l =
    sets (faces_put quad who rank start from at n l) (at + 6 * slice_index rank (start + n)) (quad (from + slice_index who (start + n)))
