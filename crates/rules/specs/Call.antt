-- Document 01, "The call": the conditions 1 to 7, the answer with V and I, and what each lent buffer holds afterwards.
-- Definitions only. Assumes nothing.
use Rattle.std.specs.Prelude.{ℕ, ◌*◌, ◌^◌, Bool, true, not, ◌||◌, cond, List, [], ◌∷◌, map, leb, ltb, eqb, length, Float}
use Rattle.std.specs.Float.{nan, inf, fin}
use Rattle.std.specs.Float.Ieee.{up, down}
use Rattle.lists.specs.Lists.{some, joined, placed, over}
use Rattle.rules.specs.Grid.{GridPoint, Box, Field, index, value}
use Rattle.rules.specs.Cell.{Vector}
use Rattle.rules.specs.Vertices.{vertices, vertex_position, vertex_normal, vertex_crossings, map_entry}
use Rattle.rules.specs.Faces.{Flags, layer_points, point_layers, indices}

-- what goes in: the grid's dimensions, distances and length, the box, and the max plane
pub record Call : Type 0 where
  pub grid : Field
  pub size : ℕ
  pub box : Box
  pub flags : Flags

-- the seven lent lists: document 01's six, and document 02's "one more lent buffer" (request 13), whose numbers are bytes
pub record Buffers : Type 0 where
  pub positions : List Float
  pub normals : List Float
  pub cells : List ℕ
  pub strides : List ℕ
  pub crossings : List ℕ
  pub map : List ℕ
  pub indices : List ℕ

-- their lengths
pub record Room : Type 0 where
  pub positions : ℕ
  pub normals : ℕ
  pub cells : ℕ
  pub strides : ℕ
  pub crossings : ℕ
  pub map : ℕ
  pub indices : ℕ

abbrev pub room : Buffers → Room
room s =
    record {
      positions = length s.positions;
      normals = length s.normals;
      cells = length s.cells;
      strides = length s.strides;
      crossings = length s.crossings;
      map = length s.map;
      indices = length s.indices;
    }

-- ---- the conditions, one definition each

-- 1: "a dimension is 0 or above 16,777,217, or their product is above 1,073,741,824"
abbrev pub bad_dimension : ℕ → Bool
bad_dimension n = eqb n 0 || ltb 16777217 n

unfoldable pub bad_dimensions : GridPoint → Bool
bad_dimensions d = (bad_dimension d.x || (bad_dimension d.y || bad_dimension d.z)) || ltb 1073741824 (d.x * d.y * d.z)

-- 2: "min above max on an axis, or max not below its dimension"
abbrev pub bad_side : ℕ → ℕ → ℕ → Bool
bad_side dim low high = ltb high low || leb dim high

unfoldable pub bad_box : GridPoint → Box → Bool
bad_box d b = bad_side d.x b.low.x b.high.x || (bad_side d.y b.low.y b.high.y || bad_side d.z b.low.z b.high.z)

-- 3, by document 02, request 9: "exactly if the grid's length is not the product of the dimensions"
unfoldable pub bad_length : GridPoint → ℕ → Bool
bad_length d size = not (eqb size (d.x * d.y * d.z))

-- 4: "cell map shorter than the grid"
abbrev pub bad_map : ℕ → ℕ → Bool
bad_map size map = ltb map size

-- 5: "some point of the box, both corners included, is not finite or is above" the cap in magnitude. Document 02, request 6: "Raise the cap in
-- answer 5 from 2^100 to 2^124."
abbrev pub cap : ℕ
cap = 2 ^ 124

unfoldable pub beyond : Float → Bool
beyond nan = true
beyond (inf s) = true
beyond (fin s m e) = ltb (cap * down e) (m * up e)

unfoldable pub bad_layer : Field → Box → ℕ → Bool
bad_layer g b z = some (λ (p : GridPoint). beyond (value g p)) (layer_points b z)

unfoldable pub bad_distance : Field → Box → Bool
bad_distance g b = some (bad_layer g b) (point_layers b)

-- 6: "positions, normals or cells shorter than 3V, or strides shorter than V". Document 02, request 13: "Answer 6 covers that buffer when it is shorter
-- than V."
abbrev pub bad_vertex_room : Room → ℕ → Bool
bad_vertex_room r count =
    ltb r.positions (3 * count) || (ltb r.normals (3 * count) || (ltb r.cells (3 * count) || (ltb r.strides count || ltb r.crossings count)))

-- 7: "indices shorter than I"
abbrev pub bad_index_room : Room → ℕ → Bool
bad_index_room r count = ltb r.indices count

-- ---- the answer

pub record Answer : Type 0 where
  pub number : ℕ
  pub vertices : ℕ
  pub indices : ℕ

abbrev pub answers : ℕ → ℕ → ℕ → Answer
answers n v i = record { number = n; vertices = v; indices = i }

-- V and I
abbrev pub vertex_count : Call → ℕ
vertex_count c = length (vertices c.grid c.box)

abbrev pub index_count : Call → ℕ
index_count c = length (indices c.grid c.box c.flags)

-- 6, 7 and 0, which say V and I
unfoldable pub room_answer : Room → ℕ → ℕ → Answer
room_answer r v i = cond (bad_vertex_room r v) (answers 6 v i) (cond (bad_index_room r i) (answers 7 v i) (answers 0 v i))

-- "Conditions are tried in this order; the first that holds answers."
unfoldable pub answer : Call → Room → Answer
answer c r =
    cond (bad_dimensions c.grid.dims) (answers 1 0 0)
    (cond (bad_box c.grid.dims c.box) (answers 2 0 0)
    (cond (bad_length c.grid.dims c.size) (answers 3 0 0)
    (cond (bad_map c.size r.map) (answers 4 0 0)
    (cond (bad_distance c.grid c.box) (answers 5 0 0)
    (room_answer r (vertex_count c) (index_count c))))))

-- ---- what the buffers hold afterwards

-- three numbers for each vector, and for each point
abbrev pub flat_vectors : List Vector → List Float
flat_vectors vs = joined (λ (v : Vector). v.x ∷ v.y ∷ v.z ∷ []) vs

abbrev pub flat_points : List GridPoint → List ℕ
flat_points ps = joined (λ (p : GridPoint). p.x ∷ p.y ∷ p.z ∷ []) ps

-- "On 0, the first 3V, 3V, 3V, V and I numbers are written and the rest of those buffers kept. In the map, each cell's entry is written",
-- and by document 02, request 7, that of every other point of the box; "Points outside the box still keep theirs." Request 13: the number
-- of crossings, "as bytes to the first V of one more lent buffer"
unfoldable pub written : Call → Buffers → Buffers
written c s =
    record {
      positions = over (flat_vectors (map (vertex_position c.grid) (vertices c.grid c.box))) s.positions;
      normals = over (flat_vectors (map (vertex_normal c.grid) (vertices c.grid c.box))) s.normals;
      cells = over (flat_points (vertices c.grid c.box)) s.cells;
      strides = over (map (index c.grid.dims) (vertices c.grid c.box)) s.strides;
      crossings = over (map (vertex_crossings c.grid) (vertices c.grid c.box)) s.crossings;
      map = placed (map_entry c.grid c.box) 0 s.map;
      indices = over (indices c.grid c.box c.flags) s.indices;
    }

-- "Answers 1 to 7 change nothing."
unfoldable pub afterwards : Call → Buffers → Buffers
afterwards c s = cond (eqb (answer c (room s)).number 0) (written c s) s
