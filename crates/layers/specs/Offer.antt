-- Document 02, request 1: what a layer is answered, and what it leaves of the state, of kept memory and of the lists lent for output. All of it is
-- defined for any state and any memory: "if touched, calls still stay in bounds". Definitions only. Assumes nothing.
use Rattle.std.specs.Prelude.{ℕ, ◌+◌, ◌-◌, Bool, not, cond, List, [], map, leb, ltb, eqb, length, Float}
use Rattle.std.proofs.lemmas.List.Edits.{sets}
use Rattle.lists.specs.Lists.{placed}
use Rattle.rules.specs.Grid.{GridPoint, Field}
use Rattle.rules.specs.Vertices.{layer_vertices, vertex_position, null_vertex}
use Rattle.rules.specs.Call.{Answer, Room, answers, room_answer, bad_dimensions, bad_box, bad_layer, flat_vectors}
use Rattle.grid.specs.declared.Block.{Block}
use Rattle.grid.specs.Block.{point, box_of, flags_of, field_of}
use Rattle.grid.specs.Layers.{two_layers}
use Rattle.layer_vertices.specs.Marked.{Lists, lists, with_map, marked, last_entry}
use Rattle.layer_faces.specs.Below.{Kept, indices_over}
use Rattle.layers.specs.declared.State.{State}
use Rattle.layers.specs.Memory.{Memory, memory, lengths, plane, half_of, put_half, bad_memory}

-- the lists lent for output
pub record Output : Type 0 where
  pub positions : List Float
  pub normals : List Float
  pub cells : List ℕ
  pub strides : List ℕ
  pub crossings : List ℕ
  pub indices : List ℕ

abbrev pub output : List Float → List Float → List ℕ → List ℕ → List ℕ → List ℕ → Output
output positions normals cells strides crossings indices =
    record { positions = positions; normals = normals; cells = cells; strides = strides; crossings = crossings; indices = indices }

-- their lengths, and that of the kept map
abbrev pub room_in : Memory → Output → Room
room_in m o =
    record {
      positions = length o.positions;
      normals = length o.normals;
      cells = length o.cells;
      strides = length o.strides;
      crossings = length o.crossings;
      map = length m.map;
      indices = length o.indices;
    }

-- the state before the first layer
abbrev pub begun : Block → State
begun k = record { block = k; taken = 0; next = 0; first = 0 }

-- ---- the cells below the layer offered: "The layer z + 1 brings out all vertices and faces of the cells at z"

-- the number of the layer before it
abbrev pub before : State → ℕ
before s = s.taken - 1

-- the z of those cells
abbrev pub cells_at : State → ℕ
cells_at s = s.block.low.z + before s

-- their distances, by the kept layer and the one offered
abbrev pub between : State → List Float → List Float → Field
between s layer distances = two_layers (half_of s.block (before s) distances) layer s.block (cells_at s)

-- their vertices: the first layer of the box has no cells below it
unfoldable pub new_vertices : State → List Float → List Float → List GridPoint
new_vertices s layer distances = cond (eqb s.taken 0) [] (layer_vertices (between s layer distances) (box_of s.block) (cells_at s))

-- the number of the first of so many: "with vertex numbers running on". Calls leave no state whose numbers reach 4,294,967,295; where a touched one
-- does, the layer's numbers begin at 0
unfoldable pub runs_on : ℕ → ℕ → ℕ
runs_on next count = cond (ltb null_vertex (next + count)) 0 next

abbrev pub new_first : State → List Float → List Float → ℕ
new_first s layer distances = runs_on s.next (length (new_vertices s layer distances))

-- what was kept of the cells below those: their part of the map, and their positions
abbrev pub kept_below : State → List ℕ → List Float → Kept
kept_below s map positions = record { map = half_of s.block s.taken map; positions = positions; first = s.first }

-- the indices of their faces
unfoldable pub new_indices : State → List Float → Memory → List ℕ
new_indices s layer m =
    cond (eqb s.taken 0) []
    (indices_over (between s layer m.distances) (box_of s.block) (flags_of s.block) (new_first s layer m.distances) (cells_at s) (kept_below s m.map m.positions))

-- ---- the answer

-- 8: "After exactly as many layers as the box has points in z it is done"
abbrev pub finished : State → Bool
finished s = leb (s.block.high.z - s.block.low.z + 1) s.taken

-- 3, by request 9: exactly if the layer's length is not X·Y
abbrev pub bad_layer_length : Block → List Float → Bool
bad_layer_length k layer = not (eqb (length layer) (plane k))

-- 5 "now speaks of the layer offered": its points in the box, read as those of a grid's first layer
abbrev pub bad_points : Block → List Float → Bool
bad_points k layer = bad_layer (field_of layer k) (box_of k) 0

-- "The start, and each layer call again, gives 1, 2 and, if that memory is shorter, 4; a layer under X·Y gives 3. [..] a further layer gets 8 with
-- 0, 0, tried right after 2. [..] V and I are that layer's. [..] Document 01's order of checks holds inside one layer."
unfoldable pub layer_answer : State → List Float → Memory → Room → Answer
layer_answer s layer m r =
    cond (bad_dimensions (point s.block.dims)) (answers 1 0 0)
    (cond (bad_box (point s.block.dims) (box_of s.block)) (answers 2 0 0)
    (cond (finished s) (answers 8 0 0)
    (cond (bad_layer_length s.block layer) (answers 3 0 0)
    (cond (bad_memory s.block (lengths m)) (answers 4 0 0)
    (cond (bad_points s.block layer) (answers 5 0 0)
    (room_answer r (length (new_vertices s layer m.distances)) (length (new_indices s layer m))))))))

abbrev pub is_taken : State → List Float → Memory → Output → Bool
is_taken s layer m o = eqb (layer_answer s layer m (room_in m o)).number 0

-- ---- what the layer leaves: "Every refusal leaves state and kept memory as they were"

-- the state
abbrev pub advanced : State → ℕ → ℕ → State
advanced s first count = record { block = s.block; taken = s.taken + 1; next = first + count; first = first }

unfoldable pub state_after : State → List Float → Memory → Output → State
state_after s layer m o =
    cond (is_taken s layer m o) (advanced s (new_first s layer m.distances) (length (new_vertices s layer m.distances))) s

-- kept memory and the lists lent for output
pub record Left : Type 0 where
  pub memory : Memory
  pub output : Output

abbrev pub left : Memory → Output → Left
left m o = record { memory = m; output = o }

-- the new vertices in lists, the last of which is the lower layer's half of the map
abbrev pub new_lists : State → List Float → List Float → Lists → Lists
new_lists s layer distances l =
    marked (between s layer distances) (box_of s.block) (cells_at s) (record { place = 0; number = new_first s layer distances }) l

-- lists with such a half, and with the whole map that it is put back into
abbrev pub with_half : State → List ℕ → Output → Lists
with_half s map o = lists o.positions o.normals o.cells o.strides o.crossings (half_of s.block (before s) map)

abbrev pub put_back : State → List ℕ → Lists → Lists
put_back s map l = with_map (put_half s.block (before s) l.map map) l

-- such lists, and indices, as lists lent for output
abbrev pub with_indices : Lists → List ℕ → Output
with_indices l indices = output l.positions l.normals l.cells l.strides l.crossings indices

-- the new vertices are written with their map
unfoldable pub marked_out : State → List Float → Memory → Output → Lists
marked_out s layer m o = put_back s m.map (new_lists s layer m.distances (with_half s m.map o))

-- and their faces, and the vertices' positions are kept: "the last cell layer's vertex positions"
unfoldable pub brought_out : State → List Float → Memory → Output → Left
brought_out s layer m o =
    cond (eqb s.taken 0) (left m o)
    (left
    (memory m.distances (marked_out s layer m o).map
    (sets m.positions 0 (flat_vectors (map (vertex_position (between s layer m.distances)) (new_vertices s layer m.distances)))))
    (with_indices (marked_out s layer m o) (sets o.indices 0 (new_indices s layer m))))

-- request 7, "In request 1 the kept layers follow the same rule": in the half of the layer number t no point of the box has a vertex
abbrev pub cleared : Block → ℕ → List ℕ → List ℕ
cleared k t map = put_half k t (placed (last_entry (point k.dims) (box_of k)) 0 (half_of k t map)) map

-- the layer offered is kept. Those of its points that are cells get their entries with the next layer
unfoldable pub layer_kept : State → List Float → Memory → Memory
layer_kept s layer m = memory (put_half s.block s.taken layer m.distances) (cleared s.block s.taken m.map) m.positions

unfoldable pub leaves : State → List Float → Memory → Output → Left
leaves s layer m o =
    cond (is_taken s layer m o) (left (layer_kept s layer (brought_out s layer m o).memory) (brought_out s layer m o).output) (left m o)
