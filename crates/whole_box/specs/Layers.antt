-- What one layer, and the layers up to one, leave of the lent lists of a whole call. These stand in no contract that another crate sees.
-- Definitions only. Assumes nothing.
use Rattle.std.specs.Prelude.{ℕ, ◌+◌, ◌-◌, ◌*◌, ◌≤◌, ◌<◌, not, cond, List, map, ◌≡◌, T, ltb, eqb, length, get_or, take, drop, Float}
use Rattle.std.proofs.lemmas.List.Edits.{sets}
use Rattle.lists.specs.Lists.{up_to, joined, placed, over}
use Rattle.rules.specs.Grid.{GridPoint, Box, Field, index, point_at, is_cell}
use Rattle.rules.specs.Vertices.{layer_vertices, first_vertex, vertex_position, vertex_normal, vertex_crossings, cell_entry, map_entry}
use Rattle.rules.specs.Faces.{Flags, layer_indices}
use Rattle.rules.specs.Call.{Call, Buffers, bad_dimensions, bad_box, flat_vectors, flat_points}
use Rattle.grid.specs.declared.Block.{Block}
use Rattle.grid.specs.Block.{point, box_of}
use Rattle.layer_vertices.specs.Marked.{Lists, listed, layer_entry, last_entry}
use Rattle.whole_box.specs.declared.Made.{Made}
use Rattle.whole_box.specs.LentLists.{lists_of, with_indices, Roomy}

-- ---- the layer z, whose first vertex has the number `first`

-- the entry at an index of the whole map, where the part of the layer z changes by its places: of the layer's points, and of any other
abbrev pub at_layer : GridPoint → ℕ → (ℕ → ℕ → ℕ) → ℕ → ℕ → ℕ
at_layer d z entry j old = cond (eqb (point_at d j).z z) (entry (j - d.x * d.y * z) old) old

abbrev pub entry_at : Field → Box → ℕ → ℕ → ℕ → ℕ → ℕ
entry_at g b z first j old = at_layer g.dims z (layer_entry g b z first) j old

-- the vertices, in the lists from place `first` on
unfoldable pub layer_marked : Field → Box → ℕ → ℕ → Lists → Lists
layer_marked g b z first s = listed g first (layer_vertices g b z) (placed (entry_at g b z first) 0 s.map) s

-- ---- the layers from min up to z, which is left out

abbrev pub vertices_to : Field → Box → ℕ → List GridPoint
vertices_to g b z = joined (layer_vertices g b) (up_to b.low.z z)

abbrev pub indices_to : Field → Box → Flags → ℕ → List ℕ
indices_to g b m z = joined (λ (y : ℕ). layer_indices g b m (first_vertex g b y) y) (up_to b.low.z z)

abbrev pub entry_to : Field → Box → ℕ → ℕ → ℕ → ℕ
entry_to g b z j old = cond (ltb (point_at g.dims j).z z) (map_entry g b j old) old

-- the vertices of vs over the first numbers of the lists, and indices over the first of theirs; and a map
abbrev pub laid : Field → List GridPoint → List ℕ → List ℕ → Buffers → Buffers
laid g vs entries is s =
    record {
      positions = over (flat_vectors (map (vertex_position g) vs)) s.positions;
      normals = over (flat_vectors (map (vertex_normal g) vs)) s.normals;
      cells = over (flat_points vs) s.cells;
      strides = over (map (index g.dims) vs) s.strides;
      crossings = over (map (vertex_crossings g) vs) s.crossings;
      map = entries;
      indices = over is s.indices;
    }

unfoldable pub written_to : Call → ℕ → Buffers → Buffers
written_to c z s =
    laid c.grid (vertices_to c.grid c.box z) (placed (entry_to c.grid c.box z) 0 s.map) (indices_to c.grid c.box c.flags z) s

abbrev pub made_to : Call → ℕ → Made
made_to c z =
    record {
      vertices = first_vertex c.grid c.box z;
      indices = length (indices_to c.grid c.box c.flags z);
      below = first_vertex c.grid c.box (z - 1);
    }

-- the lists s are what those layers leave of lists t with room, and so much is made
pub record Written (c : Call) (z : ℕ) (t : Buffers) (made : Made) (s : Buffers) : Type 0 where
  pub roomy : Roomy c.grid c.box c.flags c.size t
  pub same : s ≡ written_to c z t
  pub on : made ≡ made_to c z

-- one layer more
unfoldable pub layer_written : Call → ℕ → Made → Buffers → Buffers
layer_written c z made s =
    with_indices (sets s.indices made.indices (layer_indices c.grid c.box c.flags made.vertices z))
    (layer_marked c.grid c.box z made.vertices (lists_of s))

abbrev pub layer_made : Call → ℕ → Made → Made
layer_made c z made =
    record {
      vertices = made.vertices + length (layer_vertices c.grid c.box z);
      indices = made.indices + length (layer_indices c.grid c.box c.flags made.vertices z);
      below = made.vertices;
    }

-- ---- the box's last layer, which has no cells

abbrev pub last_at : GridPoint → Box → ℕ → ℕ → ℕ
last_at d b j old = at_layer d b.high.z (last_entry d b) j old

-- neither of the conditions 1 and 2 applies, and the map is as long as the dimensions say
pub record InMap (map : List ℕ) (k : Block) : Type 0 where
  pub dims : T (not (bad_dimensions (point k.dims)))
  pub box : T (not (bad_box (point k.dims) (box_of k)))
  pub holds : k.dims.x * k.dims.y * k.dims.z ≤ length map

-- ---- what the faces of the layer z look up in the whole lists

pub record Stands (g : Field) (b : Box) (z first below : ℕ) (cs mp : List ℕ) (ps : List Float) : Type 0 where
  pub cells : take (3 * length (layer_vertices g b z)) (drop (3 * first) cs) ≡ flat_points (layer_vertices g b z)
  pub cells_hold : 3 * (first + length (layer_vertices g b z)) ≤ length cs
  pub positions : take (3 * length (layer_vertices g b z)) (drop (3 * first) ps) ≡ flat_vectors (map (vertex_position g) (layer_vertices g b z))
  pub positions_hold : 3 * (first + length (layer_vertices g b z)) ≤ length ps
  pub under : b.low.z < z → take (3 * (first - below)) (drop (3 * below) ps) ≡ flat_vectors (map (vertex_position g) (layer_vertices g b (z - 1)))
  pub numbers : (c : GridPoint) → T (is_cell b c) → c.z ≤ z → get_or mp (index g.dims c) 0 ≡ cell_entry g b c
  pub here : first ≡ first_vertex g b z
  pub before : below ≡ first_vertex g b (z - 1)

-- ---- a part of a list of this length, from one place to another, that begins where its bytes can be counted

pub record Lendable (from to size : ℕ) : Type 0 where
  pub ordered : from ≤ to
  pub within : to ≤ size
  pub few : from ≤ 4294967296
