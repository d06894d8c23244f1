-- The seven lent lists as the rules have them, and as contracts have them, and the room that a whole mesh needs. Definitions only. Assumes nothing.
use Rattle.std.specs.Prelude.{ℕ, ◌*◌, ◌≤◌, List, length, Float}
use Rattle.std.specs.Borrow.{MutBor}
use Rattle.rules.specs.Grid.{Box, Field}
use Rattle.rules.specs.Vertices.{vertices}
use Rattle.rules.specs.Faces.{Flags}
use Rattle.rules.specs.Call.{Buffers}
use Rattle.layer_vertices.specs.Marked.{Lists, lists}
use Rattle.layer_vertices.specs.Lent.{Lent}

abbrev pub buffers : List Float → List Float → List ℕ → List ℕ → List ℕ → List ℕ → List ℕ → Buffers
buffers positions normals cells strides crossings map indices =
    record { positions = positions; normals = normals; cells = cells; strides = strides; crossings = crossings; map = map; indices = indices }

-- all but the indices, where the vertices go; and with indices again
abbrev pub lists_of : Buffers → Lists
lists_of s = lists s.positions s.normals s.cells s.strides s.crossings s.map

abbrev pub with_indices : List ℕ → Lists → Buffers
with_indices indices s = buffers s.positions s.normals s.cells s.strides s.crossings s.map indices

-- ---- a parameter in a `requires`, and its pair of entry and exit in an `ensures`

abbrev pub buffers_given : MutBor (List Float) → MutBor (List Float) → MutBor (List ℕ) → MutBor (List ℕ) → MutBor (List ℕ) → MutBor (List ℕ) → MutBor (List ℕ) → Buffers
buffers_given positions normals cells strides crossings map indices =
    buffers positions.now normals.now cells.now strides.now crossings.now map.now indices.now

abbrev pub buffers_before : Lent Float → Lent Float → Lent ℕ → Lent ℕ → Lent ℕ → Lent ℕ → Lent ℕ → Buffers
buffers_before positions normals cells strides crossings map indices =
    buffers_given positions.entry normals.entry cells.entry strides.entry crossings.entry map.entry indices.entry

abbrev pub buffers_after : Lent Float → Lent Float → Lent ℕ → Lent ℕ → Lent ℕ → Lent ℕ → Lent ℕ → Buffers
buffers_after positions normals cells strides crossings map indices =
    buffers_given positions.exit normals.exit cells.exit strides.exit crossings.exit map.exit indices.exit

-- ---- room

-- there is room for the whole mesh, and the map is as long as the grid
pub record Roomy (g : Field) (b : Box) (m : Flags) (size : ℕ) (s : Buffers) : Type 0 where
  pub positions : 3 * length (vertices g b) ≤ length s.positions
  pub normals : 3 * length (vertices g b) ≤ length s.normals
  pub cells : 3 * length (vertices g b) ≤ length s.cells
  pub strides : length (vertices g b) ≤ length s.strides
  pub crossings : length (vertices g b) ≤ length s.crossings
  pub map : size ≤ length s.map
  pub indices : length (Rattle.rules.specs.Faces.indices g b m) ≤ length s.indices
