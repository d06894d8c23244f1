-- What the inner functions ask of a layer that is about to be read or kept: none of the conditions 1, 2, 8, 3 and 4 applies. And the cells that are
-- counted for it. These stand in no contract that another crate sees. Definitions only. Assumes nothing.
use Rattle.std.specs.Prelude.{◌-◌, ◌*◌, ◌≤◌, not, cond, List, [], ◌≡◌, T, eqb, length, Float}
use Rattle.rules.specs.Grid.{GridPoint}
use Rattle.rules.specs.Vertices.{layer_cells}
use Rattle.rules.specs.Call.{bad_dimensions, bad_box}
use Rattle.grid.specs.declared.Block.{Block}
use Rattle.grid.specs.Block.{point, box_of}
use Rattle.layers.specs.declared.State.{State}
use Rattle.layers.specs.Memory.{Memory, plane}
use Rattle.layers.specs.Offer.{Output, cells_at, new_vertices, new_indices}

-- one layer of a block's grid
pub record Layer (k : Block) (layer : List Float) : Type 0 where
  pub dims : T (not (bad_dimensions (point k.dims)))
  pub box : T (not (bad_box (point k.dims) (box_of k)))
  pub long : length layer ≡ plane k

-- it is the state's next one, and two layers of distances are kept
pub record Ready (s : State) (layer distances : List Float) : Type 0 where
  pub offered : Layer s.block layer
  pub more : s.taken ≤ s.block.high.z - s.block.low.z
  pub kept : 2 * plane s.block ≤ length distances

-- and there is room for what it brings out
pub record Roomy (s : State) (layer : List Float) (m : Memory) (o : Output) : Type 0 where
  pub ready : Ready s layer m.distances
  pub map : 2 * plane s.block ≤ length m.map
  pub keeps : 3 * plane s.block ≤ length m.positions
  pub positions : 3 * length (new_vertices s layer m.distances) ≤ length o.positions
  pub normals : 3 * length (new_vertices s layer m.distances) ≤ length o.normals
  pub cells : 3 * length (new_vertices s layer m.distances) ≤ length o.cells
  pub strides : length (new_vertices s layer m.distances) ≤ length o.strides
  pub crossings : length (new_vertices s layer m.distances) ≤ length o.crossings
  pub indices : length (new_indices s layer m) ≤ length o.indices

-- the cells below the layer offered
unfoldable pub new_cells : State → List GridPoint
new_cells s = cond (eqb s.taken 0) [] (layer_cells (box_of s.block) (cells_at s))
