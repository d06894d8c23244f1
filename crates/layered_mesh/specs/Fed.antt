-- A bed taken layer by layer: an offer with what came of it, as the contract says it, and the layers of a grid offered in turn, with any refused offers
-- between them. State and kept memory are handed on untouched. Definitions only. Assumes nothing.
use Rattle.std.specs.Prelude.{ℕ, zero, suc, ◌+◌, ◌-◌, ◌*◌, List, [], ◌++◌, ◌≡◌, take, drop, Float}
use Rattle.rules.specs.Grid.{GridPoint}
use Rattle.rules.specs.Vertices.{layer_vertices, first_vertex}
use Rattle.rules.specs.Faces.{layer_indices}
use Rattle.rules.specs.Call.{Buffers, Answer}
use Rattle.grid.specs.declared.Block.{Block}
use Rattle.grid.specs.Block.{box_of, flags_of, field_of}
use Rattle.layers.specs.declared.State.{State}
use Rattle.layers.specs.Memory.{Memory, lengths, plane, start_answer}
use Rattle.layers.specs.Offer.{begun, Output, output, room_in, Left, layer_answer, state_after, leaves}

-- ---- an offer as it was made

-- what went in, the answer with V and I, the next state, and kept memory and the lists lent for output afterwards; the last three are what the contracts
-- of `offer` and bed_layers_offer say: proofs/Runs makes one of each call that fits its contract
pub record Offered : Type 0 where
  pub state : State
  pub layer : List Float
  pub memory : Memory
  pub lent : Output
  pub says : Answer
  pub next : State
  pub after : Left
  pub answered : says ≡ layer_answer state layer memory (room_in memory lent)
  pub moved : next ≡ state_after state layer memory lent
  pub left : after ≡ leaves state layer memory lent

-- ---- meshes

-- the first 3V, 3V, 3V, V, V and I numbers of lists
abbrev pub first_of : ℕ → ℕ → Output → Output
first_of v i o =
    output (take (3 * v) o.positions) (take (3 * v) o.normals) (take (3 * v) o.cells) (take v o.strides) (take v o.crossings) (take i o.indices)

-- what an offer wrote
abbrev pub wrote : Offered → Output
wrote u = first_of u.says.vertices u.says.indices u.after.output

-- one mesh's lists after another's, each list by itself
abbrev pub joined_with : Output → Output → Output
joined_with a b =
    output (a.positions ++ b.positions) (a.normals ++ b.normals) (a.cells ++ b.cells) (a.strides ++ b.strides) (a.crossings ++ b.crossings) (a.indices ++ b.indices)

abbrev pub nothing : Output
nothing = output [] [] [] [] [] []

-- the lists of a whole call, its map apart
abbrev pub map_apart : Buffers → Output
map_apart s = output s.positions s.normals s.cells s.strides s.crossings s.indices

-- ---- the layers of a grid

-- the X·Y distances of the layer z
abbrev pub layer_of : List Float → Block → ℕ → List Float
layer_of sdf k z = take (plane k) (drop (plane k * z) sdf)

-- n layers of the grid were taken, from min z on; the state and the kept memory are these, and what came out, joined in order, is `out`
pub data Fed (sdf : List Float) (k : Block) : ℕ → State → Memory → Output → Type 0 where
  started : (m : Memory) → start_answer k (lengths m) ≡ 0 → Fed sdf k zero (begun k) m nothing
  taken : {n : ℕ} {s : State} {m : Memory} {out : Output} → Fed sdf k n s m out → (u : Offered) → u.state ≡ s → u.memory ≡ m
      → u.layer ≡ layer_of sdf k (k.low.z + n) → u.says.number ≡ 0 → Fed sdf k (suc n) u.next u.after.memory (joined_with out (wrote u))
  refused : {n : ℕ} {s : State} {m : Memory} {out : Output} → Fed sdf k n s m out → (u : Offered) → u.state ≡ s → u.memory ≡ m
      → (u.says.number ≡ 0 → ⊥) → Fed sdf k n u.next u.after.memory out

-- what comes out with the layer number n of the grid's box: nothing with the first, and then the vertices and the indices of the cells between it and the layer before
abbrev pub vertices_with : List Float → Block → ℕ → List GridPoint
vertices_with sdf k zero = []
vertices_with sdf k (suc n) = layer_vertices (field_of sdf k) (box_of k) (k.low.z + n)

abbrev pub indices_with : List Float → Block → ℕ → List ℕ
indices_with sdf k zero = []
indices_with sdf k (suc n) = layer_indices (field_of sdf k) (box_of k) (flags_of k) (first_vertex (field_of sdf k) (box_of k) (k.low.z + n)) (k.low.z + n)

-- how many layers of points the box has
abbrev pub points_in_z : Block → ℕ
points_in_z k = k.high.z - k.low.z + 1
