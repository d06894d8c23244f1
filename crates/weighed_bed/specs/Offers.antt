-- A bed taken layer by layer and weighed on the way: after each layer taken, a call of the weighing on the triangles that it brought out, with the positions that the
-- layer before it brought out and then its own. Definitions only. Assumes nothing.
use Rattle.std.specs.Prelude.{ℕ, ◌-◌, ◌/◌, List, [], ◌∷◌, ◌++◌, Float, length}
use Rattle.grid.specs.declared.Block.{Block}
use Rattle.layers.specs.declared.State.{State}
use Rattle.layers.specs.Memory.{Memory}
use Rattle.layers.specs.Offer.{Output}
use Rattle.layered_mesh.specs.Fed.{wrote, Fed, started, taken, refused}
use Rattle.weigh.specs.Answers.{Answer, weight}

-- what a call of the weighing is given
pub record Asked : Type 0 where
  pub positions : List Float
  pub first : ℕ
  pub indices : List ℕ

abbrev pub asked : List Float → ℕ → List ℕ → Asked
asked positions first indices = record { positions = positions; first = first; indices = indices }

abbrev pub answered : Asked → Answer
answered a = weight a.positions a.first a.indices

-- the positions that the last layer taken brought out: none before the first
unfoldable pub last_positions : {sdf : List Float} {k : Block} {n : ℕ} {s : State} {m : Memory} {out : Output} → Fed sdf k n s m out → List Float
last_positions (started m e) = []
last_positions (taken f u a b c d) = (wrote u).positions
last_positions (refused f u a b c) = last_positions f

-- the calls of the weighing, one for each layer taken: `first` is the number of vertices brought out before the layer below
unfoldable pub all_asked : {sdf : List Float} {k : Block} {n : ℕ} {s : State} {m : Memory} {out : Output} → Fed sdf k n s m out → List Asked
all_asked (started m e) = []
all_asked (taken {out = out} f u a b c d) =
    all_asked f ++ (asked (last_positions f ++ (wrote u).positions) (length out.positions / 3 - length (last_positions f) / 3) (wrote u).indices ∷ [])
all_asked (refused f u a b c) = all_asked f
