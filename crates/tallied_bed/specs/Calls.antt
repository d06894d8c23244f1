-- A call of the count on a whole grid, and one with a layer: what went in, what was told, and what the contract says of it. Definitions only. Assumes nothing.
use Rattle.std.specs.Prelude.{ℕ, suc, ◌+◌, ◌-◌, ◌≤◌, List, ◌≡◌, Float}
use Rattle.grid.specs.declared.Block.{Block}
use Rattle.grid.specs.Block.{point, box_of}
use Rattle.tally.specs.declared.Counts.{Counts}
use Rattle.tally.specs.Call.{Told, tallied, layer_told}
use Rattle.levelled_bed.specs.Layers.{layer_at, below_nth}

pub record Whole : Type 0 where
  pub sdf : List Float
  pub block : Block
  pub says : Told
  pub said : says ≡ tallied sdf block

pub record Offer : Type 0 where
  pub below : List Float
  pub layer : List Float
  pub block : Block
  pub z : ℕ
  pub sofar : Counts
  pub says : Told
  pub said : says ≡ layer_told below layer block z sofar

-- how many layers the box has above its lowest
abbrev pub last_of : Block → ℕ
last_of k = k.high.z - k.low.z

-- the n-th call has the n-th layer of the grid and the one below it, and the counts that the call before it told; whatever the first one has
pub record InTurn (w : Whole) (o : ℕ → Offer) : Type 0 where
  pub below : (n : ℕ) → n ≤ last_of w.block → (o n).below ≡ below_nth w.sdf (point w.block.dims) (box_of w.block) n
  pub layer : (n : ℕ) → n ≤ last_of w.block → (o n).layer ≡ layer_at w.sdf (point w.block.dims) (w.block.low.z + n)
  pub block : (n : ℕ) → n ≤ last_of w.block → (o n).block ≡ w.block
  pub z : (n : ℕ) → n ≤ last_of w.block → (o n).z ≡ w.block.low.z + n
  pub next : (n : ℕ) → suc n ≤ last_of w.block → (o (suc n)).sofar ≡ (o n).says.counts
