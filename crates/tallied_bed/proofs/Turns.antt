-- Of every whole call there are calls in turn, whatever the first one has in its counts: each with what the contract says of it. So the layers' theorem speaks of something.
-- Assumes nothing.
use Prim.Native.Nat.{ℕ, zero, suc, ◌+◌}
use mathlib.Core.List.{List}
use mathlib.Core.Path.{refl}
use lib.Ieee.{Float}
use Rattle.grid.specs.Block.{point, box_of}
use Rattle.levelled_bed.specs.Layers.{layer_at, below_nth}
use Rattle.tally.specs.declared.Counts.{Counts}
use Rattle.tally.specs.Call.{layer_told}
use Rattle.tallied_bed.specs.Calls.{Whole, Offer, InTurn}

module _ (w : Whole) (first : Counts) where
  abbrev pub layer-n : ℕ → List Float
  layer-n n = layer_at w.sdf (point w.block.dims) (w.block.low.z + n)

  abbrev pub below-n : ℕ → List Float
  below-n n = below_nth w.sdf (point w.block.dims) (box_of w.block) n

  abbrev pub offer_with : ℕ → Counts → Offer
  offer_with n c =
      record {
        below = below-n n;
        layer = layer-n n;
        block = w.block;
        z = w.block.low.z + n;
        sofar = c;
        says = layer_told (below-n n) (layer-n n) w.block (w.block.low.z + n) c;
        said = refl;
      }

  -- the counts that the n-th call has
  unfoldable pub counts_at : ℕ → Counts
  counts_at zero = first
  counts_at (suc n) = (offer_with n (counts_at n)).says.counts

  pub some-turns : InTurn w (λ (n : ℕ). offer_with n (counts_at n))
  unfolding counts_at
  some-turns = record { below = λ n h. refl; layer = λ n h. refl; block = λ n h. refl; z = λ n h. refl; next = λ n h. refl }
