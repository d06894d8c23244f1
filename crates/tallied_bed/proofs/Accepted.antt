-- What the answer 0 says of a whole grid, and so of each of its layers. Assumes nothing.
use Prim.Native.Nat.{ℕ, ◌+◌, ◌-◌, ◌≤◌}
use native.Mathlib.Nat.{le_refl}
use native.Mathlib.Omega.{arith}
use mathlib.Core.Bool.{Bool, true, false, cond}
use mathlib.Core.List.{List}
use mathlib.Core.Path.{◌≡◌, refl, sym, ◌∙◌}
use lib.ListN.{length}
use lib.Ieee.{Float}
use Rattle.rules.specs.Call.{bad_dimensions, bad_box, bad_length, bad_distance}
use Rattle.grid.specs.declared.Block.{Block}
use Rattle.grid.specs.Block.{point, box_of, flags_of, field_of}
use Rattle.levels.specs.Columns.{columns}
use Rattle.levels.proofs.Answering.{Accepted, layer-offered}
use Rattle.levelled_bed.specs.Layers.{layer_at, below_nth}
use Rattle.levelled_bed.proofs.Layered.{layer-accepted}
use Rattle.tally.specs.Call.{Told, told, counts_of, tally_answer, tallied}
use Rattle.tally.proofs.Answering.{Good, tallied-0}

-- the conditions in their order
abbrev numbered : Bool → Bool → Bool → Bool → ℕ
numbered p q r s = cond p 1 (cond q 2 (cond r 3 (cond s 5 0)))

module _ (sdf : List Float) (k : Block) where
  -- as the levels have it, with room for each column
  pub accepted : tally_answer sdf k ≡ 0 → Accepted sdf (point k.dims) (box_of k) (columns (box_of k))
  unfolding tally_answer
  accepted =
      go (bad_dimensions (point k.dims)) (bad_box (point k.dims) (box_of k)) (bad_length (point k.dims) (length sdf)) (bad_distance (field_of sdf k) (box_of k))
      refl refl refl refl
    where
      go : (p q r s : Bool) → bad_dimensions (point k.dims) ≡ p → bad_box (point k.dims) (box_of k) ≡ q → bad_length (point k.dims) (length sdf) ≡ r
          → bad_distance (field_of sdf k) (box_of k) ≡ s → numbered p q r s ≡ 0 → Accepted sdf (point k.dims) (box_of k) (columns (box_of k))
      go true q r s e1 e2 e3 e4 e = absurd (omega arith)
      go false true r s e1 e2 e3 e4 e = absurd (omega arith)
      go false false true s e1 e2 e3 e4 e = absurd (omega arith)
      go false false false true e1 e2 e3 e4 e = absurd (omega arith)
      go false false false false e1 e2 e3 e4 e =
          record { faultless = record { dims = e1; box = e2; size = e3 }; distances = e4; room-holds = le_refl (columns (box_of k)) }

  module _ (a : Accepted sdf (point k.dims) (box_of k) (columns (box_of k))) where
    -- the three counts are told
    pub counts-told : tallied sdf k ≡ told 0 (counts_of (field_of sdf k) (box_of k) (flags_of k))
    counts-told = sym (tallied-0 sdf k a.faultless a.distances)

    -- no condition of a layer holds
    pub layer-good : (n : ℕ) → n ≤ k.high.z - k.low.z
        → Good (below_nth sdf (point k.dims) (box_of k) n) (layer_at sdf (point k.dims) (k.low.z + n)) k (k.low.z + n)
    layer-good n h =
        let d = point k.dims in
        let b = box_of k in
        let o = layer-offered (below_nth sdf d b n) (layer_at sdf d (k.low.z + n)) d b (k.low.z + n) (columns b) (layer-accepted sdf d b a n h) in
        record { dims = o.dims; box = o.box; inside = o.inside; lengths = o.lengths; distances = o.distances }

-- a call answered 0
pub done-told : {says : Told} (sdf : List Float) (k : Block) → says ≡ tallied sdf k → says.answer ≡ 0 → tally_answer sdf k ≡ 0
unfolding tallied
done-told sdf k e h = sym (λ i. (e i).answer) ∙ h
