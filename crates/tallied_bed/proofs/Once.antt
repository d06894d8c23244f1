-- One outcome for the same input: what the contracts say settles the answer and each count, refused calls too. Assumes nothing.
use mathlib.Core.Path.{◌≡◌, sym, ◌∙◌}
use Rattle.tally.specs.Call.{tallied, layer_told}
use Rattle.tallied_bed.specs.Calls.{Whole, Offer}

pub record SameWhole (w w' : Whole) : Type 0 where
  pub sdf : w.sdf ≡ w'.sdf
  pub block : w.block ≡ w'.block

pub whole-once : (w w' : Whole) → SameWhole w w' → w.says ≡ w'.says
whole-once w w' s = w.said ∙ ((λ i. tallied (s.sdf i) (s.block i)) ∙ sym w'.said)

pub record SameOffer (o o' : Offer) : Type 0 where
  pub below : o.below ≡ o'.below
  pub layer : o.layer ≡ o'.layer
  pub block : o.block ≡ o'.block
  pub z : o.z ≡ o'.z
  pub sofar : o.sofar ≡ o'.sofar

pub offer-once : (o o' : Offer) → SameOffer o o' → o.says ≡ o'.says
offer-once o o' s = o.said ∙ ((λ i. layer_told (s.below i) (s.layer i) (s.block i) (s.z i) (s.sofar i)) ∙ sym o'.said)
