-- A turn of the walk over rows whose codes are kept: the row read to the half that is free leaves the row before it where it stands. Assumes nothing.
use Prim.Native.Nat.{ℕ, ◌+◌, ◌-◌, ◌≤◌}
use native.Mathlib.Omega.{arith}
use mathlib.Core.List.{List}
use mathlib.Core.Logic.{inl}
use mathlib.Core.Path.{◌≡◌, refl, ◌∙◌}
use lib.ListN.{length}
use lib.Ieee.{Float}
use Rattle.grid.specs.declared.Block.{Block}
use Rattle.row_signs.specs.Codes.{row_kept, Kept, Half}
use Rattle.row_signs.proofs.Keeping.{Reads, kept-length, just-read, still_kept, half-fits, other_half, halves-apart}

-- the row y stands in a half of the list
pub record Holds (lower upper : List Float) (k : Block) (y here : ℕ) (codes : List ℕ) : Type 0 where
  pub half : Half here
  pub long : length codes ≡ 2048
  pub kept : Kept lower upper k y here codes

-- and the next row is read to the other
pub record Turn (lower upper : List Float) (k : Block) (y here : ℕ) (codes' : List ℕ) : Type 0 where
  pub near : Kept lower upper k y here codes'
  pub next : Holds lower upper k (y + 1) (1024 - here) codes'
  pub near_fits : here + 1024 ≤ length codes'
  pub far-fits : 1024 - here + 1024 ≤ length codes'

module _ {lower upper : List Float} {k : Block} {y : ℕ} where
  pub begun : {codes codes' : List ℕ} → Reads lower upper k y 0 codes codes' → length codes ≡ 2048 → Holds lower upper k y 0 codes'
  begun r long = record { half = inl refl; long = kept-length r ∙ long; kept = just-read r (omega arith) }

  module _ {here : ℕ} {codes : List ℕ} (h : Holds lower upper k y here codes) where
    pub is_free : 1024 - here + 1024 ≤ length codes
    is_free = let f = half-fits (other_half h.half) in let l = h.long in omega arith

    pub turned : {codes' : List ℕ} → codes' ≡ row_kept lower upper k (y + 1) (1024 - here) codes → Turn lower upper k y here codes'
    turned e =
        let r : Reads lower upper k (y + 1) (1024 - here) codes _ = record { same = e } in
        let long = kept-length r ∙ h.long in
        let near = half-fits h.half in
        let far = half-fits (other_half h.half) in
        record {
          near = still_kept r h.kept (halves-apart h.half);
          next = record { half = other_half h.half; long = long; kept = just-read r is_free };
          near_fits = omega arith;
          far-fits = omega arith;
        }
