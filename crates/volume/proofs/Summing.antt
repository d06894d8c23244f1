-- The sum as the loop makes it: triangle by triangle from the front, in 64 bits. Assumes nothing.
use Prim.Native.Nat.{ℕ, suc, ◌+◌, ◌*◌, ◌^◌, ◌≤◌, ◌<◌}
use native.Mathlib.Omega.{arith}
use mathlib.Core.List.{List, ◌∷◌}
use mathlib.Core.Path.{◌≡◌, ap, ◌∙◌}
use lib.IntN.{ℤ, pos, nat_abs, ◌+ℤ◌}
use lib.ListN.{length, get_or, drop, drop_of_length-le}
use lib.Seq.{drop-cons}
use mir.Syntax.{w64}
use mir.Val.{SFits, to_z, of_z}
use mir.Facts.{to_z-of_z}
use Rattle.volume.specs.declared.Corner.{Corner}
use Rattle.volume.specs.Volume.{determinant, sum_over}
use Rattle.volume.proofs.Bounds.{sum-most, fits-64}

module _ (at : ℕ → Corner) (l : List ℕ) where
  -- the triangle at a place, and then those after it
  pub sum-from : (i : ℕ) → i + 2 < length l
      → sum_over at (drop i l) ≡ determinant (at (get_or l i 0)) (at (get_or l (i + 1) 0)) (at (get_or l (i + 2) 0)) +ℤ sum_over at (drop (i + 3) l)
  unfolding sum_over
  sum-from i h =
      let a : drop i l ≡ get_or l i 0 ∷ drop (suc i) l = drop-cons l i 0 (omega arith) in
      let b : drop (suc i) l ≡ get_or l (suc i) 0 ∷ drop (suc (suc i)) l = drop-cons l (suc i) 0 (omega arith) in
      let d : drop (suc (suc i)) l ≡ get_or l (suc (suc i)) 0 ∷ drop (suc (suc (suc i))) l = drop-cons l (suc (suc i)) 0 (omega arith) in
      let p : suc i ≡ i + 1 = omega arith in
      let q : suc (suc i) ≡ i + 2 = omega arith in
      let r : suc (suc (suc i)) ≡ i + 3 = omega arith in
      ap (sum_over at) (a ∙ ap (λ (m : List ℕ). get_or l i 0 ∷ m) (b ∙ ap (λ (m : List ℕ). get_or l (suc i) 0 ∷ m) d))
      ∙ (λ j. determinant (at (get_or l i 0)) (at (get_or l (p j) 0)) (at (get_or l (q j) 0)) +ℤ sum_over at (drop (r j) l))

  pub sum_past : (i : ℕ) → length l ≤ i → sum_over at (drop i l) ≡ pos 0
  unfolding sum_over
  sum_past i h = ap (sum_over at) (drop_of_length-le l h)

-- one more determinant, onto a sum in 64 bits
module _ (s : ℕ) (r : ℤ) (k : ℕ) (so_far : nat_abs (to_z w64 s) ≤ k * 2 ^ 46) (most : nat_abs r ≤ 2 ^ 46) (few : k < 16384) where
  abbrev next : ℤ
  next = to_z w64 s +ℤ to_z w64 (of_z w64 r)

  read_back : to_z w64 (of_z w64 r) ≡ r
  read_back = to_z-of_z {w = w64} (fits-64 r (omega arith))

  next-is : next ≡ to_z w64 s +ℤ r
  next-is = ap (λ (z : ℤ). to_z w64 s +ℤ z) read_back

  pub next-most : nat_abs (to_z w64 s +ℤ r) ≤ (k + 1) * 2 ^ 46
  next-most = omega (arith, sum-most (to_z w64 s) r)

  pub next_fits : SFits w64 next
  next_fits = rw next-is (fits-64 (to_z w64 s +ℤ r) (omega (arith, next-most)))

  pub next-read : to_z w64 (of_z w64 next) ≡ to_z w64 s +ℤ r
  next-read = to_z-of_z {w = w64} next_fits ∙ next-is
