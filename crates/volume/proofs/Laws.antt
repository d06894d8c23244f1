-- Document 02, request 14, about the definition: "Turning every triangle round negates it"; one list after the other is the sum of the two; the
-- order of the triangles, and a turn of a triangle's corners in place, do not matter. Assumes nothing.
use Prim.Native.Nat.{ℕ, ◌%◌}
use native.Mathlib.Omega.{arith}
use mathlib.Core.List.{List, [], ◌∷◌, ◌++◌}
use mathlib.Core.Path.{◌≡◌, refl, sym, ap, ap₂, ◌∙◌}
use lib.IntN.{ℤ, pos, neg_ℤ, ◌+ℤ◌, ◌-ℤ◌, +ℤ_assoc, +ℤ_comm, +ℤ_idl, neg_ℤ-+ℤ}
use lib.ListN.{length}
use Rattle.lists.proofs.Permutation.{Perm, nil, skip, swap, trans}
use Rattle.volume.specs.declared.Corner.{Corner}
use Rattle.volume.specs.Volume.{falling, rising, determinant, sum_over}
use Rattle.volume.specs.Triangles.{turned_round, Rolled, same, kept, rolled, Triangle, triangles}
use Rattle.volume.proofs.Whole.{neg-minus}
use Rattle.volume.proofs.Bounds.{exchanged-falls, exchanged-rises}

-- ---- one triangle

pub round-negates : (a b c : Corner) → determinant a c b ≡ neg_ℤ (determinant a b c)
unfolding determinant
round-negates a b c =
    ap₂ (λ (f r : ℕ). pos f -ℤ pos r) (exchanged-falls a b c) (exchanged-rises a b c) ∙ neg-minus (pos (falling a b c)) (pos (rising a b c))

pub turn-keeps : (a b c : Corner) → determinant a b c ≡ determinant b c a
unfolding determinant
turn-keeps a b c =
    let f : falling a b c ≡ falling b c a = omega arith in
    let r : rising a b c ≡ rising b c a = omega arith in
    ap₂ (λ (m n : ℕ). pos m -ℤ pos n) f r

-- ---- lists

module _ (at : ℕ → Corner) where
  -- "Turning every triangle round negates it."
  pub round-sum : (l : List ℕ) → sum_over at (turned_round l) ≡ neg_ℤ (sum_over at l)
  unfolding sum_over turned_round
  round-sum [] = refl
  round-sum (i ∷ []) = refl
  round-sum (i ∷ j ∷ []) = refl
  round-sum (i ∷ j ∷ k ∷ is) =
      ap₂ ◌+ℤ◌ (round-negates (at i) (at j) (at k)) (round-sum is) ∙ sym (neg_ℤ-+ℤ (determinant (at i) (at j) (at k)) (sum_over at is))

  -- "the answer for one after the other is the sum of the two"
  pub joined-sum : (s t : List ℕ) → length s % 3 ≡ 0 → sum_over at (s ++ t) ≡ sum_over at s +ℤ sum_over at t
  unfolding sum_over
  joined-sum [] t h = sym (+ℤ_idl (sum_over at t))
  joined-sum (i ∷ []) t h = absurd (omega arith)
  joined-sum (i ∷ j ∷ []) t h = absurd (omega arith)
  joined-sum (i ∷ j ∷ k ∷ is) t h =
      ap (λ (n : ℤ). determinant (at i) (at j) (at k) +ℤ n) (joined-sum is t (omega arith))
      ∙ sym (+ℤ_assoc (determinant (at i) (at j) (at k)) (sum_over at is) (sum_over at t))

  -- some triangles turned in place
  pub rolled-sum : {s t : List ℕ} → Rolled s t → sum_over at s ≡ sum_over at t
  unfolding sum_over
  rolled-sum same = refl
  rolled-sum (kept {i = i} {j = j} {k = k} r) = ap (λ (n : ℤ). determinant (at i) (at j) (at k) +ℤ n) (rolled-sum r)
  rolled-sum (rolled {i = i} {j = j} {k = k} r) = ap₂ ◌+ℤ◌ (turn-keeps (at i) (at j) (at k)) (rolled-sum r)

  -- the sum over the triangles, one after the other
  unfoldable pub sum_of : List Triangle → ℤ
  sum_of [] = pos 0
  sum_of (t ∷ ts) = determinant (at t.first) (at t.second) (at t.third) +ℤ sum_of ts

  pub sum-triangles : (l : List ℕ) → sum_over at l ≡ sum_of (triangles l)
  unfolding sum_over triangles sum_of
  sum-triangles [] = refl
  sum-triangles (i ∷ []) = refl
  sum-triangles (i ∷ j ∷ []) = refl
  sum-triangles (i ∷ j ∷ k ∷ is) = ap (λ (n : ℤ). determinant (at i) (at j) (at k) +ℤ n) (sum-triangles is)

  -- a + (b + n) = b + (a + n)
  past : (a b n : ℤ) → a +ℤ (b +ℤ n) ≡ b +ℤ (a +ℤ n)
  past a b n = sym (+ℤ_assoc a b n) ∙ ap (λ (m : ℤ). m +ℤ n) (+ℤ_comm a b) ∙ +ℤ_assoc b a n

  perm-sum : {s t : List Triangle} → Perm s t → sum_of s ≡ sum_of t
  unfolding sum_of
  perm-sum nil = refl
  perm-sum (skip {x = x} p) = ap (λ (n : ℤ). determinant (at x.first) (at x.second) (at x.third) +ℤ n) (perm-sum p)
  perm-sum (swap {x = x} {y = y} {s = s}) =
      past (determinant (at x.first) (at x.second) (at x.third)) (determinant (at y.first) (at y.second) (at y.third)) (sum_of s)
  perm-sum (trans p q) = perm-sum p ∙ perm-sum q

  -- the triangles in another order
  pub order-sum : (s t : List ℕ) → Perm (triangles s) (triangles t) → sum_over at s ≡ sum_over at t
  order-sum s t p = sum-triangles s ∙ perm-sum p ∙ sym (sum-triangles t)
