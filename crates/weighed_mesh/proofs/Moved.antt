-- Document 02, request 14: "adding the same whole steps to every rounded coordinate .. leaves the volume unchanged", for any list of triangles in
-- which each directed side occurs as often as its reverse. A determinant whose corners move along x changes by as many times the sum, over
-- the triangle's three directed sides, of y·z' - z·y' of the side's ends. That is turned about by a reversal, so it cancels over all sides.
-- Assumes nothing.
use Prim.Native.Nat.{ℕ, suc, ◌+◌, ◌-◌, ◌*◌, ◌≤◌}
use native.Mathlib.Omega.{arith}
use mathlib.Core.Bool.{Bool, true, false, not, cond}
use mathlib.Core.List.{List, [], ◌∷◌}
use mathlib.Core.Path.{◌≡◌, refl, sym, ap, ap₂, ◌∙◌}
use lib.Dec.{T, ltb, nltb→le}
use lib.IntN.{ℤ, pos, negsuc, nat_abs, ◌+ℤ◌, ◌-ℤ◌, pos-ne-negsuc}
use Rattle.lists.proofs.Lists.{All, none, more, all_then, total}
use Rattle.skin.specs.Links.{Link, links}
use Rattle.volume.specs.declared.Corner.{Corner}
use Rattle.volume.specs.Volume.{corner, falling, rising, determinant, sum_over}
use Rattle.volume.proofs.Whole.{minus_plus, minus-same}
use Rattle.weighed_mesh.proofs.Sides.{Even, even-total}

-- ---- the sum as the products that fall, less those that rise

module _ (at : ℕ → Corner) where
  unfoldable all_falling : List ℕ → ℕ
  all_falling [] = 0
  all_falling (i ∷ []) = 0
  all_falling (i ∷ j ∷ []) = 0
  all_falling (i ∷ j ∷ k ∷ is) = falling (at i) (at j) (at k) + all_falling is

  unfoldable all_rising : List ℕ → ℕ
  all_rising [] = 0
  all_rising (i ∷ []) = 0
  all_rising (i ∷ j ∷ []) = 0
  all_rising (i ∷ j ∷ k ∷ is) = rising (at i) (at j) (at k) + all_rising is

  sum-parts : (l : List ℕ) → sum_over at l ≡ pos (all_falling l) -ℤ pos (all_rising l)
  unfolding sum_over all_falling all_rising determinant
  sum-parts [] = refl
  sum-parts (i ∷ []) = refl
  sum-parts (i ∷ j ∷ []) = refl
  sum-parts (i ∷ j ∷ k ∷ is) =
      ap (λ (n : ℤ). (pos (falling (at i) (at j) (at k)) -ℤ pos (rising (at i) (at j) (at k))) +ℤ n) (sum-parts is)
      ∙ sym (minus_plus (falling (at i) (at j) (at k)) (rising (at i) (at j) (at k)) (all_falling is) (all_rising is))

-- ---- along x

-- n steps along x, and none on the other axes
abbrev Along : ℕ → Corner → Corner → Type 0
Along n a b = (b.x ≡ a.x + n) × (b.y ≡ a.y) × (b.z ≡ a.z)

module _ (n : ℕ) (ax ay az bx by bz cx cy cz : ℕ) where
  more-falling : (ax + n) * by * cz + ay * bz * (cx + n) + az * (bx + n) * cy ≡ (ax * by * cz + ay * bz * cx + az * bx * cy) + n * (ay * bz + (by * cz + (cy * az + 0)))
  more-falling = omega arith

  more-rising : (ax + n) * bz * cy + ay * (bx + n) * cz + az * by * (cx + n) ≡ (ax * bz * cy + ay * bx * cz + az * by * cx) + n * (by * az + (cy * bz + (ay * cz + 0)))
  more-rising = omega arith

gather : (n f f' r r' a b c t : ℕ) → f' ≡ f + n * (a + (b + (c + 0))) → r' ≡ r + n * t → f' + r' ≡ f + r + n * (a + (b + (c + t)))
gather n f f' r r' a b c t h k = omega arith

-- what is added to the products of a side from one vertex to another
abbrev across : (ℕ → Corner) → ℕ → ℕ → ℕ
across at i j = (at i).y * (at j).z

module _ (n : ℕ) (at at' : ℕ → Corner) where
  along-falling : (l : List ℕ) → All (λ (i : ℕ). Along n (at i) (at' i)) l → all_falling at' l ≡ all_falling at l + n * total (λ (s : Link). across at s.tail s.head) (links l)
  unfolding all_falling links total
  along-falling [] none = omega arith
  along-falling (i ∷ []) m = omega arith
  along-falling (i ∷ j ∷ []) m = omega arith
  along-falling (i ∷ j ∷ k ∷ is) (more p (more q (more r rest))) =
      let e : falling (at' i) (at' j) (at' k) ≡ ((at i).x + n) * (at j).y * (at k).z + (at i).y * (at j).z * ((at k).x + n) + (at i).z * ((at j).x + n) * (at k).y
      = λ u. p.0 u * q.1 u * r.2 u + p.1 u * q.2 u * r.0 u + p.2 u * q.0 u * r.1 u in
      gather n (falling (at i) (at j) (at k)) (falling (at' i) (at' j) (at' k)) (all_falling at is) (all_falling at' is)
      (across at i j) (across at j k) (across at k i) (total (λ (s : Link). across at s.tail s.head) (links is))
      (e ∙ more-falling n (at i).x (at i).y (at i).z (at j).x (at j).y (at j).z (at k).x (at k).y (at k).z) (along-falling is rest)

  along-rising : (l : List ℕ) → All (λ (i : ℕ). Along n (at i) (at' i)) l → all_rising at' l ≡ all_rising at l + n * total (λ (s : Link). across at s.head s.tail) (links l)
  unfolding all_rising links total
  along-rising [] none = omega arith
  along-rising (i ∷ []) m = omega arith
  along-rising (i ∷ j ∷ []) m = omega arith
  along-rising (i ∷ j ∷ k ∷ is) (more p (more q (more r rest))) =
      let e : rising (at' i) (at' j) (at' k) ≡ ((at i).x + n) * (at j).z * (at k).y + (at i).y * ((at j).x + n) * (at k).z + (at i).z * (at j).y * ((at k).x + n)
      = λ u. p.0 u * q.2 u * r.1 u + p.1 u * q.0 u * r.2 u + p.2 u * q.1 u * r.0 u in
      gather n (rising (at i) (at j) (at k)) (rising (at' i) (at' j) (at' k)) (all_rising at is) (all_rising at' is)
      (across at j i) (across at k j) (across at i k) (total (λ (s : Link). across at s.head s.tail) (links is))
      (e ∙ more-rising n (at i).x (at i).y (at i).z (at j).x (at j).y (at j).z (at k).x (at k).y (at k).z) (along-rising is rest)

  along-x : (l : List ℕ) → Even (links l) → All (λ (i : ℕ). Along n (at i) (at' i)) l → sum_over at' l ≡ sum_over at l
  along-x l even m =
      let s : ℕ = n * total (λ (s : Link). across at s.tail s.head) (links l) in
      let same : n * total (λ (s : Link). across at s.head s.tail) (links l) ≡ s = ap (λ (k : ℕ). n * k) (sym (even-total (across at) (links l) even)) in
      sum-parts at' l
      ∙ ap₂ (λ (f r : ℕ). pos f -ℤ pos r) (along-falling l m) (along-rising l m ∙ ap (λ (k : ℕ). all_rising at l + k) same)
      ∙ minus-same (all_falling at l) (all_rising at l) s
      ∙ sym (sum-parts at l)

-- ---- up or down along x

pos_sum : (m k n : ℕ) → pos m ≡ pos k +ℤ pos n → m ≡ k + n
pos_sum m k n e = ap nat_abs e

pos-less : (m k n : ℕ) → pos m ≡ pos k +ℤ negsuc n → k ≡ m + suc n
pos-less m k n e = go (ltb k (suc n)) (nltb→le k (suc n)) e
  where
    go : (t : Bool) → (T (not t) → suc n ≤ k) → pos m ≡ cond t (negsuc (suc n - suc k)) (pos (k - suc n)) → k ≡ m + suc n
    go true h e = absurd (pos-ne-negsuc m (suc n - suc k) e)
    go false h e = let f : m ≡ k - suc n = ap nat_abs e in omega (arith, h tt)

-- t steps along x, up or down, and none on the other axes
abbrev Slides : ℤ → Corner → Corner → Type 0
Slides t a b = (pos b.x ≡ pos a.x +ℤ t) × (b.y ≡ a.y) × (b.z ≡ a.z)

slide-x : (t : ℤ) (at at' : ℕ → Corner) (l : List ℕ) → Even (links l) → All (λ (i : ℕ). Slides t (at i) (at' i)) l → sum_over at' l ≡ sum_over at l
slide-x (pos n) at at' l even m =
    along-x n at at' l even (all_then (λ (i : ℕ) (h : Slides (pos n) (at i) (at' i)). (pos_sum (at' i).x (at i).x n h.0, h.1, h.2)) m)
slide-x (negsuc n) at at' l even m =
    sym
    (along-x (suc n) at' at l even
    (all_then (λ (i : ℕ) (h : Slides (negsuc n) (at i) (at' i)). (pos-less (at' i).x (at i).x n h.0, sym h.1, sym h.2)) m))

-- ---- along each axis

-- x to y to z to x: the determinant stays
abbrev turned : Corner → Corner
turned a = corner a.y a.z a.x

turned-sum : (at : ℕ → Corner) (l : List ℕ) → sum_over (λ (i : ℕ). turned (at i)) l ≡ sum_over at l
unfolding sum_over determinant
turned-sum at [] = refl
turned-sum at (i ∷ []) = refl
turned-sum at (i ∷ j ∷ []) = refl
turned-sum at (i ∷ j ∷ k ∷ is) =
    let f : falling (turned (at i)) (turned (at j)) (turned (at k)) ≡ falling (at i) (at j) (at k) = omega arith in
    let r : rising (turned (at i)) (turned (at j)) (turned (at k)) ≡ rising (at i) (at j) (at k) = omega arith in
    ap₂ ◌+ℤ◌ (ap₂ (λ (m n : ℕ). pos m -ℤ pos n) f r) (turned-sum at is)

-- one whole number for each axis
pub record Shift : Type 0 where
  pub x : ℤ
  pub y : ℤ
  pub z : ℤ

-- "adding the same whole steps to every rounded coordinate"
pub record Moves (t : Shift) (a b : Corner) : Type 0 where
  pub x : pos b.x ≡ pos a.x +ℤ t.x
  pub y : pos b.y ≡ pos a.y +ℤ t.y
  pub z : pos b.z ≡ pos a.z +ℤ t.z

-- for any two ways to place the vertices, one moved from the other
pub moved_sum : (t : Shift) (at at' : ℕ → Corner) (l : List ℕ) → Even (links l) → All (λ (i : ℕ). Moves t (at i) (at' i)) l → sum_over at' l ≡ sum_over at l
moved_sum t at at' l even m =
    sym (turned-sum at' l)
    ∙ sym (turned-sum (λ (i : ℕ). turned (at' i)) l)
    ∙ slide-x t.z (λ (i : ℕ). turned (turned (at₂ i))) (λ (i : ℕ). turned (turned (at' i))) l even (all_then (λ (i : ℕ) (h : Moves t (at i) (at' i)). (h.z, refl, refl)) m)
    ∙ turned-sum (λ (i : ℕ). turned (at₂ i)) l
    ∙ slide-x t.y (λ (i : ℕ). turned (at₁ i)) (λ (i : ℕ). turned (at₂ i)) l even (all_then (λ (i : ℕ) (h : Moves t (at i) (at' i)). (h.y, refl, refl)) m)
    ∙ turned-sum at₁ l
    ∙ slide-x t.x at at₁ l even (all_then (λ (i : ℕ) (h : Moves t (at i) (at' i)). (h.x, refl, refl)) m)
  where
    at₁ : ℕ → Corner
    at₁ i = corner (at' i).x (at i).y (at i).z

    at₂ : ℕ → Corner
    at₂ i = corner (at' i).x (at' i).y (at i).z
