-- Sums over the points of a box: by rows, joined and compared term by term, and moved by one step along an axis where what is summed vanishes on the
-- planes at both ends. Assumes nothing.
use Prim.Native.Nat.{ℕ, zero, suc, ◌+◌, ◌-◌, ◌*◌, ◌≤◌}
use native.Mathlib.Nat.{add-zero}
use native.Mathlib.Omega.{arith}
use mathlib.Core.Bool.{Bool, true, false, cond}
use mathlib.Core.List.{List, [], ◌∷◌, ◌++◌, map}
use mathlib.Core.Logic.{inl, inr}
use mathlib.Core.Path.{◌≡◌, refl, sym, ap, ◌∙◌}
use Rattle.lists.specs.Lists.{run, up_to, keep, joined}
use Rattle.lists.proofs.Lists.{All, none, more, all-each, total, total-same}
use Rattle.lists.proofs.Runs.{up_to-none}
use Rattle.lists.proofs.Tests.{less-or-not}
use Rattle.rules.specs.Grid.{GridPoint, Axis, axis_x, axis_y, axis_z, Box, along, step_up}
use Rattle.rules.specs.Faces.{layer_points, points}

-- ---- totals over lists

module _ {A : Type 0} where
  pub total-append : (f : A → ℕ) (s t : List A) → total f (s ++ t) ≡ total f s + total f t
  unfolding total
  total-append f [] t = omega arith
  total-append f (x ∷ s) t = omega (arith, total-append f s t)

  pub total-most : {f h : A → ℕ} {l : List A} → All (λ x. f x ≤ h x) l → total f l ≤ total h l
  unfolding total
  total-most none = omega arith
  total-most (more p q) = omega (arith, p, total-most q)

  pub total-nothing : {f : A → ℕ} {l : List A} → All (λ x. f x ≡ 0) l → total f l ≡ 0
  unfolding total
  total-nothing none = refl
  total-nothing (more p q) = omega (arith, p, total-nothing q)

  pub total_kept : (f : A → ℕ) (t : A → Bool) (l : List A) → total f (keep t l) ≡ total (λ x. cond (t x) (f x) 0) l
  unfolding total keep
  total_kept f t [] = refl
  total_kept f t (x ∷ l) = go (t x) (total_kept f t l)
    where
      go : (c : Bool) → total f (keep t l) ≡ total (λ x. cond (t x) (f x) 0) l → total f (cond c (x ∷ keep t l) (keep t l)) ≡ cond c (f x) 0 + total (λ x. cond (t x) (f x) 0) l
      go true e = omega arith
      go false e = omega arith

module _ {A B : Type 0} where
  pub total-map : (f : B → ℕ) (h : A → B) (l : List A) → total f (map h l) ≡ total (λ x. f (h x)) l
  unfolding total
  total-map f h [] = refl
  total-map f h (x ∷ l) = omega (arith, total-map f h l)

  pub total-joined : (f : B → ℕ) (h : A → List B) (l : List A) → total f (joined h l) ≡ total (λ x. total f (h x)) l
  unfolding total joined
  total-joined f h [] = refl
  total-joined f h (x ∷ l) = total-append f (h x) (joined h l) ∙ ap (λ n. total f (h x) + n) (total-joined f h l)

pub zero-times : (m n : ℕ) → m ≡ 0 → m * n ≡ 0
zero-times m n e = rw e (omega arith)

-- ---- a run of numbers

run-shift : (f : ℕ → ℕ) (low n : ℕ) → total (λ (k : ℕ). f (low + k)) (run n) + f (low + n) ≡ f low + total (λ (k : ℕ). f (low + k + 1)) (run n)
unfolding total run
run-shift f low zero = rw (add-zero low) (omega arith)
run-shift f low (suc n) =
    let e : low + suc n ≡ low + n + 1 = omega arith in
    omega (
      arith,
      run-shift f low n,
      total-append (λ (k : ℕ). f (low + k)) (run n) (n ∷ []),
      total-append (λ (k : ℕ). f (low + k + 1)) (run n) (n ∷ []),
      ap f e,
    )

-- each number one higher, where nothing stands at the run's first number nor after its last
row-shift : (f : ℕ → ℕ) (low high : ℕ) → f low ≡ 0 → f high ≡ 0 → total f (up_to low high) ≡ total (λ (k : ℕ). f (k + 1)) (up_to low high)
unfolding up_to total
row-shift f low high first last = elim (less-or-not high low) [ inl h ↦ empty (omega arith) | inr h ↦ filled h ]
  where
    empty : high ≤ low → total f (up_to low high) ≡ total (λ (k : ℕ). f (k + 1)) (up_to low high)
    empty h = rw (up_to-none low high h) refl

    filled : low ≤ high → total f (up_to low high) ≡ total (λ (k : ℕ). f (k + 1)) (up_to low high)
    filled h =
        let e : low + (high - low) ≡ high = omega arith in
        omega (
          arith,
          run-shift f low (high - low),
          ap f e,
          first,
          last,
          total-map f (λ (k : ℕ). low + k) (run (high - low)),
          total-map (λ (k : ℕ). f (k + 1)) (λ (k : ℕ). low + k) (run (high - low)),
        )

-- ---- the points of a box

abbrev point : ℕ → ℕ → ℕ → GridPoint
point x y z = record { x = x; y = y; z = z }

module _ (b : Box) where
  abbrev xs : List ℕ
  xs = up_to b.low.x (b.high.x + 1)

  abbrev ys : List ℕ
  ys = up_to b.low.y (b.high.y + 1)

  abbrev zs : List ℕ
  zs = up_to b.low.z (b.high.z + 1)

  pub by_rows : (f : GridPoint → ℕ) → total f (points b) ≡ total (λ (z : ℕ). total (λ (y : ℕ). total (λ (x : ℕ). f (point x y z)) xs) ys) zs
  unfolding points layer_points
  by_rows f =
      total-joined f (layer_points b) zs
      ∙ total-same (all-each (λ (z : ℕ). total-joined f (λ (y : ℕ). map (λ (x : ℕ). point x y z) xs) ys
      ∙ total-same (all-each (λ (y : ℕ). total-map f (λ (x : ℕ). point x y z) xs) ys)) zs)

  -- moved by one step, where f vanishes on the low plane and one past the high plane
  pub shifted : (a : Axis) (f : GridPoint → ℕ) → ((p : GridPoint) → along a p ≡ along a b.low → f p ≡ 0) → ((p : GridPoint) → along a p ≡ along a b.high + 1 → f p ≡ 0)
      → total f (points b) ≡ total (λ (p : GridPoint). f (step_up a p)) (points b)
  shifted axis_x f l h =
      by_rows f
      ∙ total-same (all-each (λ (z : ℕ). total-same (all-each (λ (y : ℕ).
      row-shift (λ (x : ℕ). f (point x y z)) b.low.x (b.high.x + 1) (l (point b.low.x y z) refl) (h (point (b.high.x + 1) y z) refl)) ys)) zs)
      ∙ sym (by_rows (λ (p : GridPoint). f (step_up axis_x p)))
  shifted axis_y f l h =
      by_rows f
      ∙ total-same (all-each (λ (z : ℕ). row-shift (λ (y : ℕ). total (λ (x : ℕ). f (point x y z)) xs) b.low.y (b.high.y + 1)
      (total-nothing (all-each (λ (x : ℕ). l (point x b.low.y z) refl) xs)) (total-nothing (all-each (λ (x : ℕ). h (point x (b.high.y + 1) z) refl) xs))) zs)
      ∙ sym (by_rows (λ (p : GridPoint). f (step_up axis_y p)))
  shifted axis_z f l h =
      by_rows f
      ∙ row-shift (λ (z : ℕ). total (λ (y : ℕ). total (λ (x : ℕ). f (point x y z)) xs) ys) b.low.z (b.high.z + 1)
      (total-nothing (all-each (λ (y : ℕ). total-nothing (all-each (λ (x : ℕ). l (point x y b.low.z) refl) xs)) ys))
      (total-nothing (all-each (λ (y : ℕ). total-nothing (all-each (λ (x : ℕ). h (point x y (b.high.z + 1)) refl) xs)) ys))
      ∙ sym (by_rows (λ (p : GridPoint). f (step_up axis_z p)))
