-- The loop that asks whether a list begins with stored numbers, and leaves at the first place that holds another: what it keeps from turn to turn, and what
-- it answers. Assumes nothing.
use Rattle.std.proofs.Common.{◌≡◌, ℕ, zero, suc, ◌+◌, ◌<◌, ◌≤◌, Bool, true, false, ◌&&◌, sym, refl, ⊎_elim, add-one, arith}
use Rattle.lists.proofs.Tests.{less-or-not}
use Rattle.marks.specs.Stored.{each_below}

-- the second of two tests fails
pub fails-second : (a b : Bool) → b ≡ false → false ≡ (a && b)
fails-second true b e = sym e
fails-second false b e = refl

-- ---- every number below n passes a test

module _ (f : ℕ → Bool) where
  pub begins-none : each_below f 0 ≡ true
  unfolding each_below
  begins-none = refl

  pub begins-more : {j : ℕ} → each_below f j ≡ true → f j ≡ true → each_below f (j + 1) ≡ true
  unfolding each_below
  begins-more {j} h e = rw (add-one j, h, e)

  -- one that fails is enough
  pub begins-not : (n j : ℕ) → j < n → f j ≡ false → false ≡ each_below f n
  unfolding each_below
  begins-not zero j l e = absurd (omega arith)
  begins-not (suc n) j l e = ⊎_elim (λ (h : j < n). before (begins-not n j h e)) (λ (h : n ≤ j). fails-second (each_below f n) (f n) (last h)) (less-or-not j n)
    where
      before : false ≡ each_below f n → false ≡ (each_below f n && f n)
      before h = rw (← h)

      last : n ≤ j → f n ≡ false
      last h = let here : n ≡ j = omega arith in rw here e
