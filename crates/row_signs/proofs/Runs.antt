-- How many numbers of a run pass a test: one number more, none or all of them. Assumes nothing.
use Prim.Native.Nat.{ℕ, zero, suc, ◌+◌, ◌≤◌, ◌<◌}
use native.Mathlib.Nat.{zero-add}
use native.Mathlib.Numerals.{add-one}
use native.Mathlib.Omega.{arith}
use mathlib.Core.Bool.{Bool, true, false}
use mathlib.Core.List.{List, [], ◌∷◌}
use mathlib.Core.Logic.{inl, inr}
use mathlib.Core.Path.{◌≡◌, refl, ap, subst, ◌∙◌}
use lib.Ieee.{Float, nan}
use lib.Ieee.Bits.{is_true}
use lib.ListN.{length, get_or}
use Rattle.lists.specs.Lists.{one, run, many}
use Rattle.lists.proofs.Tests.{is_false, one_of, one-positive, one-most, less-or-not}
use Rattle.lists.proofs.Lists.{many-append}
use Rattle.rules.specs.Cell.{negative}
use Rattle.grid.specs.Layers.{part}
use Rattle.grid.proofs.Parts.{length_part, part_at}
use Rattle.row_signs.specs.Signs.{negative_at, negatives_run}

pub none-counted : (f : ℕ → Bool) → 0 ≡ many f (run 0)
unfolding run many
none-counted f = refl

-- one number more, as a loop counts it
pub one_more : (f : ℕ → Bool) (n : ℕ) {count more now' : ℕ} → count ≡ many f (run n) → more ≡ one (f n) → now' ≡ count + more → now' ≡ many f (run (n + 1))
unfolding run many
one_more f n e d h = rw add-one (omega (arith, many-append f (run n) (n ∷ [])))

-- ---- none of a run, and all of it

last_apart : (f : ℕ → Bool) (n : ℕ) → many f (run (suc n)) ≡ many f (run n) + one (f n)
unfolding run many
last_apart f n = many-append f (run n) (n ∷ []) ∙ omega arith

-- what holds below n and at n
up-to-last : {P : ℕ → Type 0} {n : ℕ} → ((j : ℕ) → j < n → P j) → P n → (j : ℕ) → j < suc n → P j
up-to-last {P} {n} below last j h = elim (less-or-not j n) [ inl l ↦ below j l | inr l ↦ subst P (omega arith) last ]

pub run-most : (f : ℕ → Bool) (n : ℕ) → many f (run n) ≤ n
unfolding run many
run-most f zero = omega arith
run-most f (suc n) = omega (arith, last_apart f n, run-most f n, one-most (f n))

pub run-never : (f : ℕ → Bool) (n : ℕ) → ((j : ℕ) → j < n → one (f j) ≡ 0) → many f (run n) ≡ 0
unfolding run many
run-never f zero h = refl
run-never f (suc n) h = omega (arith, last_apart f n, run-never f n (λ j l. h j (omega arith)), h n (omega arith))

pub run_none : (f : ℕ → Bool) (n : ℕ) → many f (run n) ≡ 0 → (j : ℕ) → j < n → f j ≡ false
run_none f zero e j h = absurd (omega arith)
run_none f (suc n) e j h =
    up-to-last {P = λ (j : ℕ). f j ≡ false} (run_none f n (omega (arith, last_apart f n))) (is_false (f n) (λ t. omega (arith, last_apart f n, one_of (f n) t))) j h

pub run-all : (f : ℕ → Bool) (n : ℕ) → many f (run n) ≡ n → (j : ℕ) → j < n → f j ≡ true
run-all f zero e j h = absurd (omega arith)
run-all f (suc n) e j h =
    up-to-last {P = λ (j : ℕ). f j ≡ true} (run-all f n (omega (arith, last_apart f n, run-most f n, one-most (f n))))
    (is_true (f n) (one-positive (f n) (omega (arith, last_apart f n, run-most f n)))) j h

-- ---- two runs

-- two tests that agree below n
pub run-same : (f g : ℕ → Bool) (n : ℕ) → ((j : ℕ) → j < n → f j ≡ g j) → many f (run n) ≡ many g (run n)
unfolding run many
run-same f g zero h = refl
run-same f g (suc n) h = omega (arith, last_apart f n, last_apart g n, run-same f g n (λ j l. h j (omega arith)), ap one (h n (omega arith)))

-- the sign of a distance in a part of a list that is lent alone
pub sign-in-part : (l points : List Float) (p n : ℕ) → points ≡ part p n l → (j : ℕ) → j < n → negative_at points 0 j ≡ negative_at l p j
sign-in-part l points p n e j h =
    ap negative (ap (λ (i : ℕ). get_or points i nan) (zero-add j) ∙ ap (λ (s : List Float). get_or s j nan) e ∙ part_at p n l j nan h)

-- the negatives of that part are those of the run
pub negatives-part : (l points : List Float) (p n : ℕ) → p + n ≤ length l → points ≡ part p n l → negatives_run points 0 (length points) ≡ negatives_run l p n
negatives-part l points p n h e =
    ap (λ (m : ℕ). negatives_run points 0 m) (ap length e ∙ length_part p n l h)
    ∙ run-same (negative_at points 0) (negative_at l p) n (sign-in-part l points p n e)
