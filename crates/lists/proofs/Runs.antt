-- Runs of numbers: each number from low up to high stands in `up_to low high` once, and a run ends, begins and is cut as it should be, and so do
-- lists joined over it. From the definition, by induction on the length. Assumes nothing.
use Prim.Native.Nat.{ℕ, zero, suc, ◌+◌, ◌-◌, ◌≤◌, ◌<◌}
use native.Mathlib.Nat.{add-zero}
use native.Mathlib.Omega.{arith}
use mathlib.Core.List.{List, [], ◌∷◌, ◌++◌, map, map-append, append_assoc, append-nil}
use mathlib.Core.Logic.{◌⊎◌, inl, inr}
use mathlib.Core.Path.{◌≡◌, sym, ap, ◌∙◌}
use lib.Dec.{T, eqb, eqb→eq, eqb_refl}
use Rattle.lists.specs.Lists.{one, run, up_to, many, joined, below}
use Rattle.lists.proofs.Tests.{same_test, one-not, split2, less-or-not, below-low, below-high, below_in}
use Rattle.lists.proofs.Lists.{All, all_append, all_then, all_map, joined-append, joined_snoc, many-append, many-map, none, more}

run-once : (low k n : ℕ) → many (λ (j : ℕ). eqb k (low + j)) (run n) ≡ one (below low (low + n) k)
unfolding run many
run-once low k zero = sym (one-not (below low (low + 0) k) (λ t. omega (arith, below-low low (low + 0) k t, below-high low (low + 0) k t)))
run-once low k (suc n) =
    many-append (λ (j : ℕ). eqb k (low + j)) (run n) (n ∷ []) ∙ omega
    (arith, run-once low k n, split2 (below low (low + n) k) (eqb k (low + n)) (below low (low + suc n) k) apart before last either)
  where
    apart : T (below low (low + n) k) → T (eqb k (low + n)) → ⊥
    apart s t = omega (arith, below-high low (low + n) k s, eqb→eq k (low + n) t)

    before : T (below low (low + n) k) → T (below low (low + suc n) k)
    before t = below_in low (low + suc n) k (below-low low (low + n) k t) (omega (arith, below-high low (low + n) k t))

    last : T (eqb k (low + n)) → T (below low (low + suc n) k)
    last t = below_in low (low + suc n) k (omega (arith, eqb→eq k (low + n) t)) (omega (arith, eqb→eq k (low + n) t))

    at : (low ≤ k) → (k < low + suc n) → (k < low + n) ⊎ (low + n ≤ k) → T (below low (low + n) k) ⊎ T (eqb k (low + n))
    at h i (inl j) = inl (below_in low (low + n) k h j)
    at h i (inr j) = inr (rw equal (eqb_refl k))
      where
        equal : low + n ≡ k
        equal = omega arith

    either : T (below low (low + suc n) k) → T (below low (low + n) k) ⊎ T (eqb k (low + n))
    either t = at (below-low low (low + suc n) k t) (below-high low (low + suc n) k t) (less-or-not k (low + n))

-- each number from low up to high stands in up_to once, and no other
pub up_to-once : (k low high : ℕ) → many (eqb k) (up_to low high) ≡ one (below low high k)
unfolding up_to
up_to-once k low high =
    many-map (eqb k) (λ (j : ℕ). low + j) (run (high - low))
    ∙ run-once low k (high - low)
    ∙ ap one (same_test (below low end k) (below low high k) to from)
  where
    end : ℕ
    end = low + (high - low)

    to : T (below low end k) → T (below low high k)
    to t = below_in low high k (below-low low end k t) (omega (arith, below-low low end k t, below-high low end k t))

    from : T (below low high k) → T (below low end k)
    from t = below_in low end k (below-low low high k t) (omega (arith, below-low low high k t, below-high low high k t))

pub up_to-none : (low high : ℕ) → high ≤ low → up_to low high ≡ []
unfolding up_to run
up_to-none low high h = ap (λ n. map (λ (k : ℕ). low + k) (run n)) none_left
  where
    none_left : high - low ≡ 0
    none_left = omega arith

pub up_to-last : (low high : ℕ) → low ≤ high → up_to low (suc high) ≡ up_to low high ++ (high ∷ [])
unfolding up_to run
up_to-last low high h =
    ap (λ n. map (λ (k : ℕ). low + k) (run n)) one_more
    ∙ map-append (λ (k : ℕ). low + k) (run (high - low)) ((high - low) ∷ [])
    ∙ ap (λ n. map (λ (k : ℕ). low + k) (run (high - low)) ++ (n ∷ [])) there
  where
    one_more : suc high - low ≡ suc (high - low)
    one_more = omega arith

    there : low + (high - low) ≡ high
    there = omega arith

-- cut at a number between
up_to-longer : (low mid n : ℕ) → low ≤ mid → up_to low (mid + n) ≡ up_to low mid ++ up_to mid (mid + n)
up_to-longer low mid zero h = rw (add-zero mid, up_to-none mid mid (omega arith)) (sym (append-nil (up_to low mid)))
up_to-longer low mid (suc n) h =
    ap (up_to low) step
    ∙ up_to-last low (mid + n) (omega arith)
    ∙ ap (λ l. l ++ ((mid + n) ∷ [])) (up_to-longer low mid n h)
    ∙ append_assoc (up_to low mid) (up_to mid (mid + n)) ((mid + n) ∷ [])
    ∙ ap (λ l. up_to low mid ++ l) (sym (up_to-last mid (mid + n) (omega arith)) ∙ ap (up_to mid) (sym step))
  where
    step : mid + suc n ≡ suc (mid + n)
    step = omega arith

pub up_to-split : (low mid high : ℕ) → low ≤ mid → mid ≤ high → up_to low high ≡ up_to low mid ++ up_to mid high
up_to-split low mid high h k = ap (up_to low) whole ∙ up_to-longer low mid (high - mid) h ∙ ap (λ n. up_to low mid ++ up_to mid n) (sym whole)
  where
    whole : high ≡ mid + (high - mid)
    whole = omega arith

pub up_to-first : (low high : ℕ) → low < high → up_to low high ≡ low ∷ up_to (suc low) high
up_to-first low high h =
    up_to-split low (suc low) high (omega arith) h
    ∙ ap (λ l. l ++ up_to (suc low) high) (up_to-last low low (omega arith) ∙ ap (λ l. l ++ (low ∷ [])) (up_to-none low low (omega arith)))

pub up_to-all : (low high : ℕ) → All (λ k. T (below low high k)) (up_to low high)
unfolding up_to run
up_to-all low high = all_map (λ (k : ℕ). low + k) (all_then (λ k h. below_in low high (low + k) (omega arith) (omega arith)) (run-all (high - low)))
  where
    grown : (n : ℕ) {l : List ℕ} → All (λ k. k < n) l → All (λ k. k < suc n) l
    grown n p = all_then (λ k h. omega arith) p

    run-all : (n : ℕ) → All (λ k. k < n) (run n)
    run-all zero = none
    run-all (suc n) = all_append (grown n (run-all n)) (more (omega arith) none)

pub up_to-each : {P : ℕ → Type 0} (low high : ℕ) → ((k : ℕ) → low ≤ k → k < high → P k) → All P (up_to low high)
up_to-each low high h = all_then (λ k t. h k (below-low low high k t) (below-high low high k t)) (up_to-all low high)

-- ---- lists joined over a run

module _ {A : Type 0} (f : ℕ → List A) where
  pub joined-last : (low high : ℕ) → low ≤ high → joined f (up_to low (suc high)) ≡ joined f (up_to low high) ++ f high
  joined-last low high h = ap (joined f) (up_to-last low high h) ∙ joined_snoc f (up_to low high) high

  pub joined-cut : (low k high : ℕ) → low ≤ k → k < high → joined f (up_to low high) ≡ joined f (up_to low k) ++ (f k ++ joined f (up_to (suc k) high))
  unfolding joined
  joined-cut low k high h i =
      ap (joined f) (up_to-split low k high h (omega arith) ∙ ap (λ (l : List ℕ). up_to low k ++ l) (up_to-first k high i))
      ∙ joined-append f (up_to low k) (k ∷ up_to (suc k) high)
