-- The loop that asks whether marks are kept but at places that are skipped, over any step from a mark to the next and any test that a number is right
-- by its place and its mark: what it keeps from turn to turn, and what it answers. Assumes nothing.
use Rattle.std.proofs.Common.{◌≡◌, ℕ, ◌+◌, ◌-◌, ◌<◌, ◌≤◌, Bool, true, false, ◌||◌, ◌⊎◌, List, ◌∷◌, length, get_or, drop, sym, refl, ◌∙◌, ⊎_elim, add-one, arith, drop_of_length-le, drop-cons}
use Rattle.marks.specs.Marks.{marks, kept_but}
use Rattle.marks.proofs.Filling.{marks-more}

holds-second : (a b : Bool) → b ≡ true → (a || b) ≡ true
holds-second true b e = refl
holds-second false b e = e

module _ {A : Type 0} (right : ℕ → A → A → Bool) (skipped : ℕ → Bool) (f : A → A) where
  -- the places before j are passed, and `mark` is the mark at j: the answer from j on is the whole answer
  pub record Passed (first : A) (xs : List A) (mark : A) (j : ℕ) : Type 0 where
    pub within : j ≤ length xs
    pub whole : kept_but right skipped j (drop j xs) (marks f mark (length xs - j)) ≡ kept_but right skipped 0 xs (marks f first (length xs))

  -- the place j, and those after it
  at_place : {first : A} {xs : List A} {m : A} {j : ℕ} → Passed first xs m j → j < length xs → (d : A)
      → kept_but right skipped j (get_or xs j d ∷ drop (j + 1) xs) (m ∷ marks f (f m) (length xs - (j + 1))) ≡ kept_but right skipped 0 xs (marks f first (length xs))
  at_place {first} {xs} {m} {j} h l d = rw (marks-more, drop-cons xs j d, ← add-one j) at h.whole

  -- a place is passed where it is skipped, and where it holds its mark
  passes : (k : ℕ) (x m : A) (xs ms : List A) → (skipped k || right k x m) ≡ true → kept_but right skipped k (x ∷ xs) (m ∷ ms) ≡ kept_but right skipped (k + 1) xs ms
  unfolding kept_but
  passes k x m xs ms e = rw (e, add-one)

  pub pass-good : {first : A} {xs : List A} {m m' : A} {j : ℕ} → Passed first xs m j → j < length xs → m' ≡ f m → (d : A)
      → (skipped j || right j (get_or xs j d) m) ≡ true → Passed first xs m' (j + 1)
  pass-good {first} {xs} {m} {m'} {j} h l e d g = record { within = omega arith; whole = rw e (sym (passes j (get_or xs j d) m _ _ g) ∙ at_place h l d) }

  -- a place that has to hold its mark and does not
  pub kept-bad : {first : A} {xs : List A} {m : A} {j : ℕ} → Passed first xs m j → j < length xs → (d : A)
      → (skipped j || right j (get_or xs j d) m) ≡ false → false ≡ kept_but right skipped 0 xs (marks f first (length xs))
  unfolding kept_but
  kept-bad {first} {xs} {m} {j} h l d e = rw e at (at_place h l d)

  -- the same by the two tests apart
  pub pass-more : {first : A} {xs : List A} {m m' : A} {j : ℕ} → Passed first xs m j → j < length xs → m' ≡ f m → (d : A)
      → (right j (get_or xs j d) m ≡ true) ⊎ (skipped j ≡ true) → Passed first xs m' (j + 1)
  pass-more {first} {xs} {m} {m'} {j} h l e d g =
      pass-good h l e d (⊎_elim (λ s. holds-second (skipped j) (right j (get_or xs j d) m) s) (λ s. rw s) g)

  pub kept-not : {first : A} {xs : List A} {m : A} {j : ℕ} → Passed first xs m j → j < length xs → (d : A)
      → skipped j ≡ false → right j (get_or xs j d) m ≡ false → false ≡ kept_but right skipped 0 xs (marks f first (length xs))
  kept-not h l d s e = kept-bad h l d (rw (s, e))

  -- every place is passed
  pub kept-all : {first : A} {xs : List A} {m : A} {j : ℕ} → Passed first xs m j → length xs ≤ j → true ≡ kept_but right skipped 0 xs (marks f first (length xs))
  unfolding kept_but
  kept-all {first} {xs} {m} {j} h l = rw (drop_of_length-le xs l) at h.whole
