-- The sums as the loop makes them, triangle by triangle from the front, each with a bias for each triangle; and whether one is wide. Assumes nothing.
use Rattle.std.proofs.Common.{◌≡◌, ℕ, suc, ◌+◌, ◌*◌, ◌<◌, ◌≤◌, Bool, true, false, ◌||◌, List, ◌∷◌, length, get_or, drop, ℤ, pos, ◌+ℤ◌, ◌-ℤ◌, sym, ap, ◌∙◌, ap₂, arith, drop_of_length-le, drop-cons}
use lib.IntN.{+ℤ_assoc}
use Rattle.volume.specs.declared.Corner.{Corner}
use Rattle.volume.proofs.Whole.{minus_plus}
use Rattle.weigh.specs.Sums.{sum_of}
use Rattle.weigh.specs.Answers.{wide, some_wide}
use Rattle.weigh.proofs.Whole.{same-difference}

-- the triangle at a place, and then those after it
pub three-from : (l : List ℕ) (i : ℕ) → i + 2 < length l → drop i l ≡ get_or l i 0 ∷ get_or l (i + 1) 0 ∷ get_or l (i + 2) 0 ∷ drop (i + 3) l
three-from l i h =
    let a : drop i l ≡ get_or l i 0 ∷ drop (suc i) l = drop-cons l i 0 (omega arith) in
    let b : drop (suc i) l ≡ get_or l (suc i) 0 ∷ drop (suc (suc i)) l = drop-cons l (suc i) 0 (omega arith) in
    let d : drop (suc (suc i)) l ≡ get_or l (suc (suc i)) 0 ∷ drop (suc (suc (suc i))) l = drop-cons l (suc (suc i)) 0 (omega arith) in
    let p : suc i ≡ i + 1 = omega arith in
    let q : suc (suc i) ≡ i + 2 = omega arith in
    let r : suc (suc (suc i)) ≡ i + 3 = omega arith in
    a ∙ ap (λ (m : List ℕ). get_or l i 0 ∷ m) (b ∙ ap (λ (m : List ℕ). get_or l (suc i) 0 ∷ m) d) ∙ (λ j. get_or l i 0 ∷ get_or l (p j) 0 ∷ get_or l (q j) 0 ∷ drop (r j) l)

module _ (at : ℕ → Corner) (l : List ℕ) (k : ℕ) where
  abbrev pub first : Corner
  first = at (get_or l (3 * k) 0)

  abbrev pub second : Corner
  second = at (get_or l (3 * k + 1) 0)

  abbrev pub third : Corner
  third = at (get_or l (3 * k + 2) 0)

  module _ (within : 3 * k + 2 < length l) where
    next : 3 * (k + 1) ≡ 3 * k + 3
    next = omega arith

    -- one triangle passes from what is left to what is summed: t so far, and r with it
    pub one_more : (f : Corner → Corner → Corner → ℤ) (bias t r : ℕ) (whole : ℤ) → (pos t -ℤ pos (k * bias)) +ℤ sum_of f at (drop (3 * k) l) ≡ whole
        → pos r -ℤ pos (t + bias) ≡ f first second third → (pos r -ℤ pos ((k + 1) * bias)) +ℤ sum_of f at (drop (3 * (k + 1)) l) ≡ whole
    unfolding sum_of
    one_more f bias t r whole inv e =
        let rest : ℤ = sum_of f at (drop (3 * k + 3) l) in
        let parts : pos r -ℤ pos ((k + 1) * bias) ≡ (pos t -ℤ pos (k * bias)) +ℤ (pos r -ℤ pos (t + bias)) =
        same-difference r ((k + 1) * bias) (t + r) (k * bias + (t + bias)) (omega arith) ∙ minus_plus t (k * bias) r (t + bias) in
        ap₂ (λ (z : ℤ) (m : ℕ). z +ℤ sum_of f at (drop m l)) (parts ∙ ap (λ (z : ℤ). (pos t -ℤ pos (k * bias)) +ℤ z) e) next
        ∙ +ℤ_assoc (pos t -ℤ pos (k * bias)) (f first second third) rest
        ∙ ap (λ (z : ℤ). (pos t -ℤ pos (k * bias)) +ℤ z) (sym (ap (sum_of f at) (three-from l (3 * k) within)))
        ∙ inv

    pub wide-found : wide first second third ≡ true → some_wide at (drop (3 * k) l) ≡ true
    unfolding some_wide
    wide-found e = ap (some_wide at) (three-from l (3 * k) within) ∙ ap (λ (t : Bool). t || some_wide at (drop (3 * k + 3) l)) e

    pub wide-passed : wide first second third ≡ false → some_wide at (drop (3 * k) l) ≡ some_wide at (drop (3 * (k + 1)) l)
    unfolding some_wide
    wide-passed e =
        ap (some_wide at) (three-from l (3 * k) within) ∙ ap (λ (t : Bool). t || some_wide at (drop (3 * k + 3) l)) e ∙ ap (λ (m : ℕ). some_wide at (drop m l)) (sym next)

-- past the end
module _ (at : ℕ → Corner) (l : List ℕ) (i : ℕ) (past : length l ≤ i) where
  pub sum_past : (f : Corner → Corner → Corner → ℤ) → sum_of f at (drop i l) ≡ pos 0
  unfolding sum_of
  sum_past f = ap (sum_of f at) (drop_of_length-le l past)

  pub wide-past : some_wide at (drop i l) ≡ false
  unfolding some_wide
  wide-past = ap (some_wide at) (drop_of_length-le l past)
