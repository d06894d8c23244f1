-- The wall: the two comparisons that the code makes, what is deepest of a list and one more, and the powers of two that the search passes. Assumes nothing.
use Prim.Native.Nat.{ℕ, zero, suc, ◌+◌, ◌-◌, ◌*◌, ◌<◌, ◌≤◌}
use native.Mathlib.Nat.{mul-pos}
use native.Mathlib.Numerals.{add-one}
use native.Mathlib.Omega.{arith}
use mathlib.Core.Bool.{Bool, true, false, not, ◌&&◌, ◌||◌, cond, true≢false}
use mathlib.Core.List.{List, [], ◌∷◌, ◌++◌}
use mathlib.Core.Logic.{◌⊎◌, inl, inr}
use mathlib.Core.Path.{◌≡◌, refl, sym, ap, ap₂, ◌∙◌}
use borrow.Author.Tests.{lt-ltb, eqb-true}
use lib.Dec.{eqb, lit<}
use lib.IntN.{ℤ, pos, negsuc}
use lib.Count.{count_trailing_zeros}
use lib.Ieee.{Float, nan, inf, fin, add, sum, round, size, span, climb, units, odd, minus, lt, eq, le, up, down}
use lib.Ieee.Fits.{down_pos}
use lib.ListN.{length, get_or, take}
use lib.Seq.{take-suc}
use Rattle.lists.specs.Lists.{up_to, place}
use Rattle.lists.proofs.Tests.{less-or-not}
use Rattle.lists.proofs.Runs.{up_to-none, up_to-first}
use Rattle.rules.specs.Cell.{zero32, one32, ◌⊕◌}
use Rattle.rules.specs.Call.{beyond}
use Rattle.grid.proofs.Beyond.{cap32, below-cap32, beyond-cap}
use Rattle.closing.specs.Wall.{deeper, deepest, depth, wall_at, far_enough, wall_for}

-- ---- no wall

-- above zero it is above the cap's negation as well
above_low : (w : Float) → lt zero32 w ≡ true → le below-cap32 w ≡ true
unfolding lt le eq
above_low nan h = h
above_low (inf true) h = h
above_low (inf false) h = refl
above_low (fin false m e) h =
    let c = 1 * up (pos 124) * down e in
    let p : 0 < c = mul-pos (lit< tt) (down_pos e) in
    rw (lt-ltb 0 (c + m * up e * 1) (omega arith)) refl
above_low (fin true m e) h = absurd (true≢false (sym h))

pub bad-wall-is : (w : Float) → not (lt zero32 w && le w cap32) ≡ (not (lt zero32 w) || beyond w)
bad-wall-is w = go (lt zero32 w) refl
  where
    go : (t : Bool) → lt zero32 w ≡ t → not (t && le w cap32) ≡ (not t || beyond w)
    go true e = ap (λ (t : Bool). not (t && le w cap32)) (sym (above_low w e)) ∙ beyond-cap w
    go false e = refl

-- ---- the deepest

pub deepest-append : (f : Float) (a b : List Float) → deepest f (a ++ b) ≡ deepest (deepest f a) b
unfolding deepest
deepest-append f [] b = refl
deepest-append f (d ∷ a) b = deepest-append (deeper f d) a b

pub deepest-none : (f : Float) (l : List Float) → f ≡ deepest f (take 0 l)
unfolding deepest
deepest-none f l = refl

pub deepest-more : (f : Float) (l : List Float) (i : ℕ) {now next v : Float} → i < length l → now ≡ deepest f (take i l) → v ≡ get_or l i nan → next ≡ deeper now v
    → next ≡ deepest f (take (i + 1) l)
unfolding deepest
deepest-more f l i h e g k =
    k ∙ ap₂ deeper e g ∙ sym (ap (deepest f) (ap (λ (n : ℕ). take n l) (add-one i) ∙ take-suc l i nan h) ∙ deepest-append f (take i l) (get_or l i nan ∷ []))

-- ---- powers of two, doubled: by computing, for each power that the search can meet

unfoldable same_exponent : ℤ → ℤ → Bool
same_exponent (pos a) (pos b) = eqb a b
same_exponent (pos a) (negsuc b) = false
same_exponent (negsuc a) (pos b) = false
same_exponent (negsuc a) (negsuc b) = eqb a b

same-exponent : (a b : ℤ) → same_exponent a b ≡ true → a ≡ b
unfolding same_exponent
same-exponent (pos a) (pos b) h = ap pos (eqb-true a b h)
same-exponent (pos a) (negsuc b) h = absurd (true≢false (sym h))
same-exponent (negsuc a) (pos b) h = absurd (true≢false (sym h))
same-exponent (negsuc a) (negsuc b) h = ap negsuc (eqb-true a b h)

-- whether a float is 2 ^ e
unfoldable is_power : ℤ → Float → Bool
unfolding same_exponent
is_power e nan = false
is_power e (inf s) = false
is_power e (fin true m d) = false
is_power e (fin false zero d) = false
is_power e (fin false (suc zero) d) = same_exponent d e
is_power e (fin false (suc (suc m)) d) = false

is-power : (e : ℤ) (x : Float) → is_power e x ≡ true → x ≡ fin false 1 e
unfolding is_power same_exponent
is-power e nan h = absurd (true≢false (sym h))
is-power e (inf s) h = absurd (true≢false (sym h))
is-power e (fin true m d) h = absurd (true≢false (sym h))
is-power e (fin false zero d) h = absurd (true≢false (sym h))
is-power e (fin false (suc zero) d) h = ap (fin false 1) (same-exponent d e h)
is-power e (fin false (suc (suc m)) d) h = absurd (true≢false (sym h))

-- 2 ^ (k - low), doubled, is 2 ^ (k + 1 - low)
unfoldable doubles : ℕ → ℕ → Bool
doubles low k = is_power (minus (suc k) low) (fin false 1 (minus k low) ⊕ fin false 1 (minus k low))

unfoldable all_below : (ℕ → Bool) → ℕ → Bool
all_below t zero = true
all_below t (suc n) = all_below t n && t n

all-below : (t : ℕ → Bool) (n : ℕ) → all_below t n ≡ true → (k : ℕ) → k < n → t k ≡ true
unfolding all_below
all-below t zero h k l = absurd (omega arith)
all-below t (suc n) h k l = go (all_below t n) (t n) refl refl h (less-or-not k n) (all-below t n)
  where
    go : (a b : Bool) → all_below t n ≡ a → t n ≡ b → (a && b) ≡ true → (k < n) ⊎ (n ≤ k) → (all_below t n ≡ true → (k : ℕ) → k < n → t k ≡ true) → t k ≡ true
    go false b p q h c r = absurd (true≢false (sym h))
    go true false p q h c r = absurd (true≢false (sym h))
    go true true p q h (inl c) r = r p k c
    go true true p q h (inr c) r = let e : k ≡ n = omega arith in ap t e ∙ q

depth-table : all_below (doubles 149) 248 ≡ true
unfolding all_below doubles is_power same_exponent add sum round size span climb units odd count_trailing_zeros
depth-table = refl

wall-table : all_below (doubles 124) 248 ≡ true
unfolding all_below doubles is_power same_exponent add sum round size span climb units odd count_trailing_zeros
wall-table = refl

pub depth-doubled : (k : ℕ) → k < 248 → depth k ⊕ depth k ≡ depth (suc k)
unfolding doubles
depth-doubled k h = is-power (minus (suc k) 149) (depth k ⊕ depth k) (all-below (doubles 149) 248 depth-table k h)

pub wall-doubled : (k : ℕ) → k < 248 → wall_at k ⊕ wall_at k ≡ wall_at (suc k)
unfolding doubles
wall-doubled k h = is-power (minus (suc k) 124) (wall_at k ⊕ wall_at k) (all-below (doubles 124) 248 wall-table k h)

-- ---- the search: where the first of n numbers stands that passes

pub record First (t : ℕ → Bool) (from n p : ℕ) : Type 0 where
  pub before : (j : ℕ) → j < p → t (from + j) ≡ false
  pub within : p ≤ n
  pub here : p < n → t (from + p) ≡ true

module _ (t : ℕ → Bool) where
  pub place-first : (n from : ℕ) → First t from n (place t (up_to from (from + n)))
  unfolding place
  place-first zero from =
      let e : place t (up_to from (from + 0)) ≡ 0 = ap (place t) (up_to-none from (from + 0) (omega arith)) in
      record { before = λ j h. absurd (omega arith); within = omega arith; here = λ h. absurd (omega arith) }
  place-first (suc n) from =
      let q : suc from + n ≡ from + suc n = omega arith in
      let e : place t (up_to from (from + suc n)) ≡ cond (t from) 0 (suc (place t (up_to (suc from) (suc from + n)))) =
      ap (place t) (up_to-first from (from + suc n) (omega arith)) ∙ ap (λ (m : ℕ). cond (t from) 0 (suc (place t (up_to (suc from) m)))) (sym q) in
      rw e (go (t from) refl (place-first n (suc from)))
    where
      go : (b : Bool) → t from ≡ b → {p : ℕ} → First t (suc from) n p → First t from (suc n) (cond b 0 (suc p))
      go true h f = record { before = λ j l. absurd (omega arith); within = omega arith; here = λ l. let z : from + 0 ≡ from = omega arith in ap t z ∙ h }
      go false h {p} f =
          record {
            before = λ j l. below j l;
            within = omega (arith, f.within);
            here = λ l. let z : from + suc p ≡ suc from + p = omega arith in ap t z ∙ f.here (omega arith);
          }
        where
          below : (j : ℕ) → j < suc p → t (from + j) ≡ false
          below zero l = let z : from + 0 ≡ from = omega arith in ap t z ∙ h
          below (suc j) l = let z : from + suc j ≡ suc from + j = omega arith in ap t z ∙ f.before j (omega arith)

-- ---- the loop: after k turns the two powers are those of k, or of the place that was found

-- the lesser of two numbers
abbrev pub reached : ℕ → ℕ → ℕ
reached k p = k - (k - p)

module _ (found : Float) where
  abbrev pub end : ℕ
  end = place (far_enough found) (up_to 0 248)

  first : First (far_enough found) 0 248 end
  first = place-first (far_enough found) 248 0

  pub end-within : end ≤ 248
  end-within = first.within

  not-not : (b : Bool) → not b ≡ true → b ≡ false
  not-not true h = absurd (true≢false (sym h))
  not-not false h = refl

  not_so : (b : Bool) → not b ≡ false → b ≡ true
  not_so true h = refl
  not_so false h = absurd (true≢false h)

  -- a power that is below what was found stands before the place
  before-end : (k : ℕ) → k < 248 → lt (depth (reached k end)) found ≡ true → k < end
  before-end k h l = go (less-or-not k end)
    where
      go : (k < end) ⊎ (end ≤ k) → k < end
      go (inl c) = c
      go (inr c) =
          let e : reached k end ≡ end = omega arith in
          let z : 0 + end ≡ end = omega arith in
          absurd (true≢false (sym l ∙ ap (λ (n : ℕ). lt (depth n) found) e ∙ not-not (lt (depth end) found) (sym (ap (far_enough found) z) ∙ first.here (omega arith))))

  past_end : (k : ℕ) → lt (depth (reached k end)) found ≡ false → end ≤ k
  past_end k l = go (less-or-not k end)
    where
      go : (k < end) ⊎ (end ≤ k) → end ≤ k
      go (inl c) =
          let e : reached k end ≡ k = omega arith in
          let z : 0 + k ≡ k = omega arith in
          absurd (true≢false (sym (not_so (lt (depth k) found) (sym (ap (far_enough found) z) ∙ first.before k c)) ∙ sym (ap (λ (n : ℕ). lt (depth n) found) e) ∙ l))
      go (inr c) = c

  pub begun : (depth 0 ≡ depth (reached 0 end)) × (wall_at 0 ≡ wall_at (reached 0 end))
  begun = let e : 0 ≡ reached 0 end = omega arith in (ap depth e, ap wall_at e)

  -- a turn that doubles, and one that does not
  pub turn_up : (k : ℕ) → k < 248 → {d w : Float} → d ≡ depth (reached k end) → w ≡ wall_at (reached k end) → lt d found ≡ true
      → (d ⊕ d ≡ depth (reached (k + 1) end)) × (w ⊕ w ≡ wall_at (reached (k + 1) end))
  turn_up k h e f l =
      let c : k < end = before-end k h (ap (λ (x : Float). lt x found) (sym e) ∙ l) in
      let a : reached k end ≡ k = omega arith in
      let b : suc k ≡ reached (k + 1) end = omega arith in (
        ap (λ (x : Float). x ⊕ x) (e ∙ ap depth a) ∙ depth-doubled k h ∙ ap depth b,
        ap (λ (x : Float). x ⊕ x) (f ∙ ap wall_at a) ∙ wall-doubled k h ∙ ap wall_at b,
      )

  pub turn_on : (k : ℕ) → {d w : Float} → d ≡ depth (reached k end) → w ≡ wall_at (reached k end) → lt d found ≡ false
      → (d ≡ depth (reached (k + 1) end)) × (w ≡ wall_at (reached (k + 1) end))
  turn_on k e f l =
      let c : end ≤ k = past_end k (ap (λ (x : Float). lt x found) (sym e) ∙ l) in
      let a : reached k end ≡ reached (k + 1) end = omega arith in
      (e ∙ ap depth a, f ∙ ap wall_at a)

  pub turned-all : {k : ℕ} {w : Float} → k ≡ 248 → lt zero32 found ≡ true → w ≡ wall_at (reached k end) → w ≡ wall_for found
  unfolding wall_for
  turned-all {k} e l f =
      let a : reached k end ≡ end = omega (arith, end-within) in
      f ∙ ap wall_at a ∙ sym (ap (λ (t : Bool). cond t (wall_at end) one32) l)

  pub no-wall-needed : lt zero32 found ≡ false → one32 ≡ wall_for found
  unfolding wall_for
  no-wall-needed l = sym (ap (λ (t : Bool). cond t (wall_at end) one32) l)
