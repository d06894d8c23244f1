-- The test against the cap, by comparisons of floats: a value is beyond it unless it is from the cap's negation to the cap, and no comparison
-- holds of not-a-number. Assumes nothing.
use Prim.Native.Nat.{ℕ, ◌+◌, ◌*◌, ◌<◌}
use native.Mathlib.Nat.{mul-one, mul-pos}
use native.Mathlib.Omega.{arith}
use mathlib.Core.Bool.{Bool, true, false, not, ◌&&◌, ◌||◌, and_comm}
use mathlib.Core.Logic.{inl, inr}
use mathlib.Core.Path.{◌≡◌, refl, sym, ap, ◌∙◌}
use borrow.Author.Tests.{lt-ltb, le-ltb, eq-eqb, ne_eqb}
use lib.Dec.{ltb, eqb, lit<}
use lib.IntN.{ℤ, pos}
use lib.Ieee.{Float, nan, inf, fin, up, down, lt, eq, le}
use lib.Ieee.Fits.{down_pos}
use Rattle.lists.proofs.Tests.{less-or-not}
use Rattle.rules.specs.Call.{cap, beyond}

-- the cap as a float
abbrev pub cap32 : Float
cap32 = fin false 1 (pos 124)

abbrev pub below-cap32 : Float
below-cap32 = fin true 1 (pos 124)

-- a number that is neither less than another nor level with it is above it; whether they are level may be asked in either order
at_most : (n b : ℕ) (level : Bool) → (n ≡ b → level ≡ true) → ((n ≡ b → ⊥) → level ≡ false) → not (ltb n b || (level && true)) ≡ ltb b n
at_most n b level same other =
    elim (less-or-not b n) [
      | inl h ↦ rw (lt-ltb b n h, le-ltb n b (omega arith), other (λ e. absurd (omega arith))) refl
      | inr h ↦
          elim (less-or-not n b) [
            | inl l ↦ rw (le-ltb b n h, lt-ltb n b l) refl
            | inr l ↦ rw (le-ltb b n h, le-ltb n b l, same (omega arith)) refl
          ]
    ]

unit : (n k : ℕ) → ltb k (n * 1) ≡ ltb k n
unit n k = ap (λ (a : ℕ). ltb k a) (mul-one n)

-- the cap on a value's own scale is above 0, so that a value and the end of the other sign are apart
cap-pos : (e : ℤ) → 0 < cap * down e
cap-pos e = mul-pos (lit< tt) (down_pos e)

pub beyond-cap : (d : Float) → not (le below-cap32 d && le d cap32) ≡ beyond d
unfolding le lt eq beyond
beyond-cap nan = refl
beyond-cap (inf true) = refl
beyond-cap (inf false) = refl
beyond-cap (fin false m e) =
    let n = m * up e * 1 in
    let c = cap * down e in
    let h = cap-pos e in
    rw (lt-ltb 0 (c + n) (omega arith)) (at_most n c (eqb n c) (eq-eqb n c) (ne_eqb n c) ∙ unit (m * up e) c)
beyond-cap (fin true m e) =
    let n = m * up e * 1 in
    let c = cap * down e in
    let h = cap-pos e in
    rw (lt-ltb 0 (n + c) (omega arith))
    (ap not (and_comm (le below-cap32 (fin true m e)) true) ∙ at_most n c (eqb c n) (λ q. eq-eqb c n (sym q)) (λ d. ne_eqb c n (λ q. d (sym q))) ∙ unit (m * up e) c)
