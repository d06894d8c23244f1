-- The order of values that are finite with a clear sign, zero included, as that of their fractions; and what lies below such a value.
-- Assumes nothing.
use mathlib.Core.Path.{◌≡◌, refl, ap, ◌∙◌}
use mathlib.Core.Logic.{◌⊎◌, inl, inr}
use Prim.Native.Nat.{ℕ, zero, suc, ◌+◌, ◌*◌, ◌≤◌}
use native.Mathlib.Nat.{le_trans, le_of_eq, le_of_lt, zero-mul}
use native.Mathlib.Omega.{arith}
use mathlib.Core.Bool.{Bool, true, false, ◌&&◌, ◌||◌, true≢false}
use lib.Dec.{T, ltb, eqb, eqb→eq, ltb→lt, lt→ltb}
use lib.Arith.{le-zero}
use lib.Ieee.{Float, nan, inf, fin, up, down, le}
use lib.Ieee.Fits.{and_l}
use lib.Ieee.Exact.{HasValue}
use lib.Ieee.Order.{le_of_values}
use lib.Ieee.Positive.{num, den, den_pos}
use Rattle.rounding.specs.Values.{clear, plain, weak}

pub plain_value : (x : Float) → T (plain x) → HasValue x false (num x) (den x)
plain_value nan p = absurd p
plain_value (inf s) p = absurd p
plain_value (fin true m e) p = absurd p
plain_value (fin false m e) p = (refl, refl)

pub value-plain : (x : Float) (a c : ℕ) → HasValue x false a c → T (plain x)
value-plain nan a c h = absurd h
value-plain (inf s) a c h = absurd h
value-plain (fin true m e) a c h = absurd (true≢false h.0)
value-plain (fin false m e) a c h = tt

either : (a b : Bool) → T (a || b) → T a ⊎ T b
either true b t = inl tt
either false b t = inr t

lt-or-eq : (a b : ℕ) → T (ltb a b || (eqb a b && true)) → a ≤ b
lt-or-eq a b t = elim (either (ltb a b) (eqb a b && true) t) [ inl u ↦ le_of_lt (ltb→lt a b u) | inr u ↦ le_of_eq (eqb→eq a b (and_l (eqb a b) true u)) ]

pub le-cross : (x y : Float) → T (plain x) → T (plain y) → T (le x y) → num x * den y ≤ num y * den x
unfolding le
le-cross nan y p q h = absurd p
le-cross (inf s) y p q h = absurd p
le-cross (fin true m e) y p q h = absurd p
le-cross (fin false m e) nan p q h = absurd q
le-cross (fin false m e) (inf t) p q h = absurd q
le-cross (fin false m e) (fin true n d) p q h = absurd q
le-cross (fin false m e) (fin false n d) p q h = lt-or-eq (m * up e * down d) (n * up d * down e) h

pub cross-le : (x y : Float) → T (plain x) → T (plain y) → num x * den y ≤ num y * den x → T (le x y)
cross-le x y p q h = le_of_values x y (num x) (den x) (num y) (den y) (den_pos x) (den_pos y) (plain_value x p) (plain_value y q) h

-- the way back with a -0.0 on either side
zeros : (a b : ℕ) → a ≡ 0 → b ≡ 0 → T (ltb b a || (eqb a b && true)) × T (false || (eqb a b && (false || eqb a 0)))
zeros a b p q = rw (p, q) (tt, tt)

or_l : (a b : Bool) → T a → T (a || b)
or_l true b t = tt
or_l false b t = absurd t

zero-below : (a b : ℕ) → a ≡ 0 → T (ltb 0 (a + b) || (eqb a b && (false || eqb a 0)))
zero-below a zero p = rw p tt
zero-below a (suc b) p = or_l (ltb 0 (a + suc b)) (eqb a (suc b) && (false || eqb a 0)) (lt→ltb 0 (a + suc b) (omega arith))

none : (m u v : ℕ) → T (eqb m 0) → m * u * v ≡ 0
none m u v z = ap (λ (n : ℕ). n * u * v) (eqb→eq m 0 z) ∙ ap (λ (n : ℕ). n * v) (zero-mul u) ∙ zero-mul v

pub weak-le : (x y : Float) → T (weak x) → T (weak y) → num x * den y ≤ num y * den x → T (le x y)
unfolding le
weak-le nan y p q h = absurd p
weak-le (inf s) y p q h = absurd p
weak-le (fin s m e) nan p q h = absurd q
weak-le (fin s m e) (inf t) p q h = absurd q
weak-le (fin true m e) (fin true n d) p q h = (zeros (m * up e * down d) (n * up d * down e) (none m (up e) (down d) p) (none n (up d) (down e) q)).0
weak-le (fin true m e) (fin false n d) p q h = zero-below (m * up e * down d) (n * up d * down e) (none m (up e) (down d) p)
weak-le (fin false m e) (fin true n d) p q h =
    let z : n * up d * down e ≡ 0 = none n (up d) (down e) q in
    (zeros (m * up e * down d) (n * up d * down e) (le-zero (le_trans h (le_of_eq z))) z).1
weak-le (fin false m e) (fin false n d) p q h = cross-le (fin false m e) (fin false n d) tt tt h

-- what is at most a finite value is no infinity
pub plain-of-le : (x y : Float) → T (clear x) → T (plain y) → T (le x y) → T (plain x)
unfolding le
plain-of-le nan y c p h = absurd c
plain-of-le (inf true) y c p h = absurd c
plain-of-le (inf false) nan c p h = absurd p
plain-of-le (inf false) (inf t) c p h = absurd p
plain-of-le (inf false) (fin t n d) c p h = absurd h
plain-of-le (fin s m e) y c p h = c
