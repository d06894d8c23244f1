-- Tests and their numbers: when a test passes, when two are equal, and how two that never pass together add up.
-- Assumes nothing.
use Prim.Native.Nat.{ℕ, ◌+◌, ◌≤◌, ◌<◌}
use native.Mathlib.Decide.{dec_lt}
use native.Mathlib.Omega.{arith}
use mathlib.Core.Bool.{Bool, true, false, not, ◌&&◌, ◌||◌, and_comm}
use mathlib.Core.Logic.{◌⊎◌, inl, inr}
use mathlib.Core.Path.{◌≡◌, refl, sym, ap, subst, ◌∙◌}
use lib.Dec.{T, leb, ltb, leb→le, le→leb, ltb→lt, lt→ltb}
use lib.Ieee.Bits.{is_true}
use lib.Ieee.Fits.{and_i, and_l, and_r}
use Rattle.lists.specs.Lists.{one, below}

-- a test's value from the fact that it does not pass, and what a value says of the test
pub is_false : (t : Bool) → (T t → ⊥) → t ≡ false
is_false true h = absurd (h tt)
is_false false h = refl

pub is-test : (t : Bool) → t ≡ true → T t
is-test true e = tt
is-test false e = subst T (sym e) tt

-- a test that the code found to fail
pub failed : {a r : Bool} → r ≡ a → r ≡ false → T (not a)
failed e h = rw (← e, h) tt

-- two tests that pass in the same cases are equal
pub same_test : (a b : Bool) → (T a → T b) → (T b → T a) → a ≡ b
same_test true b f g = sym (is_true b (f tt))
same_test false b f g = sym (is_false b g)

-- a test's number
pub one_of : (t : Bool) → T t → one t ≡ 1
one_of t h = ap one (is_true t h)

pub one-not : (t : Bool) → (T t → ⊥) → one t ≡ 0
one-not t h = ap one (is_false t h)

pub one-positive : (t : Bool) → 0 < one t → T t
one-positive true h = tt
one-positive false h = omega arith

pub one-most : (t : Bool) → one t ≤ 1
one-most true = omega arith
one-most false = omega arith

-- of two tests that never pass together, one passes where the third does
pub split2 : (a b c : Bool) → (T a → T b → ⊥) → (T a → T c) → (T b → T c) → (T c → T a ⊎ T b) → one a + one b ≡ one c
split2 true true c n f g h = absurd (n tt tt)
split2 true false c n f g h = sym (one_of c (f tt))
split2 false true c n f g h = sym (one_of c (g tt))
split2 false false true n f g h = elim (h tt) [ inl p ↦ absurd p | inr p ↦ absurd p ]
split2 false false false n f g h = refl

pub less-or-not : (a b : ℕ) → (a < b) ⊎ (b ≤ a)
less-or-not a b = elim (dec_lt a b) [ yes h ↦ inl h | no h ↦ inr (omega arith) ]

-- where a test goes with a test for the same thing, it may be asked of either
pub same-moves : {A : Type 0} (same : A → A → Bool) → ((a b : A) → T (same a b) → a ≡ b) → (f : A → Bool) (p q : A) → (f q && same p q) ≡ (f p && same p q)
same-moves same sound f p q = go (same p q) refl
  where
    go : (c : Bool) → same p q ≡ c → (f q && c) ≡ (f p && c)
    go true e = ap (λ r. f r && true) (sym (sound p q (is-test (same p q) e)))
    go false e = and_comm (f q) false ∙ and_comm false (f p)

pub or-first : (a b : Bool) → T a → T (a || b)
or-first true b t = tt
or-first false b t = absurd t

pub or-second : (a b : Bool) → T b → T (a || b)
or-second true b t = tt
or-second false b t = t

-- from low up to high, high left out
pub below-low : (low high k : ℕ) → T (below low high k) → low ≤ k
below-low low high k t = leb→le low k (and_l (leb low k) (ltb k high) t)

pub below-high : (low high k : ℕ) → T (below low high k) → k < high
below-high low high k t = ltb→lt k high (and_r (leb low k) (ltb k high) t)

pub below_in : (low high k : ℕ) → low ≤ k → k < high → T (below low high k)
below_in low high k h i = and_i (leb low k) (ltb k high) (le→leb low k h) (lt→ltb k high i)

-- ---- what a failed test says of its parts, and its parts of it

pub nor-left : (a b : Bool) → T (not (a || b)) → T (not a)
nor-left true b t = t
nor-left false b t = tt

pub nor-right : (a b : Bool) → T (not (a || b)) → T (not b)
nor-right true b t = absurd t
nor-right false b t = t

pub nor-both : (a b : Bool) → T (not a) → T (not b) → T (not (a || b))
nor-both true b s t = s
nor-both false b s t = t
