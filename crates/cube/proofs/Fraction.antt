-- Document 01, "Under the caps .. each s component lies in [0, 1]", its first part: the fraction of a crossed edge lies in [0, 1], for any finite corner values.
-- No cap is needed: where the difference overflows, the fraction is a zero. It can be -0.0. Assumes nothing.
use Rattle.std.proofs.Common.{◌≡◌, ℕ, ◌+◌, ◌*◌, ◌<◌, ◌≤◌, Bool, true, false, not, T, List, sym, ap, ◌∙◌, subst, inl, inr, zero-le, le_trans, le_of_eq, not-suc-le-zero, add-zero, eq-zero-or-pos, mul-pos, one-mul, zero-mul, mul-one, not-le_of_lt, lit<, ltb→lt, lt→ltb, nltb→le}
use mathlib.Core.List.{Memᴰ}
use lib.Ieee.{Float, nan, inf, fin, binary32, unlike, up, down, lt, le, sub}
use lib.Ieee.Fits.{up_pos, eq→eqb, div-fits}
use lib.Ieee.Scale.{finite}
use lib.Ieee.Positive.{num, den, first_pos}
use Rattle.rounding.specs.Values.{weak, below_zero, Share, Held}
use Rattle.rounding.proofs.Sign.{weak-finite}
use Rattle.rounding.proofs.Order.{weak-le}
use Rattle.rounding.proofs.Quotient.{share-above, share-below}
use Rattle.rules.specs.Cell.{CubeEdge, corner, negative, crosses, fraction, cube_edges, zero32, one32}
use Rattle.lists.proofs.Lists.{All, none, more, all_in}
use Rattle.cube.proofs.Corners.{Cell}

-- ---- "Negative means d < 0, so 0 and -0.0 are not negative."

-- what `lt` compares with 0
minus-size : (X D : ℕ) → X * 1 + 0 * D ≡ X
minus-size X D = ap (λ (z : ℕ). X * 1 + z) (zero-mul D) ∙ add-zero (X * 1) ∙ mul-one X

none_below : (X D : ℕ) → X < 0 * D → ⊥
none_below X D h = not-suc-le-zero (subst (λ (z : ℕ). X < z) (zero-mul D) h)

negative-below : (x : Float) → T (finite x) → T (negative x) → T (below_zero x)
unfolding lt
negative-below nan h n = absurd h
negative-below (inf s) h n = absurd h
negative-below (fin true m e) h n = lt→ltb 0 m (first_pos m (up e) (subst (λ (z : ℕ). 0 < z) (minus-size (m * up e) (down e)) (ltb→lt 0 (m * up e * 1 + 0 * down e) n)))
negative-below (fin false m e) h n = absurd (none_below (m * up e * 1) (down e) (ltb→lt (m * up e * 1) (0 * down e) n))

other-weak : (x : Float) → T (finite x) → T (not (negative x)) → T (weak x)
unfolding lt
other-weak nan h n = absurd h
other-weak (inf s) h n = absurd h
other-weak (fin false m e) h n = tt
other-weak (fin true m e) h n =
    elim (eq-zero-or-pos m) [
      | inl z ↦ eq→eqb z
      | inr k ↦ absurd (not-le_of_lt (mul-pos k (up_pos e)) (subst (λ (z : ℕ). z ≤ 0) (minus-size (m * up e) (down e)) (nltb→le 0 (m * up e * 1 + 0 * down e) n)))
    ]

-- ---- "Edge a-b crosses if exactly one end is negative. Fraction f = da / (da - db)"

pub share-of-crossing : (a b : Float) → Held binary32 a → Held binary32 b → T (unlike (negative a) (negative b)) → Share (fraction a b)
unfolding fraction
share-of-crossing a b h k u = go (negative a) (negative b) u (negative-below a h.1) (other-weak a h.1) (negative-below b k.1) (other-weak b k.1)
  where
    go : (x y : Bool) → T (unlike x y) → (T x → T (below_zero a)) → (T (not x) → T (weak a)) → (T y → T (below_zero b)) → (T (not y) → T (weak b)) → Share (fraction a b)
    go true true t p q r s = absurd t
    go true false t p q r s = share-below binary32 a b h k (p tt) (s tt)
    go false true t p q r s = share-above binary32 a b h k (q tt) (r tt)
    go false false t p q r s = absurd t

pub fraction-held : (a b : Float) → Share (fraction a b) → Held binary32 (fraction a b)
unfolding fraction
fraction-held a b s = (div-fits binary32 a (sub binary32 a b), weak-finite (fraction a b) s.0)

-- the ends of an edge are corners
abbrev pub Ends : CubeEdge → Type 0
Ends e = (e.a < 8) × (e.b < 8)

pub cube-ends : All Ends cube_edges
cube-ends =
    more (lit< tt, lit< tt) (more (lit< tt, lit< tt) (more (lit< tt, lit< tt) (more (lit< tt, lit< tt) (more (lit< tt, lit< tt) (more (lit< tt, lit< tt)
    (more (lit< tt, lit< tt) (more (lit< tt, lit< tt) (more (lit< tt, lit< tt) (more (lit< tt, lit< tt) (more (lit< tt, lit< tt) (more (lit< tt, lit< tt) none)))))))))))

pub share-of-edge : (d : List Float) (e : CubeEdge) → Cell d → Ends e → T (crosses d e) → Share (fraction (corner d e.a) (corner d e.b))
share-of-edge d e c n t = share-of-crossing (corner d e.a) (corner d e.b) (c.1 e.a n.0) (c.1 e.b n.1) t

-- ---- the same by the order of floats

pub share-in-unit : (x : Float) → Share x → T (le zero32 x) × T (le x one32)
share-in-unit x s = (
  weak-le zero32 x tt s.0 (le_trans (le_of_eq (zero-mul (den x))) zero-le),
  weak-le x one32 s.0 tt (le_trans (le_of_eq (mul-one (num x))) (le_trans s.1 (le_of_eq (sym (one-mul (den x)))))),
)

pub fraction-in-unit : (d : List Float) (e : CubeEdge) → Cell d → Memᴰ e cube_edges → T (crosses d e)
    → T (le zero32 (fraction (corner d e.a) (corner d e.b))) × T (le (fraction (corner d e.a) (corner d e.b)) one32)
fraction-in-unit d e c m t = share-in-unit (fraction (corner d e.a) (corner d e.b)) (share-of-edge d e c (all_in m cube-ends) t)
