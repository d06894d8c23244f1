-- a / (a - b), where exactly one of a and b is below zero, is from 0 to 1 after its two roundings. The rounded |a - b| is |a| at least, since |a| is a value of
-- the format; and where the difference overflows, the quotient is a zero. It can be -0.0. Assumes nothing.
use mathlib.Core.Path.{◌≡◌, sym, ap, ◌∙◌}
use Prim.Native.Nat.{ℕ, ◌+◌, ◌*◌, ◌≤◌, ◌<◌, zero-le}
use native.Mathlib.Nat.{le_trans, le_of_eq, lt_of_lt_of_le, one-mul, mul_comm, mul_assoc, mul-pos, add-mul, zero-mul, le-add_right, le-add_left}
use mathlib.Core.Bool.{Bool, true, false}
use lib.IntN.{ℤ}
use lib.Dec.{T, eqb→eq, ltb→lt}
use lib.Pow.{pow_pos}
use lib.Ieee.{Float, nan, inf, fin, Format, prec, up, down, round, neg, sub, div}
use lib.Ieee.Fits.{up_pos, down_pos}
use lib.Ieee.Positive.{num, den, den_pos, first_pos}
use Rattle.rounding.specs.Values.{clear, plain, weak, below_zero, UpTo, Share, Held}
use Rattle.rounding.proofs.Sign.{round-clear, round-neg}
use Rattle.rounding.proofs.Bounds.{at_least, up_to, within, holds-whole, holds-held}
use Rattle.rounding.proofs.Operations.{gap_up, gap_down, div-at, up-to-share}
use Rattle.rounding.proofs.Mixing.{nothing-weak}

-- a / c + b / d is a / c at least, and b / d at least
first-in : (X D Y E : ℕ) → X * (D * E) ≤ (X * E + Y * D) * D
first-in X D Y E = le_trans (le-add_right (X * (D * E)) (Y * D * D)) (le_of_eq (shape X D Y E))
  where
    shape : (X D Y E : ℕ) → X * (D * E) + Y * D * D ≡ (X * E + Y * D) * D
    shape X D Y E = simp (add-mul, mul_assoc, mul_comm)

second-in : (X D Y E : ℕ) → Y * (D * E) ≤ (X * E + Y * D) * E
second-in X D Y E = le_trans (le-add_left (Y * (D * E)) (X * E * E)) (le_of_eq (shape X D Y E))
  where
    shape : (X D Y E : ℕ) → X * E * E + Y * (D * E) ≡ (X * E + Y * D) * E
    shape X D Y E = simp (add-mul, mul_assoc)

-- a rounded sum of two sizes is each of them at least, unless it is an infinity
reaches-first : (f : Format) (a b : Float) → Held f a → T (plain (round f false (num a * den b + num b * den a) (den a * den b)))
    → num a * den (round f false (num a * den b + num b * den a) (den a * den b)) ≤ num (round f false (num a * den b + num b * den a) (den a * den b)) * den a
reaches-first f a b h p =
    at_least f (num a) (den a) (num a * den b + num b * den a) (den a * den b) (holds-held f a h) (den_pos a) (mul-pos (den_pos a) (den_pos b))
    (first-in (num a) (den a) (num b) (den b)) p

reaches-second : (f : Format) (a b : Float) → Held f b → T (plain (round f false (num a * den b + num b * den a) (den a * den b)))
    → num b * den (round f false (num a * den b + num b * den a) (den a * den b)) ≤ num (round f false (num a * den b + num b * den a) (den a * den b)) * den b
reaches-second f a b h p =
    at_least f (num b) (den b) (num a * den b + num b * den a) (den a * den b) (holds-held f b h) (den_pos b) (mul-pos (den_pos a) (den_pos b))
    (second-in (num a) (den a) (num b) (den b)) p

pos-of-reach : (X E q u D : ℕ) → 0 < X → 0 < E → X * E ≤ q * u * D → 0 < q
pos-of-reach X E q u D x e h = first_pos q u (first_pos (q * u) D (lt_of_lt_of_le (mul-pos x e) h))

-- X / D over Y / E, for X / D at most Y / E
unit-share : (f : Format) (X D Y E : ℕ) → 0 < Y → 0 < D → X * E ≤ Y * D → UpTo 1 (round f false (X * E) (Y * D))
unit-share f X D Y E y d h = up_to f 1 (X * E) (Y * D) (holds-whole f 1 (pow_pos (prec f))) (mul-pos y d) (le_trans h (le_of_eq (sym (one-mul (Y * D)))))

-- ---- a below zero

share-over : (f : Format) (m : ℕ) (e : ℤ) (D : Float) → 0 < m → T (clear D) → (T (plain D) → m * up e * den D ≤ num D * down e) → Share (div f (fin true m e) (neg D))
unfolding neg
share-over f m e nan M c h = absurd c
share-over f m e (inf true) M c h = absurd c
share-over f m e (inf false) M c h = unfold div in (tt, zero-le)
share-over f m e (fin true q k) M c h = absurd c
share-over f m e (fin false q k) M c h =
    let Q : 0 < q = pos-of-reach (m * up e) (down k) q (up k) (down e) (mul-pos M (up_pos e)) (down_pos k) (h tt) in
    rw (div-at f true m e true q k Q)
    (up-to-share (round f false (m * up e * down k) (q * up k * down e)) (unit-share f (m * up e) (down e) (q * up k) (down k) (mul-pos Q (up_pos k)) (down_pos e) (h tt)))

pub share-below : (f : Format) (a b : Float) → Held f a → Held f b → T (below_zero a) → T (weak b) → Share (div f a (sub f a b))
share-below f nan b h k p q = absurd p
share-below f (inf s) b h k p q = absurd p
share-below f (fin false m e) b h k p q = absurd p
share-below f (fin true m e) b h k p q =
    let a = fin true m e in
    let N = num a * den b + num b * den a in
    let C = den a * den b in
    rw (gap_down f a b p q, round-neg)
    (share-over f m e (round f false N C) (ltb→lt 0 m p) (round-clear f N C) (reaches-first f a b h))

-- ---- b below zero

share-under : (f : Format) (s : Bool) (m : ℕ) (e : ℤ) (D : Float) (Y E : ℕ) → 0 < Y → T (weak (fin s m e)) → T (clear D)
    → (T (plain D) → m * up e * den D ≤ num D * down e) → (T (plain D) → Y * den D ≤ num D * E) → Share (div f (fin s m e) D)
share-under f s m e nan Y E y w c h g = absurd c
share-under f s m e (inf true) Y E y w c h g = absurd c
share-under f true m e (inf false) Y E y w c h g = unfold div in (tt, zero-le)
share-under f false m e (inf false) Y E y w c h g = unfold div in (tt, zero-le)
share-under f s m e (fin true q k) Y E y w c h g = absurd c
share-under f false m e (fin false q k) Y E y w c h g =
    let Q : 0 < q = pos-of-reach Y (down k) q (up k) E y (down_pos k) (g tt) in
    rw (div-at f false m e false q k Q)
    (up-to-share (round f false (m * up e * down k) (q * up k * down e)) (unit-share f (m * up e) (down e) (q * up k) (down k) (mul-pos Q (up_pos k)) (down_pos e) (h tt)))
share-under f true m e (fin false q k) Y E y w c h g =
    let Q : 0 < q = pos-of-reach Y (down k) q (up k) E y (down_pos k) (g tt) in
    let z : m * up e * down k ≡ 0 = ap (λ (n : ℕ). n * up e * down k) (eqb→eq m 0 w) ∙ ap (λ (n : ℕ). n * down k) (zero-mul (up e)) ∙ zero-mul (down k) in
    let x = round f true (m * up e * down k) (q * up k * down e) in
    let r = nothing-weak x (within f true 0 (m * up e * down k) (q * up k * down e) (holds-whole f 0 zero-le) (mul-pos (mul-pos Q (up_pos k)) (down_pos e))
    (le_trans (le_of_eq z) zero-le)) in
    let s : Share x = (r.0, le_trans (le_of_eq r.1) zero-le) in
    rw (div-at f true m e false q k Q) s

num-below : (b : Float) → T (below_zero b) → 0 < num b
num-below nan p = absurd p
num-below (inf s) p = absurd p
num-below (fin false m e) p = absurd p
num-below (fin true m e) p = mul-pos (ltb→lt 0 m p) (up_pos e)

pub share-above : (f : Format) (a b : Float) → Held f a → Held f b → T (weak a) → T (below_zero b) → Share (div f a (sub f a b))
share-above f nan b h k p q = absurd p
share-above f (inf s) b h k p q = absurd p
share-above f (fin s m e) b h k p q =
    let a = fin s m e in
    let N = num a * den b + num b * den a in
    let C = den a * den b in
    rw (gap_up f a b p q)
    (share-under f s m e (round f false N C) (num b) (den b) (num-below b q) p (round-clear f N C) (reaches-first f a b h) (reaches-second f a b k))
