-- The operations on values that may be zero, each as one rounding of one fraction; and the bounds that follow, in either sign and with the sign clear.
-- Assumes nothing.
use mathlib.Core.Path.{◌≡◌, refl, sym, ap, ◌∙◌, subst}
use Prim.Native.Nat.{ℕ, ◌+◌, ◌-◌, ◌*◌, ◌^◌, ◌≤◌, ◌<◌, zero-le}
use native.Mathlib.Nat.{
  le_trans,
  le_of_eq,
  mul-one,
  one-mul,
  mul_comm,
  mul_assoc,
  mul_right_comm,
  mul-le-mul,
  mul-le-mul_right,
  mul-pos,
  add-mul,
  zero-mul,
  add-zero,
  zero-add,
  sub-zero,
  add-le-add,
  not-le_of_lt,
  mul-mul-mul_comm,
  lt_irrefl,
}
use native.Mathlib.Omega.{arith}
use mathlib.Core.Bool.{Bool, true, false, not, ◌&&◌, beq, cond}
use lib.IntN.{ℤ, pos}
use lib.Dec.{T, ltb, eqb, eqb→eq, ltb→lt, lt→ltb}
use lib.Pow.{pow_pos}
use lib.Ieee.{Float, nan, inf, fin, Format, prec, unlike, up, down, round, neg, sum, add, sub, mul, div, of_int}
use lib.Ieee.Fits.{up_pos, down_pos}
use lib.Ieee.Exact.{HasValue}
use lib.Ieee.Back.{round_whole}
use lib.Ieee.Positive.{num, den, den_pos, first_pos, value→cross}
use Rattle.rounding.specs.Values.{plain, weak, below_zero, Within, UpTo, Share, Holds}
use Rattle.rounding.proofs.Sign.{neg-within, plain-finite, plain-weak}
use Rattle.rounding.proofs.Order.{value-plain}
use Rattle.rounding.proofs.Bounds.{up_to, within, holds-whole}

-- ---- `sum` at each pair of signs

-- a zero times anything
zero-size : (u v : ℕ) → 0 * u * v ≡ 0
zero-size u v = ap (λ (z : ℕ). z * v) (zero-mul u) ∙ zero-mul v

pick_first : (f : Format) (s : Bool) (a b c : ℕ) → b ≤ a → cond (ltb a b) (round f (not s) (b - a) c) (round f (s && ltb b a) (a - b) c) ≡ round f (s && ltb b a) (a - b) c
pick_first f s a b c h = go (ltb a b) (ltb→lt a b)
  where
    go : (t : Bool) → (T t → a < b) → cond t (round f (not s) (b - a) c) (round f (s && ltb b a) (a - b) c) ≡ round f (s && ltb b a) (a - b) c
    go true k = absurd (not-le_of_lt (k tt) h)
    go false k = refl

-- a / c - b / c, for b at most a
difference : (f : Format) (a b c : ℕ) → b ≤ a → sum f false a true b c ≡ round f false (a - b) c
unfolding sum
difference f a b c h = pick_first f false a b c h

-- -a / c + 0, for a above 0
minus-zero : (f : Format) (a c : ℕ) → 0 < a → sum f true a false 0 c ≡ round f true a c
unfolding sum
minus-zero f a c h = pick_first f true a 0 c zero-le ∙ ap (λ (z : ℕ). round f (ltb 0 a) z c) (sub-zero a) ∙ go (ltb 0 a) (lt→ltb 0 a h)
  where
    go : (t : Bool) → T t → round f t a c ≡ round f true a c
    go true k = refl
    go false k = absurd k

-- a / c + 0
plus-zero : (f : Format) (a c : ℕ) → sum f false a false 0 c ≡ round f false a c
unfolding sum
plus-zero f a c = ap (λ (z : ℕ). round f false z c) (add-zero a)

-- -0 + b / c, for b above 0
zero-plus : (f : Format) (b c : ℕ) → 0 < b → sum f true 0 false b c ≡ round f false b c
unfolding sum
zero-plus f b c h = go (ltb 0 b) (lt→ltb 0 b h)
  where
    go : (t : Bool) → T t → cond t (round f false (b - 0) c) (round f (true && ltb b 0) (0 - b) c) ≡ round f false b c
    go true k = ap (λ (z : ℕ). round f false z c) (sub-zero b)
    go false k = absurd k

-- ---- sums and differences, each as one rounding

pub add_is : (f : Format) (x y : Float) → T (plain x) → T (weak y) → add f x y ≡ round f false (num x * den y + num y * den x) (den x * den y)
unfolding add
add_is f nan y p q = absurd p
add_is f (inf s) y p q = absurd p
add_is f (fin true m e) y p q = absurd p
add_is f (fin false m e) nan p q = absurd q
add_is f (fin false m e) (inf t) p q = absurd q
add_is f (fin false m e) (fin false n d) p q = unfold sum in refl
add_is f (fin false m e) (fin true n d) p q = nothing n (eqb→eq n 0 q)
  where
    nothing : (n : ℕ) → n ≡ 0 → sum f false (m * up e * down d) true (n * up d * down e) (down e * down d) ≡ round f false (m * up e * down d + n * up d * down e) (down e * down d)
    nothing n z =
        let b : n * up d * down e ≡ 0 = ap (λ (z : ℕ). z * up d * down e) z ∙ zero-size (up d) (down e) in
        rw b (difference f (m * up e * down d) 0 (down e * down d) zero-le ∙ ap (λ (z : ℕ). round f false z (down e * down d))
        (sub-zero (m * up e * down d) ∙ sym (add-zero (m * up e * down d))))

-- x - y, for y at most x
pub less-is : (f : Format) (x y : Float) → T (plain x) → T (weak y) → num y * den x ≤ num x * den y → sub f x y ≡ round f false (num x * den y - num y * den x) (den x * den y)
unfolding sub add neg
less-is f nan y p q h = absurd p
less-is f (inf s) y p q h = absurd p
less-is f (fin true m e) y p q h = absurd p
less-is f (fin false m e) nan p q h = absurd q
less-is f (fin false m e) (inf t) p q h = absurd q
less-is f (fin false m e) (fin false n d) p q h = difference f (m * up e * down d) (n * up d * down e) (down e * down d) h
less-is f (fin false m e) (fin true n d) p q h = nothing n (eqb→eq n 0 q)
  where
    nothing : (n : ℕ) → n ≡ 0 → sum f false (m * up e * down d) false (n * up d * down e) (down e * down d) ≡ round f false (m * up e * down d - n * up d * down e)
        (down e * down d)
    nothing n z =
        let b : n * up d * down e ≡ 0 = ap (λ (z : ℕ). z * up d * down e) z ∙ zero-size (up d) (down e) in
        rw b (plus-zero f (m * up e * down d) (down e * down d) ∙ ap (λ (z : ℕ). round f false z (down e * down d)) (sym (sub-zero (m * up e * down d))))

size-pos : (m : ℕ) (e d : ℤ) → T (ltb 0 m) → 0 < m * up e * down d
size-pos m e d h = mul-pos (mul-pos (ltb→lt 0 m h) (up_pos e)) (down_pos d)

-- x - y, for a y below zero and an x that is not
pub gap_up : (f : Format) (x y : Float) → T (weak x) → T (below_zero y) → sub f x y ≡ round f false (num x * den y + num y * den x) (den x * den y)
unfolding sub add neg
gap_up f nan y p q = absurd p
gap_up f (inf s) y p q = absurd p
gap_up f (fin s m e) nan p q = absurd q
gap_up f (fin s m e) (inf t) p q = absurd q
gap_up f (fin s m e) (fin false n d) p q = absurd q
gap_up f (fin false m e) (fin true n d) p q = unfold sum in refl
gap_up f (fin true m e) (fin true n d) p q = nothing m (eqb→eq m 0 p)
  where
    nothing : (m : ℕ) → m ≡ 0 → sum f true (m * up e * down d) false (n * up d * down e) (down e * down d) ≡ round f false (m * up e * down d + n * up d * down e) (down e * down d)
    nothing m z =
        let b : m * up e * down d ≡ 0 = ap (λ (z : ℕ). z * up e * down d) z ∙ zero-size (up e) (down d) in
        rw b (zero-plus f (n * up d * down e) (down e * down d) (size-pos n d e q) ∙ ap (λ (z : ℕ). round f false z (down e * down d)) (sym (zero-add (n * up d * down e))))

-- x - y, for an x below zero and a y that is not
pub gap_down : (f : Format) (x y : Float) → T (below_zero x) → T (weak y) → sub f x y ≡ round f true (num x * den y + num y * den x) (den x * den y)
unfolding sub add neg
gap_down f nan y p q = absurd p
gap_down f (inf s) y p q = absurd p
gap_down f (fin false m e) y p q = absurd p
gap_down f (fin true m e) nan p q = absurd q
gap_down f (fin true m e) (inf t) p q = absurd q
gap_down f (fin true m e) (fin false n d) p q = unfold sum in refl
gap_down f (fin true m e) (fin true n d) p q = nothing n (eqb→eq n 0 q)
  where
    nothing : (n : ℕ) → n ≡ 0 → sum f true (m * up e * down d) false (n * up d * down e) (down e * down d) ≡ round f true (m * up e * down d + n * up d * down e) (down e * down d)
    nothing n z =
        let b : n * up d * down e ≡ 0 = ap (λ (z : ℕ). z * up d * down e) z ∙ zero-size (up d) (down e) in
        rw b (minus-zero f (m * up e * down d) (down e * down d) (size-pos m e d p) ∙ ap (λ (z : ℕ). round f true z (down e * down d)) (sym (add-zero (m * up e * down d))))

-- ---- bounds in either sign

sum-within : (f : Format) (s : Bool) (a : ℕ) (t : Bool) (b c n : ℕ) → Holds f n 1 → 0 < c → a + b ≤ n * c → Within n (sum f s a t b c)
unfolding sum
sum-within f s a t b c n v C h = go (beq s t) (ltb a b)
  where
    go : (x y : Bool) → Within n (cond x (round f s (a + b) c) (cond y (round f t (b - a) c) (round f (s && ltb b a) (a - b) c)))
    go true y = within f s n (a + b) c v C h
    go false true = within f t n (b - a) c v C (omega arith)
    go false false = within f (s && ltb b a) n (a - b) c v C (omega arith)

-- m / e ≤ i and n / d ≤ j: then their sum is at most i + j, and their product at most i * j
cross-sum : (m e n d i j : ℕ) → m ≤ i * e → n ≤ j * d → m * d + n * e ≤ (i + j) * (e * d)
cross-sum m e n d i j p q =
    le_trans (add-le-add (mul-le-mul_right d p) (mul-le-mul_right e q)) (le_of_eq (shape i j e d))
  where
    shape : (i j e d : ℕ) → i * e * d + j * d * e ≡ (i + j) * (e * d)
    shape i j e d = simp (add-mul, mul_assoc, mul_comm)

cross_product : (m e n d i j : ℕ) → m ≤ i * e → n ≤ j * d → m * n ≤ i * j * (e * d)
cross_product m e n d i j p q = le_trans (mul-le-mul p q) (le_of_eq (mul-mul-mul_comm i e j d))

pub add-within : (f : Format) (i j : ℕ) (x y : Float) → Holds f (i + j) 1 → Within i x → Within j y → Within (i + j) (add f x y)
unfolding add
add-within f i j nan y v p q = absurd p.0
add-within f i j (inf s) y v p q = absurd p.0
add-within f i j (fin s m e) nan v p q = absurd q.0
add-within f i j (fin s m e) (inf t) v p q = absurd q.0
add-within f i j (fin s m e) (fin t n d) v p q =
    sum-within f s (m * up e * down d) t (n * up d * down e) (down e * down d) (i + j) v (mul-pos (down_pos e) (down_pos d))
    (cross-sum (m * up e) (down e) (n * up d) (down d) i j p.1 q.1)

pub sub_within : (f : Format) (i j : ℕ) (x y : Float) → Holds f (i + j) 1 → Within i x → Within j y → Within (i + j) (sub f x y)
unfolding sub
sub_within f i j x y v p q = add-within f i j x (neg y) v p (neg-within j y q)

pub mul-within : (f : Format) (i j : ℕ) (x y : Float) → Holds f (i * j) 1 → Within i x → Within j y → Within (i * j) (mul f x y)
unfolding mul
mul-within f i j nan y v p q = absurd p.0
mul-within f i j (inf s) y v p q = absurd p.0
mul-within f i j (fin s m e) nan v p q = absurd q.0
mul-within f i j (fin s m e) (inf t) v p q = absurd q.0
mul-within f i j (fin s m e) (fin t n d) v p q =
    within f (unlike s t) (i * j) (m * up e * (n * up d)) (down e * down d) v (mul-pos (down_pos e) (down_pos d))
    (cross_product (m * up e) (down e) (n * up d) (down d) i j p.1 q.1)

-- ---- bounds with the sign clear

-- a divisor that is not 0
pub div-at : (f : Format) (s : Bool) (m : ℕ) (e : ℤ) (t : Bool) (n : ℕ) (d : ℤ) → 0 < n → div f (fin s m e) (fin t n d) ≡ round f (unlike s t) (m * up e * down d)
    (n * up d * down e)
unfolding div
div-at f s m e t n d h = go (eqb n 0) (eqb→eq n 0)
  where
    go : (b : Bool) → (T b → n ≡ 0) → cond b (cond (eqb m 0) nan (inf (unlike s t))) (round f (unlike s t) (m * up e * down d) (n * up d * down e)) ≡ round f (unlike s t)
        (m * up e * down d) (n * up d * down e)
    go true k = absurd (lt_irrefl 0 (subst (λ (z : ℕ). 0 < z) (k tt) h))
    go false k = refl

-- a whole number as a float is that number
pub of-whole : (f : Format) (k : ℕ) → k ≤ 2 ^ prec f → HasValue (of_int f (pos k)) false k 1
unfolding of_int
of-whole f k h = round_whole f false k h

-- X / D ≤ k and Y / E = k: then X / D divided by Y / E is at most 1
shared : (X D Y E k : ℕ) → X ≤ k * D → Y * 1 ≡ k * E → X * E ≤ 1 * (Y * D)
shared X D Y E k h e =
    le_trans (mul-le-mul_right E h)
    (le_of_eq (mul_right_comm k D E ∙ ap (λ (z : ℕ). z * D) (sym e ∙ mul-one Y) ∙ sym (one-mul (Y * D))))

pub up-to-within : (n : ℕ) (x : Float) → UpTo n x → Within n x
up-to-within n x p = (plain-finite x p.0, p.1)

pub up-to-share : (x : Float) → UpTo 1 x → Share x
up-to-share x u = (plain-weak x u.0, le_trans u.1 (le_of_eq (one-mul (den x))))

pub add-up : (f : Format) (i j : ℕ) (x y : Float) → Holds f (i + j) 1 → UpTo i x → UpTo j y → UpTo (i + j) (add f x y)
add-up f i j x y v p q =
    rw (add_is f x y p.0 (plain-weak y q.0))
    (up_to f (i + j) (num x * den y + num y * den x) (den x * den y) v (mul-pos (den_pos x) (den_pos y)) (cross-sum (num x) (den x) (num y) (den y) i j p.1 q.1))

pub mul_is : (f : Format) (x y : Float) → T (plain x) → T (plain y) → mul f x y ≡ round f false (num x * num y) (den x * den y)
unfolding mul
mul_is f nan y p q = absurd p
mul_is f (inf s) y p q = absurd p
mul_is f (fin true m e) y p q = absurd p
mul_is f (fin false m e) nan p q = absurd q
mul_is f (fin false m e) (inf t) p q = absurd q
mul_is f (fin false m e) (fin true n d) p q = absurd q
mul_is f (fin false m e) (fin false n d) p q = refl

pub mul-up : (f : Format) (i j : ℕ) (x y : Float) → Holds f (i * j) 1 → UpTo i x → UpTo j y → UpTo (i * j) (mul f x y)
mul-up f i j x y v p q =
    rw (mul_is f x y p.0 q.0)
    (up_to f (i * j) (num x * num y) (den x * den y) v (mul-pos (den_pos x) (den_pos y)) (cross_product (num x) (den x) (num y) (den y) i j p.1 q.1))

pub div_is : (f : Format) (x y : Float) → T (plain x) → T (plain y) → 0 < num y → div f x y ≡ round f false (num x * den y) (num y * den x)
unfolding div
div_is f nan y p q h = absurd p
div_is f (inf s) y p q h = absurd p
div_is f (fin true m e) y p q h = absurd p
div_is f (fin false m e) nan p q h = absurd q
div_is f (fin false m e) (inf t) p q h = absurd q
div_is f (fin false m e) (fin true n d) p q h = absurd q
div_is f (fin false m e) (fin false n d) p q h = div-at f false m e false n d (first_pos n (up d) h)

-- what is at most k, divided by the whole number k
pub div-up : (f : Format) (k : ℕ) (x : Float) → 0 < k → k ≤ 2 ^ prec f → UpTo k x → UpTo 1 (div f x (of_int f (pos k)))
div-up f k x K h p =
    let y = of_int f (pos k) in
    let v = of-whole f k h in
    let e : num y * 1 ≡ k * den y = value→cross y k 1 v in
    let y0 : 0 < num y = subst (λ (z : ℕ). 0 < z) (sym e ∙ mul-one (num y)) (mul-pos K (den_pos y)) in
    rw (div_is f x y p.0 (value-plain y k 1 v) y0)
    (up_to f 1 (num x * den y) (num y * den x) (holds-whole f 1 (pow_pos (prec f))) (mul-pos y0 (den_pos x))
    (shared (num x) (den x) (num y) (den y) k p.1 e))
