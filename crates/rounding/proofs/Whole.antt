-- Whole numbers as floats: what a format counts without a gap is held exactly, and compares as the number does. And a whole number c, plus a value from 0 to 1,
-- is from c to c + 1 after its rounding, since both ends are values of the format. Assumes nothing.
use mathlib.Core.Path.{◌≡◌, sym, ap, ◌∙◌, subst}
use Prim.Native.Nat.{ℕ, suc, ◌+◌, ◌*◌, ◌^◌, ◌≤◌}
use native.Mathlib.Nat.{le_trans, le_of_eq, zero-lt-suc, mul-one, mul_assoc, mul_right_comm, mul-le-mul_right, mul-pos, le-add_right}
use mathlib.Core.Bool.{true, false}
use lib.IntN.{ℤ, pos, negsuc, nat_abs}
use lib.Dec.{T}
use lib.Ieee.{Float, Format, prec, round, add, of_int, le}
use lib.Ieee.Fits.{of_int-fits}
use lib.Ieee.Positive.{num, den, den_pos, value→cross}
use Rattle.rounding.specs.Values.{plain, Held, Within, UpTo, Between}
use Rattle.rounding.proofs.Sign.{plain-weak}
use Rattle.rounding.proofs.Order.{value-plain, cross-le}
use Rattle.rounding.proofs.Bounds.{at_least, within, holds-whole}
use Rattle.rounding.proofs.Operations.{add_is, add-up, of-whole}

-- ---- a whole number as a float

pub whole_plain : (f : Format) (c : ℕ) → c ≤ 2 ^ prec f → T (plain (of_int f (pos c)))
whole_plain f c h = value-plain (of_int f (pos c)) c 1 (of-whole f c h)

pub whole-size : (f : Format) (c : ℕ) → c ≤ 2 ^ prec f → num (of_int f (pos c)) ≡ c * den (of_int f (pos c))
whole-size f c h = sym (mul-one (num (of_int f (pos c)))) ∙ value→cross (of_int f (pos c)) c 1 (of-whole f c h)

-- either sign: held, and as large as the number
pub integer-held : (f : Format) (z : ℤ) → nat_abs z ≤ 2 ^ prec f → Held f (of_int f z) × Within (nat_abs z) (of_int f z)
unfolding of_int
integer-held f (pos n) h =
    let w = within f false n n 1 (holds-whole f n h) (zero-lt-suc 0) (le_of_eq (sym (mul-one n))) in
    ((of_int-fits f (pos n), w.0), w)
integer-held f (negsuc n) h =
    let w = within f true (suc n) (suc n) 1 (holds-whole f (suc n) h) (zero-lt-suc 0) (le_of_eq (sym (mul-one (suc n)))) in
    ((of_int-fits f (negsuc n), w.0), w)

-- the order against a whole number
pub whole_le : (f : Format) (c : ℕ) (x : Float) → c ≤ 2 ^ prec f → T (plain x) → c * den x ≤ num x → T (le (of_int f (pos c)) x)
whole_le f c x h p l =
    let y = of_int f (pos c) in
    cross-le y x (whole_plain f c h) p
    (le_trans (le_of_eq (ap (λ (z : ℕ). z * den x) (whole-size f c h) ∙ mul_right_comm c (den y) (den x))) (mul-le-mul_right (den y) l))

pub le-whole : (f : Format) (c : ℕ) (x : Float) → c ≤ 2 ^ prec f → T (plain x) → num x ≤ c * den x → T (le x (of_int f (pos c)))
le-whole f c x h p l =
    let y = of_int f (pos c) in
    cross-le x y p (whole_plain f c h)
    (le_trans (mul-le-mul_right (den y) l) (le_of_eq (mul_right_comm c (den x) (den y) ∙ ap (λ (z : ℕ). z * den x) (sym (whole-size f c h)))))

-- ---- the shifted value

no_less : (c X D Y E : ℕ) → X ≡ c * D → c * (D * E) ≤ (X * E + Y * D) * 1
no_less c X D Y E e =
    le_trans (le_of_eq (sym (mul_assoc c D E) ∙ ap (λ (z : ℕ). z * E) (sym e)))
    (le_trans (le-add_right (X * E) (Y * D)) (le_of_eq (sym (mul-one (X * E + Y * D)))))

pub shift : (f : Format) (c : ℕ) (s : Float) → c ≤ 2 ^ prec f → c + 1 ≤ 2 ^ prec f → UpTo 1 s → Between c (c + 1) (add f (of_int f (pos c)) s)
shift f c s h k u =
    let x = of_int f (pos c) in
    let p = whole_plain f c h in
    let e = whole-size f c h in
    let N = num x * den s + num s * den x in
    let C = den x * den s in
    let up = add-up f c 1 x s (holds-whole f (c + 1) k) (p, le_of_eq e) u in
    let is : add f x s ≡ round f false N C = add_is f x s p (plain-weak s u.0) in
    let r = round f false N C in
    let low : c * den r ≤ num r * 1 =
    at_least f c 1 N C (holds-whole f c h) (zero-lt-suc 0) (mul-pos (den_pos x) (den_pos s)) (no_less c (num x) (den x) (num s) (den s) e)
    (subst (λ (z : Float). T (plain z)) is up.0) in
    (up.0, subst (λ (z : Float). c * den z ≤ num z) (sym is) (le_trans low (le_of_eq (mul-one (num r)))), up.1)
