-- Whole numbers with a sign, each written as a difference of two natural numbers, so that an identity between them is one between natural numbers.
-- Assumes nothing.
use Rattle.std.proofs.Common.{◌≡◌, ℕ, zero, suc, ◌+◌, ◌-◌, ◌*◌, ◌<◌, ◌≤◌, Bool, true, false, not, T, ltb, ℤ, pos, negsuc, ◌+ℤ◌, ◌-ℤ◌, ◌*ℤ◌, neg_ℤ, sym, refl, ap, ◌∙◌, ap₂, mul-zero, arith, ltb→lt, nltb→le}
use lib.IntN.{+ℤ_idr, neg_ℤ-neg_ℤ}
use Rattle.volume.proofs.Whole.{neg-minus, minus_plus, minus-same}

-- a - b as the difference of a + k and b + k, so two with the same sums crosswise are equal
pub same-difference : (a b c d : ℕ) → a + d ≡ c + b → pos a -ℤ pos b ≡ pos c -ℤ pos d
same-difference a b c d e =
    let f : a + d ≡ c + b = e in
    let g : b + d ≡ d + b = omega arith in
    sym (minus-same a b d) ∙ ap₂ (λ (m n : ℕ). pos m -ℤ pos n) f g ∙ minus-same c d b

-- (a - b) - (c - d)
pub minus_minus : (a b c d : ℕ) → (pos a -ℤ pos b) -ℤ (pos c -ℤ pos d) ≡ pos (a + d) -ℤ pos (b + c)
minus_minus a b c d = ap (λ (z : ℤ). (pos a -ℤ pos b) +ℤ z) (sym (neg-minus (pos c) (pos d))) ∙ sym (minus_plus a b d c)

-- every whole number is such a difference
pub above-by : (b x : ℕ) → pos (b + x) -ℤ pos b ≡ pos x
above-by b x = same-difference (b + x) b x 0 (omega arith) ∙ +ℤ_idr (pos x)

pub below_by : (b x : ℕ) → pos b -ℤ pos (b + x) ≡ neg_ℤ (pos x)
below_by b x = neg-minus (pos (b + x)) (pos b) ∙ ap neg_ℤ (above-by b x)

scale-neg : (k x : ℕ) → pos k *ℤ neg_ℤ (pos x) ≡ neg_ℤ (pos (k * x))
scale-neg k zero = ap (λ (n : ℕ). pos n) (mul-zero k) ∙ ap (λ (n : ℕ). neg_ℤ (pos n)) (sym (mul-zero k))
scale-neg k (suc x) = refl

pub data Order (a b : ℕ) : Type 0 where
  up : (x : ℕ) → a ≡ b + x → Order a b
  down : (x : ℕ) → b ≡ a + x → Order a b

pub order : (a b : ℕ) → Order a b
order a b = go (ltb a b) (ltb→lt a b) (nltb→le a b)
  where
    go : (t : Bool) → (T t → a < b) → (T (not t) → b ≤ a) → Order a b
    go true h k = let l = h tt in down (b - a) (omega arith)
    go false h k = let l = k tt in up (a - b) (omega arith)

-- k (a - b)
pub scaled : (k a b : ℕ) → pos k *ℤ (pos a -ℤ pos b) ≡ pos (k * a) -ℤ pos (k * b)
scaled k a b = go (order a b)
  where
    go : Order a b → pos k *ℤ (pos a -ℤ pos b) ≡ pos (k * a) -ℤ pos (k * b)
    go (up x e) =
        let d : k * (b + x) ≡ k * b + k * x = omega arith in
        ap (λ (n : ℕ). pos k *ℤ (pos n -ℤ pos b)) e
        ∙ ap (λ (z : ℤ). pos k *ℤ z) (above-by b x)
        ∙ sym (above-by (k * b) (k * x))
        ∙ ap (λ (n : ℕ). pos n -ℤ pos (k * b)) (sym d)
        ∙ ap (λ (n : ℕ). pos (k * n) -ℤ pos (k * b)) (sym e)
    go (down x e) =
        let d : k * (a + x) ≡ k * a + k * x = omega arith in
        ap (λ (n : ℕ). pos k *ℤ (pos a -ℤ pos n)) e
        ∙ ap (λ (z : ℤ). pos k *ℤ z) (below_by a x)
        ∙ scale-neg k x
        ∙ sym (below_by (k * a) (k * x))
        ∙ ap (λ (n : ℕ). pos (k * a) -ℤ pos n) (sym d)
        ∙ ap (λ (n : ℕ). pos (k * a) -ℤ pos (k * n)) (sym e)

neg-times : (x : ℕ) (z : ℤ) → neg_ℤ (pos x) *ℤ z ≡ neg_ℤ (pos x *ℤ z)
neg-times zero (pos n) = ap (λ (m : ℕ). pos m) (omega arith) ∙ ap (λ (m : ℕ). neg_ℤ (pos m)) {x = 0} {y = 0 * n} (omega arith)
neg-times zero (negsuc n) = ap (λ (m : ℕ). neg_ℤ (pos m)) {x = 0 * suc n} {y = 0} (omega arith) ∙ ap (λ (m : ℕ). neg_ℤ (neg_ℤ (pos m))) {x = 0} {y = 0 * suc n} (omega arith)
neg-times (suc x) (pos n) = refl
neg-times (suc x) (negsuc n) = sym (neg_ℤ-neg_ℤ (pos (suc x * suc n)))

-- (a - b) (c - d)
pub times : (a b c d : ℕ) → (pos a -ℤ pos b) *ℤ (pos c -ℤ pos d) ≡ pos (a * c + b * d) -ℤ pos (a * d + b * c)
times a b c d = go (order a b)
  where
    go : Order a b → (pos a -ℤ pos b) *ℤ (pos c -ℤ pos d) ≡ pos (a * c + b * d) -ℤ pos (a * d + b * c)
    go (up x e) =
        ap (λ (z : ℤ). z *ℤ (pos c -ℤ pos d)) (ap (λ (n : ℕ). pos n -ℤ pos b) e ∙ above-by b x)
        ∙ scaled x c d
        ∙ same-difference (x * c) (x * d) ((b + x) * c + b * d) ((b + x) * d + b * c) (omega arith)
        ∙ ap (λ (n : ℕ). pos (n * c + b * d) -ℤ pos (n * d + b * c)) (sym e)
    go (down x e) =
        ap (λ (z : ℤ). z *ℤ (pos c -ℤ pos d)) (ap (λ (n : ℕ). pos a -ℤ pos n) e ∙ below_by a x)
        ∙ neg-times x (pos c -ℤ pos d)
        ∙ ap neg_ℤ (scaled x c d)
        ∙ sym (neg-minus (pos (x * c)) (pos (x * d)))
        ∙ same-difference (x * d) (x * c) (a * c + (a + x) * d) (a * d + (a + x) * c) (omega arith)
        ∙ ap (λ (n : ℕ). pos (a * c + n * d) -ℤ pos (a * d + n * c)) (sym e)
