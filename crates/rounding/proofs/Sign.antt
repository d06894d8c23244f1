-- The sign of a rounded fraction: `round f false` gives no negative value and no NaN, and `round f true` gives the same with the other sign.
-- And what `neg` keeps. Assumes nothing.
use mathlib.Core.Path.{◌≡◌, refl, sym, ap, ◌∙◌, subst}
use Prim.Native.Nat.{ℕ, zero, suc, ◌*◌, ◌^◌}
use mathlib.Core.Bool.{Bool, true, false, not, cond}
use lib.Dec.{T, ltb}
use lib.IntN.{ℤ}
use lib.Ieee.{Float, nan, inf, fin, Format, prec, low, odd, units, round, neg}
use lib.Ieee.Fits.{round_is}
use lib.Ieee.Exact.{HasValue}
use lib.Ieee.Scale.{finite, overflow}
use lib.Ieee.Order.{drop, kept}
use lib.Ieee.Positive.{num, den}
use Rattle.rounding.specs.Values.{clear, plain, weak, Within}

odd-clear : (d q k l : ℕ) → T (clear (odd d false q k l))
unfolding odd
odd-clear d zero k l = tt
odd-clear d (suc q) k l = tt

units-clear : (f : Format) (q k : ℕ) → T (clear (units f false q k))
unfolding units
units-clear f q k = go (ltb (q * 2 ^ k) (overflow f))
  where
    go : (b : Bool) → T (clear (cond b (odd (suc (prec f)) false q k (low f)) (inf false)))
    go true = odd-clear (suc (prec f)) q k (low f)
    go false = tt

pub round-clear : (f : Format) (a c : ℕ) → T (clear (round f false a c))
round-clear f a c = subst (λ (z : Float). T (clear z)) (sym (round_is f false a c)) (units-clear f (kept (prec f) (a * 2 ^ low f) c) (drop (prec f) (a * 2 ^ low f) c))

odd-neg : (d q k l : ℕ) → odd d true q k l ≡ neg (odd d false q k l)
unfolding odd neg
odd-neg d zero k l = refl
odd-neg d (suc q) k l = refl

units-neg : (f : Format) (q k : ℕ) → units f true q k ≡ neg (units f false q k)
unfolding units
units-neg f q k = go (ltb (q * 2 ^ k) (overflow f))
  where
    go : (b : Bool) → cond b (odd (suc (prec f)) true q k (low f)) (inf true) ≡ neg (cond b (odd (suc (prec f)) false q k (low f)) (inf false))
    go true = odd-neg (suc (prec f)) q k (low f)
    go false = unfold neg in refl

pub round-neg : (f : Format) (a c : ℕ) → round f true a c ≡ neg (round f false a c)
round-neg f a c =
    round_is f true a c
    ∙ units-neg f (kept (prec f) (a * 2 ^ low f) c) (drop (prec f) (a * 2 ^ low f) c)
    ∙ ap neg (sym (round_is f false a c))

-- ---- what `neg` keeps

pub num-neg : (x : Float) → num (neg x) ≡ num x
unfolding neg
num-neg nan = refl
num-neg (inf s) = refl
num-neg (fin s m e) = refl

pub den-neg : (x : Float) → den (neg x) ≡ den x
unfolding neg
den-neg nan = refl
den-neg (inf s) = refl
den-neg (fin s m e) = refl

pub neg_value : (x : Float) (a c : ℕ) → HasValue x false a c → HasValue (neg x) true a c
unfolding neg
neg_value nan a c h = absurd h
neg_value (inf s) a c h = absurd h
neg_value (fin s m e) a c h = (ap not h.0, h.1)

pub neg-within : (n : ℕ) (x : Float) → Within n x → Within n (neg x)
unfolding neg
neg-within n nan h = absurd h.0
neg-within n (inf s) h = absurd h.0
neg-within n (fin s m e) h = h

-- a bound on the magnitude of `round f false` is one of `round f` at either sign
pub either-sign : (f : Format) (s : Bool) (a c n : ℕ) → Within n (round f false a c) → Within n (round f s a c)
either-sign f false a c n h = h
either-sign f true a c n h = rw round-neg (neg-within n (round f false a c) h)

-- ---- how the predicates lie to one another

pub plain-is : (x : Float) → T (plain x) → (m : ℕ) × (e : ℤ) × (x ≡ fin false m e)
plain-is nan p = absurd p
plain-is (inf s) p = absurd p
plain-is (fin true m e) p = absurd p
plain-is (fin false m e) p = (m, e, refl)

pub plain-finite : (x : Float) → T (plain x) → T (finite x)
plain-finite nan p = absurd p
plain-finite (inf s) p = absurd p
plain-finite (fin s m e) p = tt

pub plain-weak : (x : Float) → T (plain x) → T (weak x)
plain-weak nan p = absurd p
plain-weak (inf s) p = absurd p
plain-weak (fin true m e) p = absurd p
plain-weak (fin false m e) p = tt

pub weak-finite : (x : Float) → T (weak x) → T (finite x)
weak-finite nan p = absurd p
weak-finite (inf s) p = absurd p
weak-finite (fin s m e) p = tt
