-- Laws of single words: six sums, each modulo M, are the sum of seven modulo M, and the exponent's field of a float's word says whether the
-- float is finite. Assumes nothing.
use Rattle.std.proofs.Common.{◌≡◌, ℕ, zero, suc, ◌+◌, ◌/◌, ◌%◌, ◌^◌, ◌<◌, List, [], ◌∷◌, Bool, true, false, cond, not, T, eqb, leb, sym, refl, ◌∙◌, add-zero, zero-add, add_assoc, arith}
use Rattle.std.specs.List.{fold}
use native.Mathlib.Nat.{mod-add-mod, mod-eq_of_lt}
use lib.Ieee.{Float, nan, inf, fin, is_nan, binary32, odd, of_fields, of_bits, nan_bits}
use lib.Ieee.Bits.{nan_bits_is}
use Rattle.mesh_record.specs.Record.{total, sum_of}
use Rattle.mesh_record.specs.Faults.{finite}

pub sum-seven : (M a b c d e f g : ℕ) → ((((((a + b) % M + c) % M + d) % M + e) % M + f) % M + g) % M ≡ (a + (b + (c + (d + (e + (f + (g + 0))))))) % M
sum-seven M a b c d e f g = simp (mod-add-mod, add_assoc, add-zero)

-- of any list of words, one after the other; from a sum so far
fold-total : (a : ℕ) (ws : List ℕ) → a < 2 ^ 32 → fold (λ s w. (s + w) % 2 ^ 32) a ws ≡ (a + total ws) % 2 ^ 32
unfolding total
fold-total a [] h = sym (mod-eq_of_lt (omega arith) ∙ add-zero a)
fold-total a (w ∷ ws) h = fold-total ((a + w) % 2 ^ 32) ws (omega arith) ∙ simp (mod-add-mod, add_assoc)

pub fold-sum : (ws : List ℕ) → fold (λ s w. (s + w) % 2 ^ 32) 0 ws ≡ sum_of ws
unfolding sum_of
fold-sum ws = fold-total 0 ws (omega arith) ∙ simp zero-add

odd-finite : (d : ℕ) (s : Bool) (q k l : ℕ) → finite (odd d s q k l) ≡ true
unfolding finite odd
odd-finite d s zero k l = refl
odd-finite d s (suc q) k l = refl

cond-finite : (s : Bool) (y : Float) (b z : Bool) → finite y ≡ true → finite (cond b (cond z (inf s) nan) y) ≡ not b
unfolding finite
cond-finite s y true true e = refl
cond-finite s y true false e = refl
cond-finite s y false z e = e

fields-finite : (s : Bool) (x t : ℕ) → finite (of_fields binary32 s x t) ≡ not (eqb x 255)
unfolding of_fields
fields-finite s zero t = odd-finite 24 s t 0 149
fields-finite s (suc x) t = cond-finite s (odd 24 s (8388608 + t) x 149) (eqb (suc x) 255) (eqb t 0) (odd-finite 24 s (8388608 + t) x 149)

pub field-finite : (w : ℕ) → not (eqb (w % 2147483648 / 8388608) 255) ≡ finite (of_bits binary32 w)
unfolding of_bits
field-finite w = sym (fields-finite (leb 2147483648 w) (w % 2147483648 / 8388608) (w % 8388608))

-- ---- a finite float is no not-a-number, and has bits

pub finite-is-number : (x : Float) → T (finite x) → T (not (is_nan x))
unfolding finite is_nan
finite-is-number nan h = absurd h
finite-is-number (inf s) h = tt
finite-is-number (fin s m e) h = tt

pub finite-has-bits : (w : ℕ) → T (finite (of_bits binary32 w)) → T (not (nan_bits binary32 w))
finite-has-bits w h = rw nan_bits_is (finite-is-number (of_bits binary32 w) h)

pub nan-not-finite : (x : Float) → is_nan x ≡ true → false ≡ finite x
unfolding finite is_nan
nan-not-finite nan h = refl
nan-not-finite (inf s) h = refl
nan-not-finite (fin s m e) h = h
