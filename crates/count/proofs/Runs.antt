-- How many numbers of a run pass a test: the first or the last left out, a test that does not look at the number. Assumes nothing.
use Prim.Native.Nat.{ℕ, zero, suc, ◌+◌, ◌-◌, ◌≤◌, ◌<◌}
use native.Mathlib.Omega.{arith}
use mathlib.Core.Bool.{Bool, true, false, not, ◌&&◌, ◌||◌, cond}
use mathlib.Core.List.{List, [], ◌∷◌}
use mathlib.Core.Logic.{inl, inr}
use mathlib.Core.Path.{◌≡◌, refl, sym, ap, ap₂, ◌∙◌}
use lib.Dec.{ltb, eqb}
use lib.Ieee.{Float, unlike}
use lib.ListN.{length}
use borrow.Author.Tests.{lt-ltb, le-ltb, eq-eqb, ne_eqb}
use Rattle.lists.specs.Lists.{one, run, up_to, many}
use Rattle.lists.proofs.Tests.{less-or-not}
use Rattle.lists.proofs.Lists.{all-each, many-append, many-same, many-map, many-never}
use Rattle.lists.proofs.Runs.{up_to-none, up_to-first, up_to-last, up_to-each}
use Rattle.grid.specs.Layers.{part}
use Rattle.grid.proofs.Parts.{length_part}
use Rattle.row_signs.proofs.Runs.{none-counted, one_more, run-same, sign-in-part}
use Rattle.count.specs.Runs.{changes_at, changes_run}

-- ---- the first left out, and the last

pub many-above : (f : ℕ → Bool) (from to : ℕ) → many (λ (x : ℕ). ltb from x && f x) (up_to from to) ≡ many f (up_to (suc from) to)
unfolding many
many-above f from to = elim (less-or-not from to) [ inl h ↦ some h | inr h ↦ none h ]
  where
    above : ℕ → Bool
    above x = ltb from x && f x

    none : to ≤ from → many above (up_to from to) ≡ many f (up_to (suc from) to)
    none h = rw (up_to-none from to h, up_to-none (suc from) to (omega arith))

    first : one (above from) ≡ 0
    first = ap (λ (t : Bool). one (t && f from)) (le-ltb from from (omega arith))

    others : many above (up_to (suc from) to) ≡ many f (up_to (suc from) to)
    others = many-same (up_to-each (suc from) to (λ x l u. ap (λ (t : Bool). t && f x) (lt-ltb from x (omega arith))))

    some : from < to → many above (up_to from to) ≡ many f (up_to (suc from) to)
    some h = ap (many above) (up_to-first from to h) ∙ omega (arith, first, others)

-- the last stays where the flag is set
pub many-before : (flag : Bool) (f : ℕ → Bool) (from to : ℕ)
    → many (λ (x : ℕ). (flag || not (eqb x (to - 1))) && f x) (up_to from to) ≡ many f (up_to from (cond flag to (to - 1)))
unfolding many
many-before true f from to = refl
many-before false f from to = elim (less-or-not from to) [ inl h ↦ some h | inr h ↦ none h ]
  where
    before : ℕ → Bool
    before x = not (eqb x (to - 1)) && f x

    none : to ≤ from → many before (up_to from to) ≡ many f (up_to from (to - 1))
    none h = rw (up_to-none from to h, up_to-none from (to - 1) (omega arith))

    last : before (to - 1) ≡ false
    last = ap (λ (t : Bool). not t && f (to - 1)) (eq-eqb (to - 1) (to - 1) refl)

    others : many before (up_to from (to - 1)) ≡ many f (up_to from (to - 1))
    others = many-same (up_to-each from (to - 1) (λ x l u. ap (λ (t : Bool). not t && f x) (ne_eqb x (to - 1) (λ e. omega arith))))

    some : from < to → many before (up_to from to) ≡ many f (up_to from (to - 1))
    some h =
        let end : to ≡ suc (to - 1) = omega arith in
        ap (λ (n : ℕ). many before (up_to from n)) end
        ∙ ap (many before) (up_to-last from (to - 1) (omega arith))
        ∙ many-append before (up_to from (to - 1)) ((to - 1) ∷ [])
        ∙ omega (arith, ap one last, others)

-- ---- a run from 0

-- a run from `first` up to `last`, the number x counted by what the test h says of its place in the run
pub many-run : (f h : ℕ → Bool) (first last : ℕ) → ((x : ℕ) → first ≤ x → x < last → f x ≡ h (x - first)) → many f (up_to first last) ≡ many h (run (last - first))
unfolding up_to
many-run f h first last s =
    many-same (up_to-each first last (λ x low high. s x low high))
    ∙ many-map (λ (x : ℕ). h (x - first)) (λ (j : ℕ). first + j) (run (last - first))
    ∙ many-same (all-each (λ j. ap h (back j)) (run (last - first)))
  where
    back : (j : ℕ) → first + j - first ≡ j
    back j = omega arith

-- ---- a test that does not look at the number

-- where it passes, a run from `first` up to `last` is counted, n numbers long; else none
pub many-owned : (own : Bool) (f f' h : ℕ → Bool) (from to first last n : ℕ) → many f (up_to from to) ≡ many f' (up_to first last) → last - first ≡ n
    → ((x : ℕ) → first ≤ x → x < last → f' x ≡ h (x - first)) → many (λ (x : ℕ). own && f x) (up_to from to) ≡ many h (run (cond own n 0))
many-owned true f f' h from to first last n e len s = e ∙ many-run f' h first last s ∙ ap (λ (i : ℕ). many h (run i)) len
many-owned false f f' h from to first last n e len s = many-never (up_to from to) ∙ none-counted h

-- ---- runs of two tests, and a run by its first or its last number

last_of : (f : ℕ → Bool) (n : ℕ) → many f (run (suc n)) ≡ many f (run n) + one (f n)
last_of f n = let e : suc n ≡ n + 1 = omega arith in ap (λ (m : ℕ). many f (run m)) e ∙ sym (one_more f n refl refl refl)

first_of : (f : ℕ → Bool) (n : ℕ) → many f (run (suc n)) ≡ one (f 0) + many (λ (j : ℕ). f (suc j)) (run n)
first_of f zero = omega (arith, last_of f 0, none-counted f, none-counted (λ (j : ℕ). f (suc j)))
first_of f (suc n) = omega (arith, last_of f (suc n), first_of f n, last_of (λ (j : ℕ). f (suc j)) n)

-- all but the last, and all but the first
pub without-last : (f : ℕ → Bool) (n : ℕ) → 0 < n → many f (run n) ≡ many f (run (n - 1)) + one (f (n - 1))
without-last f n h = let e : n ≡ suc (n - 1) = omega arith in ap (λ (m : ℕ). many f (run m)) e ∙ last_of f (n - 1)

pub without-first : (f : ℕ → Bool) (n : ℕ) → 0 < n → many f (run n) ≡ one (f 0) + many (λ (j : ℕ). f (suc j)) (run (n - 1))
without-first f n h = let e : n ≡ suc (n - 1) = omega arith in ap (λ (m : ℕ). many f (run m)) e ∙ first_of f (n - 1)

-- ---- runs that are lent alone

-- the edges between two runs with exactly one negative end are those between the two parts
pub changes-part : (l a l' b : List Float) (p q n : ℕ) → p + n ≤ length l → a ≡ part p n l → b ≡ part q n l'
    → changes_run a 0 b 0 (length a) ≡ changes_run l p l' q n
changes-part l a l' b p q n h ea eb =
    ap (λ (m : ℕ). changes_run a 0 b 0 m) (ap length ea ∙ length_part p n l h)
    ∙ run-same (changes_at a 0 b 0) (changes_at l p l' q) n (λ j k. ap₂ unlike (sign-in-part l a p n ea j k) (sign-in-part l' b q n eb j k))
