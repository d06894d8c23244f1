-- Stores in a row: what is stored in two turns is stored in one, and stores just behind what is written are written after it.
-- From the library's law of a run of stores. Assumes nothing.
use Prim.Native.Nat.{ℕ, suc, ◌+◌, ◌≤◌}
use native.Mathlib.Nat.{add-zero}
use native.Mathlib.Omega.{arith}
use mathlib.Core.List.{List, [], ◌∷◌, ◌++◌}
use mathlib.Core.Path.{◌≡◌, sym, ap, ◌∙◌}
use lib.ListN.{length, set, drop, length-append, length-drop}
use lib.Seq.{sets, sets-eq, take-append_seam, drop-append-add, drop-drop}
use Rattle.lists.specs.Lists.{over}

-- ---- as the code counts

pub three-stores : {A : Type 0} (l : List A) (i : ℕ) (a b c : A) → set (set (set l i a) (i + 1) b) (i + 2) c ≡ sets l i (a ∷ b ∷ c ∷ [])
three-stores l i a b c =
    let e1 : i + 1 ≡ suc i = omega arith in
    let e2 : i + 2 ≡ suc (suc i) = omega arith in
    rw (e1, e2)

-- ---- two runs

pub sets-append : {A : Type 0} (l : List A) (i : ℕ) (us vs : List A) → sets l i (us ++ vs) ≡ sets (sets l i us) (i + length us) vs
sets-append l i [] vs = ap (λ (n : ℕ). sets l n vs) (sym (add-zero i))
sets-append l i (u ∷ us) vs =
    let e : suc i + length us ≡ i + suc (length us) = omega arith in
    sets-append (set l i u) (suc i) us vs ∙ ap (λ (n : ℕ). sets (sets (set l i u) (suc i) us) n vs) e

-- the second begins where the first ends
pub sets-on : {A : Type 0} (l : List A) (i j : ℕ) (us vs : List A) → j ≡ i + length us → sets (sets l i us) j vs ≡ sets l i (us ++ vs)
sets-on l i j us vs e = ap (λ (n : ℕ). sets (sets l i us) n vs) e ∙ sym (sets-append l i us vs)

-- ---- behind what is written

pub length_over : {A : Type 0} (w old : List A) → length w ≤ length old → length (over w old) ≡ length old
length_over w old h = simp (length-append, length-drop) (omega arith)

pub sets_over : {A : Type 0} (w old vs : List A) (i : ℕ) → i ≡ length w → length w + length vs ≤ length old → sets (over w old) i vs ≡ over (w ++ vs) old
sets_over w old vs i e h =
    ap (λ (n : ℕ). sets (over w old) n vs) e
    ∙ sets-eq vs (over w old) (length w) (rw (length_over w old (omega arith)) h)
    ∙ ap (λ (l : _). l ++ vs ++ drop (length w + length vs) (over w old)) (take-append_seam w (drop (length w) old))
    ∙ ap (λ (l : _). w ++ vs ++ l) (drop-append-add w (drop (length w) old) (length vs) ∙ drop-drop (length vs) (length w) old ∙ ap (λ (n : ℕ). drop n old)
    (sym (length-append w vs)))
