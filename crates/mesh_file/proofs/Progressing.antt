-- Laws of reading record by record: that a file's answer stands once a record has closed or refused it. Assumes nothing.
use Prim.Native.Nat.{ℕ, zero, suc, ◌+◌, ◌-◌, ◌*◌, ◌/◌, ◌≤◌, ◌<◌, zero-le}
use native.Mathlib.Nat.{zero-add, suc-add}
use native.Mathlib.Numerals.{add-one}
use native.Mathlib.Omega.{arith}
use mathlib.Core.Path.{◌≡◌, refl, sym, ap, ◌∙◌, subst}
use mathlib.Core.List.{List, []}
use lib.Dec.{lit<}
use lib.ListN.{length, drop, drop_of_length-le}
use Rattle.mesh_file.specs.Reading.{Found, good, faulty, found_at, seen, Progress, reading, whole, refused, counted, further, after, read_of}
use Rattle.mesh_record.proofs.OneStep.{found-cut, kind-whole}

-- ---- many steps

pub after_next : (f : List ℕ) (k v t : ℕ) → after f k ≡ reading v t → after f (suc k) ≡ counted (found_at f (32 * k) (seen v t)) v t
unfolding after
after_next f k v t e = ap (further f k) e

pub after_none : (f : List ℕ) → after f 0 ≡ reading 0 0
unfolding after
after_none f = refl

-- the turn of a loop that has read so many vertices and triangles
pub turn : (f : List ℕ) (v t at : ℕ) (r : Found) → at ≡ 32 * (v + t) → after f (v + t) ≡ reading v t → r ≡ found_at f at (seen v t) → after f (suc (v + t)) ≡ counted r v t
turn f v t at r p e s = after_next f (v + t) v t e ∙ ap (λ (x : Found). counted x v t) (ap (λ (x : ℕ). found_at f x (seen v t)) (sym p) ∙ sym s)

abbrev pub Ended : Progress → Type 0
Ended (reading v t) = ⊥
Ended (whole v t) = Unit {0}
Ended (refused n) = Unit {0}

further-ended : (f : List ℕ) (k : ℕ) (p : Progress) → Ended p → further f k p ≡ p
further-ended f k (reading v t) z = absurd z
further-ended f k (whole v t) z = refl
further-ended f k (refused n) z = refl

after-stays : (f : List ℕ) (p : Progress) → Ended p → (k : ℕ) → after f k ≡ p → (n : ℕ) → after f (n + k) ≡ p
unfolding after
after-stays f p z k e zero = ap (after f) (zero-add k) ∙ e
after-stays f p z k e (suc n) = ap (after f) (suc-add n k) ∙ (ap (further f (n + k)) (after-stays f p z k e n) ∙ further-ended f (n + k) p z)

-- what ends at a record that starts inside the file is what the file reads as
pub read_is : (f : List ℕ) (k : ℕ) (p : Progress) → Ended p → 32 * k ≤ length f → after f (suc k) ≡ p → read_of f ≡ p
unfolding read_of
read_is f k p z h e =
    let q : suc (length f / 32) ≡ (length f / 32 - k) + suc k = omega arith in
    ap (after f) q ∙ after-stays f p z (suc k) e (length f / 32 - k)

-- a record of a kind is whole
pub good-whole : (f : List ℕ) (at v t k : ℕ) → good (suc k) ≡ found_at f at (seen v t) → at + 32 ≤ length f
good-whole f at v t k s = kind-whole f at (seen v t) k (ap (λ (x : Found). x.kind) (sym s))

-- ---- the loop that reads a file: so many vertices and triangles, the next record at `at`, no fault so far

abbrev pub SoFar : List ℕ → ℕ → ℕ → ℕ → Type 0
SoFar f v t at = (at ≡ 32 * (v + t)) × (at ≤ length f) × (after f (v + t) ≡ reading v t)

pub vertex-next : (f : List ℕ) (v t at : ℕ) → SoFar f v t at → good 1 ≡ found_at f at (seen v t) → SoFar f (v + 1) t (at + 32)
vertex-next f v t at i s =
    let q : suc (v + t) ≡ v + 1 + t = omega arith in
    let p = i.0 in
    (omega arith, good-whole f at v t 0 s, ap (after f) (sym q) ∙ (turn f v t at (good 1) i.0 i.2 s ∙ ap (λ (x : ℕ). reading x t) (sym (add-one v))))

pub triangle-next : (f : List ℕ) (v t at : ℕ) → SoFar f v t at → good 2 ≡ found_at f at (seen v t) → SoFar f v (t + 1) (at + 32)
triangle-next f v t at i s =
    let q : suc (v + t) ≡ v + (t + 1) = omega arith in
    let p = i.0 in
    (omega arith, good-whole f at v t 1 s, ap (after f) (sym q) ∙ (turn f v t at (good 2) i.0 i.2 s ∙ ap (λ (x : ℕ). reading v x) (sym (add-one t))))

pub closed-read : (f : List ℕ) (v t at : ℕ) → SoFar f v t at → good 3 ≡ found_at f at (seen v t) → read_of f ≡ whole v t
closed-read f v t at i s =
    let h : 32 * (v + t) ≤ length f = subst (λ (x : ℕ). x ≤ length f) i.0 i.1 in
    read_is f (v + t) (whole v t) tt h (turn f v t at (good 3) i.0 i.2 s)

pub refused-read : (f : List ℕ) (v t at n : ℕ) → SoFar f v t at → faulty n ≡ found_at f at (seen v t) → read_of f ≡ refused n
refused-read f v t at n i s =
    let h : 32 * (v + t) ≤ length f = subst (λ (x : ℕ). x ≤ length f) i.0 i.1 in
    read_is f (v + t) (refused n) tt h (turn f v t at (faulty n) i.0 i.2 s)

-- a place past the end leaves nothing to read, and nothing is a cut file
pub past_end : (f : List ℕ) (at : ℕ) → length f < at → read_of (drop at f) ≡ refused 21
past_end f at h =
    let h' : length f ≤ at = omega arith in
    let d : drop at f ≡ [] = drop_of_length-le f h' in
    ap read_of d ∙ refused-read [] 0 0 0 21 (refl, zero-le, after_none []) (sym (found-cut [] 0 (seen 0 0) (lit< tt)))
