-- A run of numbers given by their places, and stored: run behind run, number behind number. By induction on the length. Assumes nothing.
use Prim.Native.Nat.{ℕ, zero, suc, ◌+◌, ◌-◌, ◌*◌, ◌/◌, ◌%◌, ◌<◌, ◌≤◌}
use native.Mathlib.Nat.{mul-add, mul-one, mul-add-div, mul-add-mod_self_left, mod-eq_of_lt, div-eq_of_lt, add-zero, zero-add}
use native.Mathlib.Numerals.{add-one}
use native.Mathlib.Omega.{arith}
use mathlib.Core.List.{List, [], ◌∷◌, ◌++◌, map-append, append_assoc, append-nil}
use mathlib.Core.Path.{◌≡◌, refl, sym, ap, ap₂, ◌∙◌}
use lib.Ieee.{Float, nan}
use lib.ListN.{length, get_or, set, take, drop, replicate, length-map, length-append}
use lib.Seq.{sets, sets-eq, take-suc, take-length, length-sets, get_or-append-add}
use borrow.Rule.Slice.PartMut.{put_mid}
use Rattle.std.proofs.lemmas.List.Edits.{paste_all}
use Rattle.std.proofs.lemmas.Slice.{put_mid-paste}
use Rattle.std.proofs.lemmas.List.{length-drop, length-take-le}
use Rattle.lists.specs.Lists.{run}
use Rattle.stores.proofs.Runs.{sets-on}
use Rattle.closing.specs.Runs.{spread}

length_run : (n : ℕ) → length (run n) ≡ n
unfolding run
length_run zero = refl
length_run (suc n) = length-append (run n) (n ∷ []) ∙ omega (arith, length_run n)

pub length-spread : (f : ℕ → Float) (n : ℕ) → length (spread f n) ≡ n
unfolding spread
length-spread f n = length-map (run n) f ∙ length_run n

pub spread_none : (f : ℕ → Float) → spread f 0 ≡ []
unfolding spread run
spread_none f = refl

pub spread-last : (f : ℕ → Float) (n : ℕ) → spread f (suc n) ≡ spread f n ++ (f n ∷ [])
unfolding spread run
spread-last f n = map-append f (run n) (n ∷ [])

pub spread_same : (f g : ℕ → Float) (n : ℕ) → ((j : ℕ) → j < n → f j ≡ g j) → spread f n ≡ spread g n
spread_same f g zero h = spread_none f ∙ sym (spread_none g)
spread_same f g (suc n) h =
    spread-last f n
    ∙ ap₂ (λ (l : List Float) (x : Float). l ++ (x ∷ [])) (spread_same f g n (λ j k. h j (omega arith))) (h n (omega arith))
    ∙ sym (spread-last g n)

-- two runs, the second behind the first
pub spread_join : (f : ℕ → Float) (a b : ℕ) → spread f a ++ spread (λ j. f (a + j)) b ≡ spread f (a + b)
spread_join f a zero = ap (λ (l : List Float). spread f a ++ l) (spread_none (λ j. f (a + j))) ∙ append-nil (spread f a) ∙ ap (spread f) (sym (add-zero a))
spread_join f a (suc b) =
    let e : suc (a + b) ≡ a + suc b = omega arith in
    ap (λ (l : List Float). spread f a ++ l) (spread-last (λ j. f (a + j)) b)
    ∙ sym (append_assoc (spread f a) (spread (λ j. f (a + j)) b) (f (a + b) ∷ []))
    ∙ ap (λ (l : List Float). l ++ (f (a + b) ∷ [])) (spread_join f a b)
    ∙ sym (spread-last f (a + b))
    ∙ ap (spread f) e

pub get_d-spread : (f : ℕ → Float) (n i : ℕ) → i < n → get_or (spread f n) i nan ≡ f i
get_d-spread f n i h =
    let e : i + suc (n - suc i) ≡ n = omega arith in
    let z : i ≡ length (spread f i) + 0 = omega (arith, length-spread f i) in
    ap (λ (m : ℕ). get_or (spread f m) i nan) (sym e)
    ∙ ap (λ (l : List Float). get_or l i nan) (sym (spread_join f i (suc (n - suc i))))
    ∙ ap (λ (m : ℕ). get_or (spread f i ++ spread (λ j. f (i + j)) (suc (n - suc i))) m nan) z
    ∙ get_or-append-add (spread f i) (spread (λ j. f (i + j)) (suc (n - suc i))) 0 nan
    ∙ first (λ j. f (i + j)) (n - suc i)
    ∙ ap f (add-zero i)
  where
    first : (g : ℕ → Float) (m : ℕ) → get_or (spread g (suc m)) 0 nan ≡ g 0
    first g zero = ap (λ (l : List Float). get_or l 0 nan) (spread-last g 0 ∙ ap (λ (l : List Float). l ++ (g 0 ∷ [])) (spread_none g))
    first g (suc m) =
        let e : 1 + suc m ≡ suc (suc m) = omega arith in
        ap (λ (l : List Float). get_or l 0 nan)
        (ap (spread g) (sym e) ∙ sym (spread_join g 1 (suc m)) ∙ ap (λ (l : List Float). l ++ spread (λ j. g (1 + j)) (suc m)) (spread-last g 0 ∙ ap (λ (l : List Float). l ++ (g 0 ∷ [])) (spread_none g)))

-- one number n times
pub spread-one : (x : Float) (n : ℕ) → spread (λ _. x) n ≡ replicate n x
spread-one x zero = spread_none (λ _. x)
spread-one x (suc n) = spread-last (λ _. x) n ∙ ap (λ (l : List Float). l ++ (x ∷ [])) (spread-one x n) ∙ sym (replicate-last n)
  where
    replicate-last : (m : ℕ) → replicate (suc m) x ≡ replicate m x ++ (x ∷ [])
    replicate-last zero = refl
    replicate-last (suc m) = ap (λ (l : List Float). x ∷ l) (replicate-last m)

-- a list as the numbers at its places
pub spread-list : (l : List Float) → l ≡ spread (λ x. get_or l (0 + x) nan) (length l)
spread-list l = sym (take-length l) ∙ first (length l) (omega arith)
  where
    first : (n : ℕ) → n ≤ length l → take n l ≡ spread (λ x. get_or l (0 + x) nan) n
    first zero h = sym (spread_none (λ x. get_or l (0 + x) nan))
    first (suc n) h =
        take-suc l n nan h
        ∙ ap₂ (λ (a : List Float) (x : Float). a ++ (x ∷ [])) (first n (omega arith)) (ap (λ (i : ℕ). get_or l i nan) (sym (zero-add n)))
        ∙ sym (spread-last (λ x. get_or l (0 + x) nan) n)

-- ---- stored

-- a part of a list that is written over, as `&mut l[at..at + n]` leaves it
pub put-part : (l vs new : List Float) (at k n : ℕ) → new ≡ vs → n ≡ k → n ≡ length vs → at + n ≤ length l → put_mid at k l new ≡ sets l at vs
put-part l vs new at k n e f g h =
    put_mid-paste at k l new vs n e f g
    ∙ paste_all l at vs n g
    ∙ ap (λ (i : ℕ). take at l ++ (vs ++ drop (at + i) l)) g
    ∙ sym (append_assoc (take at l) vs (drop (at + length vs) l))
    ∙ sym (sets-eq vs l at (omega arith))

-- how long such a part is
pub part-long : {A : Type 0} (l : List A) (at n : ℕ) → at + n ≤ length l → length (take (at + n - at) (drop at l)) ≡ n
part-long l at n h =
    let e : at + n - at ≡ n = omega arith in
    ap (λ (k : ℕ). length (take k (drop at l))) e ∙ length-take-le n (drop at l) (omega (arith, length-drop at l))

module _ (l : List Float) (at : ℕ) where
  pub stored-none : (f : ℕ → Float) → l ≡ sets l at (spread f 0)
  stored-none f = sym (ap (sets l at) (spread_none f))

  pub stored-long : (f : ℕ → Float) (n : ℕ) {now : List Float} → now ≡ sets l at (spread f n) → length now ≡ length l
  stored-long f n e = ap length e ∙ length-sets l at (spread f n)

  -- one number more
  pub stored_more : (f : ℕ → Float) (j : ℕ) {now : List Float} {v : Float} → now ≡ sets l at (spread f j) → v ≡ f j
      → set now (at + j) v ≡ sets l at (spread f (j + 1))
  stored_more f j e h =
      let p : at + j ≡ at + length (spread f j) = omega (arith, length-spread f j) in
      ap₂ (λ (s : List Float) (x : Float). set s (at + j) x) e h
      ∙ sets-on l at (at + j) (spread f j) (f j ∷ []) p
      ∙ ap (sets l at) (sym (spread-last f j))
      ∙ ap (λ (n : ℕ). sets l at (spread f n)) (sym (add-one j))

  -- one run more
  pub stored-join : (F G H : ℕ → Float) (a b : ℕ) {p c : ℕ} {now end : List Float} → now ≡ sets l at (spread F a) → end ≡ sets now p (spread G b)
      → p ≡ at + a → c ≡ a + b → ((j : ℕ) → j < a → F j ≡ H j) → ((j : ℕ) → j < b → G j ≡ H (a + j)) → end ≡ sets l at (spread H c)
  stored-join F G H a b {p} e f q r u v =
      let k : p ≡ at + length (spread H a) = omega (arith, length-spread H a) in
      f
      ∙ ap₂ (λ (s vs : List Float). sets s p vs) (e ∙ ap (sets l at) (spread_same F H a u)) (spread_same G (λ j. H (a + j)) b v)
      ∙ sets-on l at p (spread H a) (spread (λ j. H (a + j)) b) k
      ∙ ap (sets l at) (spread_join H a b ∙ ap (spread H) (sym r))

  -- one block of s numbers more
  pub stored-block : (h : ℕ → ℕ → Float) (s y : ℕ) {now end : List Float} → 0 < s → now ≡ sets l at (spread (λ i. h (i / s) (i % s)) (s * y))
      → end ≡ sets now (at + s * y) (spread (h y) s) → end ≡ sets l at (spread (λ i. h (i / s) (i % s)) (s * (y + 1)))
  stored-block h s y pos e f =
      stored-join (λ i. h (i / s) (i % s)) (h y) (λ i. h (i / s) (i % s)) (s * y) s e f refl (mul-add s y 1 ∙ ap (λ (k : ℕ). s * y + k) (mul-one s)) (λ j k. refl)
      (λ j k. sym (ap₂ h (mul-add-div pos y j ∙ ap (λ (n : ℕ). y + n) (div-eq_of_lt k) ∙ add-zero y) (mul-add-mod_self_left s y j ∙ mod-eq_of_lt k)))
