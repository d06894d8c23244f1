-- The laws over the call's whole answer, refusals included: the same tests pass, and the sums are in the law's relation. Assumes nothing.
use Prim.Native.Nat.{ℕ, suc, ◌*◌, ◌/◌, ◌%◌, ◌≤◌}
use native.Mathlib.Omega.{arith}
use mathlib.Core.Bool.{Bool, true, false, ◌||◌, cond}
use mathlib.Core.List.{List, [], ◌∷◌, ◌++◌}
use mathlib.Core.Path.{◌≡◌, refl, sym, ap, ap₂, ◌∙◌}
use borrow.Author.Tests.{eq-eqb, le-ltb}
use lib.IntN.{ℤ, pos, neg_ℤ, ◌+ℤ◌}
use lib.ListN.{length, length-append}
use lib.Ieee.{Float}
use Rattle.lists.specs.Lists.{some}
use Rattle.lists.proofs.Either.{or_left, or-none}
use Rattle.lists.proofs.Permutation.{Perm, nil, skip, swap, trans, perm-length}
use Rattle.lists.proofs.Some.{some-append}
use Rattle.std.specs.Prelude.{Result, Ok, Err}
use Rattle.volume.specs.declared.Refusal.{Refusal}
use Rattle.volume.specs.declared.Refusal.TheVariants.{NotThrees, TooMany, Outside, NoVertex}
use Rattle.volume.specs.Volume.{corner_at, sixfold}
use Rattle.volume.specs.Answers.{Weighed, not_threes, too_many, some_outside, no_vertex, some_without, weighed, weighing, told_by}
use Rattle.volume.specs.Triangles.{turned_round, Rolled, same, kept, rolled, Triangle, triangles}
use Rattle.volume.proofs.Answering.{bad_threes, in-threes}
use Rattle.volume.proofs.Laws.{round-sum, joined-sum, rolled-sum, order-sum}

-- ---- the tests, and what an accepted call says of them

-- the answer by its four tests
abbrev picked : Bool → Bool → Bool → Bool → ℤ → Weighed
picked t u v w z = cond t (weighed 61 (pos 0)) (cond u (weighed 62 (pos 0)) (cond v (weighed 63 (pos 0)) (cond w (weighed 64 (pos 0)) (weighed 0 z))))

weighing-is : (p : List Float) (i : List ℕ) → weighing p i ≡ picked (bad_threes p i) (too_many (length i)) (some_outside p) (some_without p i) (sixfold p i)
unfolding weighing
weighing-is p i = refl

-- a call that gives this answer, whatever the lists
abbrev picked-of : Bool → Bool → Bool → Bool → ℤ → Result ℤ Refusal
picked-of t u v w z = cond t (Err NotThrees) (cond u (Err TooMany) (cond v (Err Outside) (cond w (Err NoVertex) (Ok z))))

picked-told : (t u v w : Bool) (z : ℤ) → told_by (picked-of t u v w z) ≡ picked t u v w z
picked-told true u v w z = refl
picked-told false true v w z = refl
picked-told false false true w z = refl
picked-told false false false true z = refl
picked-told false false false false z = refl

abbrev pub given : List Float → List ℕ → Result ℤ Refusal
given p i = picked-of (bad_threes p i) (too_many (length i)) (some_outside p) (some_without p i) (sixfold p i)

pub given-told : (p : List Float) (i : List ℕ) → told_by (given p i) ≡ weighing p i
given-told p i = picked-told (bad_threes p i) (too_many (length i)) (some_outside p) (some_without p i) (sixfold p i) ∙ sym (weighing-is p i)

-- answer 0: none of the four tests passed
pub record Accepted (p : List Float) (i : List ℕ) : Type 0 where
  pub threes : bad_threes p i ≡ false
  pub few : too_many (length i) ≡ false
  pub inside : some_outside p ≡ false
  pub vertices : some_without p i ≡ false

picked-0 : (t u v w : Bool) (z : ℤ) → (picked t u v w z).answer ≡ 0 → (t ≡ false) × (u ≡ false) × (v ≡ false) × (w ≡ false)
picked-0 true u v w z e = absurd (omega arith)
picked-0 false true v w z e = absurd (omega arith)
picked-0 false false true w z e = absurd (omega arith)
picked-0 false false false true z e = absurd (omega arith)
picked-0 false false false false z e = (refl, refl, refl, refl)

pub accepted : (p : List Float) (i : List ℕ) → (weighing p i).answer ≡ 0 → Accepted p i
accepted p i e =
    let r = picked-0 (bad_threes p i) (too_many (length i)) (some_outside p) (some_without p i) (sixfold p i) (ap (λ (w : Weighed). w.answer) (sym (weighing-is p i)) ∙ e) in
    record { threes = r.0; few = r.1; inside = r.2; vertices = r.3 }

pub weighs : (p : List Float) (i : List ℕ) → Accepted p i → weighing p i ≡ weighed 0 (sixfold p i)
weighs p i a = weighing-is p i ∙ (λ k. picked (a.threes k) (a.few k) (a.inside k) (a.vertices k) (sixfold p i))

-- ---- two calls with the same tests

picked-alike : (f : ℤ → ℤ) → f (pos 0) ≡ pos 0 → (t u v w : Bool) (z : ℤ) → picked t u v w (f z) ≡ weighed (picked t u v w z).answer (f (picked t u v w z).volume)
picked-alike f e true u v w z = ap (weighed 61) (sym e)
picked-alike f e false true v w z = ap (weighed 62) (sym e)
picked-alike f e false false true w z = ap (weighed 63) (sym e)
picked-alike f e false false false true z = ap (weighed 64) (sym e)
picked-alike f e false false false false z = refl

module _ (p : List Float) (i j : List ℕ) (long : length j ≡ length i) (used : some_without p j ≡ some_without p i) where
  alike : (f : ℤ → ℤ) → f (pos 0) ≡ pos 0 → sixfold p j ≡ f (sixfold p i) → weighing p j ≡ weighed (weighing p i).answer (f (weighing p i).volume)
  alike f z e =
      weighing-is p j
      ∙ (λ k. picked (not_threes (length p) || not_threes (long k)) (too_many (long k)) (some_outside p) (used k) (e k))
      ∙ picked-alike f z (bad_threes p i) (too_many (length i)) (some_outside p) (some_without p i) (sixfold p i)
      ∙ ap (λ (w : Weighed). weighed w.answer (f w.volume)) (sym (weighing-is p i))

  unchanged : sixfold p j ≡ sixfold p i → weighing p j ≡ weighing p i
  unchanged e = alike (λ (z : ℤ). z) refl e

-- ---- turned round

pub or_turn : (a b c r : Bool) → (a || (c || (b || r))) ≡ (a || (b || (c || r)))
or_turn true b c r = refl
or_turn false true true r = refl
or_turn false true false r = refl
or_turn false false true r = refl
or_turn false false false r = refl

or-roll : (a b c r : Bool) → (b || (c || (a || r))) ≡ (a || (b || (c || r)))
or-roll true true c r = refl
or-roll true false true r = refl
or-roll true false false r = refl
or-roll false true c r = refl
or-roll false false true r = refl
or-roll false false false r = refl

pub round-length : (l : List ℕ) → length (turned_round l) ≡ length l
unfolding turned_round
round-length [] = refl
round-length (i ∷ []) = refl
round-length (i ∷ j ∷ []) = refl
round-length (i ∷ j ∷ k ∷ is) = ap (λ (n : ℕ). suc (suc (suc n))) (round-length is)

pub round-some : (f : ℕ → Bool) (l : List ℕ) → some f (turned_round l) ≡ some f l
unfolding some turned_round
round-some f [] = refl
round-some f (i ∷ []) = refl
round-some f (i ∷ j ∷ []) = refl
round-some f (i ∷ j ∷ k ∷ is) = ap (λ (r : Bool). f i || (f k || (f j || r))) (round-some f is) ∙ or_turn (f i) (f j) (f k) (some f is)

-- "Turning every triangle round negates it": the same answer, and the volume below zero where it was above
pub round-weighs : (p : List Float) (i : List ℕ) → weighing p (turned_round i) ≡ weighed (weighing p i).answer (neg_ℤ (weighing p i).volume)
round-weighs p i = alike p i (turned_round i) (round-length i) (round-some (no_vertex (length p / 3)) i) neg_ℤ refl (round-sum (corner_at p) i)

-- ---- turned in place

rolled-length : {s t : List ℕ} → Rolled s t → length t ≡ length s
rolled-length same = refl
rolled-length (kept r) = ap (λ (n : ℕ). suc (suc (suc n))) (rolled-length r)
rolled-length (rolled r) = ap (λ (n : ℕ). suc (suc (suc n))) (rolled-length r)

rolled-some : (f : ℕ → Bool) {s t : List ℕ} → Rolled s t → some f t ≡ some f s
unfolding some
rolled-some f same = refl
rolled-some f (kept {i = i} {j = j} {k = k} r) = ap (λ (n : Bool). f i || (f j || (f k || n))) (rolled-some f r)
rolled-some f (rolled {i = i} {j = j} {k = k} {s = s} r) = ap (λ (n : Bool). f j || (f k || (f i || n))) (rolled-some f r) ∙ or-roll (f i) (f j) (f k) (some f s)

pub rolled-weighs : (p : List Float) {i j : List ℕ} → Rolled i j → weighing p j ≡ weighing p i
rolled-weighs p {i} {j} r = unchanged p i j (rolled-length r) (rolled-some (no_vertex (length p / 3)) r) (sym (rolled-sum (corner_at p) r))

-- ---- in another order

pub triangles-length : (l : List ℕ) → length l % 3 ≡ 0 → length l ≡ 3 * length (triangles l)
unfolding triangles
triangles-length [] h = refl
triangles-length (i ∷ []) h = absurd (omega arith)
triangles-length (i ∷ j ∷ []) h = absurd (omega arith)
triangles-length (i ∷ j ∷ k ∷ is) h = omega (arith, triangles-length is (omega arith))

or-three : (a b c r : Bool) → (a || (b || (c || r))) ≡ ((a || (b || c)) || r)
or-three true b c r = refl
or-three false true c r = refl
or-three false false c r = refl

pub some-triangles : (f : ℕ → Bool) (l : List ℕ) → length l % 3 ≡ 0 → some f l ≡ some (λ (t : Triangle). f t.first || (f t.second || f t.third)) (triangles l)
unfolding some triangles
some-triangles f [] h = refl
some-triangles f (i ∷ []) h = absurd (omega arith)
some-triangles f (i ∷ j ∷ []) h = absurd (omega arith)
some-triangles f (i ∷ j ∷ k ∷ is) h =
    ap (λ (r : Bool). f i || (f j || (f k || r))) (some-triangles f is (omega arith))
    ∙ or-three (f i) (f j) (f k) (some (λ (t : Triangle). f t.first || (f t.second || f t.third)) (triangles is))

or-past : (a b r : Bool) → (a || (b || r)) ≡ (b || (a || r))
or-past true true r = refl
or-past true false r = refl
or-past false true r = refl
or-past false false r = refl

pub perm-some : {A : Type 0} (f : A → Bool) {s t : List A} → Perm s t → some f s ≡ some f t
unfolding some
perm-some f nil = refl
perm-some f (skip {x = x} p) = ap (λ (r : Bool). f x || r) (perm-some f p)
perm-some f (swap {x = x} {y = y} {s = s}) = or-past (f x) (f y) (some f s)
perm-some f (trans p q) = perm-some f p ∙ perm-some f q

-- two lists in threes with the same triangles, in any order
pub order-weighs : (p : List Float) (i j : List ℕ) → length i % 3 ≡ 0 → length j % 3 ≡ 0 → Perm (triangles i) (triangles j) → weighing p j ≡ weighing p i
order-weighs p i j h k q =
    unchanged p i j (triangles-length j k ∙ ap (λ (n : ℕ). 3 * n) (sym (perm-length q)) ∙ sym (triangles-length i h))
    (some-triangles (no_vertex (length p / 3)) j k ∙ sym (perm-some _ q) ∙ sym (some-triangles (no_vertex (length p / 3)) i h))
    (sym (order-sum (corner_at p) i j q))

-- ---- one list after the other

pub three-is : (n : ℕ) → n % 3 ≡ 0 → not_threes n ≡ false
three-is n h = rw (eq-eqb (n % 3) 0 h) refl

-- "For two triangle lists over the same positions, the answer for one after the other is the sum of the two, where the joined list is within
-- the count."
pub joined-weighs : (p : List Float) (i j : List ℕ) → (weighing p i).answer ≡ 0 → (weighing p j).answer ≡ 0 → length (i ++ j) / 3 ≤ 16384
    → weighing p (i ++ j) ≡ weighed 0 ((weighing p i).volume +ℤ (weighing p j).volume)
joined-weighs p i j g h few =
    weighs p (i ++ j)
    (record {
      threes = or-none (not_threes (length p)) (not_threes (length (i ++ j))) (or_left (not_threes (length p)) (not_threes (length i)) a.threes)
          (three-is (length (i ++ j)) (omega (arith, length-append i j, u, v)));
      few = le-ltb 16384 (length (i ++ j) / 3) few;
      inside = a.inside;
      vertices = some-append (no_vertex (length p / 3)) i j ∙ or-none (some_without p i) (some_without p j) a.vertices b.vertices;
    })
    ∙ ap (weighed 0) (joined-sum (corner_at p) i j u ∙ ap₂ (λ (y z : ℤ). y +ℤ z) (sym (volume-is i a)) (sym (volume-is j b)))
  where
    a : Accepted p i
    a = accepted p i g

    b : Accepted p j
    b = accepted p j h

    volume-is : (l : List ℕ) → Accepted p l → (weighing p l).volume ≡ sixfold p l
    volume-is l c = ap (λ (w : Weighed). w.volume) (weighs p l c)

    u : length i % 3 ≡ 0
    u = in-threes p i a.threes

    v : length j % 3 ≡ 0
    v = in-threes p j b.threes
