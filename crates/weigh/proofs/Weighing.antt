-- The laws over the call's whole answer. Turned round and in another order: refusals too. Joined and in parts: where the parts, or the whole, are answered 0.
-- Turned in place: where both are answered 0, since a turn may bring a corner that is far from another to the front. Assumes nothing.
use Rattle.std.proofs.Common.{◌≡◌, ℕ, ◌+◌, ◌*◌, ◌/◌, ◌%◌, ◌^◌, ◌≤◌, Bool, true, false, cond, ◌||◌, List, [], ◌∷◌, ◌++◌, length, ℤ, pos, ◌+ℤ◌, neg_ℤ, sym, refl, ap, ◌∙◌, ap₂, arith, length-append, ltb-false, le-ltb}
use lib.Ieee.{Float}
use Rattle.lists.specs.Lists.{some}
use mathlib.Core.Bool.{or_assoc}
use Rattle.std.proofs.Math.Bool.{or_comm}
use Rattle.lists.proofs.Either.{or_left, or_right, or-none}
use Rattle.lists.proofs.Permutation.{Perm, perm-length}
use Rattle.lists.proofs.Some.{some-append}
use Rattle.volume.specs.declared.Corner.{Corner}
use Rattle.volume.specs.Answers.{not_threes}
use Rattle.volume.specs.Triangles.{turned_round, Rolled, Triangle, triangles}
use Rattle.volume.proofs.Answering.{bad_threes, in-threes}
use Rattle.volume.proofs.Weighing.{round-length, round-some, triangles-length, some-triangles, perm-some, three-is}
use Rattle.weigh.specs.Words.{high_of, low_of}
use Rattle.weigh.specs.Sums.{corner_from, shadow_of, pillar_of, pillars, shadows}
use Rattle.weigh.specs.Answers.{Answer, some_beyond, no_vertex, some_without, too_many, apart, wide, some_wide, says, refuses, weight, sum_in}
use Rattle.weigh.proofs.Words.{words-make}
use Rattle.weigh.proofs.Laws.{shadow-turns, shadow-rolls, pillar-turns, pillar-rolls, round-sum, joined-sum, rolled-sum, order-sum}

-- ---- the tests, and what an accepted call says of them

-- the answer by its five tests
abbrev picked : Bool → Bool → Bool → Bool → Bool → ℤ → ℤ → Answer
picked t u v w x y z = cond t (refuses 61) (cond u (refuses 63) (cond v (refuses 64) (cond w (refuses 75) (cond x (refuses 76) (says 0 y z)))))

weight_is : (p : List Float) (f : ℕ) (i : List ℕ)
    → weight p f i ≡ picked (bad_threes p i) (some_beyond p) (some_without p f i) (too_many (length i)) (some_wide (corner_from p f) i) (pillars p f i) (shadows p f i)
unfolding weight
weight_is p f i = refl

-- answer 0: none of the five tests passed
pub record Accepted (p : List Float) (f : ℕ) (i : List ℕ) : Type 0 where
  pub threes : bad_threes p i ≡ false
  pub inside : some_beyond p ≡ false
  pub used : some_without p f i ≡ false
  pub few : too_many (length i) ≡ false
  pub narrow : some_wide (corner_from p f) i ≡ false

picked-0 : (t u v w x : Bool) (y z : ℤ) → (picked t u v w x y z).answer ≡ 0 → (t ≡ false) × (u ≡ false) × (v ≡ false) × (w ≡ false) × (x ≡ false)
picked-0 true u v w x y z e = absurd (omega arith)
picked-0 false true v w x y z e = absurd (omega arith)
picked-0 false false true w x y z e = absurd (omega arith)
picked-0 false false false true x y z e = absurd (omega arith)
picked-0 false false false false true y z e = absurd (omega arith)
picked-0 false false false false false y z e = (refl, refl, refl, refl, refl)

pub accepted : (p : List Float) (f : ℕ) (i : List ℕ) → (weight p f i).answer ≡ 0 → Accepted p f i
accepted p f i e =
    let r = picked-0 (bad_threes p i) (some_beyond p) (some_without p f i) (too_many (length i)) (some_wide (corner_from p f) i) (pillars p f i) (shadows p f i)
    (ap (λ (w : Answer). w.answer) (sym (weight_is p f i)) ∙ e) in
    record { threes = r.0; inside = r.1; used = r.2; few = r.3; narrow = r.4 }

pub weighs : (p : List Float) (f : ℕ) (i : List ℕ) → Accepted p f i → weight p f i ≡ says 0 (pillars p f i) (shadows p f i)
weighs p f i a = weight_is p f i ∙ (λ k. picked (a.threes k) (a.inside k) (a.used k) (a.few k) (a.narrow k) (pillars p f i) (shadows p f i))

-- the sum and the shadow that an answer 0 tells
module _ (p : List Float) (f : ℕ) (i : List ℕ) (done : (weight p f i).answer ≡ 0) where
  pub sum_told : sum_in (weight p f i) ≡ pillars p f i
  sum_told = ap sum_in (weighs p f i (accepted p f i done)) ∙ words-make (pillars p f i)

  pub shadow-told : (weight p f i).shadow ≡ shadows p f i
  shadow-told = ap (λ (w : Answer). w.shadow) (weighs p f i (accepted p f i done))

-- ---- two calls with the same tests

abbrev under : (ℤ → ℤ) → Answer → Answer
under g w = says w.answer (g (sum_in w)) (g w.shadow)

picked-alike : (g : ℤ → ℤ) → g (pos 0) ≡ pos 0 → (t u v w x : Bool) (y z : ℤ) → picked t u v w x (g y) (g z) ≡ under g (picked t u v w x y z)
unfolding high_of low_of
picked-alike g e true u v w x y z = ap₂ (λ (m n : ℤ). says 61 m n) (sym e) (sym e)
picked-alike g e false true v w x y z = ap₂ (λ (m n : ℤ). says 63 m n) (sym e) (sym e)
picked-alike g e false false true w x y z = ap₂ (λ (m n : ℤ). says 64 m n) (sym e) (sym e)
picked-alike g e false false false true x y z = ap₂ (λ (m n : ℤ). says 75 m n) (sym e) (sym e)
picked-alike g e false false false false true y z = ap₂ (λ (m n : ℤ). says 76 m n) (sym e) (sym e)
picked-alike g e false false false false false y z = ap (λ (n : ℤ). says 0 (g n) (g z)) (sym (words-make y))

module _ (p : List Float) (f : ℕ) (i j : List ℕ) (long : length j ≡ length i) (used : some_without p f j ≡ some_without p f i)
    (narrow : some_wide (corner_from p f) j ≡ some_wide (corner_from p f) i) where
  alike : (g : ℤ → ℤ) → g (pos 0) ≡ pos 0 → pillars p f j ≡ g (pillars p f i) → shadows p f j ≡ g (shadows p f i) → weight p f j ≡ under g (weight p f i)
  alike g e y z =
      weight_is p f j
      ∙ (λ k. picked (not_threes (length p) || not_threes (long k)) (some_beyond p) (used k) (too_many (long k)) (narrow k) (y k) (z k))
      ∙ picked-alike g e (bad_threes p i) (some_beyond p) (some_without p f i) (too_many (length i)) (some_wide (corner_from p f) i) (pillars p f i) (shadows p f i)
      ∙ ap (under g) (sym (weight_is p f i))

  unchanged : pillars p f j ≡ pillars p f i → shadows p f j ≡ shadows p f i → weight p f j ≡ weight p f i
  unchanged y z =
      weight_is p f j
      ∙ (λ k. picked (not_threes (length p) || not_threes (long k)) (some_beyond p) (used k) (too_many (long k)) (narrow k) (y k) (z k))
      ∙ sym (weight_is p f i)

-- ---- turned round

round-wide : (at : ℕ → Corner) (l : List ℕ) → some_wide at (turned_round l) ≡ some_wide at l
unfolding some_wide turned_round
round-wide at [] = refl
round-wide at (i ∷ []) = refl
round-wide at (i ∷ j ∷ []) = refl
round-wide at (i ∷ j ∷ k ∷ is) =
    ap₂ ◌||◌ (or_comm (apart (at i).x (at k).x || apart (at i).y (at k).y) (apart (at i).x (at j).x || apart (at i).y (at j).y)) (round-wide at is)

-- every triangle turned round: the same answer number, and sum and shadow negated
pub round-weighs : (p : List Float) (f : ℕ) (i : List ℕ)
    → weight p f (turned_round i) ≡ says (weight p f i).answer (neg_ℤ (sum_in (weight p f i))) (neg_ℤ (weight p f i).shadow)
round-weighs p f i =
    alike p f i (turned_round i) (round-length i) (round-some (no_vertex f (length p / 3)) i) (round-wide (corner_from p f) i) neg_ℤ refl
    (round-sum pillar_of (corner_from p f) pillar-turns i) (round-sum shadow_of (corner_from p f) shadow-turns i)

-- ---- in another order

wide-triangles : (at : ℕ → Corner) (l : List ℕ) → some_wide at l ≡ some (λ (t : Triangle). wide (at t.first) (at t.second) (at t.third)) (triangles l)
unfolding some_wide some triangles
wide-triangles at [] = refl
wide-triangles at (i ∷ []) = refl
wide-triangles at (i ∷ j ∷ []) = refl
wide-triangles at (i ∷ j ∷ k ∷ is) = ap (λ (t : Bool). wide (at i) (at j) (at k) || t) (wide-triangles at is)

-- two lists in threes with the same triangles, in any order
pub order-weighs : (p : List Float) (f : ℕ) (i j : List ℕ) → length i % 3 ≡ 0 → length j % 3 ≡ 0 → Perm (triangles i) (triangles j) → weight p f j ≡ weight p f i
order-weighs p f i j h k q =
    unchanged p f i j (triangles-length j k ∙ ap (λ (n : ℕ). 3 * n) (sym (perm-length q)) ∙ sym (triangles-length i h))
    (some-triangles (no_vertex f (length p / 3)) j k ∙ sym (perm-some _ q) ∙ sym (some-triangles (no_vertex f (length p / 3)) i h))
    (wide-triangles (corner_from p f) j ∙ sym (perm-some _ q) ∙ sym (wide-triangles (corner_from p f) i))
    (sym (order-sum pillar_of (corner_from p f) i j q)) (sym (order-sum shadow_of (corner_from p f) i j q))

-- ---- turned in place

pub rolled-weighs : (p : List Float) (f : ℕ) {i j : List ℕ} → Rolled i j → (weight p f i).answer ≡ 0 → (weight p f j).answer ≡ 0 → weight p f j ≡ weight p f i
rolled-weighs p f {i} {j} r g h =
    weighs p f j (accepted p f j h)
    ∙ ap₂ (λ (y z : ℤ). says 0 y z) (sym (rolled-sum pillar_of (corner_from p f) pillar-rolls r)) (sym (rolled-sum shadow_of (corner_from p f) shadow-rolls r))
    ∙ sym (weighs p f i (accepted p f i g))

-- ---- one list after the other

pub wide-append : (at : ℕ → Corner) (s t : List ℕ) → length s % 3 ≡ 0 → some_wide at (s ++ t) ≡ (some_wide at s || some_wide at t)
unfolding some_wide
wide-append at [] t h = refl
wide-append at (i ∷ []) t h = absurd (omega arith)
wide-append at (i ∷ j ∷ []) t h = absurd (omega arith)
wide-append at (i ∷ j ∷ k ∷ is) t h =
    ap (λ (b : Bool). wide (at i) (at j) (at k) || b) (wide-append at is t (omega arith)) ∙ sym (or_assoc (wide (at i) (at j) (at k)) (some_wide at is) (some_wide at t))

module _ (p : List Float) (f : ℕ) (i j : List ℕ) where
  both-accepted : Accepted p f i → Accepted p f j → length (i ++ j) / 3 ≤ 2 ^ 33 → Accepted p f (i ++ j)
  both-accepted a b few =
      let u : length i % 3 ≡ 0 = in-threes p i a.threes in
      let v : length j % 3 ≡ 0 = in-threes p j b.threes in
      record {
        threes = or-none (not_threes (length p)) (not_threes (length (i ++ j))) (or_left (not_threes (length p)) (not_threes (length i)) a.threes)
            (three-is (length (i ++ j)) (omega (arith, length-append i j, u, v)));
        inside = a.inside;
        used = some-append (no_vertex f (length p / 3)) i j ∙ or-none (some_without p f i) (some_without p f j) a.used b.used;
        few = le-ltb (2 ^ 33) (length (i ++ j) / 3) few;
        narrow = wide-append (corner_from p f) i j u ∙ or-none (some_wide (corner_from p f) i) (some_wide (corner_from p f) j) a.narrow b.narrow;
      }

  -- two lists that are answered 0
  pub joined-weighs : (weight p f i).answer ≡ 0 → (weight p f j).answer ≡ 0 → length (i ++ j) / 3 ≤ 2 ^ 33
      → weight p f (i ++ j) ≡ says 0 (sum_in (weight p f i) +ℤ sum_in (weight p f j)) ((weight p f i).shadow +ℤ (weight p f j).shadow)
  joined-weighs g h few =
      let a : Accepted p f i = accepted p f i g in
      let u : length i % 3 ≡ 0 = in-threes p i a.threes in
      weighs p f (i ++ j) (both-accepted a (accepted p f j h) few)
      ∙ ap₂ (λ (y z : ℤ). says 0 y z)
      (joined-sum pillar_of (corner_from p f) i j u ∙ ap₂ ◌+ℤ◌ (sym (sum_told p f i g)) (sym (sum_told p f j h)))
      (joined-sum shadow_of (corner_from p f) i j u ∙ ap₂ ◌+ℤ◌ (sym (shadow-told p f i g)) (sym (shadow-told p f j h)))

  -- a list that is answered 0, in two parts of whole triangles: so are the parts
  pub part-weighs : length i % 3 ≡ 0 → (weight p f (i ++ j)).answer ≡ 0 → ((weight p f i).answer ≡ 0) × ((weight p f j).answer ≡ 0)
  part-weighs u h =
      let a : Accepted p f (i ++ j) = accepted p f (i ++ j) h in
      let w : length (i ++ j) % 3 ≡ 0 = in-threes p (i ++ j) a.threes in
      let n : length (i ++ j) ≡ length i + length j = length-append i j in
      let v : length j % 3 ≡ 0 = omega arith in
      let few : length (i ++ j) / 3 ≤ 2 ^ 33 = ltb-false (2 ^ 33) (length (i ++ j) / 3) a.few in
      let t : not_threes (length p) ≡ false = or_left (not_threes (length p)) (not_threes (length (i ++ j))) a.threes in
      let s : (some_without p f i || some_without p f j) ≡ false = sym (some-append (no_vertex f (length p / 3)) i j) ∙ a.used in
      let x : (some_wide (corner_from p f) i || some_wide (corner_from p f) j) ≡ false = sym (wide-append (corner_from p f) i j u) ∙ a.narrow in
      let left : Accepted p f i = record {
        threes = or-none (not_threes (length p)) (not_threes (length i)) t (three-is (length i) u);
        inside = a.inside;
        used = or_left (some_without p f i) (some_without p f j) s;
        few = le-ltb (2 ^ 33) (length i / 3) (omega arith);
        narrow = or_left (some_wide (corner_from p f) i) (some_wide (corner_from p f) j) x;
      } in
      let right : Accepted p f j = record {
        threes = or-none (not_threes (length p)) (not_threes (length j)) t (three-is (length j) v);
        inside = a.inside;
        used = or_right (some_without p f i) (some_without p f j) s;
        few = le-ltb (2 ^ 33) (length j / 3) (omega arith);
        narrow = or_right (some_wide (corner_from p f) i) (some_wide (corner_from p f) j) x;
      } in
      (ap (λ (y : Answer). y.answer) (weighs p f i left), ap (λ (y : Answer). y.answer) (weighs p f j right))
