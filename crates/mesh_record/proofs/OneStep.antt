-- Laws of one step of reading: what the parts of a step give, a cut file, that a record of a kind is whole, and that the request's numbers tell the
-- cases of the code's enum apart. Assumes nothing.
use Rattle.std.proofs.Common.{◌≡◌, ℕ, suc, ◌+◌, ◌<◌, ◌≤◌, cond, eqb, List, length, sym, refl, ap, ◌∙◌, ⊎_elim, Result, Ok, Err, arith, lt-ltb, ne_eqb}
use Rattle.lists.proofs.Tests.{less-or-not}
use Rattle.mesh_record.specs.Faults.{Found, faulty, numbers_of, found_at}
use Rattle.mesh_record.specs.declared.Counts.{Counts}
use Rattle.mesh_record.specs.declared.Step.{Step}
use Rattle.mesh_record.specs.declared.Step.TheVariants.{Vertex, Triangle, Closed}
use Rattle.mesh_record.specs.Refusal.{number_of_refusal, answer_of}
use Rattle.mesh_record.specs.declared.refusal.Refusal.{Refusal}
use Rattle.mesh_record.specs.declared.refusal.Refusal.TheVariants.{CutFile, BadSum, BadKind, NotZero, WrongCounts, IndexWithoutVertex, FloatNotFinite, BytesAfterClosing, ShortRoom, BadLists}

-- ---- the parts of a step

-- a refusal's number is not 0, and no two refusals have one number
pub refusal-numbered : (r : Refusal) → number_of_refusal r ≡ 0 → ⊥
refusal-numbered r e = grind arith

pub found-cut : (f : List ℕ) (at : ℕ) (s : Counts) → length f < at + 32 → found_at f at s ≡ faulty 21
unfolding found_at
found-cut f at s h = simp (lt-ltb _ _ h)

-- a record that has a kind is whole
pub kind-whole : (f : List ℕ) (at : ℕ) (s : Counts) (k : ℕ) → (found_at f at s).kind ≡ suc k → at + 32 ≤ length f
kind-whole f at s k e =
    ⊎_elim (λ (h : length f < at + 32). absurd (none h)) (λ (h : at + 32 ≤ length f). h) (less-or-not (length f) (at + 32))
  where
    none : length f < at + 32 → ⊥
    none h = let z : ◌≡◌ {A = ℕ} 0 (suc k) = sym (ap (λ (x : Found). x.kind) (found-cut f at s h)) ∙ e in omega arith

-- ---- the numbers tell the cases apart

abbrev pub with_number : ℕ → Refusal
with_number n =
    cond (eqb n (number_of_refusal CutFile)) CutFile
    (cond (eqb n (number_of_refusal BadSum)) BadSum
    (cond (eqb n (number_of_refusal BadKind)) BadKind
    (cond (eqb n (number_of_refusal NotZero)) NotZero
    (cond (eqb n (number_of_refusal WrongCounts)) WrongCounts
    (cond (eqb n (number_of_refusal IndexWithoutVertex)) IndexWithoutVertex
    (cond (eqb n (number_of_refusal FloatNotFinite)) FloatNotFinite
    (cond (eqb n (number_of_refusal BytesAfterClosing)) BytesAfterClosing
    (cond (eqb n (number_of_refusal ShortRoom)) ShortRoom BadLists))))))))

pub refusal-back : (r : Refusal) → with_number (number_of_refusal r) ≡ r
refusal-back CutFile = refl
refusal-back BadSum = refl
refusal-back BadKind = refl
refusal-back NotZero = refl
refusal-back WrongCounts = refl
refusal-back IndexWithoutVertex = refl
refusal-back FloatNotFinite = refl
refusal-back BytesAfterClosing = refl
refusal-back ShortRoom = refl
refusal-back BadLists = refl

pub refusal-injective : (r r' : Refusal) → number_of_refusal r ≡ number_of_refusal r' → r ≡ r'
refusal-injective r r' e = sym (refusal-back r) ∙ (ap with_number e ∙ refusal-back r')

abbrev with_numbers : Found → Result Step Refusal
with_numbers x = cond (eqb x.kind 1) (Ok Vertex) (cond (eqb x.kind 2) (Ok Triangle) (cond (eqb x.kind 3) (Ok Closed) (Err (with_number x.fault))))

back : (r : Result Step Refusal) → with_numbers (numbers_of r) ≡ r
back (Ok Vertex) = refl
back (Ok Triangle) = refl
back (Ok Closed) = refl
back (Err r) = ap Err (refusal-back r)

pub numbers-injective : (r r' : Result Step Refusal) → numbers_of r ≡ numbers_of r' → r ≡ r'
numbers-injective r r' e = sym (back r) ∙ (ap with_numbers e ∙ back r')

-- ---- the answer of a call that gives nothing but that it was not refused

pub done-of-answer : (r : Result (Unit {0}) Refusal) → answer_of r ≡ 0 → r ≡ Ok tt
done-of-answer (Ok tt) e = refl
done-of-answer (Err r) e = absurd (refusal-numbered r e)

abbrev with_answer : ℕ → Result (Unit {0}) Refusal
with_answer n = cond (eqb n 0) (Ok tt) (Err (with_number n))

answer-back : (r : Result (Unit {0}) Refusal) → with_answer (answer_of r) ≡ r
answer-back (Ok tt) = refl
answer-back (Err r) = rw (ne_eqb (number_of_refusal r) 0 (refusal-numbered r)) (ap Err (refusal-back r))

pub answer-injective : (r r' : Result (Unit {0}) Refusal) → answer_of r ≡ answer_of r' → r ≡ r'
answer-injective r r' e = sym (answer-back r) ∙ (ap with_answer e ∙ answer-back r')
