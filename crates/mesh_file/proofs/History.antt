-- What a reading that came so far, or to the end, says of every record before: the first are vertices, then come triangles, then the closing
-- record, which ends the file. And no refusal has the number 0. Assumes nothing.
use Prim.Native.Nat.{ℕ, zero, suc, ◌+◌, ◌*◌, ◌/◌, ◌≤◌, ◌<◌}
use native.Mathlib.Omega.{arith}
use mathlib.Core.Path.{◌≡◌, refl, sym, ap, ◌∙◌, subst}
use mathlib.Core.Logic.{◌⊎◌, inl, inr, ⊎_elim}
use mathlib.Core.Bool.{Bool, true, false, cond}
use mathlib.Core.List.{List}
use borrow.Author.Tests.{eqb-true, eqb-false}
use lib.Dec.{ltb, eqb}
use lib.ListN.{length}
use Rattle.lists.proofs.Tests.{less-or-not}
use Rattle.mesh_file.specs.Record.{word_at}
use Rattle.mesh_file.specs.Reading.{
  words_at,
  cut,
  fault_of,
  Found,
  good,
  faulty,
  found_of,
  found_at,
  seen,
  Progress,
  reading,
  whole,
  refused,
  counted,
  further,
  after,
  read_of,
  read_answer,
  checked,
}
use Rattle.mesh_record.specs.declared.Words.{Words}
use Rattle.mesh_record.specs.declared.Counts.{Counts}
use Rattle.mesh_file.specs.Reading.{Read}
use Rattle.mesh_record.proofs.Told.{no-fault, known-kind, vertex-told}

-- ---- a refusal's number is not 0

-- what is of none of the three kinds has a fault
abbrev Numbered : Found → Type 0
Numbered x = (x.kind ≡ 1 → ⊥) → (x.kind ≡ 2 → ⊥) → (x.kind ≡ 3 → ⊥) → x.fault ≡ 0 → ⊥

numbered_of : (w : Words) (s : Counts) (more : Bool) → Numbered (found_of (fault_of w s more) w.kind)
numbered_of w s more = go (eqb (fault_of w s more) 0) refl
  where
    go : (b : Bool) → eqb (fault_of w s more) 0 ≡ b → Numbered (cond b (good w.kind) (faulty (fault_of w s more)))
    go true e = λ p q r z. ⊎_elim p (⊎_elim q r) (known-kind w.kind s.triangles (no-fault w s more (eqb-true (fault_of w s more) 0 e)).kind)
    go false e = λ p q r z. eqb-false (fault_of w s more) 0 e z

numbered-at : (f : List ℕ) (at : ℕ) (s : Counts) → Numbered (found_at f at s)
unfolding found_at
numbered-at f at s = go (cut f at)
  where
    go : (b : Bool) → Numbered (cond b (faulty 21) (found_of (fault_of (words_at f at) s (ltb (at + 32) (length f))) (word_at f at)))
    go true = λ p q r z. omega (arith, z)
    go false = numbered_of (words_at f at) s (ltb (at + 32) (length f))

abbrev Answers : Progress → Type 0
Answers (reading v t) = Unit {0}
Answers (whole v t) = Unit {0}
Answers (refused n) = n ≡ 0 → ⊥

counted-answers : (x : Found) (v t : ℕ) → Numbered x → Answers (counted x v t)
counted-answers x v t h = go (eqb x.kind 1) refl (eqb x.kind 2) refl (eqb x.kind 3) refl
  where
    go : (a : Bool) → eqb x.kind 1 ≡ a → (b : Bool) → eqb x.kind 2 ≡ b → (c : Bool) → eqb x.kind 3 ≡ c
        → Answers (cond a (reading (suc v) t) (cond b (reading v (suc t)) (cond c (whole v t) (refused x.fault))))
    go true p b q c r = tt
    go false p true q c r = tt
    go false p false q true r = tt
    go false p false q false r = h (eqb-false x.kind 1 p) (eqb-false x.kind 2 q) (eqb-false x.kind 3 r)

further-answers : (f : List ℕ) (k : ℕ) (p : Progress) → Answers p → Answers (further f k p)
further-answers f k (reading v t) h = counted-answers (found_at f (32 * k) (seen v t)) v t (numbered-at f (32 * k) (seen v t))
further-answers f k (whole v t) h = tt
further-answers f k (refused n) h = h

pub after-answers : (f : List ℕ) (k : ℕ) → Answers (after f k)
unfolding after
after-answers f zero = tt
after-answers f (suc k) = further-answers f k (after f k) (after-answers f k)

-- an answer of 0 is a whole mesh
pub accepted : (f : List ℕ) (r : Read) → r ≡ checked (read_of f) → r.answer ≡ 0 → read_of f ≡ whole r.vertices r.triangles
unfolding read_of
accepted f r e z = go (after f (suc (length f / 32))) (after-answers f (suc (length f / 32))) e
  where
    go : (p : Progress) → Answers p → r ≡ checked p → p ≡ whole r.vertices r.triangles
    go (reading v t) a q = let x : ◌≡◌ {A = ℕ} 21 0 = ap (λ (y : Read). y.answer) (sym q) ∙ z in absurd (omega arith)
    go (whole v t) a q = λ i. whole (q' i).vertices (q' i).triangles
      where
        q' : read_answer 0 v t ≡ r
        q' = sym q
    go (refused n) a q = absurd (a (ap (λ (y : Read). y.answer) (sym q) ∙ z))

-- ---- the records before

pub record History (f : List ℕ) (k v t : ℕ) : Type 0 where
  pub place : k ≡ v + t
  pub vertices : (j : ℕ) → j < v → (found_at f (32 * j) (seen j 0)).kind ≡ 1
  pub triangles : (j : ℕ) → j < t → (found_at f (32 * (v + j)) (seen v j)).kind ≡ 2

abbrev Records : List ℕ → ℕ → Progress → Type 0
Records f k (reading v t) = History f k v t
Records f k (whole v t) = History f (v + t) v t × ((found_at f (32 * (v + t)) (seen v t)).kind ≡ 3)
Records f k (refused n) = Unit {0}

pub last-or-before : (j n : ℕ) → j < suc n → (j < n) ⊎ (j ≡ n)
last-or-before j n h = ⊎_elim (λ (p : j < n). inl p) (λ (p : n ≤ j). inr (omega arith)) (less-or-not j n)

module _ (f : List ℕ) (k v t : ℕ) (h : History f k v t) where
  -- the kind at k, said at its place among the vertices and triangles
  said : (n : ℕ) → (found_at f (32 * k) (seen v t)).kind ≡ n → (found_at f (32 * (v + t)) (seen v t)).kind ≡ n
  said n e = ap (λ (x : ℕ). (found_at f (32 * x) (seen v t)).kind) (sym h.place) ∙ e

  one-vertex : (found_at f (32 * k) (seen v t)).kind ≡ 1 → History f (suc k) (suc v) t
  one-vertex e =
      let z : t ≡ 0 = (vertex-told f (32 * k) (seen v t) e).first in
      let p = h.place in
      let here : (found_at f (32 * v) (seen v 0)).kind ≡ 1 = ap (λ (x : ℕ). (found_at f (32 * v) (seen v x)).kind) (sym z) ∙
      (ap (λ (x : ℕ). (found_at f (32 * x) (seen v t)).kind) (place_of z) ∙ e) in
      record {
        place = omega arith;
        vertices = λ j l. ⊎_elim (λ (q : j < v). h.vertices j q) (λ (q : j ≡ v). ap (λ (x : ℕ). (found_at f (32 * x) (seen x 0)).kind) q ∙ here) (last-or-before j v l);
        triangles = λ j l. absurd (none z j l);
      }
    where
      place_of : t ≡ 0 → v ≡ k
      place_of z = let p = h.place in omega arith

      none : t ≡ 0 → (j : ℕ) → j < t → ⊥
      none z j l = omega arith

  one-triangle : (found_at f (32 * k) (seen v t)).kind ≡ 2 → History f (suc k) v (suc t)
  one-triangle e =
      let p = h.place in
      record {
        place = omega arith;
        vertices = h.vertices;
        triangles = λ j l. ⊎_elim (λ (q : j < t). h.triangles j q) (λ (q : j ≡ t). ap (λ (x : ℕ). (found_at f (32 * (v + x)) (seen v x)).kind) q ∙ said 2 e) (last-or-before j t l);
      }

  counted-records : (x : Found) → found_at f (32 * k) (seen v t) ≡ x → Records f (suc k) (counted x v t)
  counted-records x e = go (eqb x.kind 1) refl (eqb x.kind 2) refl (eqb x.kind 3) refl
    where
      is : (n : ℕ) → x.kind ≡ n → (found_at f (32 * k) (seen v t)).kind ≡ n
      is n q = ap (λ (x : Found). x.kind) e ∙ q

      go : (a : Bool) → eqb x.kind 1 ≡ a → (b : Bool) → eqb x.kind 2 ≡ b → (c : Bool) → eqb x.kind 3 ≡ c
          → Records f (suc k) (cond a (reading (suc v) t) (cond b (reading v (suc t)) (cond c (whole v t) (refused x.fault))))
      go true p b q c r = one-vertex (is 1 (eqb-true x.kind 1 p))
      go false p true q c r = one-triangle (is 2 (eqb-true x.kind 2 q))
      go false p false q true r = (record { place = refl; vertices = h.vertices; triangles = h.triangles }, said 3 (is 3 (eqb-true x.kind 3 r)))
      go false p false q false r = tt

further-records : (f : List ℕ) (k : ℕ) (p : Progress) → Records f k p → Records f (suc k) (further f k p)
further-records f k (reading v t) h = counted-records f k v t h (found_at f (32 * k) (seen v t)) refl
further-records f k (whole v t) h = h
further-records f k (refused n) h = tt

pub after-records : (f : List ℕ) (k : ℕ) → Records f k (after f k)
unfolding after
after-records f zero = record { place = refl; vertices = λ j l. absurd (omega arith); triangles = λ j l. absurd (omega arith) }
after-records f (suc k) = further-records f k (after f k) (after-records f k)

-- all records of an accepted file
pub whole-records : (f : List ℕ) (v t : ℕ) → read_of f ≡ whole v t → History f (v + t) v t × ((found_at f (32 * (v + t)) (seen v t)).kind ≡ 3)
unfolding read_of
whole-records f v t e = subst (Records f (suc (length f / 32))) e (after-records f (suc (length f / 32)))
