-- What a record that is not refused tells, kind by kind: its sum, its zeros, its counts, its indices, its floats. Assumes nothing.
use Rattle.std.proofs.Common.{◌≡◌, ℕ, suc, ◌+◌, ◌≤◌, Bool, true, false, cond, not, ◌&&◌, ◌||◌, eqb, ltb, List, [], ◌∷◌, length, sym, refl, subst, inl, inr, arith, ltb-false, le-ltb, eq-eqb, eqb-true}
use borrow.Author.Tests.{not-false}
use Rattle.mesh_record.specs.Record.{word_at, sum_of}
use Rattle.mesh_record.specs.Faults.{words_at, bad_sum, bad_kind, all_zero, bad_zero, bad_counts, bad_index, three_finite, bad_float, bad_end, fault_of, good, faulty, Known, found_of, found_at}
use Rattle.mesh_record.specs.declared.Words.{Words}
use Rattle.mesh_record.specs.declared.Counts.{Counts}
use Rattle.mesh_record.proofs.OneStep.{kind-whole}
use Rattle.lists.proofs.Either.{or_left, or_right}

-- ---- tests that passed and failed

pub second-false : (a b : Bool) → a ≡ true → a && b ≡ false → b ≡ false
second-false true b e h = h
second-false false true e h = sym e
second-false false false e h = refl

pub both_left : (a b : Bool) → a && b ≡ true → a ≡ true
both_left true b h = refl
both_left false b h = h

pub both_right : (a b : Bool) → a && b ≡ true → b ≡ true
both_right true b h = h
both_right false true h = refl
both_right false false h = h

-- ---- no fault

-- a chain of tests that gives 0 has passed each
pub cond-zero : (b : Bool) (n x : ℕ) → cond b (suc n) x ≡ 0 → (b ≡ false) × (x ≡ 0)
cond-zero true n x e = absurd (omega arith)
cond-zero false n x e = (refl, e)

pub record NoFault (w : Words) (s : Counts) (more : Bool) : Type 0 where
  pub sum : bad_sum w ≡ false
  pub kind : bad_kind w.kind s.triangles ≡ false
  pub zero : bad_zero w ≡ false
  pub counts : bad_counts w s ≡ false
  pub index : bad_index w s.vertices ≡ false
  pub float : bad_float w ≡ false
  pub last : bad_end w more ≡ false

pub no-fault : (w : Words) (s : Counts) (more : Bool) → fault_of w s more ≡ 0 → NoFault w s more
unfolding fault_of
no-fault w s more e =
    let e₁ = cond-zero (bad_sum w) 21 _ e in
    let e₂ = cond-zero (bad_kind w.kind s.triangles) 22 _ e₁.1 in
    let e₃ = cond-zero (bad_zero w) 23 _ e₂.1 in
    let e₄ = cond-zero (bad_counts w s) 24 _ e₃.1 in
    let e₅ = cond-zero (bad_index w s.vertices) 25 _ e₄.1 in
    let e₆ = cond-zero (bad_float w) 26 _ e₅.1 in
    let e₇ = cond-zero (bad_end w more) 27 0 e₆.1 in
    record { sum = e₁.0; kind = e₂.0; zero = e₃.0; counts = e₄.0; index = e₅.0; float = e₆.0; last = e₇.0 }

pub fault-none : (w : Words) (s : Counts) (more : Bool) → NoFault w s more → fault_of w s more ≡ 0
unfolding fault_of
fault-none w s more n = rw (n.sum, n.kind, n.zero, n.counts, n.index, n.float, n.last) refl

-- ---- a good record

kind-of : (fault kind k : ℕ) → (found_of fault kind).kind ≡ suc k → (fault ≡ 0) × (kind ≡ suc k)
kind-of fault kind k = go (eqb fault 0) refl
  where
    go : (b : Bool) → eqb fault 0 ≡ b → (cond b (good kind) (faulty fault)).kind ≡ suc k → (fault ≡ 0) × (kind ≡ suc k)
    go true e g = (eqb-true fault 0 e, g)
    go false e g = absurd (omega (arith, g))

pub record GoodRecord (f : List ℕ) (at : ℕ) (s : Counts) (k : ℕ) : Type 0 where
  pub room : at + 32 ≤ length f
  pub kind : word_at f at ≡ k
  pub faultless : NoFault (words_at f at) s (ltb (at + 32) (length f))

pub good-record : (f : List ℕ) (at : ℕ) (s : Counts) (k : ℕ) → (found_at f at s).kind ≡ suc k → GoodRecord f at s (suc k)
unfolding found_at
good-record f at s k g =
    let h = kind-whole f at s k g in
    let c : ltb (length f) (at + 32) ≡ false = le-ltb (length f) (at + 32) h in
    let n = fault_of (words_at f at) s (ltb (at + 32) (length f)) in
    let p = kind-of n (word_at f at) k (subst (λ (b : Bool). (cond b (faulty 21) (found_of n (word_at f at))).kind ≡ suc k) c g) in
    record { room = h; kind = p.1; faultless = no-fault (words_at f at) s (ltb (at + 32) (length f)) p.0 }

pub good-found : (f : List ℕ) (at : ℕ) (s : Counts) → at + 32 ≤ length f → NoFault (words_at f at) s (ltb (at + 32) (length f)) → found_at f at s ≡ good (word_at f at)
unfolding found_at
good-found f at s h n = rw (le-ltb (length f) (at + 32) h) (rw (fault-none (words_at f at) s (ltb (at + 32) (length f)) n) refl)

-- ---- kinds

pub known-kind : (k t : ℕ) → bad_kind k t ≡ false → Known k
unfolding bad_kind
known-kind k t = go (eqb k 1) refl (eqb k 2) refl
  where
    go : (a : Bool) → eqb k 1 ≡ a → (b : Bool) → eqb k 2 ≡ b → (a && not (eqb t 0)) || (not a && not b && not (eqb k 3)) ≡ false → Known k
    go true e b q n = inl (eqb-true k 1 e)
    go false e true q n = inr (inl (eqb-true k 2 q))
    go false e false q n = inr (inr (eqb-true k 3 (not-false (eqb k 3) n)))

-- ---- a step

-- a vertex comes before all triangles
vertex-first : (k t : ℕ) → k ≡ 1 → bad_kind k t ≡ false → t ≡ 0
unfolding bad_kind
vertex-first k t e n = eqb-true t 0 (not-false (eqb t 0) (second-false (eqb k 1) (not (eqb t 0)) (eq-eqb k 1 e) (or_left (eqb k 1 && not (eqb t 0)) _ n)))

-- ---- what each kind tells

abbrev pub Sum : List ℕ → ℕ → Type 0
Sum f at =
    word_at f (at + 28) ≡ sum_of (word_at f at ∷ word_at f (at + 4) ∷ word_at f (at + 8) ∷ word_at f (at + 12) ∷ word_at f (at + 16) ∷ word_at f (at + 20) ∷ word_at f (at + 24) ∷ [])

sum_told : (f : List ℕ) (at : ℕ) → bad_sum (words_at f at) ≡ false → Sum f at
unfolding bad_sum
sum_told f at e = eqb-true _ _ (not-false _ e)

pub record VertexTold (f : List ℕ) (at : ℕ) (s : Counts) : Type 0 where
  pub room : at + 32 ≤ length f
  pub kind : word_at f at ≡ 1
  pub sum : Sum f at
  pub first : s.triangles ≡ 0
  pub floats : three_finite (word_at f (at + 4)) (word_at f (at + 8)) (word_at f (at + 12)) && three_finite (word_at f (at + 16)) (word_at f (at + 20)) (word_at f (at + 24)) ≡ true

pub vertex-told : (f : List ℕ) (at : ℕ) (s : Counts) → (found_at f at s).kind ≡ 1 → VertexTold f at s
unfolding bad_float
vertex-told f at s e =
    let g = good-record f at s 0 e in
    let k = g.kind in
    record {
      room = g.room;
      kind = k;
      sum = sum_told f at g.faultless.sum;
      first = vertex-first (word_at f at) s.triangles k g.faultless.kind;
      floats = not-false _ (second-false (eqb (word_at f at) 1) _ (eq-eqb (word_at f at) 1 k) g.faultless.float);
    }

pub record TriangleTold (f : List ℕ) (at : ℕ) (s : Counts) : Type 0 where
  pub room : at + 32 ≤ length f
  pub kind : word_at f at ≡ 2
  pub sum : Sum f at
  pub zeros : all_zero 0 (word_at f (at + 16)) (word_at f (at + 20)) (word_at f (at + 24)) ≡ true
  pub below : ltb (word_at f (at + 4)) s.vertices && ltb (word_at f (at + 8)) s.vertices && ltb (word_at f (at + 12)) s.vertices ≡ true

pub triangle-told : (f : List ℕ) (at : ℕ) (s : Counts) → (found_at f at s).kind ≡ 2 → TriangleTold f at s
unfolding bad_zero bad_index
triangle-told f at s e =
    let g = good-record f at s 1 e in
    let k = g.kind in
    record {
      room = g.room;
      kind = k;
      sum = sum_told f at g.faultless.sum;
      zeros = not-false _ (second-false (eqb (word_at f at) 2) _ (eq-eqb (word_at f at) 2 k) (or_left _ _ g.faultless.zero));
      below = not-false _ (second-false (eqb (word_at f at) 2) _ (eq-eqb (word_at f at) 2 k) g.faultless.index);
    }

pub record ClosingTold (f : List ℕ) (at : ℕ) (s : Counts) : Type 0 where
  pub length : length f ≡ at + 32
  pub kind : word_at f at ≡ 3
  pub sum : Sum f at
  pub zeros : all_zero (word_at f (at + 12)) (word_at f (at + 16)) (word_at f (at + 20)) (word_at f (at + 24)) ≡ true
  pub vertices : word_at f (at + 4) ≡ s.vertices
  pub triangles : word_at f (at + 8) ≡ s.triangles

pub closing-told : (f : List ℕ) (at : ℕ) (s : Counts) → (found_at f at s).kind ≡ 3 → ClosingTold f at s
unfolding bad_zero bad_counts bad_end
closing-told f at s e =
    let g = good-record f at s 2 e in
    let k = g.kind in
    let t = eq-eqb (word_at f at) 3 k in
    let c : eqb (word_at f (at + 4)) s.vertices && eqb (word_at f (at + 8)) s.triangles ≡ true = not-false _ (second-false (eqb (word_at f at) 3) _ t g.faultless.counts) in
    let h = g.room in
    let l = ltb-false (at + 32) (length f) (second-false (eqb (word_at f at) 3) _ t g.faultless.last) in
    record {
      length = omega arith;
      kind = k;
      sum = sum_told f at g.faultless.sum;
      zeros = not-false _ (second-false (eqb (word_at f at) 3) _ t
          (or_right (eqb (word_at f at) 2 && not (all_zero 0 (word_at f (at + 16)) (word_at f (at + 20)) (word_at f (at + 24)))) _ g.faultless.zero));
      vertices = eqb-true _ _ (both_left _ _ c);
      triangles = eqb-true _ _ (both_right (eqb (word_at f (at + 4)) s.vertices) _ c);
    }
