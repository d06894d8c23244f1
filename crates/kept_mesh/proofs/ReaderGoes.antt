-- "It goes record by record and the first fault answers", of the reader's own functions: the steps of `next` and `moved` from the start of a file, each
-- where the one before ended, come to what `check` answers, and they do come to an end. Assumes nothing.
use Prim.Native.Nat.{ℕ, zero, suc, ◌+◌, ◌*◌, ◌≤◌, zero-le}
use native.Mathlib.Omega.{arith}
use mathlib.Core.Path.{◌≡◌, refl, sym, ap, ap₂, ◌∙◌, subst}
use mathlib.Core.Bool.{Bool, true, false, cond}
use mathlib.Core.Logic.{⊎_elim}
use mathlib.Core.List.{List}
use borrow.Author.Tests.{eqb-true, eqb-false}
use lib.Dec.{ltb, eqb}
use lib.ListN.{length, drop}
use seplogic.Ra.Ura.{Ura}
use base.Logic.{SProp, ent, id⊢}
use prog.Memory.{Memory}
use prog.Routine.{Routine}
use types.Logic.{Logic}
use contract.Lifetimes.{Lfts}
use contract.Monad.{Fun, fact}
use denote.Ref.{Bor}
use denote.Triple.Entry.{Args}
use Rattle.mesh_file.specs.Record.{word_at}
use Rattle.std.proofs.Common.{Result, Ok, Err}
use Rattle.mesh_file.specs.Reading.{words_at, cut, bad_sum, bad_kind, bad_zero, bad_counts, bad_index, bad_float, bad_end, fault_of, good, faulty, numbers_of, found_of, found_at, seen}
use Rattle.mesh_file.specs.Reading.{Progress, read_of, read_result, checked}
use Rattle.mesh_file.proofs.Results.{read-injective, refused-back, result_read}
use Rattle.mesh_record.specs.Refusal.{number_of_refusal}
use Rattle.mesh_record.specs.declared.refusal.Refusal.{Refusal}
use Rattle.mesh_record.specs.declared.refusal.Refusal.TheVariants.{CutFile, BadSum, BadKind, NotZero, WrongCounts, IndexWithoutVertex, FloatNotFinite, BytesAfterClosing}
use Rattle.mesh_file.specs.declared.Reader.{Reader}
use Rattle.mesh_record.specs.declared.Words.{Words}
use Rattle.mesh_record.specs.declared.Counts.{Counts}
use Rattle.mesh_record.specs.declared.Step.{Step}
use Rattle.mesh_record.specs.declared.Step.TheVariants.{Vertex, Triangle, Closed}
use Rattle.mesh_record.proofs.Told.{no-fault, known-kind}
use Rattle.mesh_file.proofs.Progressing.{SoFar, after_none, good-whole, vertex-next, triangle-next, closed-read, refused-read}
use Rattle.mesh_file.specs.contracts.Reader.new as new
use Rattle.mesh_file.specs.contracts.Reader.moved as moved
use Rattle.mesh_file.specs.contracts.Reader.next as next
use Rattle.mesh_file.specs.contracts.Reader.check as check
use Rattle.kept_mesh.proofs.ReaderOnce.{Outcome, Ensured}

-- ---- what the contracts of the four functions say of an outcome

abbrev pub Began : Bor (List ℕ) → Reader → Type 0
Began src d = (d.src ≡ src) × (d.at ≡ 0)

abbrev pub Moved : Reader → ℕ → Reader → Type 0
Moved d at d' = (d'.src ≡ d.src) × (d'.at ≡ at)

abbrev pub Stepped : Reader → Counts → Result Step Refusal → Type 0
Stepped d s r = numbers_of r ≡ found_at d.src.now d.at s

abbrev pub Checked : Reader → Result Counts Refusal → Type 0
Checked d r = read_result r ≡ checked (read_of (drop d.at d.src.now))

-- they do say so: each is the function's own generated clause
module _ {M : Type 1} {𝓤 : Ura M} (𝓛 : Logic 𝓤) (mem : Memory → SProp 𝓤) (run : Routine → Fun 𝓤) where
  pub new-says : (κs : Lfts 1) (a : Args new.signature κs) (o : Outcome new.ended κs a) → ent 𝓤 (Ensured 𝓤 new.ended (new.clauses 𝓛 mem run) κs a tt o)
      (fact 𝓤 (Began a.0 o.result))
  new-says κs a o = id⊢ 𝓤 _

  pub moved-says : (κs : Lfts 1) (a : Args moved.signature κs) (o : Outcome moved.ended κs a) → ent 𝓤 (Ensured 𝓤 moved.ended (moved.clauses 𝓛 mem run) κs a tt o)
      (fact 𝓤 (Moved a.0 a.1.0 o.result))
  moved-says κs a o = id⊢ 𝓤 _

  pub next-says : (κs : Lfts 1) (a : Args next.signature κs) (o : Outcome next.ended κs a) → ent 𝓤 (Ensured 𝓤 next.ended (next.clauses 𝓛 mem run) κs a tt o)
      (fact 𝓤 (Stepped a.0 a.1.0 o.result))
  next-says κs a o = id⊢ 𝓤 _

  pub check-says : (κs : Lfts 1) (a : Args check.signature κs) (o : Outcome check.ended κs a) → ent 𝓤 (Ensured 𝓤 check.ended (check.clauses 𝓛 mem run) κs a tt o)
      (fact 𝓤 (Checked a.0 o.result))
  check-says κs a o = id⊢ 𝓤 _

-- ---- a run of steps

-- what is done after a step: on after a vertex or a triangle, with the reader moved by a record; else the answer with its counts
abbrev Then : (Reader → ℕ → ℕ → Type 0) → Result Step Refusal → Reader → ℕ → ℕ → Result Counts Refusal → Type 0
Then on (Ok Vertex) d v t r = (d' : Reader) × (Moved d (d.at + 32) d' × on d' (v + 1) t)
Then on (Ok Triangle) d v t r = (d' : Reader) × (Moved d (d.at + 32) d' × on d' v (t + 1))
Then on (Ok Closed) d v t r = r ≡ Ok (seen v t)
Then on (Err n) d v t r = r ≡ Err n

-- a run of at most so many steps, from a reader and counts to an answer
unfoldable pub Goes : ℕ → Result Counts Refusal → Reader → ℕ → ℕ → Type 0
Goes zero r d v t = ⊥
Goes (suc n) r d v t = (s : Result Step Refusal) × (Stepped d (seen v t) s × Then (Goes n r) s d v t r)

-- ---- every run that ends comes to the file's answer

module _ (f : List ℕ) where
  -- the reader holds the file and stands after so many good records
  abbrev Stands : Reader → ℕ → ℕ → Type 0
  Stands d v t = (d.src.now ≡ f) × SoFar f v t d.at

  stepped : (d : Reader) (v t : ℕ) (s : Result Step Refusal) → d.src.now ≡ f → Stepped d (seen v t) s → numbers_of s ≡ found_at f d.at (seen v t)
  stepped d v t s q e = e ∙ ap (λ (l : List ℕ). found_at l d.at (seen v t)) q

  on-stands : (d d' : Reader) (v t v' t' : ℕ) → d.src.now ≡ f → Moved d (d.at + 32) d' → SoFar f v' t' (d.at + 32) → Stands d' v' t'
  on-stands d d' v t v' t' q m s = (ap (λ x. x.now) m.0 ∙ q, subst (SoFar f v' t') (sym m.1) s)

  -- one step, and what the steps after it come to
  step-checked : (r : Result Counts Refusal) (d : Reader) (v t : ℕ) (on : Reader → ℕ → ℕ → Type 0) → ((d' : Reader) (v' t' : ℕ) → Stands d' v' t' → on d' v' t' → read_result r ≡ checked (read_of f))
      → Stands d v t → (s : Result Step Refusal) → numbers_of s ≡ found_at f d.at (seen v t) → Then on s d v t r → read_result r ≡ checked (read_of f)
  step-checked r d v t on next h (Ok Vertex) e k = next k.0 (v + 1) t (on-stands d k.0 v t (v + 1) t h.0 k.1.0 (vertex-next f v t d.at h.1 e)) k.1.1
  step-checked r d v t on next h (Ok Triangle) e k = next k.0 v (t + 1) (on-stands d k.0 v t v (t + 1) h.0 k.1.0 (triangle-next f v t d.at h.1 e)) k.1.1
  step-checked r d v t on next h (Ok Closed) e k = ap read_result k ∙ ap checked (sym (closed-read f v t d.at h.1 e))
  step-checked r d v t on next h (Err m) e k = ap read_result k ∙ ap checked (sym (refused-read f v t d.at (number_of_refusal m) h.1 e))

  pub goes-checked : (n : ℕ) (r : Result Counts Refusal) (d : Reader) (v t : ℕ) → Stands d v t → Goes n r d v t → read_result r ≡ checked (read_of f)
  unfolding Goes
  goes-checked zero r d v t h g = absurd g
  goes-checked (suc n) r d v t h g = step-checked r d v t (Goes n r) (goes-checked n r) h g.0 (stepped d v t g.0 h.0 g.1.0) g.1.1

-- from the start of a file, steps of next and moved come to what check answers there
pub steps-are-check : (src : Bor (List ℕ)) (d : Reader) (n : ℕ) (r c : Result Counts Refusal) → Began src d → Goes n r d 0 0 → Checked d c → r ≡ c
steps-are-check src d n r c b g k =
    let h : SoFar src.now 0 0 d.at = subst (SoFar src.now 0 0) (sym b.1) (refl, zero-le, after_none src.now) in
    read-injective r c
    (goes-checked src.now n r d 0 0 (ap (λ x. x.now) b.0, h) g
    ∙ sym (k ∙ ap₂ (λ (x : Bor (List ℕ)) (at : ℕ). checked (read_of (drop at x.now))) b.0 b.1))

-- ---- and there is one: every record is a step, and a file has no more records than bytes

-- a fault is a refusal's number
abbrev Named : ℕ → Type 0
Named n = (n ≡ 0 → ⊥) → (r : Refusal) × (number_of_refusal r ≡ n)

named-or : (b : Bool) (r : Refusal) (n : ℕ) → Named n → Named (cond b (number_of_refusal r) n)
named-or true r n h = λ _. (r, refl)
named-or false r n h = h

named-fault : (w : Words) (s : Counts) (more : Bool) → Named (fault_of w s more)
unfolding fault_of
named-fault w s more =
    named-or (bad_sum w) BadSum _
    (named-or (bad_kind w.kind s.triangles) BadKind _
    (named-or (bad_zero w) NotZero _
    (named-or (bad_counts w s) WrongCounts _
    (named-or (bad_index w s.vertices) IndexWithoutVertex _
    (named-or (bad_float w) FloatNotFinite _
    (named-or (bad_end w more) BytesAfterClosing 0 (λ z. absurd (z refl))))))))

step_of : (w : Words) (s : Counts) (more : Bool) → (r : Result Step Refusal) × (numbers_of r ≡ found_of (fault_of w s more) w.kind)
step_of w s more = go (eqb (fault_of w s more) 0) refl
  where
    good-one : (k : ℕ) → (r : Result Step Refusal) × (numbers_of r ≡ good k) → w.kind ≡ k → (r : Result Step Refusal) × (numbers_of r ≡ good w.kind)
    good-one k r e = (r.0, r.1 ∙ ap good (sym e))

    go : (b : Bool) → eqb (fault_of w s more) 0 ≡ b → (r : Result Step Refusal) × (numbers_of r ≡ cond b (good w.kind) (faulty (fault_of w s more)))
    go true e =
        ⊎_elim (good-one 1 (Ok Vertex, refl)) (⊎_elim (good-one 2 (Ok Triangle, refl)) (good-one 3 (Ok Closed, refl)))
        (known-kind w.kind s.triangles (no-fault w s more (eqb-true (fault_of w s more) 0 e)).kind)
    go false e = let n = named-fault w s more (eqb-false (fault_of w s more) 0 e) in (Err n.0, ap faulty n.1)

step-there : (f : List ℕ) (at : ℕ) (s : Counts) → (r : Result Step Refusal) × (numbers_of r ≡ found_at f at s)
unfolding found_at
step-there f at s = go (cut f at)
  where
    go : (b : Bool) → (r : Result Step Refusal) × (numbers_of r ≡ cond b (faulty 21) (found_of (fault_of (words_at f at) s (ltb (at + 32) (length f))) (word_at f at)))
    go true = (Err CutFile, refl)
    go false = step_of (words_at f at) s (ltb (at + 32) (length f))

-- the result whose answer is the file's
abbrev said : Progress → Result Counts Refusal
said p = result_read (checked p)

-- the reader one record on
abbrev on : Reader → Reader
on d = record { src = d.src; at = d.at + 32 }

module _ (f : List ℕ) where
  step-on : (d : Reader) (v t : ℕ) (go : Reader → ℕ → ℕ → Type 0) → ((d' : Reader) (v' t' : ℕ) → Stands f d' v' t' → d'.at ≡ d.at + 32 → d.at + 32 ≤ length f → go d' v' t')
      → Stands f d v t → (s : Result Step Refusal) → numbers_of s ≡ found_at f d.at (seen v t) → Then go s d v t (said (read_of f))
  step-on d v t go next h (Ok Vertex) e = (on d, ((refl, refl), next (on d) (v + 1) t (h.0, vertex-next f v t d.at h.1 e) refl (good-whole f d.at v t 0 e)))
  step-on d v t go next h (Ok Triangle) e = (on d, ((refl, refl), next (on d) v (t + 1) (h.0, triangle-next f v t d.at h.1 e) refl (good-whole f d.at v t 1 e)))
  step-on d v t go next h (Ok Closed) e = ap said (closed-read f v t d.at h.1 e)
  step-on d v t go next h (Err m) e =
      ap said (refused-read f v t d.at (number_of_refusal m) h.1 e) ∙ refused-back (record { vertices = 0; triangles = 0 }) m

  -- the step there, as next answers it
  there : (d : Reader) (v t : ℕ) → Stands f d v t → (s : Result Step Refusal) × (Stepped d (seen v t) s × (numbers_of s ≡ found_at f d.at (seen v t)))
  there d v t h =
      let s = step-there f d.at (seen v t) in
      (s.0, (s.1 ∙ sym (ap (λ (x : List ℕ). found_at x d.at (seen v t)) h.0), s.1))

  goes_on : (n : ℕ) (d : Reader) (v t : ℕ) → Stands f d v t → length f ≤ d.at + 32 * n → Goes (suc n) (said (read_of f)) d v t
  unfolding Goes
  goes_on zero d v t h l =
      let s = there d v t h in
      (s.0, (s.1.0, step-on d v t (Goes zero (said (read_of f))) (λ d' v' t' h' p w. absurd (omega (arith, l, w))) h s.0 s.1.1))
  goes_on (suc n) d v t h l =
      let s = there d v t h in
      (s.0, (s.1.0, step-on d v t (Goes (suc n) (said (read_of f))) (λ d' v' t' h' p w. goes_on n d' v' t' h' (omega (arith, l, p))) h s.0 s.1.1))

pub steps-end : (src : Bor (List ℕ)) (d : Reader) → Began src d
    → (r : Result Counts Refusal) × ((read_result r ≡ checked (read_of src.now)) × Goes (suc (length src.now)) r d 0 0)
steps-end src d b =
    let h : SoFar src.now 0 0 d.at = subst (SoFar src.now 0 0) (sym b.1) (refl, zero-le, after_none src.now) in
    let s : Stands src.now d 0 0 = (ap (λ x. x.now) b.0, h) in
    let g = goes_on src.now (length src.now) d 0 0 s (omega arith) in
    (said (read_of src.now), (goes-checked src.now (suc (length src.now)) (said (read_of src.now)) d 0 0 s g, g))
