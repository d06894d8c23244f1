-- "Show that two outcomes that fit are equal", for the reader's thin functions. A struct that holds a reference has no `Reads`, so the statement is made over
-- the function's generated `clauses` themselves: the `ensures` of two outcomes at the same arguments say that the outcomes are equal. Assumes nothing.
use mathlib.Core.Path.{◌≡◌, ◌∙◌, sym}
use seplogic.Ra.Ura.{Ura}
use base.Logic.{SProp, ent, sep, fst∗, snd∗}
use prog.Memory.{Memory}
use prog.Routine.{Routine}
use types.Logic.{Logic}
use contract.Lifetimes.{Lfts}
use contract.Monad.{Fun, fact, fact_i, fact_use}
use denote.Triple.Entry.{Args, Res}
use denote.Triple.Clauses.{Ended, Clauses, Lasts, at_exit}
use Rattle.mesh_record.proofs.OneStep.{numbers-injective}
use Rattle.mesh_file.proofs.Results.{read-injective}
use Rattle.mesh_file.specs.contracts.Reader.new as new
use Rattle.mesh_file.specs.contracts.Reader.moved as moved
use Rattle.mesh_file.specs.contracts.Reader.next as next
use Rattle.mesh_file.specs.contracts.Reader.check as check

-- what a call leaves: the result, and what it leaves of its parameters, which of these four functions is nothing
pub record Outcome (T : Ended) (κs : Lfts T.signature.lifetimes) (a : Args T.signature κs) : Type 0 where
  pub result : Res T.signature κs
  pub last : Lasts T κs a

module _ {M : Type 1} (𝓤 : Ura M) (T : Ended) (clauses : Clauses 𝓤 T) where
  -- the `ensures` of an outcome
  abbrev pub Ensured : (κs : Lfts T.signature.lifetimes) (a : Args T.signature κs) → (clauses κs a).ghost → Outcome T κs a → SProp 𝓤
  Ensured κs a g o = (clauses κs a).ensures g o.result (at_exit T κs a o.last)

  -- from those of two outcomes follows that the outcomes are equal
  abbrev pub OneOutcome : Type 1
  OneOutcome = (κs : Lfts T.signature.lifetimes) (a : Args T.signature κs) (g : (clauses κs a).ghost) (o o' : Outcome T κs a) → ent 𝓤
      (sep 𝓤 (Ensured κs a g o) (Ensured κs a g o')) (fact 𝓤 (o ≡ o'))

-- two facts, and what follows from them
pub both : {M : Type 1} (𝓤 : Ura M) (φ ψ χ : Type 0) → (φ → ψ → χ) → ent 𝓤 (sep 𝓤 (fact 𝓤 φ) (fact 𝓤 ψ)) (fact 𝓤 χ)
both 𝓤 φ ψ χ h = fact_use 𝓤 φ (fst∗ 𝓤 (fact 𝓤 φ) (fact 𝓤 ψ)) (λ x. fact_use 𝓤 ψ (snd∗ 𝓤 (fact 𝓤 φ) (fact 𝓤 ψ)) (λ y. fact_i 𝓤 χ _ (h x y)))

module _ {M : Type 1} {𝓤 : Ura M} (𝓛 : Logic 𝓤) (mem : Memory → SProp 𝓤) (run : Routine → Fun 𝓤) where
  -- the file that is held, and the place
  pub new-once : OneOutcome 𝓤 new.ended (new.clauses 𝓛 mem run)
  new-once κs a g o o' = both 𝓤 _ _ _ (λ l l'. let s = l.0 ∙ sym l'.0 in let p = l.1 ∙ sym l'.1 in λ i. record { result = record { src = s i; at = p i }; last = o.last })

  pub moved-once : OneOutcome 𝓤 moved.ended (moved.clauses 𝓛 mem run)
  moved-once κs a g o o' = both 𝓤 _ _ _ (λ l l'. let s = l.0 ∙ sym l'.0 in let p = l.1 ∙ sym l'.1 in λ i. record
      { result = record { src = s i; at = p i }; last = o.last })

  -- the step of the record at the place
  pub next-once : OneOutcome 𝓤 next.ended (next.clauses 𝓛 mem run)
  next-once κs a g o o' = both 𝓤 _ _ _ (λ l l'. let s = numbers-injective o.result o'.result (l ∙ sym l') in λ i. record { result = s i; last = o.last })

  -- the answer and the counts of all records from the place on
  pub check-once : OneOutcome 𝓤 check.ended (check.clauses 𝓛 mem run)
  check-once κs a g o o' = both 𝓤 _ _ _ (λ l l'. let s = read-injective o.result o'.result (l ∙ sym l') in λ i. record { result = s i; last = o.last })
