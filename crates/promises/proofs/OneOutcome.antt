-- Document 01, "What a claim has to settle": "Show that two outcomes that fit are equal". `Learnt` of a function's Reads is what a caller learns from
-- the function's own `ensures`, so a statement over it speaks of the contract itself and of no copy. Definitions only. Assumes nothing.
use mathlib.Core.Path.{◌≡◌}
use mathlib.Core.List.{List}
use Prim.Native.Nat.{ℕ}
use contract.Lifetimes.{Lfts}
use denote.Triple.Clauses.{Lasts, at_exit}
use borrow.Fn.Kinds.{ParamKind, ResultKind, Out, Dens, res_t, ended_of}

module _ (n : ℕ) (ps : List (ParamKind n)) (r : ResultKind n) where
  -- what a call leaves at these arguments: the result, and behind each `&mut` the value that it has last (a slice's last list). Nothing is
  -- left of any other parameter.
  pub record Outcome (κs : Lfts n) (a : Dens κs ps) : Type 0 where
    pub result : (res_t r κs).Denot
    pub last : Lasts (ended_of n ps r) κs a

  -- the outcome fits the contract: the `ensures` hold of the result and of the parameters at exit, each `&mut` at its last value
  abbrev pub FitsContract : Out n ps r → (κs : Lfts n) (a : Dens κs ps) → Outcome κs a → Type 0
  FitsContract Learnt κs a o = Learnt κs a o.result (at_exit (ended_of n ps r) κs a o.last)

  -- at the same arguments two outcomes that fit are equal: the result, and all that stands behind each `&mut`
  abbrev pub OneOutcome : Out n ps r → Type 0
  OneOutcome Learnt = (κs : Lfts n) (a : Dens κs ps) (o o' : Outcome κs a) → FitsContract Learnt κs a o → FitsContract Learnt κs a o' → o ≡ o'
