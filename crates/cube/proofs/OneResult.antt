-- A contract that one result alone meets. `Learnt` of a function's Reads is what a caller learns from the function's own `ensures`, so a
-- statement over it speaks of the contract itself and of no copy. Definitions only. Assumes nothing.
use Rattle.std.proofs.Common.{◌≡◌, ℕ, List}
use contract.Lifetimes.{Lfts}
use denote.Triple.Clauses.{AtExit}
use borrow.Fn.Kinds.{ParamKind, ResultKind, Out, Dens, res_t, ended_of}

-- n, ps and r are the signature's: how many lifetimes, the parameters and the result. At the same arguments two results that fit are equal,
-- whatever the parameters are at exit.
abbrev pub OneResult : (n : ℕ) (ps : List (ParamKind n)) (r : ResultKind n) → Out n ps r → Type 0
OneResult n ps r Learnt =
    (κs : Lfts n) (a : Dens κs ps) (z z' : (res_t r κs).Denot) (e e' : AtExit (ended_of n ps r) κs) → Learnt κs a z e → Learnt κs a z' e' → z ≡ z'
