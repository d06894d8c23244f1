-- What the first fault of a grid and its box says: none, and all that reads them may; or one, and it is the answer of every call that tries conditions
-- 1 to 3 first. Assumes nothing.
use Prim.Native.Nat.{ℕ}
use native.Mathlib.Omega.{arith}
use mathlib.Core.Bool.{Bool, true, false, cond}
use mathlib.Core.List.{List, map}
use mathlib.Core.Path.{◌≡◌, refl, sym, ap, ◌∙◌}
use lib.Dec.{eqb}
use lib.ListN.{length}
use lib.Ieee.{Float}
use Rattle.std.specs.Prelude.{Result, Ok, Err}
use Rattle.std.specs.Result.{IsErrAnd}
use Rattle.rules.specs.Grid.{GridPoint, Box}
use Rattle.rules.specs.Call.{bad_dimensions, bad_box, bad_length}
use Rattle.lists.proofs.Tests.{failed}
use Rattle.grid.specs.declared.Block.{Block}
use Rattle.grid.specs.Block.{point, box_of}
use Rattle.grid.specs.declared.checks.Fault.{Fault}
use Rattle.grid.specs.declared.checks.Fault.TheVariants.{Dimensions, Box as BoxFault, Length}
use Rattle.grid.specs.Faults.{number_of, fault_of, first_fault}
use Rattle.grid.specs.Inside.{Inside}
use Rattle.grid.proofs.Places.{as-long}

-- no condition holds
pub record Faultless (d : GridPoint) (b : Box) (n : ℕ) : Type 0 where
  pub dims : bad_dimensions d ≡ false
  pub box : bad_box d b ≡ false
  pub size : bad_length d n ≡ false

-- a fault's number is not that of none
pub fault-some : {n : ℕ} (f : Fault) → number_of f ≡ n → n ≡ 0 → ⊥
fault-some Dimensions e z = omega arith
fault-some BoxFault e z = omega arith
fault-some Length e z = omega arith

-- what a `?` returns whose error is turned into x
pub err-is : {A E : Type 0} {x : E} (r : Result A E) → IsErrAnd r (λ e. e ≡ x) → r ≡ Err x
err-is (Ok a) h = absurd h
err-is (Err e) h = ap Err h

-- a fault is known by its number, and so is what is answered with it
fault-by : ℕ → Result (Unit {0}) Fault
fault-by n = cond (eqb n 0) (Ok tt) (cond (eqb n 1) (Err Dimensions) (cond (eqb n 2) (Err BoxFault) (Err Length)))

fault-back : (r : Result (Unit {0}) Fault) → fault-by (fault_of r) ≡ r
unfolding fault-by
fault-back (Ok u) = refl
fault-back (Err Dimensions) = refl
fault-back (Err BoxFault) = refl
fault-back (Err Length) = refl

pub fault-once : (r s : Result (Unit {0}) Fault) → fault_of r ≡ fault_of s → r ≡ s
fault-once r s e = sym (fault-back r) ∙ ap fault-by e ∙ fault-back s

-- three conditions in their order
abbrev numbered : Bool → Bool → Bool → ℕ
numbered p q r = cond p 1 (cond q 2 (cond r 3 0))

module _ (d : GridPoint) (b : Box) (size : ℕ) where
  pub no-fault : first_fault d b size ≡ 0 → Faultless d b size
  unfolding first_fault
  no-fault e = go (bad_dimensions d) (bad_box d b) (bad_length d size) refl refl refl e
    where
      go : (p q r : Bool) → bad_dimensions d ≡ p → bad_box d b ≡ q → bad_length d size ≡ r → numbered p q r ≡ 0 → Faultless d b size
      go true q r a b c e = absurd (omega arith)
      go false true r a b c e = absurd (omega arith)
      go false false true a b c e = absurd (omega arith)
      go false false false a b c e = record { dims = a; box = b; size = c }

  -- whatever is answered after them
  pub first-answers : {A : Type 0} (f : ℕ → A) (x : A) → (first_fault d b size ≡ 0 → ⊥)
      → f (first_fault d b size) ≡ cond (bad_dimensions d) (f 1) (cond (bad_box d b) (f 2) (cond (bad_length d size) (f 3) x))
  unfolding first_fault
  first-answers {A} f x = go (bad_dimensions d) (bad_box d b) (bad_length d size)
    where
      go : (p q r : Bool) → (numbered p q r ≡ 0 → ⊥) → f (numbered p q r) ≡ cond p (f 1) (cond q (f 2) (cond r (f 3) x))
      go true q r n = refl
      go false true r n = refl
      go false false true n = refl
      go false false false n = absurd (n refl)

pub faultless-inside : (grid : List Float) (k : Block) → Faultless (point k.dims) (box_of k) (length grid) → Inside grid k
faultless-inside grid k f = record { dims = failed refl f.dims; box = failed refl f.box; size = failed refl f.size }

-- the first fault by the length of a list is that by the length of its distances
pub fault-of-floats : {A : Type 0} {floats : List A → List Float} {value : A → Float} → ((l : List A) → floats l ≡ map value l) → (l : List A) (d : GridPoint) (b : Box)
    → first_fault d b (length l) ≡ first_fault d b (length (floats l))
fault-of-floats are l d b = ap (first_fault d b) (sym (as-long are l))
