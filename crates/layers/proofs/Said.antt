-- The reading of an answer loses nothing: two that say the same are the same. So of a whole call's answer, of a layer's, and of the start's, which is none of those
-- with V and I. And the conversions of refusals have one result each, over their contracts. Assumes nothing.
use Prim.Native.Nat.{ℕ, ◌≤◌}
use native.Mathlib.Omega.{arith}
use mathlib.Core.Bool.{Bool, true, false, cond}
use mathlib.Core.Path.{◌≡◌, refl, sym, ap, ◌∙◌}
use lib.Dec.{eqb}
use Rattle.std.specs.Prelude.{Result, Ok, Err}
use Rattle.rules.specs.Call.{Answer, bad_dimensions, bad_box}
use Rattle.grid.specs.declared.Block.{Block}
use Rattle.grid.specs.Block.{point, box_of}
use Rattle.grid.specs.declared.checks.Fault.TheVariants.{Dimensions, Box, Length}
use Rattle.count.specs.declared.Tally.{Tally}
use Rattle.judge.specs.declared.Refusal.{Refusal as CallRefusal}
use Rattle.judge.specs.declared.Refusal.TheVariants.{Grid, Map, Distance, VertexRoom, IndexRoom}
use Rattle.judge.specs.AsRules.{answer_of as call_answer}
use Rattle.grid.proofs.OneResult.{OneResult}
use Rattle.layers.specs.declared.Refusal.{Refusal}
use Rattle.layers.specs.declared.Refusal.TheVariants.{Call, Full}
use Rattle.layers.specs.Memory.{Lengths, bad_memory, start_answer}
use Rattle.layers.specs.Answer.{start_number, answer_of}
use Rattle.layers.proofs.RefusalFromJudgeRefusal.from.Kinds as of-call-kinds
use Rattle.layers.proofs.RefusalFromJudgeRefusal.from.Reads as of-call
use Rattle.layers.proofs.RefusalFromFault.from.Kinds as of-fault-kinds
use Rattle.layers.proofs.RefusalFromFault.from.Reads as of-fault
use Rattle.layers.proofs.U32FromRefusal.from.Kinds as number-kinds
use Rattle.layers.proofs.U32FromRefusal.from.Reads as number

-- ---- a whole call's answer

abbrev counted : Answer → Tally
counted a = record { vertices = a.vertices; indices = a.indices }

abbrev refusal : Answer → CallRefusal
refusal a =
    cond (eqb a.number 1) (Grid Dimensions)
    (cond (eqb a.number 2) (Grid Box)
    (cond (eqb a.number 3) (Grid Length)
    (cond (eqb a.number 4) Map
    (cond (eqb a.number 5) Distance
    (cond (eqb a.number 6) (VertexRoom (counted a)) (IndexRoom (counted a)))))))

abbrev call_unsaid : Answer → Result Tally CallRefusal
call_unsaid a = cond (eqb a.number 0) (Ok (counted a)) (Err (refusal a))

call_unsaid-is : (r : Result Tally CallRefusal) → call_unsaid (call_answer r) ≡ r
call_unsaid-is (Ok t) = refl
call_unsaid-is (Err (Grid Dimensions)) = refl
call_unsaid-is (Err (Grid Box)) = refl
call_unsaid-is (Err (Grid Length)) = refl
call_unsaid-is (Err Map) = refl
call_unsaid-is (Err Distance) = refl
call_unsaid-is (Err (VertexRoom t)) = refl
call_unsaid-is (Err (IndexRoom t)) = refl

pub same-call : (r s : Result Tally CallRefusal) → call_answer r ≡ call_answer s → r ≡ s
same-call r s e = sym (call_unsaid-is r) ∙ ap call_unsaid e ∙ call_unsaid-is s

-- ---- a layer's

abbrev unsaid : Answer → Result Tally Refusal
unsaid a = cond (eqb a.number 0) (Ok (counted a)) (cond (eqb a.number 8) (Err Full) (Err (Call (refusal a))))

unsaid-is : (r : Result Tally Refusal) → unsaid (answer_of r) ≡ r
unsaid-is (Ok t) = refl
unsaid-is (Err Full) = refl
unsaid-is (Err (Call (Grid Dimensions))) = refl
unsaid-is (Err (Call (Grid Box))) = refl
unsaid-is (Err (Call (Grid Length))) = refl
unsaid-is (Err (Call Map)) = refl
unsaid-is (Err (Call Distance)) = refl
unsaid-is (Err (Call (VertexRoom t))) = refl
unsaid-is (Err (Call (IndexRoom t))) = refl

pub same-said : (r s : Result Tally Refusal) → answer_of r ≡ answer_of s → r ≡ s
same-said r s e = sym (unsaid-is r) ∙ ap unsaid e ∙ unsaid-is s

-- ---- the start's

abbrev start_unsaid : ℕ → Result Unit Refusal
start_unsaid n =
    cond (eqb n 0) (Ok tt)
    (cond (eqb n 1) (Err (Call (Grid Dimensions)))
    (cond (eqb n 2) (Err (Call (Grid Box)))
    (cond (eqb n 3) (Err (Call (Grid Length)))
    (Err (Call Map)))))

start_unsaid-is : (r : Result Unit Refusal) → start_number r ≤ 4 → start_unsaid (start_number r) ≡ r
start_unsaid-is (Ok tt) h = refl
start_unsaid-is (Err Full) h = absurd (omega arith)
start_unsaid-is (Err (Call (Grid Dimensions))) h = refl
start_unsaid-is (Err (Call (Grid Box))) h = refl
start_unsaid-is (Err (Call (Grid Length))) h = refl
start_unsaid-is (Err (Call Map)) h = refl
start_unsaid-is (Err (Call Distance)) h = absurd (omega arith)
start_unsaid-is (Err (Call (VertexRoom t))) h = absurd (omega arith)
start_unsaid-is (Err (Call (IndexRoom t))) h = absurd (omega arith)

-- whichever of the tests hold: the numbers are those of the definition, whatever their order is
either-few : (t : Bool) {a b : ℕ} → a ≤ 4 → b ≤ 4 → cond t a b ≤ 4
either-few true h k = h
either-few false h k = k

start-few : (k : Block) (m : Lengths) → start_answer k m ≤ 4
unfolding start_answer
start-few k m =
    either-few (bad_dimensions (point k.dims)) (omega arith)
    (either-few (bad_box (point k.dims) (box_of k)) (omega arith)
    (either-few (bad_memory k m) (omega arith) (omega arith)))

pub same-start : (k : Block) (m : Lengths) (r s : Result Unit Refusal) → start_number r ≡ start_answer k m → start_number s ≡ start_answer k m → r ≡ s
same-start k m r s e d =
    sym (start_unsaid-is r (omega (arith, start-few k m))) ∙ ap start_unsaid (e ∙ sym d) ∙ start_unsaid-is s (omega (arith, start-few k m))

-- ---- the conversions of refusals

pub of-call-unique : OneResult 0 of-call-kinds.ps of-call-kinds.r of-call.Learnt
of-call-unique κs a z z' e e' l l' = l ∙ sym l'

pub of-fault-unique : OneResult 0 of-fault-kinds.ps of-fault-kinds.r of-fault.Learnt
of-fault-unique κs a z z' e e' l l' = l ∙ sym l'

pub number-unique : OneResult 0 number-kinds.ps number-kinds.r number.Learnt
number-unique κs a z z' e e' l l' = l ∙ sym l'
