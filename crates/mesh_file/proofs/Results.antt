-- The request's answers tell the code's results apart: those of two results are equal only where the results are. Assumes nothing.
use Rattle.std.proofs.Common.{◌≡◌, ℕ, cond, eqb, Result, Ok, Err, sym, refl, ap, ◌∙◌, ne_eqb}
use Rattle.mesh_record.specs.Refusal.{number_of_refusal}
use Rattle.mesh_record.specs.declared.Counts.{Counts}
use Rattle.mesh_record.specs.declared.refusal.Refusal.{Refusal}
use Rattle.mesh_record.proofs.OneStep.{with_number, refusal-back, refusal-numbered}
use Rattle.mesh_file.specs.Reading.{Read, read_result}
use Rattle.mesh_file.specs.Writing.{Wrote, wrote_result}

-- a result by its answer: what it gives where that is 0, else the refusal of that number
abbrev pub with_answer : {A : Type 0} → ℕ → A → Result A Refusal
with_answer n x = cond (eqb n 0) (Ok x) (Err (with_number n))

pub refused-back : {A : Type 0} (x : A) (r : Refusal) → with_answer (number_of_refusal r) x ≡ Err r
refused-back x r = rw (ne_eqb (number_of_refusal r) 0 (refusal-numbered r)) (ap Err (refusal-back r))

abbrev pub result_read : Read → Result Counts Refusal
result_read x = with_answer x.answer (record { vertices = x.vertices; triangles = x.triangles })

read-back : (r : Result Counts Refusal) → result_read (read_result r) ≡ r
read-back (Ok c) = refl
read-back (Err r) = refused-back (record { vertices = 0; triangles = 0 }) r

pub read-injective : (r r' : Result Counts Refusal) → read_result r ≡ read_result r' → r ≡ r'
read-injective r r' e = sym (read-back r) ∙ (ap result_read e ∙ read-back r')

abbrev result_wrote : Wrote → Result ℕ Refusal
result_wrote x = with_answer x.answer x.bytes

wrote-back : (r : Result ℕ Refusal) → result_wrote (wrote_result r) ≡ r
wrote-back (Ok n) = refl
wrote-back (Err r) = refused-back 0 r

pub wrote-injective : (r r' : Result ℕ Refusal) → wrote_result r ≡ wrote_result r' → r ≡ r'
wrote-injective r r' e = sym (wrote-back r) ∙ (ap result_wrote e ∙ wrote-back r')
