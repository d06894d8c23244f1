-- "Show that two outcomes that fit are equal", for check_plan and bed_check_plan. A slice of structs has no `Reads`, so the statement is made over the function's
-- generated `clauses` themselves, as for the mesh file's reader. Assumes nothing.
use seplogic.Ra.Ura.{Ura}
use base.Logic.{SProp, ent, id⊢}
use mathlib.Core.List.{map}
use prog.Memory.{Memory}
use prog.Routine.{Routine}
use types.Logic.{Logic}
use contract.Lifetimes.{Lfts}
use contract.Monad.{Fun, fact}
use denote.Triple.Entry.{Args}
use Rattle.plan.specs.Plan.{Checks, piece, block}
use Rattle.plan.proofs.Once.{same_answer, same-holds, same_result}
use Rattle.plan.specs.contracts.check_plan as check
use Rattle.bed.specs.contracts.plans.bed_check_plan as bed-check
use Rattle.kept_mesh.proofs.ReaderOnce.{Outcome, Ensured, OneOutcome, both}

module _ {M : Type 1} {𝓤 : Ura M} (𝓛 : Logic 𝓤) (mem : Memory → SProp 𝓤) (run : Routine → Fun 𝓤) where
  pub check-plan-once : OneOutcome 𝓤 check.ended (check.clauses 𝓛 mem run)
  check-plan-once κs a g o o' =
      both 𝓤 _ _ _ (λ l l'.
      let e = same_result (map piece a.0.now) (piece a.1.0) o.result o'.result l l' in
      λ i. record { result = e i; last = o.last })

  -- the yes or no behind the last parameter too
  pub bed-check-plan-once : OneOutcome 𝓤 bed-check.ended (bed-check.clauses 𝓛 mem run)
  bed-check-plan-once κs a g o o' =
      both 𝓤 _ _ _ (λ l l'.
      let ps = map piece a.0.now in
      let w =
      piece
      (block a.1.0 a.1.1.0 a.1.1.1.0 a.1.1.1.1.0 a.1.1.1.1.1.0 a.1.1.1.1.1.1.0 a.1.1.1.1.1.1.1.0 a.1.1.1.1.1.1.1.1.0
      a.1.1.1.1.1.1.1.1.1.0) in
      let n = same_answer ps w l l' in
      let h = same-holds ps w l l' in
      λ i. record { result = n i; last = (tt, (tt, (tt, (tt, (tt, (tt, (tt, (tt, (tt, (tt, (h i, tt))))))))))) })

  -- C calls by place: the blocks, the whole's two corners and its three flags, in the order of include/bed.h, and the yes or no behind the last
  pub bed-check-plan-by-place : (κs : Lfts (bed-check.ended).signature.lifetimes) (a : Args (bed-check.ended).signature κs) (g : (bed-check.clauses 𝓛 mem run κs a).ghost)
      (o : Outcome bed-check.ended κs a)
      → (let (blocks, (x, (y, (z, (x', (y', (z', (fx, (fy, (fz, _)))))))))) = a in
      let (_, (_, (_, (_, (_, (_, (_, (_, (_, (_, (holds, _))))))))))) = o.last in
      ent 𝓤 (Ensured 𝓤 bed-check.ended (bed-check.clauses 𝓛 mem run) κs a g o)
      (fact 𝓤 (Checks (map piece blocks.now) (piece (block x y z x' y' z' fx fy fz)) o.result holds)))
  bed-check-plan-by-place κs a g o = id⊢ 𝓤 _
