-- What the contract of `mesh_marked` says settles what comes back: the answer and every number of every list; and how much is written and whether the lists
-- are kept have one result each, over their contracts. Assumes nothing.
use mathlib.Core.List.{List}
use mathlib.Core.Path.{◌≡◌, sym, ◌∙◌}
use lib.Ieee.{Float}
use Rattle.grid.specs.declared.Block.{Block}
use Rattle.judge.specs.AsRules.{answer_of}
use Rattle.judge.specs.declared.Lengths.{Lengths}
use Rattle.marked_mesh.specs.Marked.{lists_after, answered, left}
use Rattle.marked_mesh.specs.declared.Meshed.{Meshed}
use Rattle.grid.proofs.OneResult.{OneResult}
use Rattle.marked_mesh.proofs.kept.written.Kinds as written-kinds
use Rattle.marked_mesh.proofs.kept.written.Reads as written
use Rattle.marked_mesh.proofs.Lists.kept.Kinds as kept-kinds
use Rattle.marked_mesh.proofs.Lists.kept.Reads as kept

-- what the contract says of a result
pub record Outcome (sdf : List Float) (k : Block) (n : Lengths) (r : Meshed) : Type 0 where
  pub answer-is : answer_of r.answer ≡ answered sdf k n
  pub lists-are : lists_after r.lists ≡ left sdf k n

pub outcome-unique : (sdf : List Float) (k : Block) (n : Lengths) (r s : Meshed) → Outcome sdf k n r → Outcome sdf k n s
    → (answer_of r.answer ≡ answer_of s.answer) × (lists_after r.lists ≡ lists_after s.lists)
outcome-unique sdf k n r s a b = (a.answer-is ∙ sym b.answer-is, a.lists-are ∙ sym b.lists-are)

pub written-unique : OneResult 0 written-kinds.ps written-kinds.r written.Learnt
written-unique κs a z z' e e' l l' = l.0 ∙ sym l'.0

pub kept-unique : OneResult 1 kept-kinds.ps kept-kinds.r kept.Learnt
kept-unique κs a z z' e e' l l' = l ∙ sym l'
