-- Two results that fit a contract are equal, for each public function of crate volume but `volume`, which Once has: over the contract itself. Assumes nothing.
use mathlib.Core.Path.{sym, ◌∙◌}
use Rattle.cube.proofs.OneResult.{OneResult}
use Rattle.volume.proofs.U32FromRefusal.from.Kinds as number-kinds
use Rattle.volume.proofs.U32FromRefusal.from.Reads as number
use Rattle.volume.proofs.asked.not_in_threes.Kinds as not-in-threes-kinds
use Rattle.volume.proofs.asked.not_in_threes.Reads as not-in-threes
use Rattle.volume.proofs.asked.has_more_triangles.Kinds as has-more-triangles-kinds
use Rattle.volume.proofs.asked.has_more_triangles.Reads as has-more-triangles
use Rattle.volume.proofs.asked.some_past.Kinds as some-past-kinds
use Rattle.volume.proofs.asked.some_past.Reads as some-past
use Rattle.volume.proofs.asked.some_without_vertex.Kinds as some-without-vertex-kinds
use Rattle.volume.proofs.asked.some_without_vertex.Reads as some-without-vertex
use Rattle.volume.proofs.steps.corner_at.Kinds as corner-at-kinds
use Rattle.volume.proofs.steps.corner_at.Reads as corner-at

pub number-unique : OneResult 0 number-kinds.ps number-kinds.r number.Learnt
number-unique κs a z z' e e' l l' = l ∙ sym l'

pub not-in-threes-unique : OneResult 2 not-in-threes-kinds.ps not-in-threes-kinds.r not-in-threes.Learnt
not-in-threes-unique κs a z z' e e' l l' = l ∙ sym l'

pub has-more-triangles-unique : OneResult 1 has-more-triangles-kinds.ps has-more-triangles-kinds.r has-more-triangles.Learnt
has-more-triangles-unique κs a z z' e e' l l' = l ∙ sym l'

pub some-past-unique : OneResult 1 some-past-kinds.ps some-past-kinds.r some-past.Learnt
some-past-unique κs a z z' e e' l l' = l ∙ sym l'

pub some-without-vertex-unique : OneResult 1 some-without-vertex-kinds.ps some-without-vertex-kinds.r some-without-vertex.Learnt
some-without-vertex-unique κs a z z' e e' l l' = l ∙ sym l'

pub corner-at-unique : OneResult 1 corner-at-kinds.ps corner-at-kinds.r corner-at.Learnt
corner-at-unique κs a z z' e e' l l' = l ∙ sym l'
