-- The conversions of fixture_widths' refusals have one result each, over their contracts. Assumes nothing.
use mathlib.Core.Path.{sym, ◌∙◌}
use Rattle.cube.proofs.OneResult.{OneResult}
use Rattle.fixture_widths.proofs.U32FromRefusal.from.Kinds as widths-number-kinds
use Rattle.fixture_widths.proofs.U32FromRefusal.from.Reads as widths-number
use Rattle.fixture_widths.proofs.RefusalFromFixturesRefusal.from.Kinds as widths-layer-kinds
use Rattle.fixture_widths.proofs.RefusalFromFixturesRefusal.from.Reads as widths-layer

pub widths-number-unique : OneResult 0 widths-number-kinds.ps widths-number-kinds.r widths-number.Learnt
widths-number-unique κs a z z' e e' l l' = l ∙ sym l'

pub widths-layer-unique : OneResult 0 widths-layer-kinds.ps widths-layer-kinds.r widths-layer.Learnt
widths-layer-unique κs a z z' e e' l l' = l ∙ sym l'
