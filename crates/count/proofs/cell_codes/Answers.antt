-- Four codes of at most 9 each, so that their sums fit 32 bits. Assumes nothing.
use mathlib.Core.Path.{ap, ◌∙◌}
use Rattle.lists.specs.Lists.{one}
use Rattle.count.specs.Kept.{cell_codes}
use Rattle.count.proofs.cell_codes.Goals as goal

pub returns : goal.returns
unfolding cell_codes
returns c =
    let surface = c.counted.ensures.value ∙ ap one c.mixed_code.ensures in
    let x = c.counted-2.ensures.value in
    let y = c.counted-3.ensures.value in
    let z = c.counted-4.ensures.value in
    λ i. record { surface = surface i; x = x i; y = y i; z = z i }
