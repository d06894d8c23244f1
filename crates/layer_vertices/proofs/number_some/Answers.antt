-- The invariant: the lists are what the first j cells leave, by the marks that stood there where it began. Assumes nothing.
use native.Mathlib.Omega.{arith}
use Rattle.grid.specs.Block.{point}
use Rattle.layer_vertices.proofs.Numbering.{numbered-none, numbered_more, numbered-asks}
use Rattle.layer_vertices.proofs.number_some.Goals as goal

-- ---- the needs
pub loop-j-init : goal.loop-j-init
loop-j-init c = (omega arith, numbered-none (point c.args.c))

pub number_cell-state-requires : goal.number_cell-state-requires
number_cell-state-requires c =
    let w = c.loop-j in
    numbered-asks (point c.args.c) w.j w.invariant.1 1 c.requires (omega arith)

pub loop-j-preserved : goal.loop-j-preserved
loop-j-preserved c =
    let w = c.loop-j in
    (omega arith, numbered_more (point c.args.c) w.j w.invariant.1 1 c.number_cell-state.ensures)
