-- `marks::map_kept` meets its contract: its loop passes the places that are kept (Kept), those of cells being skipped. Assumes nothing.
use Rattle.std.proofs.Common.{eqb}
use Rattle.grid.specs.Block.{point, box_of}
use Rattle.marks.specs.Marks.{next_word, cell_at, no_cell_entry}
use Rattle.marks.proofs.Kept.{Passed}
use Rattle.marks.proofs.map_kept.Given as goal

abbrev pub invariant-loop-j : goal.invariant-loop-j
invariant-loop-j l =
    Passed (λ i x m. eqb x (no_cell_entry (point l.k.dims) (box_of l.k) i m)) (cell_at (point l.k.dims) (box_of l.k)) next_word l.fn.first l.map l.mark l.j
